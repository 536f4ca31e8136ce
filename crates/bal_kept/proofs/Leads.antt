-- References by words, by numbers and by names.
use Rattle.std.proofs.Common.{◌≡◌, ℕ, zero, suc, inl, inr, IsTrue, List, [], length, map, get_or, Option, Some, refl, ap, sym, subst, ◌∙◌, arith}
use Rattle.std.specs.Prelude.{option_map, slice_get}
use Rattle.std.proofs.lemmas.Bool.{cases_lt}
use Rattle.std.proofs.lemmas.List.{get_or-map, get_or_past, length-map}
use Rattle.std.proofs.lemmas.Option.{get_or_from_slice_get, none-some, same_Some, slice_get-get_or, slice_get_within}
use Rattle.bal_core.specs.World.{At, PointsTo, slots_of}
use Rattle.bal_gather.specs.Lent.{Lent}
use Rattle.bal_gather.specs.Numbers.{number_of, starts_of}
use Rattle.bal_gather.specs.Objects.{number_behind, targets_at}
use Rattle.bal_kept.specs.Collected.{world_from}
use Rattle.bal_kept.proofs.Lists.{at-map, at-name, map-at, name-at}
use Rattle.bal_kept.proofs.Named.{IsGiven, Numbered}
use Rattle.bal_layout.specs.Names.{is_among}
use Rattle.bal_layout.specs.References.{word_of}
use Rattle.bal_layout.specs.declared.name.Name.{Name}
use Rattle.bal_meet.proofs.Lemmas.{object-shown}
use Rattle.bal_model.specs.Entries.{Spot}
use Rattle.bal_model.specs.Plain.{refs_of}
use Rattle.bal_model.specs.Walk.{names_in, targets}
use Rattle.bal_rules.specs.Board.{Board}
use Rattle.bal_table.specs.Table.{refs_in, things_of}
use Rattle.bal_words.specs.Shown.{name_behind}
use Rattle.bal_words.specs.Things.{Thing, Things}
use Rattle.bal_words.proofs.Lemmas.{mapped-from}

-- Words.

-- a word with a name behind it leads to an object
name-led : (things : Things) (word : ℕ) (n : Name) → name_behind things word ≡ Some n → (a : ℕ) × ((x : Thing) × ((things a ≡ Some x) × (x.name ≡ n) × (word ≡ word_of a)))
name-led things zero n is = absurd (none-some n is)
name-led things (suc a) n is = let found = mapped-from (λ (x : Thing). x.name) (things a) n is in (a, (found.0, (found.1.0, found.1.1, refl)))

-- and so does one with a number behind it
number-led : (l : Lent) (word k : ℕ) → number_behind l word ≡ Some k → (a : ℕ) × ((number_of l a ≡ Some k) × (word ≡ word_of a))
number-led l zero k is = absurd (none-some k is)
number-led l (suc a) k is = (a, (is, refl))

module _ {b : Board} {spot : ℕ → Spot} {l : Lent} {roots held places : List ℕ} (g : IsGiven b spot l roots held places) where
  -- a name is behind some of the words exactly if one of them leads to its object
  module _ (a : ℕ) (x : Thing) (is : things_of l.table a ≡ Some x) (words : List ℕ) where
    pub word-named : (i : ℕ) → At words i (word_of a) → IsTrue (is_among x.name (names_in (map (name_behind (things_of l.table)) words)))
    word-named i at =
        at-name (map (name_behind (things_of l.table)) words) i x.name
        (at-map words (name_behind (things_of l.table)) i (word_of a) at ∙ ap (λ (o : Option Thing). Some (option_map (λ (y : Thing). y.name) o)) is)

    pub named-word : IsTrue (is_among x.name (names_in (map (name_behind (things_of l.table)) words))) → (i : ℕ) × At words i (word_of a)
    named-word among =
        let at = name-at (map (name_behind (things_of l.table)) words) x.name among in
        let word = map-at words (name_behind (things_of l.table)) at.0 (Some x.name) at.1 in
        let led = name-led (things_of l.table) word.0 x.name word.1.1 in
        let same : led.0 ≡ a = g.from.decodes.objects.once led.0 a led.1.0 x led.1.1.0 is led.1.1.1 in
        (at.0, subst (At words at.0) (led.1.1.2 ∙ ap word_of same) word.1.0)

  -- the names to which an object refers are those behind its words
  pub targets-are : (a : ℕ) (x : Thing) → things_of l.table a ≡ Some x → targets b.plain x.name ≡ names_in (map (name_behind (things_of l.table)) x.refs)
  targets-are a x is = ap (λ o. names_in (refs_of o)) (object-shown g.from.decodes is).1

  -- Slots.

  module _ (pool : List ℕ) where
    -- the slots of an object are those of its number
    slots-are : (o : Numbered l) → slots_of (world_from l held pool) o.number ≡ map (number_behind l) o.thing.refs
    slots-are o =
        get_or-map (targets_at l) (starts_of l) o.number 0 [] (slice_get_within (starts_of l) o.number o.address o.at)
        ∙ (ap (targets_at l) (get_or_from_slice_get (starts_of l) o.number o.address 0 o.at)
        ∙ ap (λ (t : Option Thing). map (number_behind l) (refs_in t)) o.is)

    -- what points to another has a number
    pub pointing : (j k : ℕ) → PointsTo (world_from l held pool) j k → (a : ℕ) × At (starts_of l) j a
    pointing j k points = elim (cases_lt j (length (starts_of l))) [
      | inl within ↦ (get_or (starts_of l) j 0, slice_get-get_or (starts_of l) j 0 within)
      | inr past ↦ absurd (none-some (Some k)
          (sym (ap (λ (ts : List (Option ℕ)). slice_get ts points.0)
          (get_or_past (map (targets_at l) (starts_of l)) j [] (omega (arith, past, length-map (starts_of l) (targets_at l))))) ∙ points.1))
    ]

    -- one points to the other exactly if one of its words leads there
    pub pointed-word : (o p : Numbered l) → PointsTo (world_from l held pool) o.number p.number → (i : ℕ) × At o.thing.refs i (word_of p.address)
    pointed-word o p points =
        let i = points.0 in
        let word = map-at o.thing.refs (number_behind l) i (Some p.number)
        (subst (λ (ts : List (Option ℕ)). At ts i (Some p.number)) (slots-are o) points.1) in
        let led = number-led l word.0 p.number word.1.1 in
        let same : led.0 ≡ p.address = same_Some led.0 p.address (sym ((g.numbers led.0 p.number).0 led.1.0) ∙ p.at) in
        (i, subst (At o.thing.refs i) (led.1.1 ∙ ap word_of same) word.1.0)

    pub word-points : (o p : Numbered l) (i : ℕ) → At o.thing.refs i (word_of p.address) → PointsTo (world_from l held pool) o.number p.number
    word-points o p i at = (
      i,
      subst (λ (ts : List (Option ℕ)). At ts i (Some p.number)) (sym (slots-are o))
          (at-map o.thing.refs (number_behind l) i (word_of p.address) at ∙ ap Some ((g.numbers p.address p.number).1 p.at)),
    )
