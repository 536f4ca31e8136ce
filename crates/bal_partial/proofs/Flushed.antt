-- After a flush each region into which another one refers has a card on its list, as the board sees it.
use Rattle.std.proofs.Common.{◌≡◌, ℕ, zero, suc, inl, inr, Bool, true, false, eqb, not, List, [], ◌∷◌, map, Option, Some, None, refl, ap, sym, subst, ◌∙◌}
use Rattle.std.specs.Prelude.{◌&&◌, ◌||◌, IsSome, IsTrue, slice_get, if◌then◌else◌}
use Rattle.std.specs.List.{AllByRecursion, list_any}
use Rattle.std.proofs.lemmas.Bool.{and_parts, eq-eqb, eqb-true, false≢true, or_cases}
use Rattle.std.proofs.lemmas.Option.{none-some, same_Some, slice_get-map, slice_get_within}
use Rattle.bal_barrier.specs.Coverage.{AreRemembered, Crosses, remembered_of}
use Rattle.bal_core.specs.World.{At}
use Rattle.bal_layout.specs.Addresses.{card_of, region_of}
use Rattle.bal_layout.specs.Names.{is_among, is_before, same_name}
use Rattle.bal_layout.specs.References.{word_of}
use Rattle.bal_layout.specs.Regions.{region_at}
use Rattle.bal_layout.specs.declared.name.Name.{Name}
use Rattle.bal_layout.specs.declared.region_state.RegionState.{RegionState}
use Rattle.bal_meet.proofs.Lemmas.{object-shown}
use Rattle.bal_meet.specs.Decode.{Decodes, placed_at}
use Rattle.bal_model.proofs.Lemmas.{is_among-head, is_among-tail, same_name-eq, same_name-refl}
use Rattle.bal_model.specs.Ascending.{IsAscending}
use Rattle.bal_model.specs.Entries.{Spot}
use Rattle.bal_model.specs.Plain.{object, refs_of}
use Rattle.bal_model.specs.Walk.{names_in, targets}
use Rattle.bal_remember.specs.Remembered.{Remembered, cards, overflowed, remembers}
use Rattle.bal_rules.proofs.Lemmas.{all-among, ascending-after, ascending-rest, before-other}
use Rattle.bal_rules.specs.Board.{Board, Placed, names_placed, place_of}
use Rattle.bal_rules.specs.Choice.{is_noted, is_referred_to, is_remembered, lies_at, lies_in}
use Rattle.bal_table.proofs.Lemmas.{thing-slot}
use Rattle.bal_table.specs.Table.{IsTable, Table, slot_place, things_of, word_at}
use Rattle.bal_barrier.proofs.Lemmas.{has}
use Rattle.bal_words.proofs.Lemmas.{mapped-from, there}
use Rattle.bal_words.specs.Shown.{name_behind}
use Rattle.bal_words.specs.Things.{Thing, Things}

-- Names and placed objects.

name-at : (cs : List (Option Name)) (n : Name) → IsTrue (is_among n (names_in cs)) → (i : ℕ) × At cs i (Some n)
name-at [] n among = absurd (false≢true among)
name-at (None ∷ cs) n among = let rest = name-at cs n among in (suc rest.0, rest.1)
name-at (Some y ∷ cs) n among = elim (or_cases (same_name n y) (is_among n (names_in cs)) among) [
  | inl here ↦ (0, ap (λ (m : Name). Some (Some m)) (sym (same_name-eq n y here)))
  | inr later ↦ let rest = name-at cs n later in (suc rest.0, rest.1)
]

name-led : (things : Things) (word : ℕ) (n : Name) → name_behind things word ≡ Some n → (a : ℕ) × ((x : Thing) × ((things a ≡ Some x) × (x.name ≡ n) × (word ≡ word_of a)))
name-led things zero n is = absurd (none-some n is)
name-led things (suc a) n is = let found = mapped-from (λ (x : Thing). x.name) (things a) n is in (a, (found.0, (found.1.0, found.1.1, refl)))

passing-name : (p : Name → Bool) (xs : List Name) → list_any p xs ≡ true → (x : Name) × (IsTrue (is_among x xs) × (p x ≡ true))
passing-name p [] any = absurd (false≢true any)
passing-name p (x ∷ xs) any = elim (or_cases (p x) (list_any p xs) any) [
  | inl here ↦ (x, (is_among-head x xs, here))
  | inr later ↦ let rest = passing-name p xs later in (rest.0, (is_among-tail rest.0 x xs rest.1.0, rest.1.1))
]

-- a placed object that passes a test is found by its name
passing-placed : (f : Placed → Bool) (ps : List Placed) → IsAscending (names_placed ps) → list_any f ps ≡ true
    → (p : Placed) × ((place_of ps p.name ≡ Some p) × IsTrue (is_among p.name (names_placed ps)) × (f p ≡ true))
passing-placed f [] up any = absurd (false≢true any)
passing-placed f (q ∷ ps) up any = elim (or_cases (f q) (list_any f ps) any) [
  | inl here ↦ (q, (ap (λ (t : Bool). if t then Some q else place_of ps q.name) (same_name-refl q.name), is_among-head q.name (names_placed ps), here))
  | inr later ↦
      let rest = passing-placed f ps (ascending-rest q.name (names_placed ps) up) later in (
        rest.0,
        (
          ap (λ (t : Bool). if t then Some q else place_of ps rest.0.name)
              (before-other q.name rest.0.name (all-among (λ (y : Name). IsTrue (is_before q.name y)) (names_placed ps) rest.0.name
              (ascending-after q.name (names_placed ps) up) rest.1.1))
              ∙ rest.1.0,
          is_among-tail rest.0.name q.name (names_placed ps) rest.1.1,
          rest.1.2,
        ),
      )
]

-- a placed object that is found is one of them
made-of : (P : Placed → Type 0) (ps : List Placed) (x : Name) (p : Placed) → AllByRecursion P ps → place_of ps x ≡ Some p → P p
made-of P [] x p each found = absurd (none-some p found)
made-of P (q ∷ ps) x p each found = by (same_name q.name x) (λ later. made-of P ps x p each.1 later) found
  where
    by : (t : Bool) → (place_of ps x ≡ Some p → P p) → (if t then Some q else place_of ps x) ≡ Some p → P p
    by true rest is = subst P (same_Some q p is) each.0
    by false rest is = rest is

list-noted : (r : Remembered) (card : ℕ) → IsTrue (remembers r card) → is_noted r ≡ true
list-noted (cards []) card among = absurd (false≢true among)
list-noted (cards (c ∷ cs)) card among = refl
list-noted overflowed card among = refl

not-equal : (n q : ℕ) → not (eqb n q) ≡ true → n ≡ q → ⊥
not-equal n q other same = false≢true (sym (ap not (eq-eqb n q same)) ∙ other)

module _ (t : Table) (roots : List ℕ) (b : Board) (spot : ℕ → Spot) (table : IsTable t) (d : Decodes spot (things_of t) roots b.plain b.present)
    (lies : (a : ℕ) → (spot a).region ≡ region_of t.shape a) (regions : b.regions ≡ t.regions) (all : AreRemembered t) where
  -- where a present object lies
  region-is : (a : ℕ) (x : Thing) (p : Placed) → things_of t a ≡ Some x → place_of b.present x.name ≡ Some p → p.region ≡ region_of t.shape a
  region-is a x p is found = ap (λ (q : Placed). q.region) (same_Some p (placed_at x.name (spot a)) (sym found ∙ d.places a x is)) ∙ lies a

  -- a present object has its words
  words-there : (p : Placed) → place_of b.present p.name ≡ Some p → IsTrue (is_among p.name (names_placed b.present)) → (a : ℕ) × ((x : Thing) × (things_of t a ≡ Some x) × (x.name ≡ p.name))
  words-there p found among =
      let made : IsSome (object b.plain p.name) = made-of (λ (q : Placed). IsSome (object b.plain q.name)) b.present p.name p d.made found in
      let o = there (object b.plain p.name) made in
      d.objects.every p.name o.0 (ap (λ (t : Bool). if t then object b.plain p.name else None) among ∙ o.1)

  noted-so : (q : ℕ) (p : Placed) → place_of b.present p.name ≡ Some p → IsTrue (is_among p.name (names_placed b.present))
      → (not (eqb p.region q) && list_any (lies_in b q) (targets b.plain p.name)) ≡ true → is_noted (region_at b.regions q).remembered ≡ true
  noted-so q p found among refers =
      let parts = and_parts (not (eqb p.region q)) (list_any (lies_in b q) (targets b.plain p.name)) refers in
      let holder = words-there p found among in
      let a = holder.0 in
      let x = holder.1.0 in
      let is : things_of t a ≡ Some x = holder.1.1 in
      let named : x.name ≡ p.name = holder.1.2 in
      let home : p.region ≡ region_of t.shape a = region-is a x p is (ap (place_of b.present) named ∙ found) in
      let target = passing-name (lies_in b q) (targets b.plain p.name) parts.1 in
      let shown : targets b.plain p.name ≡ names_in (map (name_behind (things_of t)) x.refs)
      = ap (targets b.plain) (sym named) ∙ ap (λ o. names_in (refs_of o)) (object-shown d is).1 in
      let at = name-at (map (name_behind (things_of t)) x.refs) target.0 (subst (λ (ns : List Name). IsTrue (is_among target.0 ns)) shown target.1.0) in
      let word = mapped-from (name_behind (things_of t)) (slice_get x.refs at.0) (Some target.0) (sym (slice_get-map (name_behind (things_of t)) x.refs at.0) ∙ at.1) in
      let led = name-led (things_of t) word.0 target.0 word.1.1 in
      let placed : place_of b.present target.0 ≡ Some (placed_at led.1.0.name (spot led.0)) = ap (place_of b.present) (sym led.1.1.1) ∙ d.places led.0 led.1.0 led.1.1.0 in
      let into : region_of t.shape led.0 ≡ q
      = sym (lies led.0) ∙ eqb-true (spot led.0).region q (sym (ap (λ o. lies_at o q) placed) ∙ target.1.1) in
      let slot = thing-slot t a at.0 x table is (slice_get_within x.refs at.0 word.0 word.1.0) in
      let h = has t a at.0 (slot_place t a at.0) table slot in
      let same : h.thing ≡ x = same_Some h.thing x (sym h.is ∙ is) in
      let leads : word_at t (slot_place t a at.0) ≡ word_of led.0
      = same_Some (word_at t (slot_place t a at.0)) word.0 (sym h.reads ∙ (ap (λ (y : Thing). slice_get y.refs at.0) same ∙ word.1.0)) ∙ led.1.1.2 in
      let crosses : Crosses t a at.0 (slot_place t a at.0) led.0 = record {
        slot = slot;
        leads = leads;
        apart = λ e. not-equal p.region q parts.0 (home ∙ (e ∙ into));
      } in
      subst (λ (rs : List RegionState). is_noted (region_at rs q).remembered ≡ true) (sym regions)
      (subst (λ n. is_noted (region_at t.regions n).remembered ≡ true) into
      (list-noted (remembered_of t led.0) (card_of (slot_place t a at.0)) (all.each a at.0 (slot_place t a at.0) led.0 crosses)))

  remembered-so : (q : ℕ) → is_remembered b q ≡ true
  remembered-so q = by (is_referred_to b q) refl
    where
      by : (r : Bool) → is_referred_to b q ≡ r → is_remembered b q ≡ true
      by false is = ap (λ r. not r || is_noted (region_at b.regions q).remembered) is
      by true is =
          let p = passing-placed (λ (p : Placed). not (eqb p.region q) && list_any (lies_in b q) (targets b.plain p.name)) b.present d.ascending is in
          ap (λ r. not r || is_noted (region_at b.regions q).remembered) is ∙ noted-so q p.0 p.1.0 p.1.1 p.1.2

  pub all-flushed : (qs : List ℕ) → AllByRecursion (λ (q : ℕ). IsTrue (is_remembered b q)) qs
  all-flushed [] = tt
  all-flushed (q ∷ qs) = (remembered-so q, all-flushed qs)
