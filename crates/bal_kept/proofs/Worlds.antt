-- What the world of an evacuation says of the objects.
use Rattle.std.proofs.Common.{◌≡◌, ℕ, IsTrue, List, [], length, map, Option, Some, None, refl, ap, sym, subst, ◌∙◌}
use Rattle.std.specs.Prelude.{◌↔◌, option_and_then, unwrap_or}
use Rattle.std.proofs.lemmas.Option.{get_or_from_slice_get, none-some}
use Rattle.bal_core.specs.Start.{name_in, name_of}
use Rattle.bal_core.specs.World.{At, age_of, size_of}
use Rattle.bal_gather.specs.Lent.{Lent}
use Rattle.bal_gather.specs.Numbers.{starts_of}
use Rattle.bal_gather.specs.Objects.{age_at, words_at}
use Rattle.bal_kept.specs.Collected.{names_chosen, world_from}
use Rattle.bal_kept.proofs.Lists.{at-map, map-at}
use Rattle.bal_kept.proofs.Named.{IsGiven, chosen-named, named, number-once, numbered}
use Rattle.bal_layout.specs.Names.{is_among}
use Rattle.bal_layout.specs.declared.header.Header.{Header}
use Rattle.bal_layout.specs.declared.name.Kind.{Kind}
use Rattle.bal_layout.specs.declared.name.Kind.TheVariants.{Plain, Array, Spine}
use Rattle.bal_layout.specs.declared.name.Name.{Name}
use Rattle.bal_model.specs.Entries.{Spot}
use Rattle.bal_rules.specs.Board.{Board}
use Rattle.bal_table.specs.Table.{Table, objects_of, thing_in, things_of}
use Rattle.bal_words.specs.Pieces.{header_in, thing_of, thing_of_kind}
use Rattle.bal_words.specs.Things.{Thing}
use Rattle.bal_words.proofs.Lemmas.{mapped-from}

-- What the words of an object say of its name.

-- an object has the name of its header
header-name : (kind : Kind) (h : Header) (words : List ℕ) → (thing_of_kind kind h words []).name ≡ h.name
header-name Plain h words = refl
header-name Array h words = refl
header-name Spine h words = refl

words-name : (words : List ℕ) (x : Thing) → thing_in words ≡ Some x → name_of words ≡ x.name
words-name words x is =
    let h = mapped-from (λ (h : Header). thing_of h words []) (header_in words) x is in
    ap name_in h.1.0 ∙ (sym (header-name h.0.kind h.0 words) ∙ ap (λ (y : Thing). y.name) h.1.1)

object-name : (t : Table) (a : ℕ) (x : Thing) → things_of t a ≡ Some x → name_of (words_at t a) ≡ x.name
object-name t a x is = by (objects_of t a) is
  where
    by : (o : Option (List ℕ)) → option_and_then thing_in o ≡ Some x → name_of (unwrap_or o []) ≡ x.name
    by None is = absurd (none-some x is)
    by (Some words) is = words-name words x is

-- What is told of a number.

module _ (l : Lent) (held pool : List ℕ) (k a : ℕ) (at : At (starts_of l) k a) where
  pub number-named : (x : Thing) → things_of l.table a ≡ Some x → At (world_from l held pool).names k x.name
  number-named x is =
      at-map (map (words_at l.table) (starts_of l)) name_of k (words_at l.table a) (at-map (starts_of l) (words_at l.table) k a at)
      ∙ ap Some (object-name l.table a x is)

  pub number-sized : (words : List ℕ) → objects_of l.table a ≡ Some words → size_of (world_from l held pool) k ≡ length words
  number-sized words is =
      get_or_from_slice_get (world_from l held pool).sizes k (length (words_at l.table a)) 0
      (at-map (map (words_at l.table) (starts_of l)) length k (words_at l.table a) (at-map (starts_of l) (words_at l.table) k a at))
      ∙ ap (λ (o : Option (List ℕ)). length (unwrap_or o [])) is

  pub number-aged : age_of (world_from l held pool) k ≡ age_at l.table a
  number-aged = get_or_from_slice_get (world_from l held pool).ages k (age_at l.table a) 0 (at-map (starts_of l) (age_at l.table) k a at)

-- The names of all numbers.

module _ {b : Board} {spot : ℕ → Spot} {l : Lent} {roots held places : List ℕ} (g : IsGiven b spot l roots held places) (pool : List ℕ) where
  -- a name of the world is that of an object with this number
  pub name-numbered : (k : ℕ) (n : Name) → At (world_from l held pool).names k n
      → (a : ℕ) × ((x : Thing) × (At (starts_of l) k a × (things_of l.table a ≡ Some x) × (x.name ≡ n)))
  name-numbered k n at =
      let words = map-at (map (words_at l.table) (starts_of l)) name_of k n at in
      let a = map-at (starts_of l) (words_at l.table) k words.0 words.1.0 in
      let x = numbered g k a.0 a.1.0 in
      (a.0, (x.0, (a.1.0, x.1.0, sym (object-name l.table a.0 x.0 x.1.0) ∙ (ap name_of a.1.1 ∙ words.1.1))))

  pub names-all : (n : Name) → ((k : ℕ) × At (world_from l held pool).names k n) ↔ IsTrue (is_among n (names_chosen b l.regions))
  names-all n = (to, from)
    where
      to : (k : ℕ) × At (world_from l held pool).names k n → IsTrue (is_among n (names_chosen b l.regions))
      to (k, at) =
          let found = name-numbered k n at in
          let x = numbered g k found.0 found.1.1.0 in
          subst (λ (m : Name). IsTrue (is_among m (names_chosen b l.regions))) found.1.1.2
          (chosen-named g found.0 found.1.0 found.1.1.1 ∙ x.1.1)

      from : IsTrue (is_among n (names_chosen b l.regions)) → (k : ℕ) × At (world_from l held pool).names k n
      from among =
          let o = named g n among in
          (o.0.number, subst (At (world_from l held pool).names o.0.number) o.1 (number-named l held pool o.0.number o.0.address o.0.at o.0.thing o.0.is))

  pub names-once : (n : Name) (j k : ℕ) → At (world_from l held pool).names j n → At (world_from l held pool).names k n → j ≡ k
  names-once n j k one two =
      let first = name-numbered j n one in
      let second = name-numbered k n two in
      let same : second.0 ≡ first.0 =
      g.from.decodes.objects.once second.0 first.0 second.1.0 first.1.0 second.1.1.1 first.1.1.1 (second.1.1.2 ∙ sym first.1.1.2) in
      number-once g first.0 j k first.1.1.0 (subst (At (starts_of l) k) same second.1.1.0)
