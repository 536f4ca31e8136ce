-- The objects of the chosen regions, by their numbers and by their names.
use Rattle.std.proofs.Common.{◌≡◌, ℕ, true, cond, IsTrue, List, length, Some, None, ap, sym, subst, ◌∙◌}
use Rattle.std.specs.Prelude.{◌&&◌, ◌↔◌, Contains, IsSome, is_some}
use Rattle.std.proofs.lemmas.Bool.{and_parts, cond-true}
use Rattle.std.proofs.lemmas.Option.{cond_some, same_Some}
use Rattle.bal_core.specs.World.{At}
use Rattle.bal_barrier.specs.Coverage.{AreRemembered}
use Rattle.bal_gather.specs.Gathered.{IsGathered, IsHeld, NoneOverflowed}
use Rattle.bal_gather.specs.Lent.{Lent, is_chosen}
use Rattle.bal_gather.specs.Numbers.{is_start, number_of, starts_below, starts_of}
use Rattle.bal_kept.specs.Collected.{IsCollectedFrom, names_chosen}
use Rattle.bal_kept.proofs.Lists.{placed-filter}
use Rattle.bal_layout.specs.Names.{is_among}
use Rattle.bal_layout.specs.Regions.{is_in}
use Rattle.bal_layout.specs.declared.name.Name.{Name}
use Rattle.bal_meet.specs.Decode.{placed_at}
use Rattle.bal_meet.proofs.Lemmas.{object-shown}
use Rattle.bal_model.specs.Entries.{Spot}
use Rattle.bal_model.specs.Plain.{object}
use Rattle.bal_rules.specs.Board.{Board, Placed, names_placed}
use Rattle.bal_rules.proofs.Lemmas.{all-among, among-placed-filter, each-map}
use Rattle.bal_table.specs.Table.{IsTable, things_of}
use Rattle.bal_words.specs.Things.{Thing}
use Rattle.bal_words.proofs.Lemmas.{there}

-- what is given of a heap that is collected, with what is known of numbers and of what was gathered
pub record IsGiven (b : Board) (spot : ℕ → Spot) (l : Lent) (roots held places : List ℕ) : Type 0 where
  pub from : IsCollectedFrom b spot l roots held places
  pub numbers : (a k : ℕ) → (number_of l a ≡ Some k) ↔ At (starts_of l) k a
  pub holds : (a k : ℕ) → number_of l a ≡ Some k → Contains held k ↔ IsHeld l roots a

pub given : {b : Board} {spot : ℕ → Spot} {l : Lent} {roots held places : List ℕ}
    → ((m : Lent) (a k : ℕ) → IsTable m.table → (number_of m a ≡ Some k) ↔ At (starts_of m) k a)
    → ((m : Lent) (rs hs ps : List ℕ) (a k : ℕ) → IsTable m.table → AreRemembered m.table → NoneOverflowed m → IsGathered m rs hs ps → number_of m a ≡ Some k
    → Contains hs k ↔ IsHeld m rs a)
    → IsCollectedFrom b spot l roots held places → IsGiven b spot l roots held places
given {l = l} {roots = roots} {held = held} {places = places} numbers holds from = record {
  from = from;
  numbers = λ a k. numbers l a k from.table;
  holds = λ a k is. holds l roots held places a k from.table from.remembered from.complete from.gathered is;
}

-- an object of the chosen regions, with its number and its address
pub record Numbered (l : Lent) : Type 0 where
  pub number : ℕ
  pub address : ℕ
  pub thing : Thing
  pub at : At (starts_of l) number address
  pub is : things_of l.table address ≡ Some thing

module _ {b : Board} {spot : ℕ → Spot} {l : Lent} {roots held places : List ℕ} (g : IsGiven b spot l roots held places) where
  -- what has a number is an object of a chosen region
  pub numbered : (k a : ℕ) → At (starts_of l) k a → (x : Thing) × ((things_of l.table a ≡ Some x) × (is_chosen l a ≡ true))
  numbered k a at =
      let start : is_start l a ≡ true = (cond_some (is_start l a) (length (starts_below l a)) k ((g.numbers a k).1 at)).0 in
      let parts = and_parts (is_chosen l a) (is_some (things_of l.table a)) start in
      let found = there (things_of l.table a) parts.1 in
      (found.0, (found.1, parts.0))

  -- and each such object has one
  pub number : (a : ℕ) (x : Thing) → things_of l.table a ≡ Some x → is_chosen l a ≡ true → (k : ℕ) × At (starts_of l) k a
  number a x is chosen =
      let k = length (starts_below l a) in
      let some : is_some (things_of l.table a) ≡ true = ap is_some is in
      (k, (g.numbers a k).0 (ap (λ t. cond (t && is_some (things_of l.table a)) (Some k) None) chosen ∙ ap (λ t. cond t (Some k) None) some))

  -- only one
  pub number-once : (a j k : ℕ) → At (starts_of l) j a → At (starts_of l) k a → j ≡ k
  number-once a j k one two = same_Some j k (sym ((g.numbers a j).1 one) ∙ (g.numbers a k).1 two)

  -- objects are present by their names
  pub present : (a : ℕ) (x : Thing) → things_of l.table a ≡ Some x → is_among x.name (names_placed b.present) ≡ true
  present a x is = (object-shown g.from.decodes is).0

  pub thing-named : (n : Name) → IsTrue (is_among n (names_placed b.present)) → (a : ℕ) × ((x : Thing) × ((things_of l.table a ≡ Some x) × (x.name ≡ n)))
  thing-named n among =
      let d = g.from.decodes in
      let made = all-among (λ (m : Name). IsSome (object b.plain m)) (names_placed b.present) n
      (each-map (λ (p : Placed). IsSome (object b.plain p.name)) (λ (m : Name). IsSome (object b.plain m)) (λ (p : Placed). p.name) (λ p some. some) b.present d.made)
      among in
      let o = there (object b.plain n) made in
      let found = d.objects.every n o.0 (cond-true (is_among n (names_placed b.present)) (object b.plain n) None among ∙ o.1) in
      (found.0, (found.1.0, (found.1.1, found.1.2)))

  -- the board has an object in the chosen regions exactly if it lies in one of them
  pub chosen-named : (a : ℕ) (x : Thing) → things_of l.table a ≡ Some x → is_among x.name (names_chosen b l.regions) ≡ is_chosen l a
  chosen-named a x is =
      let d = g.from.decodes in
      placed-filter (λ p. is_in p.region l.regions) b.present x.name (placed_at x.name (spot a)) d.ascending (d.places a x is)
      ∙ ap (λ q. is_in q l.regions) (g.from.lies a x is)

  -- so each of these names is that of a number
  pub named : (n : Name) → IsTrue (is_among n (names_chosen b l.regions)) → (o : Numbered l) × (o.thing.name ≡ n)
  named n among =
      let found = thing-named n (among-placed-filter (λ p. is_in p.region l.regions) b.present n among) in
      let a = found.0 in
      let x = found.1.0 in
      let is : things_of l.table a ≡ Some x = found.1.1.0 in
      let name : x.name ≡ n = found.1.1.1 in
      let chosen : is_chosen l a ≡ true = sym (chosen-named a x is) ∙ subst (λ (m : Name). IsTrue (is_among m (names_chosen b l.regions))) (sym name) among in
      let k = number a x is chosen in
      (record { number = k.0; address = a; thing = x; at = k.1; is = is }, name)
