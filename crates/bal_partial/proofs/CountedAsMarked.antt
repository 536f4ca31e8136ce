-- What is marked in a chosen region, by address, is what the board has marked there, by number.
use Rattle.std.proofs.Common.{◌≡◌, ◌⊎◌, ◌<◌, ℕ, zero, suc, inl, inr, Bool, true, false, cond, eqb, List, [], ◌∷◌, filter, length, map, Option, Some, None, refl, ap, sym, subst, ◌∙◌, arith}
use Rattle.std.specs.Prelude.{◌↔◌, IsSome, IsTrue, nat_eq, option_and_then, slice_get, unwrap_or}
use Rattle.std.specs.List.{AllByRecursion, IsDistinct, sum_by}
use Rattle.std.proofs.lemmas.Bool.{eq-eqb, eqb-true, false≢true, ne_eqb}
use Rattle.std.proofs.lemmas.List.{length-map}
use Rattle.std.proofs.lemmas.Option.{none-some, same_Some, slice_get-map}
use Rattle.bal_after.specs.Asked.{AreMarkedIn, IsMarkedIn}
use Rattle.bal_base.specs.Bits.{IsAscending}
use Rattle.bal_base.proofs.Lemmas.{among-cases, among-first, among-later}
use Rattle.bal_copyfwd.specs.Moving.{is_mark, is_marked_at}
use Rattle.bal_copyfwd.specs.States.{AreCounted}
use Rattle.bal_core.specs.Finished.{Evacuation, Survives}
use Rattle.bal_core.specs.Start.{name_of}
use Rattle.bal_core.specs.Steps.{told}
use Rattle.bal_core.specs.World.{At, size_of}
use Rattle.bal_core.specs.declared.event.Decision.{Decision}
use Rattle.bal_core.specs.declared.event.Decision.TheVariants as decision
use Rattle.bal_gather.specs.Lent.{Lent}
use Rattle.bal_gather.specs.Numbers.{number_of, starts_of}
use Rattle.bal_gather.specs.Objects as objects
use Rattle.bal_kept.specs.Collected.{IsCollectedFrom}
use Rattle.bal_layout.specs.Addresses.{region_of}
use Rattle.bal_layout.specs.Regions.{is_in}
use Rattle.bal_layout.specs.Shape.{Shape}
use Rattle.bal_layout.specs.declared.name.Name.{Name}
use Rattle.bal_meet.specs.Decode.{placed_at}
use Rattle.bal_model.specs.Entries.{Spot}
use Rattle.bal_partial.specs.Collection.{Collection, decisions_of, lent_by, marked_of, seen_of}
use Rattle.bal_rules.specs.Board.{Board, Placed, place_of}
use Rattle.bal_settle.specs.Settled.{marked_in, words_at}
use Rattle.bal_sweep.specs.Sweep.{left_at, words_of}
use Rattle.bal_table.specs.Table.{Table, objects_of, thing_in, things_of}
use Rattle.bal_told.proofs.Lemmas.{at-in, sum-of_map, sum-same}
use Rattle.bal_words.proofs.Lemmas.{mapped-from, there}
use Rattle.bal_words.specs.Things.{Thing}

-- Numbers that pass a test, and what a function gives of numbers.

pub filtered : (p : ℕ → Bool) (xs : List ℕ) (a : ℕ) → is_in a (filter p xs) ≡ true → (is_in a xs ≡ true) × (p a ≡ true)
filtered p [] a among = absurd (false≢true among)
filtered p (x ∷ xs) a among = by (λ later. filtered p xs a later) (p x) refl among
  where
    by : (is_in a (filter p xs) ≡ true → (is_in a xs ≡ true) × (p a ≡ true)) → (t : Bool) → p x ≡ t
        → is_in a (cond t (x ∷ filter p xs) (filter p xs)) ≡ true → (is_in a (x ∷ xs) ≡ true) × (p a ≡ true)
    by rest true passes among = elim (among-cases x a (filter p xs) among) [
      | inl here ↦ (subst (λ n. is_in n (x ∷ xs) ≡ true) here (among-first x xs), subst (λ n. p n ≡ true) here passes)
      | inr later ↦ let r = rest later in (among-later x a xs r.0, r.1)
    ]
    by rest false fails among = let r = rest among in (among-later x a xs r.0, r.1)

pub stays-in : (p : ℕ → Bool) (xs : List ℕ) (a : ℕ) → is_in a xs ≡ true → p a ≡ true → is_in a (filter p xs) ≡ true
stays-in p [] a among passes = absurd (false≢true among)
stays-in p (x ∷ xs) a among passes = by (λ later. stays-in p xs a later passes) (p x) refl (among-cases x a xs among)
  where
    by : (is_in a xs ≡ true → is_in a (filter p xs) ≡ true) → (t : Bool) → p x ≡ t → (x ≡ a) ⊎ (is_in a xs ≡ true)
        → is_in a (cond t (x ∷ filter p xs) (filter p xs)) ≡ true
    by rest true first (inl here) = subst (λ n. is_in n (x ∷ filter p xs) ≡ true) here (among-first x (filter p xs))
    by rest true first (inr later) = among-later x a (filter p xs) (rest later)
    by rest false fails (inl here) = absurd (false≢true (sym fails ∙ (ap p here ∙ passes)))
    by rest false fails (inr later) = rest later

pub rising : (p : ℕ → Bool) (xs : List ℕ) → IsAscending xs → IsAscending (filter p xs)
rising p [] up = tt
rising p (x ∷ xs) up = by (rising p xs up.1) (p x)
  where
    by : IsAscending (filter p xs) → (t : Bool) → IsAscending (cond t (x ∷ filter p xs) (filter p xs))
    by rest true = (λ n among. up.0 n (filtered p xs n among).0, rest)
    by rest false = rest

apart-mapped : (f : ℕ → ℕ) (n : ℕ) (xs : List ℕ) → ((a : ℕ) → is_in a xs ≡ true → n ≡ f a → ⊥) → AllByRecursion (λ m. nat_eq n m ≡ false) (map f xs)
apart-mapped f n [] other = tt
apart-mapped f n (x ∷ xs) other = (ne_eqb n (f x) (other x (among-first x xs)), apart-mapped f n xs (λ a among. other a (among-later x a xs among)))

distinct-mapped : (f : ℕ → ℕ) (xs : List ℕ) → IsAscending xs
    → ((a z : ℕ) → is_in a xs ≡ true → is_in z xs ≡ true → f a ≡ f z → a ≡ z) → IsDistinct nat_eq (map f xs)
unfolding IsDistinct
distinct-mapped f [] up once = tt
distinct-mapped f (x ∷ xs) up once = (
  apart-mapped f (f x) xs (λ a among same.
      let e : x ≡ a = once x a (among-first x xs) (among-later x a xs among) same in
      let less : x < a = up.0 a among in
      omega (arith, e, less)),
  distinct-mapped f xs up.1 (λ a z one two. once a z (among-later x a xs one) (among-later x z xs two)),
)

in-mapped : (f : ℕ → ℕ) (xs : List ℕ) (k : ℕ) → is_in k (map f xs) ≡ true → (a : ℕ) × (is_in a xs ≡ true) × (f a ≡ k)
in-mapped f [] k among = absurd (false≢true among)
in-mapped f (x ∷ xs) k among = elim (among-cases (f x) k (map f xs) among) [
  | inl here ↦ (x, among-first x xs, here)
  | inr later ↦ let r = in-mapped f xs k later in (r.0, among-later x r.0 xs r.1, r.2)
]

mapped-in : (f : ℕ → ℕ) (xs : List ℕ) (a : ℕ) → is_in a xs ≡ true → is_in (f a) (map f xs) ≡ true
mapped-in f [] a among = absurd (false≢true among)
mapped-in f (x ∷ xs) a among = elim (among-cases x a xs among) [
  | inl here ↦ subst (λ n. is_in (f n) (map f (x ∷ xs)) ≡ true) here (among-first (f x) (map f xs))
  | inr later ↦ among-later (f x) (f a) (map f xs) (mapped-in f xs a later)
]

place-of : (xs : List ℕ) (a : ℕ) → is_in a xs ≡ true → (k : ℕ) × At xs k a
place-of [] a among = absurd (false≢true among)
place-of (x ∷ xs) a among = elim (among-cases x a xs among) [
  | inl here ↦ (zero, ap Some here)
  | inr later ↦ let r = place-of xs a later in (suc r.0, r.1)
]

marked-so : (o : Option Decision) → is_mark o ≡ true → o ≡ Some decision.Marked
marked-so None mark = absurd (false≢true mark)
marked-so (Some (decision.Copied to)) mark = absurd (false≢true mark)
marked-so (Some decision.Marked) mark = refl

-- the words of what starts somewhere
has-words : (o : Option (List ℕ)) (y : Thing) → option_and_then thing_in o ≡ Some y → (words : List ℕ) × (o ≡ Some words)
has-words None y is = absurd (none-some y is)
has-words (Some words) y is = (words, refl)

module _ {b : Board} {spot : ℕ → Spot} {roots : List ℕ} (x : Collection) (from : IsCollectedFrom b spot (lent_by x) roots x.held x.places)
    (numbers : (a k : ℕ) → (number_of (lent_by x) a ≡ Some k) ↔ At (starts_of (lent_by x)) k a)
    (listed : (a : ℕ) → IsTrue (is_in a (starts_of (lent_by x))) → IsSome (things_of (lent_by x).table a))
    (ascend : IsAscending (starts_of (lent_by x)))
    (won : (k : ℕ) (d : Decision) → decisions_of x k ≡ Some d → (i : ℕ) × At x.course.won i (told k d))
    (decided : (i k : ℕ) (d : Decision) → At x.course.won i (told k d) → decisions_of x k ≡ Some d)
    (names : (k a : ℕ) (y : Thing) → At (starts_of (lent_by x)) k a → things_of (lent_by x).table a ≡ Some y → At (seen_of x).world.names k y.name)
    (q : ℕ) where
  abbrev l : Lent
  l = lent_by x

  abbrev e : Evacuation
  e = seen_of x

  abbrev s : Shape
  s = x.table.shape

  -- the number of an object, by its address
  abbrev number_at : ℕ → ℕ
  number_at a = unwrap_or (number_of l a) 0

  abbrev here : List ℕ
  here = marked_in s q (marked_of x)

  abbrev by_number : List ℕ
  by_number = map number_at here

  thing-there : (k a : ℕ) → At (starts_of l) k a → (y : Thing) × (things_of l.table a ≡ Some y)
  thing-there k a at = there (things_of l.table a) (listed a (at-in (starts_of l) k a at))

  number-is : (k a : ℕ) → At (starts_of l) k a → number_at a ≡ k
  number-is k a at = ap (λ o. unwrap_or o 0) ((numbers a k).1 at)

  record IsMarkedAt (a : ℕ) : Type 0 where
    number : ℕ
    at : At (starts_of l) number a
    marked : decisions_of x number ≡ Some decision.Marked
    lies : region_of s a ≡ q

  marked-here : (a : ℕ) → is_in a here ≡ true → IsMarkedAt a
  marked-here a among =
      let first = filtered (λ n. eqb (region_of s n) q) (marked_of x) a among in
      let second = filtered (is_marked_at l (decisions_of x)) (starts_of l) a first.0 in
      let k = place-of (starts_of l) a second.0 in
      record {
        number = k.0;
        at = k.1;
        marked = marked-so (decisions_of x k.0) (sym (ap (λ o. is_mark (option_and_then (decisions_of x) o)) ((numbers a k.0).1 k.1)) ∙ second.1);
        lies = eqb-true (region_of s a) q first.1;
      }

  here-marked : (k a : ℕ) → At (starts_of l) k a → decisions_of x k ≡ Some decision.Marked → region_of s a ≡ q → is_in a here ≡ true
  here-marked k a at marked lies =
      stays-in (λ n. eqb (region_of s n) q) (marked_of x) a
      (stays-in (is_marked_at l (decisions_of x)) (starts_of l) a (at-in (starts_of l) k a at)
      (ap (λ o. is_mark (option_and_then (decisions_of x) o)) ((numbers a k).1 at) ∙ ap is_mark marked))
      (eq-eqb (region_of s a) q lies)

  -- two objects have two numbers
  number-once : (a z : ℕ) → is_in a here ≡ true → is_in z here ≡ true → number_at a ≡ number_at z → a ≡ z
  number-once a z one two same =
      let m = marked-here a one in
      let n = marked-here z two in
      let equal : m.number ≡ n.number = sym (number-is m.number a m.at) ∙ (same ∙ number-is n.number z n.at) in
      same_Some a z (sym m.at ∙ (ap (slice_get (starts_of l)) equal ∙ n.at))

  board-marked : (k : ℕ) → IsTrue (is_in k by_number) → IsMarkedIn b e q k
  board-marked k among =
      let r = in-mapped number_at here k among in
      let m = marked-here r.0 r.1 in
      let same : m.number ≡ k = sym (number-is m.number r.0 m.at) ∙ r.2 in
      let y = thing-there m.number r.0 m.at in
      let w = won m.number decision.Marked m.marked in
      subst (IsMarkedIn b e q) same (record {
        worker = 0;
        order = w.0;
        marked = w.1;
        name = y.0.name;
        named = names m.number r.0 y.0 m.at y.1;
        placed = placed_at y.0.name (spot r.0);
        present = from.decodes.places r.0 y.0 y.1;
        lies = from.lies r.0 y.0 y.1 ∙ m.lies;
      })

  -- what has a name in the evacuation's world has an address
  named-at : (k : ℕ) (name : Name) → At e.world.names k name → (a : ℕ) × At (starts_of l) k a
  named-at k name at =
      let words = mapped-from name_of (slice_get (map (objects.words_at l.table) (starts_of l)) k) name
      (sym (slice_get-map name_of (map (objects.words_at l.table) (starts_of l)) k) ∙ at) in
      let found = mapped-from (objects.words_at l.table) (slice_get (starts_of l) k) words.0
      (sym (slice_get-map (objects.words_at l.table) (starts_of l) k) ∙ words.1.0) in
      (found.0, found.1.0)

  marked-board : (k : ℕ) → IsMarkedIn b e q k → IsTrue (is_in k by_number)
  marked-board k m = by m.worker m.marked
    where
      by : (n : ℕ) → Survives e n m.order k decision.Marked → is_in k by_number ≡ true
      by zero at =
          let a = named-at k m.name m.named in
          let y = thing-there k a.0 a.1 in
          let name : y.0.name ≡ m.name = same_Some y.0.name m.name (sym (names k a.0 y.0 a.1 y.1) ∙ m.named) in
          let placed : placed_at y.0.name (spot a.0) ≡ m.placed
          = same_Some (placed_at y.0.name (spot a.0)) m.placed
          (sym (from.decodes.places a.0 y.0 y.1) ∙ (ap (λ n. place_of b.present n) name ∙ m.present)) in
          let lies : region_of s a.0 ≡ q = sym (from.lies a.0 y.0 y.1) ∙ (ap (λ (p : Placed). p.region) placed ∙ m.lies) in
          subst (λ n. is_in n by_number ≡ true) (number-is k a.0 a.1)
          (mapped-in number_at here a.0 (here-marked k a.0 a.1 (decided m.order k decision.Marked at) lies))
      by (suc n) at = absurd (none-some (told k decision.Marked) at)

  pub marked-by-number : AreMarkedIn b e q by_number
  marked-by-number = record {
    once = distinct-mapped number_at here (rising (λ n. eqb (region_of s n) q) (marked_of x) (rising (is_marked_at l (decisions_of x)) (starts_of l) ascend)) number-once;
    marked = board-marked;
    all = marked-board;
  }

  module _ (u : Table) (shape : u.shape ≡ s) (estimate : words_of (left_at (marked_of x) u q) ≡ sum_by (words_at u) (marked_in u.shape q (marked_of x)))
      (same : (a : ℕ) → region_of s a ≡ q → objects_of u a ≡ objects_of l.table a)
      (sizes : (k a : ℕ) (words : List ℕ) → At (starts_of l) k a → objects_of l.table a ≡ Some words → size_of e.world k ≡ length words) where
    size-there : (i a : ℕ) → At here i a → words_at u a ≡ size_of e.world (number_at a)
    size-there i a at =
        let m = marked-here a (at-in here i a at) in
        let y = thing-there m.number a m.at in
        let words = has-words (objects_of l.table a) y.0 y.1 in
        ap (λ (o : Option (List ℕ)). length (unwrap_or o [])) (same a m.lies ∙ words.1)
        ∙ (sym (sizes m.number a words.0 m.at words.1) ∙ ap (size_of e.world) (sym (number-is m.number a m.at)))

    pub counted-as-marked : AreCounted b e u (marked_of x) q
    counted-as-marked = record {
      objects = by_number;
      are = marked-by-number;
      words = estimate
          ∙ (ap (λ (sh : Shape). sum_by (words_at u) (marked_in sh q (marked_of x))) shape
          ∙ (sum-same (words_at u) (λ a. size_of e.world (number_at a)) here size-there ∙ sym (sum-of_map (size_of e.world) number_at here)));
      none = ap (λ n. nat_eq n 0) (ap (λ (sh : Shape). length (marked_in sh q (marked_of x))) shape ∙ sym (length-map here number_at));
    }
