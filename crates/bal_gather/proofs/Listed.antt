-- The list of the objects that are numbered.
use Rattle.std.proofs.Common.{◌≡◌, ℕ, ◌+◌, ◌*◌, ◌-◌, ◌<◌, Bool, true, false, cond, List, [], ◌∷◌, ◌++◌, length, get_or, Some, None, refl, ap, sym, subst, ◌∙◌, arith, append_assoc, length-append}
use Rattle.std.specs.Prelude.{◌&&◌, ◌↔◌, IsSome, IsTrue, is_some, slice_get}
use Rattle.std.specs.List.{filter, range_with_len}
use Rattle.std.proofs.lemmas.List.Elements.{filter-append}
use Rattle.std.proofs.lemmas.Option.{none-some, same_Some, slice_get-get_or, slice_get_within, get_or_from_slice_get}
use Rattle.std.proofs.Math.Seq.{get_or-append_seam}
use Rattle.bal_base.specs.Bits.{IsAscending}
use Rattle.bal_layout.specs.Regions.{is_in}
use Rattle.bal_plan.specs.Plan as heap
use Rattle.bal_plan.proofs.Lemmas.{filter-member, listed-object, member-filter, object-listed, sized, starts-ascend, starts-next, starts-split}
use Rattle.bal_table.specs.Table.{IsTable, things_of}
use Rattle.bal_gather.specs.Lent.{Lent, is_chosen}
use Rattle.bal_gather.specs.Numbers.{number_of, starts_below, starts_of}
use Rattle.bal_gather.proofs.Ascending.{filter-ascends, one-place, there}
use Rattle.bal_gather.proofs.Numbering.{number-here}

pub listed-ascend : (l : Lent) → IsAscending (starts_of l)
listed-ascend l = filter-ascends (is_chosen l) (heap.starts_of l.table) (starts-ascend l.table (l.table.shape.regions * l.table.shape.words))

pub listed-is : (l : Lent) (a : ℕ) → is_in a (starts_of l) ≡ true → heap.IsObject l.table a × (is_chosen l a ≡ true)
listed-is l a among =
    let found = filter-member (is_chosen l) (heap.starts_of l.table) a among in
    ((listed-object l.table (l.table.shape.regions * l.table.shape.words) a found.1).0, found.0)

listed-there : (l : Lent) (a : ℕ) → IsTable l.table → heap.IsObject l.table a → is_chosen l a ≡ true → is_in a (starts_of l) ≡ true
listed-there l a table object chosen =
    let s = sized l.table a table object in
    member-filter (is_chosen l) (heap.starts_of l.table) a chosen (object-listed l.table (l.table.shape.regions * l.table.shape.words) a object s.address)

pub listed-are : (l : Lent) (a : ℕ) → IsTable l.table → IsTrue (is_in a (starts_of l)) ↔ (IsSome (things_of l.table a) × IsTrue (is_chosen l a))
listed-are l a table = (listed-is l a, λ is. listed-there l a table is.0 is.1)

-- An object has its number as its place.

place-there : (l : Lent) (a : ℕ) → IsTable l.table → heap.IsObject l.table a → is_chosen l a ≡ true → slice_get (starts_of l) (length (starts_below l a)) ≡ Some a
place-there l a table object chosen =
    let t = l.table in
    let end = t.shape.regions * t.shape.words in
    let s = sized t a table object in
    let p = is_chosen l in
    let front = starts_below l a in
    let back = filter p (filter (λ (b : ℕ). is_some (things_of t b)) (range_with_len (a + 1) (end - (a + 1)))) in
    let next : starts_below l (a + 1) ≡ front ++ a ∷ [] = ap (filter p) (starts-next t a object)
    ∙ (filter-append p (heap.starts_below t a) (a ∷ []) ∙ ap (λ b. front ++ cond b (a ∷ []) []) chosen) in
    let all : starts_of l ≡ front ++ a ∷ back = ap (filter p) (starts-split t (a + 1) end (let less = s.address in omega (arith, less)))
    ∙ (filter-append p (heap.starts_below t (a + 1)) (filter (λ (b : ℕ). is_some (things_of t b)) (range_with_len (a + 1) (end - (a + 1))))
    ∙ (ap (λ (xs : List ℕ). xs ++ back) next ∙ append_assoc front (a ∷ []) back)) in
    subst (λ (xs : List ℕ). slice_get xs (length front) ≡ Some a) (sym all)
    (slice_get-get_or (front ++ a ∷ back) (length front) 0 (omega (arith, length-append front (a ∷ back))) ∙ ap Some (get_or-append_seam front a back 0))

module _ (l : Lent) (a k : ℕ) (table : IsTable l.table) where
  number-there : number_of l a ≡ Some k → slice_get (starts_of l) k ≡ Some a
  number-there is = by (is_chosen l a) refl (is_some (things_of l.table a)) refl is
    where
      by : (b : Bool) → is_chosen l a ≡ b → (c : Bool) → is_some (things_of l.table a) ≡ c → cond (b && c) (Some (length (starts_below l a))) None ≡ Some k
          → slice_get (starts_of l) k ≡ Some a
      by true chosen true object is = subst (λ n. slice_get (starts_of l) n ≡ Some a) (same_Some (length (starts_below l a)) k is) (place-there l a table object chosen)
      by true chosen false object is = absurd (none-some k is)
      by false chosen true object is = absurd (none-some k is)
      by false chosen false object is = absurd (none-some k is)

  there-number : slice_get (starts_of l) k ≡ Some a → number_of l a ≡ Some k
  there-number is =
      let among = subst (λ b. is_in b (starts_of l) ≡ true) (get_or_from_slice_get (starts_of l) k a 0 is) (there (starts_of l) k (slice_get_within (starts_of l) k a is)) in
      let found = listed-is l a among in
      number-here l a found.1 found.0
      ∙ ap Some (one-place (starts_of l) (length (starts_below l a)) k a (listed-ascend l) (place-there l a table found.0 found.1) is)

  pub number-place : (number_of l a ≡ Some k) ↔ (slice_get (starts_of l) k ≡ Some a)
  number-place = (number-there, there-number)

-- An object of the list by its number.

pub at-number : (l : Lent) (k : ℕ) → k < length (starts_of l) → heap.IsObject l.table (get_or (starts_of l) k 0) × (is_chosen l (get_or (starts_of l) k 0) ≡ true)
at-number l k within = listed-is l (get_or (starts_of l) k 0) (there (starts_of l) k within)
