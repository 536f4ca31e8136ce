-- How many words of a settled region are thought to be alive: those of its marked objects.
use Rattle.std.proofs.Common.{◌≡◌, ℕ, ◌+◌, ◌<◌, inl, inr, Bool, true, false, eqb, List, [], ◌∷◌, length, map, Some, refl, ap, sym, subst, ◌∙◌, arith}
use Rattle.std.specs.Prelude.{◌&&◌, unwrap_or}
use Rattle.std.specs.List.{filter, fold, sum_by}
use Rattle.std.proofs.lemmas.Bool.{and_parts, eq-eqb, eqb-true, false≢true}
use Rattle.bal_base.specs.Bits.{IsAscending}
use Rattle.bal_base.proofs.Lemmas.{among-cases, among-first, among-later}
use Rattle.bal_layout.specs.Addresses.{address_in, offset_of, region_of}
use Rattle.bal_layout.specs.Regions.{is_in}
use Rattle.bal_region.specs.Land.{Laid, Land, object_at, object_in, size_at, starts_at}
use Rattle.bal_region.proofs.Lemmas.{object-starts, object-there, size-seen}
use Rattle.bal_sweep.specs.Sweep.{left_at, words_of}
use Rattle.bal_sweep.proofs.Lemmas.{in-filter, laid-behind}
use Rattle.bal_table.specs.Table.{IsTable, Table, land_at, objects_of, things_of}
use Rattle.bal_table.proofs.Lemmas.{address-is, address-offset, address-region, seen, start-inside}
use Rattle.bal_words.proofs.Lemmas.{there}
use Rattle.bal_settle.specs.Settled.{MaySettle, marked_in, words_at}
use Rattle.bal_settle.proofs.Ascending.{filter-ascends, same-members}

-- Lists.

starts-ascend : (words : List ℕ) (from : ℕ) (ss : List ℕ) (end : ℕ) → Laid words from ss end → IsAscending ss
starts-ascend words from [] end laid = tt
starts-ascend words from (s ∷ ss) end laid =
    (λ r among. laid-behind words from [] s ss end laid r among, starts-ascend words (s + size_at words s) ss end laid.2)

in-map : (f : ℕ → ℕ) (xs : List ℕ) (n : ℕ) → is_in n (map f xs) ≡ true → (x : ℕ) × (is_in x xs ≡ true) × (f x ≡ n)
in-map f [] n among = absurd (false≢true among)
in-map f (x ∷ xs) n among = elim (among-cases (f x) n (map f xs) among) [
  | inl here ↦ (x, among-first x xs, here)
  | inr later ↦ let found = in-map f xs n later in (found.0, among-later x found.0 xs found.1, found.2)
]

map-in : (f : ℕ → ℕ) (xs : List ℕ) (x : ℕ) → is_in x xs ≡ true → is_in (f x) (map f xs) ≡ true
map-in f [] x among = absurd (false≢true among)
map-in f (y ∷ xs) x among = elim (among-cases y x xs among) [
  | inl here ↦ subst (λ k. is_in (f k) (map f (y ∷ xs)) ≡ true) here (among-first (f y) (map f xs))
  | inr later ↦ among-later (f y) (f x) (map f xs) (map-in f xs x later)
]

map-ascends : (f : ℕ → ℕ) → ((x y : ℕ) → x < y → f x < f y) → (xs : List ℕ) → IsAscending xs → IsAscending (map f xs)
map-ascends f up [] ascending = tt
map-ascends f up (x ∷ xs) ascending =
    (λ n among. let found = in-map f xs n among in subst (λ k. f x < k) found.2 (up x found.0 (ascending.0 found.0 found.1)), map-ascends f up xs ascending.1)

sum-map : (g : ℕ → ℕ) (f : ℕ → ℕ) (xs : List ℕ) → sum_by g (map f xs) ≡ sum_by (λ x. g (f x)) xs
sum-map g f xs = from 0 xs
  where
    from : (n : ℕ) (ys : List ℕ) → fold (λ m y. m + g y) n (map f ys) ≡ fold (λ m y. m + g (f y)) n ys
    from n [] = refl
    from n (y ∷ ys) = from (n + g (f y)) ys

-- sums of what is the same for each member
sum-members : (f g : ℕ → ℕ) (xs : List ℕ) → ((x : ℕ) → is_in x xs ≡ true → f x ≡ g x) → sum_by f xs ≡ sum_by g xs
sum-members f g xs same = from 0 xs same
  where
    from : (n : ℕ) (ys : List ℕ) → ((x : ℕ) → is_in x ys ≡ true → f x ≡ g x) → fold (λ m y. m + f y) n ys ≡ fold (λ m y. m + g y) n ys
    from n [] each = refl
    from n (y ∷ ys) each =
        ap (λ k. fold (λ m z. m + f z) (n + k) ys) (each y (among-first y ys)) ∙ from (n + g y) ys (λ x among. each x (among-later y x ys among))

both : (b c : Bool) → (b ≡ true → c ≡ true) → (c ≡ true → b ≡ true) → b ≡ c
both true c to from = sym (to refl)
both false true to from = from refl
both false false to from = refl

module _ (t : Table) (chosen marked : List ℕ) (table : IsTable t) (may : MaySettle t chosen marked) (q : ℕ) (within : q < t.shape.regions) where
  abbrev l : Land
  l = land_at t q

  abbrev at : ℕ → ℕ
  at s = address_in t.shape q s

  abbrev left : List ℕ
  left = filter (λ s. is_in (at s) marked) l.starts

  -- the starts that are left are those of marked objects
  left-start : (s : ℕ) → is_in s left ≡ true → (is_in (at s) marked ≡ true) × (is_in s l.starts ≡ true)
  left-start s among = and_parts (is_in (at s) marked) (is_in s l.starts) (sym (in-filter (λ r. is_in (at r) marked) l.starts s) ∙ among)

  home : (s : ℕ) → is_in s l.starts ≡ true → region_of t.shape (at s) ≡ q
  home s among = address-region t.shape q s (start-inside t q s table within among)

  members : (a : ℕ) → is_in a (map at left) ≡ is_in a (marked_in t.shape q marked)
  members a = both (is_in a (map at left)) (is_in a (marked_in t.shape q marked)) to from
    where
      to : is_in a (map at left) ≡ true → is_in a (marked_in t.shape q marked) ≡ true
      to among =
          let found = in-map at left a among in
          let start = left-start found.0 found.1 in
          in-filter (λ b. eqb (region_of t.shape b) q) marked a
          ∙ (ap (λ b. b && is_in a marked) (eq-eqb (region_of t.shape a) q (ap (region_of t.shape) (sym found.2) ∙ home found.0 start.1))
          ∙ (ap (λ b. is_in b marked) (sym found.2) ∙ start.0))

      from : is_in a (marked_in t.shape q marked) ≡ true → is_in a (map at left) ≡ true
      from among =
          let parts = and_parts (eqb (region_of t.shape a) q) (is_in a marked) (sym (in-filter (λ b. eqb (region_of t.shape b) q) marked a) ∙ among) in
          let region : region_of t.shape a ≡ q = eqb-true (region_of t.shape a) q parts.0 in
          let x = there (things_of t a) (may.objects a parts.1) in
          let z = seen t a x.0 table x.1 in
          let start : is_in (offset_of t.shape a) l.starts ≡ true =
          subst (λ p. starts_at (land_at t p) (offset_of t.shape a) ≡ true) region (object-starts (land_at t (region_of t.shape a)) (offset_of t.shape a) z.object z.is).0 in
          let address : at (offset_of t.shape a) ≡ a = ap (λ p. address_in t.shape p (offset_of t.shape a)) (sym region) ∙ address-is t.shape a in
          let kept : is_in (offset_of t.shape a) left ≡ true =
          in-filter (λ r. is_in (at r) marked) l.starts (offset_of t.shape a)
          ∙ (ap (λ b. is_in b marked && is_in (offset_of t.shape a) l.starts) address ∙ (ap (λ b. b && is_in (offset_of t.shape a) l.starts) parts.1 ∙ start)) in
          subst (λ b. is_in b (map at left) ≡ true) address (map-in at left (offset_of t.shape a) kept)

  marked-are : map at left ≡ marked_in t.shape q marked
  marked-are =
      same-members (map at left) (marked_in t.shape q marked)
      (map-ascends at (λ x y less. omega (arith, less)) left (filter-ascends (λ s. is_in (at s) marked) l.starts (starts-ascend l.words 0 l.starts l.used (table.each q within).land.laid)))
      (filter-ascends (λ b. eqb (region_of t.shape b) q) marked may.in_order) members

  -- an object has as many words as its header says
  size-is : (s : ℕ) → is_in s left ≡ true → words_at t (at s) ≡ size_at l.words s
  size-is s among =
      let start = (left-start s among).1 in
      let object : objects_of t (at s) ≡ Some (object_in l.words s) =
      ap (λ p. object_at (land_at t p) (offset_of t.shape (at s))) (home s start)
      ∙ (ap (object_at l) (address-offset t.shape q s (start-inside t q s table within start)) ∙ object-there l s start) in
      ap (λ o. length (unwrap_or o [])) object
      ∙ sym (size-seen l s (table.each q within).land (object_in l.words s) (object-there l s start))

  pub estimate-is : words_of (left_at marked t q) ≡ sum_by (words_at t) (marked_in t.shape q marked)
  estimate-is =
      sym (sum-members (λ s. words_at t (at s)) (size_at l.words) left size-is)
      ∙ (sym (sum-map (words_at t) at left) ∙ ap (sum_by (words_at t)) marked-are)
