-- A region that takes one object more.
use Rattle.std.proofs.Common.{◌≡◌, ℕ, ◌+◌, ◌≤◌, true, false, max, List, [], ◌∷◌, ◌++◌, None, refl, ap, sym, ◌∙◌, arith}
use Rattle.std.specs.Prelude.{map}
use Rattle.std.specs.List.{sum_by}
use Rattle.std.proofs.lemmas.Bool.{false≢true}
use Rattle.std.proofs.lemmas.List.Sums.{sum_by_push}
use Rattle.bal_compact.specs.Compacted.{age_at, greatest, region_of_objects}
use Rattle.bal_layout.specs.Regions.{age_of, is_free, is_in, region_with_object}
use Rattle.bal_layout.specs.declared.region_state.RegionState.{RegionState}
use Rattle.bal_layout.specs.declared.region_state.Role.{Role}
use Rattle.bal_layout.specs.declared.region_state.Role.TheVariants.{Free, Object, Leaf}
use Rattle.bal_plan.specs.Plan.{words_at}
use Rattle.bal_remember.specs.Remembered.{cards}
use Rattle.bal_table.specs.Table.{IsRole, Table}

-- the greatest number of a list with one more
greatest-more : (f : ℕ → ℕ) (xs : List ℕ) (a : ℕ) → greatest (map f (xs ++ a ∷ [])) ≡ max (greatest (map f xs)) (f a)
greatest-more f [] a = omega arith
greatest-more f (x ∷ xs) a = omega (arith, greatest-more f xs a)

-- what a region of objects is whose words are all alive, and of which nothing is remembered
abbrev of_age : ℕ → ℕ → RegionState
of_age age words = record { role = Object age; used = words; estimate = words; remembered = cards [] }

same-age : (age words other more : ℕ) → age ≡ other → words ≡ more → of_age age words ≡ of_age other more
same-age age words other more ages sizes = ap (λ n. of_age n words) ages ∙ ap (of_age other) sizes

-- it gives out the words of its objects
pub region-used : (t : Table) (q : ℕ) (xs : List ℕ) → (region_of_objects t None q xs).used ≡ sum_by (words_at t) xs
region-used t q [] = refl
region-used t q (x ∷ xs) = refl

-- with one object more, which comes from a region of some age, it is as old as that one, or older
pub region-joined : (t : Table) (q : ℕ) (xs : List ℕ) (a words age : ℕ) → words ≡ words_at t a → age ≡ age_at t a
    → region_with_object words (record (region_of_objects t None q xs) { role = Object (max (age_of (region_of_objects t None q xs).role) age) })
    ≡ region_of_objects t None q (xs ++ a ∷ [])
region-joined t q [] a words age size old =
    same-age (max 0 age) (0 + words) (greatest (map (age_at t) (a ∷ []))) (sum_by (words_at t) (a ∷ [])) (omega (arith, old))
    (ap (λ n. 0 + n) size ∙ sym (sum_by_push (words_at t) [] a))
region-joined t q (x ∷ xs) a words age size old =
    same-age (max (greatest (map (age_at t) (x ∷ xs))) age) (sum_by (words_at t) (x ∷ xs) + words)
    (greatest (map (age_at t) (x ∷ xs ++ a ∷ []))) (sum_by (words_at t) (x ∷ xs ++ a ∷ []))
    (omega (arith, old, greatest-more (age_at t) (x ∷ xs) a))
    (ap (λ n. sum_by (words_at t) (x ∷ xs) + n) size ∙ sym (sum_by_push (words_at t) (x ∷ xs) a))

-- with an object it is not free
pub region-taken : (t : Table) (q : ℕ) (xs : List ℕ) (a : ℕ) → is_in a xs ≡ true → is_free (region_of_objects t None q xs).role ≡ false
region-taken t q [] a among = absurd (false≢true among)
region-taken t q (x ∷ xs) a among = refl

-- no age is above the highest
pub age-least : (role : Role) → IsRole role → age_of role ≤ 24
age-least Free is = omega arith
age-least (Object age) is = is
age-least Leaf is = absurd is
