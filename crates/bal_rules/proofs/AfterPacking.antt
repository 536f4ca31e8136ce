-- The regions after a packing. One has the words of what was packed into it, and those into which nothing was packed are free.
use Rattle.std.proofs.Common.{◌≡◌, ◌≤◌, ◌<◌, ◌+◌, ℕ, Bool, true, false, not, cond, IsTrue, List, [], ◌∷◌, length, drop, filter, map, refl, ap, sym, subst, ◌∙◌, arith}
use Rattle.std.specs.List.{AllByRecursion, count_by, range_with_len, sum_by}
use Rattle.std.proofs.lemmas.Bool.{false≢true}
use Rattle.std.proofs.lemmas.List.FromFn.{get_or-map-range_with_len}
use Rattle.std.proofs.lemmas.List.Sums.{sum-map, sum_by-cons, sum_by-take-drop}
use Rattle.bal_base.specs.Numbering.{numbers_from}
use Rattle.bal_layout.specs.Regions.{free_region, free_regions, is_free, is_leaf, region_at}
use Rattle.bal_layout.specs.declared.name.Name.{Name}
use Rattle.bal_layout.specs.declared.region_state.RegionState.{RegionState}
use Rattle.bal_layout.specs.declared.region_state.Role.{Role}
use Rattle.bal_model.specs.declared.config.Config.{Config}
use Rattle.bal_model.specs.declared.event.Packed.{Packed}
use Rattle.bal_rules.specs.Board.{Board, is_empty, words_of, words_of_all}
use Rattle.bal_rules.specs.GlobalEvents.{names_packed_into, region_after_packing, targets_of_packing}

-- Counts.

pub sum-of-map : {A B : Type 0} (f : B → ℕ) (g : A → B) (xs : List A) → sum_by f (map g xs) ≡ sum_by (λ (x : A). f (g x)) xs
sum-of-map f g [] = refl
sum-of-map f g (x ∷ xs) = sum_by-cons f (g x) (map g xs) ∙ (ap (λ (n : ℕ). f (g x) + n) (sum-of-map f g xs) ∙ sym (sum_by-cons (λ x. f (g x)) x xs))

length-numbers : {A : Type 0} (n : ℕ) (test : A → Bool) (xs : List A) → length (numbers_from n test xs) ≡ count_by test xs
length-numbers n test [] = refl
length-numbers n test (x ∷ xs) = by (test x) (length-numbers (n + 1) test xs) ∙ sym (sum_by-cons (λ x. cond (test x) 1 0) x xs)
  where
    by : (b : Bool) → length (numbers_from (n + 1) test xs) ≡ count_by test xs
        → length (cond b (n ∷ numbers_from (n + 1) test xs) (numbers_from (n + 1) test xs)) ≡ cond b 1 0 + count_by test xs
    by true e = omega (arith, e)
    by false e = omega (arith, e)

-- what passes two tests passes a third
passed-count : (p e r : ℕ → Bool) (qs : List ℕ) → ((q : ℕ) → IsTrue (p q) → IsTrue (e q) → IsTrue (r q)) → count_by e (filter p qs) ≤ count_by r qs
passed-count p e r [] h = omega arith
passed-count p e r (q ∷ qs) h =
    let more : count_by r (q ∷ qs) ≡ cond (r q) 1 0 + count_by r qs = sum_by-cons (λ q. cond (r q) 1 0) q qs in
    subst (λ (n : ℕ). count_by e (filter p (q ∷ qs)) ≤ n) (sym more) (by (p q) (e q) (r q) refl refl refl (passed-count p e r qs h))
  where
    with_e : count_by e (q ∷ filter p qs) ≡ cond (e q) 1 0 + count_by e (filter p qs)
    with_e = sum_by-cons (λ q. cond (e q) 1 0) q (filter p qs)

    by : (x y z : Bool) → p q ≡ x → e q ≡ y → r q ≡ z → count_by e (filter p qs) ≤ count_by r qs
        → count_by e (cond x (q ∷ filter p qs) (filter p qs)) ≤ cond z 1 0 + count_by r qs
    by false y z f g k rest = omega (arith, rest)
    by true false z f g k rest = let one = with_e ∙ ap (λ (b : Bool). cond b 1 0 + count_by e (filter p qs)) g in omega (arith, rest, one)
    by true true true f g k rest = let one = with_e ∙ ap (λ (b : Bool). cond b 1 0 + count_by e (filter p qs)) g in omega (arith, rest, one)
    by true true false f g k rest = absurd (false≢true (sym k ∙ h q f g))

all-count : (e : ℕ → Bool) (qs : List ℕ) → AllByRecursion (λ (q : ℕ). IsTrue (e q)) qs → length qs ≤ count_by e qs
all-count e [] h = omega arith
all-count e (q ∷ qs) h =
    let more : count_by e (q ∷ qs) ≡ cond (e q) 1 0 + count_by e qs = sum_by-cons (λ q. cond (e q) 1 0) q qs in
    let one = more ∙ ap (λ (b : Bool). cond b 1 0 + count_by e qs) h.0 in
    let rest : length qs ≤ count_by e qs = all-count e qs h.1 in
    omega (arith, one, rest)

rest-count : (e : ℕ → Bool) (k : ℕ) (qs : List ℕ) → AllByRecursion (λ (q : ℕ). IsTrue (e q)) (drop k qs) → length (drop k qs) ≤ count_by e qs
rest-count e k qs h =
    let split = sum_by-take-drop (λ q. cond (e q) 1 0) qs k in
    let rest : length (drop k qs) ≤ count_by e (drop k qs) = all-count e (drop k qs) h in
    omega (arith, split, rest)

-- Regions.

free-unpacked : (c : Config) (d : Board) (packed : List Packed) (q : ℕ) → IsTrue (not (is_leaf (region_at d.regions q).role)) → IsTrue (is_empty (names_packed_into packed q))
    → IsTrue (is_free (region_after_packing c d packed q).role)
free-unpacked c d packed q target none = by _ _ (is_leaf (region_at d.regions q).role) (is_empty (names_packed_into packed q)) target none
  where
    by : (leaf object : RegionState) (x y : Bool) → IsTrue (not x) → IsTrue y → IsTrue (is_free (cond x leaf (cond y free_region object)).role)
    by leaf object true y h k = absurd (false≢true h)
    by leaf object false true h k = refl
    by leaf object false false h k = absurd (false≢true k)

-- of the regions that are packed, those behind some point into which nothing was packed are free
pub free-behind : (c : Config) (d : Board) (packed : List Packed) (k : ℕ) → AllByRecursion (λ (q : ℕ). IsTrue (is_empty (names_packed_into packed q))) (drop k (targets_of_packing d))
    → length (drop k (targets_of_packing d)) ≤ length (free_regions (map (region_after_packing c d packed) (range_with_len 0 (length d.regions))))
free-behind c d packed k none =
    let after = region_after_packing c d packed in
    let all = range_with_len 0 (length d.regions) in
    let unpacked : ℕ → Bool = λ q. is_empty (names_packed_into packed q) in
    let behind : length (drop k (targets_of_packing d)) ≤ count_by unpacked (targets_of_packing d) = rest-count unpacked k (targets_of_packing d) none in
    let free : count_by unpacked (targets_of_packing d) ≤ count_by (λ q. is_free (after q).role) all =
    passed-count (λ q. not (is_leaf (region_at d.regions q).role)) unpacked (λ q. is_free (after q).role) all (free-unpacked c d packed) in
    let same : length (free_regions (map after all)) ≡ count_by (λ q. is_free (after q).role) all =
    length-numbers 0 (λ (r : RegionState). is_free r.role) (map after all) ∙ sum-of-map (λ (r : RegionState). cond (is_free r.role) 1 0) after all in
    omega (arith, behind, free, same)

-- one that is packed has the words of what was packed into it
pub used-after : (c : Config) (d : Board) (packed : List Packed) (q : ℕ) → q < length d.regions → IsTrue (not (is_leaf (region_at d.regions q).role))
    → (region_at (map (region_after_packing c d packed) (range_with_len 0 (length d.regions))) q).used ≡ sum_by (words_of c d) (names_packed_into packed q)
used-after c d packed q within target =
    ap (λ (r : RegionState). r.used) (get_or-map-range_with_len (region_after_packing c d packed) 0 (length d.regions) q q free_region within (omega arith))
    ∙ by _ _ (is_leaf (region_at d.regions q).role) (names_packed_into packed q) target
  where
    by : (leaf : RegionState) (role : Role) (x : Bool) (names : List Name) → IsTrue (not x)
        → (cond x leaf (cond (is_empty names) free_region (record { role = role; used = words_of_all c d names; estimate = words_of_all c d names; remembered = free_region.remembered }))).used
        ≡ sum_by (words_of c d) names
    by leaf role true names h = absurd (false≢true h)
    by leaf role false [] h = refl
    by leaf role false (x ∷ names) h = sum-map (words_of c d) (x ∷ names)
