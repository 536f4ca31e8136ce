-- How many regions have a role of some sort, and which is the lowest of them.
use Rattle.std.proofs.Common.{◌≡◌, ℕ, zero, suc, ◌+◌, ◌<◌, ◌≤◌, Bool, true, false, cond, ◌⊎◌, inl, inr, List, [], ◌∷◌, length, replicate, set, get_or, Some, None, refl, ap, sym, subst, arith, ◌∙◌, length-set, get_or-set_other, get_or-set_same}
use Rattle.std.specs.Prelude.{slice_get, IsTrue}
use Rattle.std.proofs.lemmas.List.{get_or-replicate, get_or_read, length-replicate}
use Rattle.bal_layout.specs.Regions.{free_region, is_eden, is_free, region_at}
use Rattle.bal_layout.specs.declared.region_state.RegionState.{RegionState}
use Rattle.bal_table.specs.Kept.{AreCounted, IsLowest, counted}
use Rattle.bal_words.proofs.Lemmas.{same-or}
use Rattle.bal_base.specs.Numbering.{numbers_from}

-- the tests that are counted
abbrev pub free_state : RegionState → Bool
free_state r = is_free r.role

abbrev pub eden_state : RegionState → Bool
eden_state r = is_eden r.role

-- where none has such a role, none is numbered
numbers-none : (n : ℕ) (test : RegionState → Bool) (rs : List RegionState) → ((k : ℕ) → k < length rs → test (get_or rs k free_region) ≡ false) → numbers_from n test rs ≡ []
numbers-none n test [] none = refl
numbers-none n test (r ∷ rs) none = rw (none 0 (omega arith)) (numbers-none (n + 1) test rs (λ k less. none (suc k) (omega arith)))

-- the first that has one is numbered first
numbers-first : (n : ℕ) (test : RegionState → Bool) (rs : List RegionState) (i : ℕ) → i < length rs → ((k : ℕ) → k < i → test (get_or rs k free_region) ≡ false)
    → test (get_or rs i free_region) ≡ true → slice_get (numbers_from n test rs) 0 ≡ Some (n + i)
numbers-first n test [] i less before here = absurd (omega arith)
numbers-first n test (r ∷ rs) zero less before here = rw here (ap Some (omega arith))
numbers-first n test (r ∷ rs) (suc i) less before here =
    rw (before 0 (omega arith)) (numbers-first (n + 1) test rs i (omega arith) (λ k low. before (suc k) (omega arith)) here ∙ ap Some (omega arith))

-- the lowest free region is the first of the free ones
pub lowest-first : (rs : List RegionState) (lowest : ℕ) → IsLowest rs lowest → lowest < length rs → slice_get (numbers_from 0 free_state rs) 0 ≡ Some lowest
lowest-first rs lowest is less = numbers-first 0 free_state rs lowest less is.below (is.free less) ∙ ap Some (omega arith)

-- past the end there is none
pub lowest-none : (rs : List RegionState) (lowest : ℕ) → IsLowest rs lowest → length rs ≤ lowest → slice_get (numbers_from 0 free_state rs) 0 ≡ None
lowest-none rs lowest is past = ap (λ (ns : List ℕ). slice_get ns 0) (numbers-none 0 free_state rs (λ k less. is.below k (omega arith)))

-- one number, or none, in front of others
length-more : (b : Bool) (n : ℕ) (ns : List ℕ) → length (cond b (n ∷ ns) ns) ≡ counted b + length ns
length-more true n ns = omega arith
length-more false n ns = omega arith

-- where one has another role, it alone is counted anew
pub counted-anew : (n : ℕ) (test : RegionState → Bool) (rs : List RegionState) (i : ℕ) (r : RegionState) → i < length rs
    → length (numbers_from n test (set rs i r)) + counted (test (get_or rs i free_region)) ≡ length (numbers_from n test rs) + counted (test r)
counted-anew n test [] i r less = absurd (omega arith)
counted-anew n test (x ∷ xs) zero r less = omega (arith, length-more (test x) n (numbers_from (n + 1) test xs), length-more (test r) n (numbers_from (n + 1) test xs))
counted-anew n test (x ∷ xs) (suc i) r less =
    omega (arith, length-more (test x) n (numbers_from (n + 1) test xs), length-more (test x) n (numbers_from (n + 1) test (set xs i r)), counted-anew (n + 1) test xs i r (omega arith))

-- each is counted once at most
counted-one : (b : Bool) → counted b ≤ 1
counted-one true = omega arith
counted-one false = omega arith

-- no more are counted than there are
pub counted-few : (n : ℕ) (test : RegionState → Bool) (rs : List RegionState) → length (numbers_from n test rs) ≤ length rs
counted-few n test [] = omega arith
counted-few n test (r ∷ rs) = omega (arith, length-more (test r) n (numbers_from (n + 1) test rs), counted-one (test r), counted-few (n + 1) test rs)

-- one that has such a role is counted
counted-some : (n : ℕ) (test : RegionState → Bool) (rs : List RegionState) (i : ℕ) → i < length rs → test (get_or rs i free_region) ≡ true → 0 < length (numbers_from n test rs)
counted-some n test [] i less here = absurd (omega arith)
counted-some n test (r ∷ rs) zero less here = rw here (omega arith)
counted-some n test (r ∷ rs) (suc i) less here = omega (arith, length-more (test r) n (numbers_from (n + 1) test rs), counted-some (n + 1) test rs i (omega arith) here)

-- What `recounted` wants and gives where one region has another role.
module _ (test : RegionState → Bool) (rs : List RegionState) (i : ℕ) (old new : RegionState) (count : ℕ) (within : i < length rs) (read : old ≡ get_or rs i old)
    (is : count ≡ length (numbers_from 0 test rs)) (before now : Bool) (was : before ≡ test old) (becomes : now ≡ test new) where
  -- what was read there
  test-read : before ≡ test (get_or rs i free_region)
  test-read = was ∙ ap test (get_or_read rs i old within read free_region)

  -- where one was counted, some are
  pub recounted-less : IsTrue before → 0 < count
  recounted-less holds = omega (arith, is, counted-some 0 test rs i within (sym test-read ∙ holds))

  -- the count is right again
  pub recounted-is : (result : ℕ) → result + counted before ≡ count + counted now → result ≡ length (numbers_from 0 test (set rs i new))
  recounted-is result e = omega (arith, e, is, ap counted test-read, ap counted becomes, counted-anew 0 test rs i new within)

-- Free regions alone.

-- each is numbered among the free
pub numbers-free : (n k : ℕ) → length (numbers_from n free_state (replicate k free_region)) ≡ k
numbers-free n zero = refl
numbers-free n (suc k) = ap suc (numbers-free (n + 1) k)

-- none is eden
pub numbers-eden : (n k : ℕ) → numbers_from n eden_state (replicate k free_region) ≡ []
numbers-eden n k = numbers-none n eden_state (replicate k free_region) (λ q less. ap eden_state (get_or-replicate k q free_region free_region (omega (arith, less, length-replicate k free_region))))

-- the first is the lowest
pub IsLowest-free : (k : ℕ) → IsLowest (replicate k free_region) 0
IsLowest-free k = record {
  within = omega arith;
  below = λ q less. absurd (omega arith);
  free = λ less. ap free_state (get_or-replicate k 0 free_region free_region (omega (arith, less, length-replicate k free_region)));
}

-- all are counted so
pub AreCounted-free : (k : ℕ) → AreCounted (replicate k free_region) 0 k 0
AreCounted-free k = record {
  lowest = IsLowest-free k;
  free = sym (numbers-free 0 k);
  eden = ap (λ (ns : List ℕ). length ns) (sym (numbers-eden 0 k));
}

-- One region has another state, with the role that it had.

-- it is numbered as before
numbers-same : (n : ℕ) (test : RegionState → Bool) (rs : List RegionState) (i : ℕ) (r : RegionState) → test r ≡ test (get_or rs i free_region)
    → numbers_from n test (set rs i r) ≡ numbers_from n test rs
numbers-same n test [] i r same = refl
numbers-same n test (x ∷ xs) zero r same = ap (λ b. cond b (n ∷ numbers_from (n + 1) test xs) (numbers_from (n + 1) test xs)) same
numbers-same n test (x ∷ xs) (suc i) r same =
    ap (λ (ns : List ℕ). cond (test x) (n ∷ ns) ns) (numbers-same (n + 1) test xs i r same)

module _ (rs : List RegionState) (i : ℕ) (r : RegionState) (within : i < length rs) (same : r.role ≡ (region_at rs i).role) where
  role-stays : (q : ℕ) → (region_at (set rs i r) q).role ≡ (region_at rs q).role
  role-stays q = by (same-or q i)
    where
      by : (q ≡ i) ⊎ (q ≡ i → ⊥) → (region_at (set rs i r) q).role ≡ (region_at rs q).role
      by (inl here) =
          subst (λ k. (region_at (set rs i r) k).role ≡ (region_at rs k).role) (sym here)
          (ap (λ (u : RegionState). u.role) (get_or-set_same rs i r free_region within) ∙ same)
      by (inr apart) = ap (λ (u : RegionState). u.role) (get_or-set_other rs i q r free_region apart)

  -- and counted as before
  pub AreCounted-same : (lowest free eden : ℕ) → AreCounted rs lowest free eden → AreCounted (set rs i r) lowest free eden
  AreCounted-same lowest free eden are = record {
    lowest = record {
      within = omega (arith, are.lowest.within, length-set rs i r);
      below = λ q less. ap is_free (role-stays q) ∙ are.lowest.below q less;
      free = λ less. ap is_free (role-stays lowest) ∙ are.lowest.free (omega (arith, less, length-set rs i r));
    };
    free = are.free ∙ ap (λ (ns : List ℕ). length ns) (sym (numbers-same 0 free_state rs i r (ap is_free same)));
    eden = are.eden ∙ ap (λ (ns : List ℕ). length ns) (sym (numbers-same 0 eden_state rs i r (ap is_eden same)));
  }
