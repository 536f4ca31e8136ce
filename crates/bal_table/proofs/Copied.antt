-- An object is copied from one region to another, and the list of the regions is cut between the two.
use Rattle.std.proofs.Common.{◌≡◌, ℕ, ◌-◌, ◌<◌, List, ◌++◌, length, set, get_or, Some, ap, sym, ◌∙◌, arith}
use Rattle.std.proofs.lemmas.List.{get_or-append_right, get_or_append_left, get_or_read, set-append_left, set-append_right}
use Rattle.bal_region.specs.Changes.{empty_land, with_object}
use Rattle.bal_region.specs.Land.{Land, object_at, object_in}
use Rattle.bal_region.proofs.Lemmas.{object-starts}

-- the target with the object that was read in the source
abbrev pub with_copy : List Land → ℕ → ℕ → ℕ → List Land
with_copy regions from offset to =
    set regions to (with_object (get_or regions to (empty_land 0 0)) (object_in (get_or regions from (empty_land 0 0)).words offset))

module _ (regions low high : List Land) (cut : regions ≡ low ++ high) where
  first : (i : ℕ) (l : Land) → i < length low → l ≡ get_or low i l → l ≡ get_or regions i (empty_land 0 0)
  first i l within read =
      get_or_read low i l within read (empty_land 0 0) ∙ (sym (get_or_append_left low high (empty_land 0 0) i within) ∙ ap (λ ls. get_or ls i (empty_land 0 0)) (sym cut))

  second : (i : ℕ) (l : Land) → length low ≡ i → 0 < length high → l ≡ get_or high 0 l → l ≡ get_or regions i (empty_land 0 0)
  second i l at within read =
      let none : i - i ≡ 0 = omega arith in
      get_or_read high 0 l within read (empty_land 0 0)
      ∙ (ap (λ k. get_or high k (empty_land 0 0)) (sym none)
      ∙ (sym (get_or-append_right low high i i (empty_land 0 0) at (omega arith)) ∙ ap (λ ls. get_or ls i (empty_land 0 0)) (sym cut)))

  module _ (source target new : Land) (from offset to : ℕ) (object : List ℕ) (read : object_at source offset ≡ Some object) (placed : new ≡ with_object target object) where
    placed-is : source ≡ get_or regions from (empty_land 0 0) → target ≡ get_or regions to (empty_land 0 0)
        → new ≡ with_object (get_or regions to (empty_land 0 0)) (object_in (get_or regions from (empty_land 0 0)).words offset)
    placed-is one two =
        placed
        ∙ (ap (with_object target) (sym (object-starts source offset object read).1)
        ∙ (ap (λ (l : Land). with_object l (object_in source.words offset)) two
        ∙ ap (λ (l : Land). with_object (get_or regions to (empty_land 0 0)) (object_in l.words offset)) one))

    -- the source stands before the target
    pub copied-up : length low ≡ to → 0 < length high → from < length low → source ≡ get_or low from source → target ≡ get_or high 0 target
        → low ++ set high 0 new ≡ with_copy regions from offset to
    copied-up at some less one two =
        let none : to - to ≡ 0 = omega arith in
        ap (λ k. low ++ set high k new) (sym none)
        ∙ (sym (set-append_right low high to to new at (omega arith))
        ∙ (ap (λ ls. set ls to new) (sym cut) ∙ ap (set regions to) (placed-is (first from source less one) (second to target at some two))))

    -- or behind it
    pub copied-down : length low ≡ from → 0 < length high → to < length low → source ≡ get_or high 0 source → target ≡ get_or low to target
        → set low to new ++ high ≡ with_copy regions from offset to
    copied-down at some less one two =
        sym (set-append_left low high to new less)
        ∙ (ap (λ ls. set ls to new) (sym cut) ∙ ap (set regions to) (placed-is (second from source at some one) (first to target less two)))
