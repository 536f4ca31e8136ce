-- The objects of one region, moved one after the other.
use Rattle.std.proofs.Common.{◌≡◌, ℕ, ◌+◌, ◌*◌, ◌<◌, ◌≤◌, inl, inr, true, false, eqb, Some, None, ap, sym, subst, ◌∙◌, arith}
use Rattle.std.specs.Prelude.{is_some}
use Rattle.std.specs.List.{sum_by}
use Rattle.std.proofs.lemmas.Bool.{cases_lt, ne_eqb}
use Rattle.bal_compact.specs.Compacted.{region_of_objects}
use Rattle.bal_compact.specs.Packing.{IsMovedTo, to_below}
use Rattle.bal_compact.proofs.Below.{below-left, below-moved, object-before, unmoved}
use Rattle.bal_layout.specs.Addresses.{address_in, region_of}
use Rattle.bal_layout.specs.Regions.{is_in}
use Rattle.bal_layout.specs.Shape.{Shape}
use Rattle.bal_plan.specs.Plan.{IsObject, starts_below, words_at, words_into}
use Rattle.bal_plan.proofs.Lemmas.{filter-none, found-behind, found-inside, found-object, into-gap, listed-object, none-behind, none-between, words-next, words-other}
use Rattle.bal_region.specs.Land.{first_from}
use Rattle.bal_table.specs.Table.{Table, land_at, things_of}
use Rattle.bal_table.proofs.Lemmas.{address-is}
use Rattle.bal_words.proofs.Lemmas.{same-or}

-- the objects of a region fit there with the next one
words-fit : (before now : Table) (to : ℕ → ℕ) (q a : ℕ) → IsMovedTo before now to q a → IsObject before a → words_into before to a q ≤ before.shape.words
    → words_into before to (a + 1) q ≤ before.shape.words
words-fit before now to q a m object fits = elim (same-or (region_of before.shape (to a)) q) [
  | inl here ↦ subst (λ r. words_into before to (a + 1) r ≤ before.shape.words) here
      (omega (arith, words-next before to a object, m.may.plan.packed a object, m.may.plan.within a object))
  | inr other ↦ omega (arith, fits, words-other before to a q object other)
]

module _ (before now : Table) (to : ℕ → ℕ) (q : ℕ) where
  -- over addresses at which no object starts, no more is moved
  module _ (low high : ℕ) (le : low ≤ high) (m : IsMovedTo before now to q low) (none : (a : ℕ) → low ≤ a → a < high → IsObject before a → ⊥) where
    moved-same : (a : ℕ) → IsObject before a → to_below to high a ≡ to_below to low a
    moved-same a object = elim (cases_lt a low) [
      | inl less ↦ below-moved to high a (omega (arith, less, le)) ∙ sym (below-moved to low a less)
      | inr from ↦ elim (cases_lt a high) [
        | inl inside ↦ absurd (none a from inside object)
        | inr behind ↦ below-left to high a behind ∙ sym (below-left to low a from)
      ]
    ]

    pub raised : IsMovedTo before now to q high
    raised = record {
      may = m.may;
      table = m.table;
      shape = m.shape;
      count = m.count;
      current = m.current;
      carried = record {
        carried = λ a x is kept. subst (λ b. things_of now b ≡ Some x) (sym (moved-same a (ap is_some is))) (m.carried.carried a x is kept);
        only = λ b x is. let a = m.carried.only b x is in (a.0, a.1, a.2, moved-same a.0 (ap is_some a.1) ∙ a.3);
      };
      below = λ p less. m.below p less ∙ ap (region_of_objects before None p) (sym (into-gap before to low high p le none));
      from = m.from;
    }

  -- those below an offset of a region have moved
  module _ (at : ℕ) (within : q < now.shape.regions) (m : IsMovedTo before now to q (address_in now.shape q at)) where
    -- those behind it are there still
    there-still : (a : ℕ) → address_in now.shape q at ≤ a → IsObject before a → IsObject now a
    there-still a from object = ap is_some (unmoved before now to q (address_in now.shape q at) m a from object) ∙ object

    -- up to the next one there is none
    module _ (o : ℕ) (is : first_from (land_at now q) at ≡ Some o) where
      pub next-inside : o < now.shape.words
      next-inside = found-inside now q at m.table within o is

      behind : address_in now.shape q at ≤ address_in now.shape q o
      behind = omega (arith, found-behind now q at m.table within o is)

      next-none : (a : ℕ) → address_in now.shape q at ≤ a → a < address_in now.shape q o → IsObject before a → ⊥
      next-none a from less object = none-between now q at m.table within o is a from less (there-still a from object)

      pub next-moved : IsMovedTo before now to q (address_in now.shape q o)
      next-moved = raised (address_in now.shape q at) (address_in now.shape q o) behind m next-none

      next-words : words_into before to (address_in now.shape q o) q ≡ words_into before to (address_in now.shape q at) q
      next-words = ap (sum_by (words_at before)) (into-gap before to (address_in now.shape q at) (address_in now.shape q o) q behind next-none)

      -- it is counted then if it stays, and there is room for those that do
      module _ (words gain : ℕ) (old : words ≡ words_into before to (address_in now.shape q at) q)
          (more : words_into before to (address_in now.shape q o + 1) q ≡ words_into before to (address_in now.shape q o) q + gain) where
        pub next-counted : words + gain ≡ words_into before to (address_in now.shape q o + 1) q
        next-counted = omega (arith, old, more, next-words)

        pub next-fits : words ≤ now.shape.words → words + gain ≤ now.shape.words
        next-fits fits = omega (
          arith,
          next-counted,
          words-fit before now to q (address_in now.shape q o) next-moved (object-before before now to q (address_in now.shape q o) next-moved (address_in now.shape q o) (omega arith) (found-object now q at m.table within o is))
              (omega (arith, fits, old, next-words, ap (λ (s : Shape). s.words) m.shape)),
          ap (λ (s : Shape). s.words) m.shape,
        )

    -- and behind the last one there is none
    module _ (inside : at ≤ now.shape.words) (last : first_from (land_at now q) at ≡ None) where
      last-none : (a : ℕ) → address_in now.shape q at ≤ a → a < (q + 1) * now.shape.words → IsObject before a → ⊥
      last-none a from less object = none-behind now q at m.table within last a from (omega (arith, less)) (there-still a from object)

      pub last-moved : IsMovedTo before now to q ((q + 1) * now.shape.words)
      last-moved = raised (address_in now.shape q at) ((q + 1) * now.shape.words) (omega (arith, inside)) m last-none

      pub last-words : words_into before to ((q + 1) * now.shape.words) q ≡ words_into before to (address_in now.shape q at) q
      last-words = ap (sum_by (words_at before)) (into-gap before to (address_in now.shape q at) ((q + 1) * now.shape.words) q (omega (arith, inside)) last-none)

  -- no object of a lower region goes to this one
  pub first-words : IsMovedTo before now to q (q * now.shape.words) → words_into before to (q * now.shape.words) q ≡ 0
  first-words m = ap (sum_by (words_at before)) (filter-none (λ a. eqb (region_of before.shape (to a)) q) (starts_below before (q * now.shape.words)) none)
    where
      none : (a : ℕ) → is_in a (starts_below before (q * now.shape.words)) ≡ true → eqb (region_of before.shape (to a)) q ≡ false
      none a among =
          let is = listed-object before (q * now.shape.words) a among in
          ne_eqb (region_of before.shape (to a)) q (λ e. omega (
            arith,
            is.1,
            m.may.plan.down a is.0,
            address-is before.shape (to a),
            ap (λ r. r * before.shape.words) e,
            ap (λ (s : Shape). q * s.words) m.shape,
          ))
