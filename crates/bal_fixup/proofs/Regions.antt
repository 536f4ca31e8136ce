-- The objects of one region, mended one after the other, and the regions.
use Rattle.std.proofs.Common.{◌≡◌, ℕ, ◌+◌, ◌<◌, ◌≤◌, inl, inr, Bool, true, List, Some, None, refl, ap, sym, subst, ◌∙◌, arith, eqb, ltb, eq-eqb}
use Rattle.std.specs.List.{find}
use Rattle.std.specs.Prelude.{◌&&◌, IsSome, nat_le}
use Rattle.std.proofs.lemmas.Bool.{and_right, cases_lt, cases_order, le-ltb, lt-ltb, ne_eqb}
use Rattle.bal_fixup.specs.Mended.{HasSameStarts, mended_thing}
use Rattle.bal_fixup.specs.Mending.{MendedWhere, lies_before, lies_below, lies_in}
use Rattle.bal_fixup.proofs.Objects.{Adds, mended-left, mended-more, mended-one, mended-same}
use Rattle.bal_layout.specs.Addresses.{address_in, offset_of, region_of}
use Rattle.bal_region.specs.Land.{first_from, starts_at}
use Rattle.bal_region.proofs.Lemmas.{first-is, first-none, object-starts}
use Rattle.bal_table.specs.Table.{IsTable, Table, land_at, things_of}
use Rattle.bal_table.proofs.Lemmas.{address-is, address-offset, address-region, object-region, seen, start-address, start-inside}
use Rattle.bal_words.specs.Things.{Thing, Updated}
use Rattle.bal_words.proofs.Lemmas.{same-or}

-- Regions.

-- one region more
pub region-adds : (r q : ℕ) → Adds (ltb r q) (eqb r q) (ltb r (q + 1))
region-adds r q = elim (cases_order r q) [
  | inl same ↦ at (le-ltb r q (omega (arith, same))) (eq-eqb r q same) (lt-ltb r (q + 1) (omega (arith, same))) (refl, refl)
  | inr other ↦ elim other [
    | inl less ↦ at (lt-ltb r q less) (ne_eqb r q (λ e. omega (arith, e, less))) (lt-ltb r (q + 1) (omega (arith, less))) (refl, refl)
    | inr more ↦ at (le-ltb r q (omega (arith, more))) (ne_eqb r q (λ e. omega (arith, e, more))) (le-ltb r (q + 1) (omega (arith, more))) (refl, refl)
  ]
]
  where
    at : {x y z : Bool} → ltb r q ≡ x → eqb r q ≡ y → ltb r (q + 1) ≡ z → Adds x y z → Adds (ltb r q) (eqb r q) (ltb r (q + 1))
    at {x} {y} {z} before more now adds =
        subst (λ b. Adds b (eqb r q) (ltb r (q + 1))) (sym before) (subst (λ b. Adds x b (ltb r (q + 1))) (sym more) (subst (Adds x y) (sym now) adds))

-- where an object starts, its region has a start
object-start : (t : Table) (a : ℕ) (x : Thing) → IsTable t → things_of t a ≡ Some x
    → (region_of t.shape a < t.shape.regions) × (starts_at (land_at t (region_of t.shape a)) (offset_of t.shape a) ≡ true)
object-start t a x table is =
    let s = seen t a x table is in
    (object-region t a s.object table s.is, (object-starts (land_at t (region_of t.shape a)) (offset_of t.shape a) s.object s.is).0)

-- each object lies in a region
pub region-all : (t : Table) (regions : ℕ) → IsTable t → t.shape.regions ≤ regions → (a : ℕ) (x : Thing) → things_of t a ≡ Some x → lies_below t.shape regions a ≡ true
region-all t regions table all a x is = lt-ltb (region_of t.shape a) regions (omega (arith, all, (object-start t a x table is).0))

-- One region.

-- an object more, at an offset before which all were done: a stands for its address, and so do its region and its offset
start-adds : (r q k at o a b : ℕ) → at ≤ o → (r ≡ q → at ≤ k → o ≤ k) → (a ≡ b → (r ≡ q) × (k ≡ o)) → (r ≡ q → k ≡ o → a ≡ b)
    → Adds (eqb r q && ltb k at) (eqb a b) (eqb r q && ltb k (o + 1))
start-adds r q k at o a b from least same back = elim (same-or r q) [
  | inr other ↦ tests (ne_eqb r q other) refl refl (ne_eqb a b (λ e. other (same e).0)) (refl, refl)
  | inl here ↦ elim (cases_lt k at) [
    | inl before ↦ tests (eq-eqb r q here) (lt-ltb k (o + 1) (omega (arith, before, from))) (lt-ltb k at before)
        (ne_eqb a b (λ e. omega (arith, (same e).1, before, from))) (refl, refl)
    | inr behind ↦ elim (same-or k o) [
      | inl this ↦ tests (eq-eqb r q here) (lt-ltb k (o + 1) (omega (arith, this))) (le-ltb k at behind) (eq-eqb a b (back here this)) (refl, refl)
      | inr later ↦
          let least = least here behind in
          let past : o + 1 ≤ k = elim (cases_order o k) [
            | inl e ↦ absurd (later (sym e))
            | inr apart ↦ elim apart [ inl less ↦ omega (arith, less) | inr more ↦ absurd (omega (arith, more, least)) ]
          ] in
          tests (eq-eqb r q here) (le-ltb k (o + 1) past) (le-ltb k at behind) (ne_eqb a b (λ e. later (same e).1)) (refl, refl)
    ]
  ]
]
  where
    tests : {p m l n : Bool} → eqb r q ≡ p → ltb k (o + 1) ≡ m → ltb k at ≡ l → eqb a b ≡ n → Adds (p && l) n (p && m)
        → Adds (eqb r q && ltb k at) (eqb a b) (eqb r q && ltb k (o + 1))
    tests {p} {m} {l} {n} region now before one adds =
        subst (λ x. Adds (x && ltb k at) (eqb a b) (x && ltb k (o + 1))) (sym region)
        (subst (λ x. Adds (p && ltb k at) (eqb a b) (p && x)) (sym now)
        (subst (λ x. Adds (p && x) (eqb a b) (p && m)) (sym before)
        (subst (λ x. Adds (p && l) x (p && m)) (sym one) adds)))

-- objects start where they did
pub first-same : (t u : Table) (q at : ℕ) → HasSameStarts t u → first_from (land_at u q) at ≡ first_from (land_at t q) at
first-same t u q at same = ap (λ (ss : List ℕ). find (λ s. nat_le at s) ss) (same.starts q)

module _ (t now : Table) (q at : ℕ) (to : ℕ → ℕ) (table : IsTable t) (within : q < t.shape.regions) (same : HasSameStarts t now)
    (mended : MendedWhere (things_of t) (things_of now) (lies_before t.shape q at) to) where
  -- if none starts from an offset on, all objects of the region are mended
  pub region-done : first_from (land_at now q) at ≡ None → MendedWhere (things_of t) (things_of now) (lies_in t.shape q) to
  region-done none = mended-same (things_of t) (things_of now) (lies_before t.shape q at) to mended (lies_in t.shape q) all
    where
      all : (a : ℕ) (x : Thing) → things_of t a ≡ Some x → lies_in t.shape q a ≡ lies_before t.shape q at a
      all a x is = elim (same-or (region_of t.shape a) q) [
        | inr other ↦ subst (λ b. b ≡ (b && ltb (offset_of t.shape a) at)) (sym (ne_eqb (region_of t.shape a) q other)) refl
        | inl here ↦
            let starts : starts_at (land_at t q) (offset_of t.shape a) ≡ true =
            subst (λ p. starts_at (land_at t p) (offset_of t.shape a) ≡ true) here (object-start t a x table is).1 in
            let before = first-none (land_at t q) at (offset_of t.shape a) (sym (first-same t now q at same) ∙ none) starts in
            subst (λ b. b ≡ (b && ltb (offset_of t.shape a) at)) (sym (eq-eqb (region_of t.shape a) q here)) (sym (lt-ltb (offset_of t.shape a) at before))
      ]

  -- otherwise the first is the next one
  module _ (o : ℕ) (is : first_from (land_at now q) at ≡ Some o) where
    abbrev here : ℕ
    here = address_in t.shape q o

    pub next-first-is : (starts_at (land_at t q) o ≡ true) × (at ≤ o) × ((k : ℕ) → starts_at (land_at t q) k ≡ true → at ≤ k → o ≤ k)
    next-first-is = (first-is (land_at t q) at o (table.each q within).land).0 (sym (first-same t now q at same) ∙ is)

    -- it starts at a word of the region
    pub next-inside : o < t.shape.words
    next-inside = start-inside t q o table within next-first-is.0

    -- it is as it was
    pub next-left : things_of now here ≡ things_of t here
    next-left = mended-left (things_of t) (things_of now) (lies_before t.shape q at) to mended here
        (and_right (lies_in t.shape q here) (ltb (offset_of t.shape here) at)
        (le-ltb (offset_of t.shape here) at (omega (arith, next-first-is.1, address-offset t.shape q o next-inside))))

    -- an object
    pub next-object : IsSome (things_of now here)
    next-object = subst IsSome (sym next-left) (start-address t q o table within next-first-is.0)

    -- and once it is mended, all before the offset behind it are
    pub region-next : (after : Table) → Updated (things_of now) (things_of after) here (mended_thing to (things_of now here))
        → MendedWhere (things_of t) (things_of after) (lies_before t.shape q (o + 1)) to
    region-next after next =
        mended-more (things_of t) (things_of now) (lies_before t.shape q at) to mended (things_of after) (λ a. eqb a here) (lies_before t.shape q (o + 1))
        (mended-one (things_of now) (things_of after) here to next) adds
      where
        adds : (a : ℕ) (x : Thing) → things_of t a ≡ Some x → Adds (lies_before t.shape q at a) (eqb a here) (lies_before t.shape q (o + 1) a)
        adds a x known =
            let r = region_of t.shape a in
            let k = offset_of t.shape a in
            start-adds r q k at o a here next-first-is.1
            (λ e from. next-first-is.2 k (subst (λ p. starts_at (land_at t p) k ≡ true) e (object-start t a x table known).1) from)
            (λ e. (ap (region_of t.shape) e ∙ address-region t.shape q o next-inside, ap (offset_of t.shape) e ∙ address-offset t.shape q o next-inside))
            (λ e f. sym (address-is t.shape a) ∙ (ap (λ p. address_in t.shape p k) e ∙ ap (address_in t.shape q) f))
