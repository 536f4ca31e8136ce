-- The objects of one region, found one after the other.
use Rattle.std.proofs.Common.{◌≡◌, ℕ, ◌+◌, ◌*◌, ◌^◌, ◌<◌, ◌≤◌, inl, inr, true, List, [], ◌∷◌, ◌++◌, length, Some, None, ap, sym, subst, ◌∙◌, arith, length-append}
use Rattle.std.proofs.lemmas.Bool.{cases_order}
use Rattle.std.proofs.Math.Nat.{mul-le-mul_right}
use Rattle.bal_layout.specs.Addresses.{address_in, offset_of, region_of}
use Rattle.bal_layout.specs.Shape.{Shape}
use Rattle.bal_region.specs.Land.{first_from, starts_at}
use Rattle.bal_region.proofs.Lemmas.{first-is, first-none, object-starts}
use Rattle.bal_table.specs.Table.{IsTable, Table, land_at}
use Rattle.bal_table.proofs.Lemmas.{address-is, offset-within, start-address, start-inside}
use Rattle.bal_plan.specs.Plan.{IsObject, starts_below}
use Rattle.bal_plan.proofs.Sizes.{sized}
use Rattle.bal_plan.proofs.Starts.{starts-gap, starts-next}

-- an address among the words of a region lies there
pub region-here : (s : Shape) (q a : ℕ) → 0 < s.words → q * s.words ≤ a → a < q * s.words + s.words → region_of s a ≡ q
region-here s q a some from to =
    let r = region_of s a in
    let is = address-is s a in
    let within = offset-within s a some in
    elim (cases_order r q) [
      | inl same ↦ same
      | inr other ↦ elim other [
        | inl less ↦ absurd (omega (arith, is, within, from, mul-le-mul_right {m = r + 1} {n = q} s.words (omega (arith, less))))
        | inr more ↦ absurd (omega (arith, is, to, mul-le-mul_right {m = q + 1} {n = r} s.words (omega (arith, more))))
      ]
    ]

module _ (t : Table) (q at : ℕ) (table : IsTable t) (within : q < t.shape.regions) where
  -- an object behind an offset starts there in the region
  start-there : (a : ℕ) → q * t.shape.words + at ≤ a → a < q * t.shape.words + t.shape.words → IsObject t a
      → (starts_at (land_at t q) (offset_of t.shape a) ≡ true) × (at ≤ offset_of t.shape a) × (a ≡ q * t.shape.words + offset_of t.shape a)
  start-there a from to object =
      let s = sized t a table object in
      let here : region_of t.shape a ≡ q = region-here t.shape q a (omega (arith, table.shape.fewest_words)) (omega (arith, from)) to in
      let place : a ≡ q * t.shape.words + offset_of t.shape a = sym (address-is t.shape a) ∙ ap (λ r. r * t.shape.words + offset_of t.shape a) here in (
        subst (λ r. starts_at (land_at t r) (offset_of t.shape a) ≡ true) here
            (object-starts (land_at t (region_of t.shape a)) (offset_of t.shape a) s.object s.is).0,
        omega (arith, from, place),
        place,
      )

  -- none is found any more
  pub none-behind : first_from (land_at t q) at ≡ None → (a : ℕ) → q * t.shape.words + at ≤ a → a < q * t.shape.words + t.shape.words → IsObject t a → ⊥
  none-behind none a from to object =
      let there = start-there a from to object in
      omega (arith, there.1, first-none (land_at t q) at (offset_of t.shape a) none there.0)

  module _ (o : ℕ) (is : first_from (land_at t q) at ≡ Some o) where
    first : (starts_at (land_at t q) o ≡ true) × (at ≤ o) × ((k : ℕ) → starts_at (land_at t q) k ≡ true → at ≤ k → o ≤ k)
    first = (first-is (land_at t q) at o (table.each q within).land).0 is

    pub found-inside : o < t.shape.words
    found-inside = start-inside t q o table within first.0

    pub found-object : IsObject t (address_in t.shape q o)
    found-object = start-address t q o table within first.0

    pub found-behind : at ≤ o
    found-behind = first.1

    -- none starts before it
    pub none-between : (a : ℕ) → q * t.shape.words + at ≤ a → a < address_in t.shape q o → IsObject t a → ⊥
    none-between a from to object =
        let there = start-there a from (omega (arith, to, found-inside)) object in
        omega (arith, to, there.2, first.2 (offset_of t.shape a) there.0 there.1)

    pub starts-found : starts_below t (q * t.shape.words + (o + 1)) ≡ starts_below t (q * t.shape.words + at) ++ address_in t.shape q o ∷ []
    starts-found =
        let one : q * t.shape.words + (o + 1) ≡ address_in t.shape q o + 1 = omega arith in
        let a = address_in t.shape q o in
        ap (starts_below t) one
        ∙ (starts-next t a found-object
        ∙ ap (λ (l : List ℕ). l ++ a ∷ []) (starts-gap t (q * t.shape.words + at) a (omega (arith, found-behind)) none-between))

    -- so there is one more
    pub count-found : length (starts_below t (q * t.shape.words + (o + 1))) ≡ length (starts_below t (q * t.shape.words + at)) + 1
    count-found =
        ap (λ (l : List ℕ). length l) starts-found
        ∙ omega (arith, length-append (starts_below t (q * t.shape.words + at)) (address_in t.shape q o ∷ []))

  -- the next region begins where this one ends
  pub region-ends : (q + 1) * t.shape.words ≡ q * t.shape.words + t.shape.words
  region-ends = omega arith

  -- at the end of the region nothing is left
  pub none-left : at ≤ t.shape.words → first_from (land_at t q) at ≡ None → starts_below t ((q + 1) * t.shape.words) ≡ starts_below t (q * t.shape.words + at)
  none-left le none = ap (starts_below t) region-ends
      ∙ starts-gap t (q * t.shape.words + at) (q * t.shape.words + t.shape.words) (omega (arith, le)) (none-behind none)

  -- the region is one of the heap
  pub region-inside : q * t.shape.words + t.shape.words ≤ t.shape.regions * t.shape.words
  region-inside = omega (arith, mul-le-mul_right {m = q + 1} {n = t.shape.regions} t.shape.words (omega (arith, within)))

  pub region-within : q * t.shape.words + t.shape.words ≤ 2 ^ 24
  region-within = omega (arith, table.shape.words_in_all, region-inside)
