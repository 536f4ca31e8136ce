-- The numbers of a full heap. A region has `room` words: `largest` that the largest object takes, and `least` others. What is
-- packed, the leaves, and what is asked for take more than `least` words of each region.
use Rattle.std.proofs.Common.{◌≡◌, ◌≤◌, ◌<◌, ◌+◌, ◌*◌, ◌⊎◌, inl, inr, ℕ, suc, ap, ◌∙◌, arith}
use Rattle.std.proofs.Math.Nat.{add-mul, mul_comm, mul-le-mul_left, mul-suc, suc-mul}
use Rattle.std.proofs.lemmas.Nat.{mul-le}

-- the words of so many regions
wide : (room least largest n : ℕ) → room ≡ least + largest → room * n ≡ n * least + largest * n
wide room least largest n size = ap (λ (m : ℕ). m * n) size ∙ (add-mul least largest n ∙ ap (λ (m : ℕ). m + largest * n) (mul_comm least n))

grows : (largest n : ℕ) → 1 ≤ largest → n ≤ largest * n
grows largest n some = let more : 1 * n ≤ largest * n = mul-le 1 n largest n some (omega arith) in omega (arith, more)

-- all regions that are no leaves were filled
pub all-filled : (room least largest regions targets leaves packed total words asked : ℕ) → room ≡ least + largest → 1 ≤ largest → 1 ≤ regions → targets + leaves ≡ regions
    → targets * suc least ≤ packed → packed + room * leaves ≤ total → regions * least < total + (words + room * asked)
all-filled room least largest regions targets leaves packed total words asked size some any split filled held =
    let all : regions * least ≡ targets * least + leaves * least = ap (λ (n : ℕ). n * least) (sym_split) ∙ add-mul targets leaves least in
    let each : targets * suc least ≡ targets * least + targets = mul-suc targets least in
    let leaf : room * leaves ≡ leaves * least + largest * leaves = wide room least largest leaves size in
    let more : leaves ≤ largest * leaves = grows largest leaves some in
    omega (arith, all, each, leaf, more, filled, held, any, split)
  where
    sym_split : regions ≡ targets + leaves
    sym_split = omega (arith, split)

-- all regions that are no leaves are free, and there are no more of them than leaves that are asked for
pub none-begun : (room least largest regions free leaves total words asked : ℕ) → room ≡ least + largest → 1 ≤ largest → 1 ≤ regions → regions ≤ free + leaves
    → free ≤ asked → room * leaves ≤ total → regions * least < total + (words + room * asked)
none-begun room least largest regions free leaves total words asked size some any split few held =
    let all : regions * least ≤ (free + leaves) * least = mul-le regions least (free + leaves) least split (omega arith) in
    let parts : (free + leaves) * least ≡ free * least + leaves * least = add-mul free leaves least in
    let leaf : room * leaves ≡ leaves * least + largest * leaves = wide room least largest leaves size in
    let spare : room * free ≡ free * least + largest * free = wide room least largest free size in
    let ask : room * free ≤ room * asked = mul-le-mul_left room few in
    let more : leaves ≤ largest * leaves = grows largest leaves some in
    let again : free ≤ largest * free = grows largest free some in
    omega (arith, all, parts, leaf, spare, ask, more, again, held, any, split)

-- some were filled, one was begun, and the others are free: too few of them, or just as many as leaves are asked for
pub some-begun : (room least largest regions before used free leaves packed total words asked : ℕ) → room ≡ least + largest → 1 ≤ largest → regions ≤ free + suc before + leaves
    → before * suc least + used ≤ packed → packed + room * leaves ≤ total → (free < asked) ⊎ ((free ≤ asked) × (room < used + words))
    → regions * least < total + (words + room * asked)
some-begun room least largest regions before used free leaves packed total words asked size some split filled held short =
    let all : regions * least ≤ (free + suc before + leaves) * least = mul-le regions least (free + suc before + leaves) least split (omega arith) in
    let parts : (free + suc before + leaves) * least ≡ (free + suc before) * least + leaves * least = add-mul (free + suc before) leaves least in
    let first : (free + suc before) * least ≡ free * least + suc before * least = add-mul free (suc before) least in
    let own : suc before * least ≡ before * least + least = suc-mul before least in
    let each : before * suc least ≡ before * least + before = mul-suc before least in
    let leaf : room * leaves ≡ leaves * least + largest * leaves = wide room least largest leaves size in
    let spare : room * free ≡ free * least + largest * free = wide room least largest free size in
    elim short [
      | inl fewer ↦ (
          let ask : room * suc free ≤ room * asked = mul-le-mul_left room fewer in
          let one : room * suc free ≡ room * free + room = mul-suc room free in
          omega (arith, all, parts, first, own, each, leaf, spare, ask, one, filled, held, some, size)
          )
      | inr over ↦ (
          let ask : room * free ≤ room * asked = mul-le-mul_left room over.0 in
          let past : room < used + words = over.1 in
          omega (arith, all, parts, first, own, each, leaf, spare, ask, past, filled, held, some, size)
          )
    ]
