-- Addresses, the regions and offsets that they stand for, and the words after them.
use Rattle.std.proofs.Common.{◌≡◌, ℕ, ◌+◌, ◌<◌, ap, sym, ◌∙◌, arith}
use Rattle.std.proofs.Math.Nat.{mul-le-mul_right}
use Rattle.std.proofs.lemmas.Nat.{div-add-mod', div-mul-add, mod-mul-add}
use Rattle.bal_layout.specs.Addresses.{IsAddress, address_in, offset_of, region_of}
use Rattle.bal_layout.specs.Shape.{Shape}

-- an address is that of its region and its offset
pub address-is : (s : Shape) (a : ℕ) → address_in s (region_of s a) (offset_of s a) ≡ a
address-is s a = div-add-mod' a s.words

-- so two addresses with one region and one offset are one
pub same-address : (s : Shape) (a b : ℕ) → region_of s a ≡ region_of s b → offset_of s a ≡ offset_of s b → a ≡ b
same-address s a b region offset =
    sym (address-is s a) ∙ (ap (λ q. address_in s q (offset_of s a)) region ∙ (ap (address_in s (region_of s b)) offset ∙ address-is s b))

-- and each of these is read back from it
pub address-region : (s : Shape) (q at : ℕ) → at < s.words → region_of s (address_in s q at) ≡ q
address-region s q at within = div-mul-add q s.words at within

-- the offset too
pub address-offset : (s : Shape) (q at : ℕ) → at < s.words → offset_of s (address_in s q at) ≡ at
address-offset s q at within = mod-mul-add q s.words at within

-- an offset is one of a region's words
pub offset-within : (s : Shape) (a : ℕ) → 0 < s.words → offset_of s a < s.words
offset-within s a some = omega arith

-- an address in one of the regions is one of the heap's
pub address-within : (s : Shape) (a : ℕ) → 0 < s.words → region_of s a < s.regions → IsAddress s a
address-within s a some within =
    omega (arith, address-is s a, offset-within s a some, mul-le-mul_right {m = region_of s a + 1} {n = s.regions} s.words (omega arith))

-- some words after an address, in the same region
module _ (s : Shape) (a k : ℕ) (within : offset_of s a + k < s.words) where
  -- they lie after that address's offset
  place : a + k ≡ address_in s (region_of s a) (offset_of s a + k)
  place = omega (arith, address-is s a)

  -- in its region
  pub behind-region : region_of s (a + k) ≡ region_of s a
  behind-region = ap (region_of s) place ∙ address-region s (region_of s a) (offset_of s a + k) within

  -- and so many offsets further
  pub behind-offset : offset_of s (a + k) ≡ offset_of s a + k
  behind-offset = ap (offset_of s) place ∙ address-offset s (region_of s a) (offset_of s a + k) within
