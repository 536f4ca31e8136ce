-- Searches of bits, word by word.
use Rattle.std.proofs.Common.{◌≡◌, ℕ, suc, ◌+◌, ◌-◌, ◌*◌, ◌/◌, ◌%◌, ◌^◌, ◌<◌, ◌≤◌, inl, inr, true, false, eqb, List, length, get_or, None, Some, ap, sym, subst, ◌∙◌, arith}
use Rattle.std.specs.Prelude.{◌↔◌, bit_and}
use Rattle.std.specs.Int.{bit_at, leading_zeros, trailing_zeros, w64}
use Rattle.std.proofs.lemmas.Bool.{cases_lt, false≢true}
use Rattle.std.proofs.Math.Nat.{pow-suc}
use Rattle.std.proofs.lemmas.Nat.{div_below, le-div, leading_top, pow_pos}
use Rattle.std.proofs.lemmas.Nat.Bits.{bit_at-lt, bit_at-trailing_zeros, bit_at-zero, bit_at_above, bit_at_and, bit_at_mask_below, bit_at_mask_inside, bit_at_ones, bit_at_ones_above, ones_shl, ones_shr}
use Rattle.bal_base.specs.Bits.{IsLastTo, IsNextFrom}
use Rattle.bal_base.specs.KeptBits.{is_set, members_in}
use Rattle.bal_base.proofs.SetBits.{is_set-past, member-set, set-member}

-- the bits of a word that stand for numbers from one on, and those that stand for numbers up to one
abbrev pub AreFrom : ℕ → ℕ → ℕ → Type 0
AreFrom mask i at = (k : ℕ) → k < 64 → (bit_at mask k ≡ 1) ↔ (at ≤ 64 * i + k)

abbrev pub AreTo : ℕ → ℕ → ℕ → Type 0
AreTo mask i at = (k : ℕ) → k < 64 → (bit_at mask k ≡ 1) ↔ (64 * i + k ≤ at)

all-ones : (mask k : ℕ) → mask ≡ 2 ^ 64 - 1 → k < 64 → bit_at mask k ≡ 1
all-ones mask k e less = ap (λ m. bit_at m k) e ∙ bit_at_ones 64 k less

not-one : (b : ℕ) → b ≡ 0 → b ≡ 1 → ⊥
not-one b none one = omega (arith, none, one)

pub from-all : (mask i at : ℕ) → mask ≡ 2 ^ 64 - 1 → at / 64 < i → AreFrom mask i at
from-all mask i at e after = λ k less. (λ _. omega (arith, after), λ _. all-ones mask k e less)

pub to-all : (mask i at : ℕ) → mask ≡ 2 ^ 64 - 1 → i < at / 64 → AreTo mask i at
to-all mask i at e before = λ k less. (λ _. omega (arith, before, less), λ _. all-ones mask k e less)

pub from-some : (mask i at : ℕ) → mask ≡ (2 ^ 64 - 1) * 2 ^ (at % 64) % 2 ^ 64 → i ≡ at / 64 → AreFrom mask i at
from-some mask i at e here = λ k less. elim (cases_lt k (at % 64)) [
  | inl below ↦
      let none = ap (λ m. bit_at m k) (e ∙ ones_shl 64 (at % 64) (omega arith)) ∙ bit_at_mask_below (at % 64) 64 k below in
      (λ one. absurd (not-one (bit_at mask k) none one), λ from. absurd (omega (arith, from, here, below)))
  | inr inside ↦
      (λ _. omega (arith, inside, here), λ _. ap (λ m. bit_at m k) (e ∙ ones_shl 64 (at % 64) (omega arith)) ∙ bit_at_mask_inside (at % 64) 64 k inside less)
]

pub to-some : (mask i at : ℕ) → mask ≡ (2 ^ 64 - 1) / 2 ^ (63 - at % 64) → i ≡ at / 64 → AreTo mask i at
to-some mask i at e here = λ k less. elim (cases_lt k (at % 64 + 1)) [
  | inl inside ↦ (λ _. omega (arith, inside, here), λ _. ap (λ m. bit_at m k) ones ∙ bit_at_ones (at % 64 + 1) k inside)
  | inr above ↦
      let none = ap (λ m. bit_at m k) ones ∙ bit_at_ones_above (at % 64 + 1) k above in
      (λ one. absurd (not-one (bit_at mask k) none one), λ to. absurd (omega (arith, to, here, above)))
]
  where
    ones : mask ≡ 2 ^ (at % 64 + 1) - 1
    ones =
        let some : 64 - (63 - at % 64) ≡ at % 64 + 1 = omega arith in
        e ∙ (ones_shr 64 (63 - at % 64) (omega arith) ∙ ap (λ n. 2 ^ n - 1) some)

-- a bit that is left of a word is one of its bits
both-bits : (word mask k : ℕ) → bit_at (bit_and word mask) k ≡ 1 → (bit_at word k ≡ 1) × (bit_at mask k ≡ 1)
both-bits word mask k one =
    let least = bit_at_and word mask k in
    (omega (arith, least, one, bit_at-lt word k), omega (arith, least, one, bit_at-lt mask k))

-- and a bit that is not left was none, where the mask has it
no-bit : (word mask k : ℕ) → bit_at (bit_and word mask) k ≡ 0 → bit_at mask k ≡ 1 → bit_at word k ≡ 0
no-bit word mask k none one = omega (arith, bit_at_and word mask k, none, one)

unset-by : (bits : List ℕ) (s i : ℕ) → s / 64 ≡ i → bit_at (get_or bits i 0) (s % 64) ≡ 0 → is_set bits s ≡ false
unset-by bits s i here none = ap (λ j. eqb (bit_at (get_or bits j 0) (s % 64)) 1) here ∙ ap (λ b. eqb b 1) none

set-by : (bits : List ℕ) (i k : ℕ) → k < 64 → bit_at (get_or bits i 0) k ≡ 1 → is_set bits (64 * i + k) ≡ true
set-by bits i k less one =
    let here : (64 * i + k) / 64 ≡ i = omega (arith, less) in
    let place : (64 * i + k) % 64 ≡ k = omega (arith, less) in
    ap (λ j. eqb (bit_at (get_or bits j 0) ((64 * i + k) % 64)) 1) here
    ∙ (ap (λ b. eqb (bit_at (get_or bits i 0) b) 1) place ∙ ap (λ b. eqb b 1) one)

module _ (bits : List ℕ) (at i mask word : ℕ) (left : word ≡ bit_and (get_or bits i 0) mask) where
  module _ (from : AreFrom mask i at) (before : (s : ℕ) → at ≤ s → s < 64 * i → is_set bits s ≡ false) where
    -- the bits of this word below one are none where nothing is left of it below that
    none-below : (n : ℕ) → n ≤ 64 → ((k : ℕ) → k < n → bit_at word k ≡ 0) → (s : ℕ) → at ≤ s → s < 64 * i + n → is_set bits s ≡ false
    none-below n within none s le less = elim (cases_lt s (64 * i)) [
      | inl earlier ↦ before s le earlier
      | inr here ↦
          let place : s / 64 ≡ i = omega (arith, here, less, within) in
          let k : s % 64 < n = omega (arith, place, less) in
          unset-by bits s i place (no-bit (get_or bits i 0) mask (s % 64) (ap (λ w. bit_at w (s % 64)) (sym left) ∙ none (s % 64) k)
          ((from (s % 64) (omega arith)).1 (omega (arith, place, le))))
    ]

    pub next-later : word ≡ 0 → (s : ℕ) → at ≤ s → s < 64 * (i + 1) → is_set bits s ≡ false
    next-later none = λ s le less. none-below 64 (omega arith) (λ k _. ap (λ w. bit_at w k) none ∙ bit_at-zero k) s le (omega (arith, less))

    pub next-here : 0 < word → word < 2 ^ 64 → i < length bits → IsNextFrom (members_in bits) at (Some (64 * i + trailing_zeros w64 word))
    next-here some fits within =
        let k = trailing_zeros w64 word in
        let lowest = bit_at-trailing_zeros w64 word some fits in
        let both = both-bits (get_or bits i 0) mask k (ap (λ w. bit_at w k) (sym left) ∙ lowest.1) in
        (set-member bits (64 * i + k) (set-by bits i k lowest.0 both.0), (from k lowest.0).0 both.1, λ t among le. lower k lowest.0 lowest.2 t (member-set bits t among) le)
      where
        lower : (k : ℕ) → k < 64 → ((j : ℕ) → j < k → bit_at word j ≡ 0) → (t : ℕ) → is_set bits t ≡ true → at ≤ t → 64 * i + k ≤ t
        lower k less none t holds le = elim (cases_lt t (64 * i + k)) [
          | inl low ↦ absurd (false≢true (sym (none-below k (omega (arith, less)) none t le low) ∙ holds))
          | inr fits ↦ fits
        ]

  module _ (to : AreTo mask i at) (after : (s : ℕ) → s ≤ at → 64 * (i + 1) ≤ s → is_set bits s ≡ false) where
    none-above : (n : ℕ) → ((k : ℕ) → n ≤ k → k < 64 → bit_at word k ≡ 0) → (s : ℕ) → s ≤ at → 64 * i + n ≤ s → is_set bits s ≡ false
    none-above n none s le more = elim (cases_lt s (64 * (i + 1))) [
      | inl here ↦
          let place : s / 64 ≡ i = omega (arith, here, more) in
          unset-by bits s i place (no-bit (get_or bits i 0) mask (s % 64) (ap (λ w. bit_at w (s % 64)) (sym left) ∙ none (s % 64) (omega (arith, place, more)) (omega arith))
          ((to (s % 64) (omega arith)).1 (omega (arith, place, le))))
      | inr later ↦ after s le later
    ]

    pub last-earlier : word ≡ 0 → (s : ℕ) → s ≤ at → 64 * i ≤ s → is_set bits s ≡ false
    last-earlier none = λ s le more. none-above 0 (λ k _ _. ap (λ w. bit_at w k) none ∙ bit_at-zero k) s le (omega (arith, more))

    pub last-here : 0 < word → word < 2 ^ 64 → IsLastTo (members_in bits) at (Some (64 * i + 63 - leading_zeros w64 word))
    last-here some fits =
        let top = leading_top 64 word some fits in
        let k = top.0 in
        let zeros : leading_zeros w64 word + suc k ≡ 64 = top.1 in
        let less : k < 64 = omega (arith, zeros) in
        let one : bit_at word k ≡ 1 = highest k top.2 top.3 in
        let both = both-bits (get_or bits i 0) mask k (ap (λ w. bit_at w k) (sym left) ∙ one) in
        let place : 64 * i + k ≡ 64 * i + 63 - leading_zeros w64 word = omega (arith, zeros) in
        let last : IsLastTo (members_in bits) at (Some (64 * i + k)) =
        (set-member bits (64 * i + k) (set-by bits i k less both.0), (to k less).0 both.1, λ t among le. upper k top.3 t (member-set bits t among) le) in
        subst (λ s. IsLastTo (members_in bits) at (Some s)) place last
      where
        highest : (k : ℕ) → 2 ^ k ≤ word → word < 2 ^ suc k → bit_at word k ≡ 1
        highest k low high =
            let whole : word / 2 ^ k ≡ 1 = omega (arith, le-div 1 word (2 ^ k) (pow_pos k) (omega (arith, low)), div_below word (2 ^ k) 2 (pow_pos k) (omega (arith, high, pow-suc 2 k))) in
            ap (λ n. n % 2) whole

        upper : (k : ℕ) → word < 2 ^ suc k → (t : ℕ) → is_set bits t ≡ true → t ≤ at → t ≤ 64 * i + k
        upper k high t holds le = elim (cases_lt (64 * i + k) t) [
          | inl more ↦ absurd (false≢true (sym (none-above (suc k) (λ j from _. bit_at_above word (suc k) j high from) t le (omega (arith, more))) ∙ holds))
          | inr fits ↦ fits
        ]

-- no word is left
pub next-nowhere : (bits : List ℕ) (at : ℕ) → ((s : ℕ) → at ≤ s → s < 64 * length bits → is_set bits s ≡ false) → IsNextFrom (members_in bits) at None
next-nowhere bits at before = λ t among. elim (cases_lt t at) [
  | inl less ↦ less
  | inr from ↦ absurd (false≢true (sym (unset t from) ∙ member-set bits t among))
]
  where
    unset : (t : ℕ) → at ≤ t → is_set bits t ≡ false
    unset t from = elim (cases_lt t (64 * length bits)) [ inl inside ↦ before t from inside | inr past ↦ is_set-past bits t past ]

pub last-nowhere : (bits : List ℕ) (at : ℕ) → ((s : ℕ) → s ≤ at → is_set bits s ≡ false) → IsLastTo (members_in bits) at None
last-nowhere bits at after = λ s among. elim (cases_lt at s) [
  | inl less ↦ less
  | inr le ↦ absurd (false≢true (sym (after s le) ∙ member-set bits s among))
]
