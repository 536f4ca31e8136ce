-- Numbers as bits of words.
use Rattle.std.proofs.Common.{◌≡◌, ℕ, ◌+◌, ◌*◌, ◌/◌, ◌%◌, ◌^◌, ◌<◌, ◌≤◌, inl, inr, true, false, eqb, List, [], length, set, get_or, refl, ap, sym, ◌∙◌, arith, length-set, get_or-set_other, get_or-set_same}
use Rattle.std.specs.Prelude.{bit_and, bit_or}
use Rattle.std.specs.Int.{bit_at, bit_not, w64}
use Rattle.std.specs.List.{filter, range_with_len}
use Rattle.std.proofs.lemmas.Bool.{cases_Bool, cases_eq, cases_lt, false≢true}
use Rattle.std.proofs.lemmas.List.{get_or_past}
use Rattle.std.proofs.lemmas.Nat.Bits.{bit_at-zero, bit_at_clear_other, bit_at_clear_same, bit_at_set_other, bit_at_set_same}
use Rattle.bal_base.specs.Bits.{IsAscending, is_member, with_member, without_member}
use Rattle.bal_base.specs.KeptBits.{is_set, members_in}
use Rattle.bal_base.specs.Filling.{padded}
use Rattle.bal_base.proofs.Members.{filter-ascends, filter-longer, filter-with, filter-without, member-passes, member-there}
use Rattle.bal_base.proofs.Padded.{get_or-padded, length-grown}

-- no bit is set after the words
pub is_set-past : (bits : List ℕ) (i : ℕ) → 64 * length bits ≤ i → is_set bits i ≡ false
is_set-past bits i past =
    ap (λ w. eqb (bit_at w (i % 64)) 1) (get_or_past bits (i / 64) 0 (omega (arith, past)))
    ∙ ap (λ b. eqb b 1) (bit_at-zero (i % 64))

-- nor in zeros that were written after them
pub is_set-grown : (bits : List ℕ) (end i : ℕ) → is_set (padded end bits) i ≡ is_set bits i
is_set-grown bits end i = ap (λ w. eqb (bit_at w (i % 64)) 1) (get_or-padded end bits (i / 64))

-- a number is one by its word and its place there
same-offset : (i j : ℕ) → i / 64 ≡ j / 64 → i % 64 ≡ j % 64 → i ≡ j
same-offset i j words bits = omega (arith, words, bits)

module _ (bits : List ℕ) (at : ℕ) (within : at / 64 < length bits) (other : ℕ)
    (kept : (k : ℕ) → k < 64 → (k ≡ at % 64 → ⊥) → bit_at other k ≡ bit_at (get_or bits (at / 64) 0) k) where
  -- another word with that bit changed alone changes that number alone
  pub is_set-other : (i : ℕ) → (i ≡ at → ⊥) → is_set (set bits (at / 64) other) i ≡ is_set bits i
  is_set-other i apart = elim (cases_eq (i / 64) (at / 64)) [
    | inl same ↦
        ap (λ w. eqb (bit_at (get_or (set bits (at / 64) other) w 0) (i % 64)) 1) same
        ∙ (ap (λ w. eqb (bit_at w (i % 64)) 1) (get_or-set_same bits (at / 64) other 0 within)
        ∙ (ap (λ b. eqb b 1) (kept (i % 64) (omega arith) (λ e. apart (same-offset i at same e)))
        ∙ ap (λ w. eqb (bit_at (get_or bits w 0) (i % 64)) 1) (sym same)))
    | inr apart ↦ ap (λ w. eqb (bit_at w (i % 64)) 1) (get_or-set_other bits (at / 64) (i / 64) other 0 apart)
  ]

  pub is_set-here : (b : ℕ) → bit_at other (at % 64) ≡ b → is_set (set bits (at / 64) other) at ≡ eqb b 1
  is_set-here b e = ap (λ w. eqb (bit_at w (at % 64)) 1) (get_or-set_same bits (at / 64) other 0 within) ∙ ap (λ c. eqb c 1) e

-- a number more
pub members-more : (bits : List ℕ) (at word : ℕ) → word ≡ bit_or (get_or (padded (at / 64 + 1) bits) (at / 64) 0) (1 * 2 ^ (at % 64) % 2 ^ 64)
    → members_in (set (padded (at / 64 + 1) bits) (at / 64) word) ≡ with_member at (members_in bits)
unfolding members_in
members-more bits at word e =
    let grown = padded (at / 64 + 1) bits in
    let long = length-grown (at / 64 + 1) bits in
    let after = set grown (at / 64) word in
    let same : length after ≡ length grown = length-set grown (at / 64) word in
    let kept : (k : ℕ) → k < 64 → (k ≡ at % 64 → ⊥) → bit_at word k ≡ bit_at (get_or grown (at / 64) 0) k =
    λ k less apart. ap (λ w. bit_at w k) e ∙ bit_at_set_other w64 (get_or grown (at / 64) 0) (at % 64) (omega arith) k apart in
    let here = ap (λ w. bit_at w (at % 64)) e ∙ bit_at_set_same w64 (get_or grown (at / 64) 0) (at % 64) (omega arith) in
    filter-with (is_set bits) (is_set after) 0 (64 * length after) at (omega arith) (omega (arith, same, long.0))
    (is_set-here grown at (omega (arith, long.0)) word kept 1 here)
    (λ t apart. is_set-other grown at (omega (arith, long.0)) word kept t apart ∙ is_set-grown bits (at / 64 + 1) t)
    ∙ ap (with_member at) (filter-longer (is_set bits) 0 (64 * length bits) (64 * length after) (omega (arith, same, long.1)) (λ t from. is_set-past bits t (omega (arith, from))))

-- a number less
pub members-less : (bits : List ℕ) (at word : ℕ) → at / 64 < length bits → word ≡ bit_and (get_or bits (at / 64) 0) (bit_not w64 (1 * 2 ^ (at % 64) % 2 ^ 64))
    → members_in (set bits (at / 64) word) ≡ without_member at (members_in bits)
unfolding members_in
members-less bits at word within e =
    let after = set bits (at / 64) word in
    let kept : (k : ℕ) → k < 64 → (k ≡ at % 64 → ⊥) → bit_at word k ≡ bit_at (get_or bits (at / 64) 0) k =
    λ k less apart. ap (λ w. bit_at w k) e ∙ bit_at_clear_other w64 (get_or bits (at / 64) 0) (at % 64) (omega arith) k less apart in
    let here = ap (λ w. bit_at w (at % 64)) e ∙ bit_at_clear_same w64 (get_or bits (at / 64) 0) (at % 64) (omega arith) in
    ap (λ n. filter (is_set after) (range_with_len 0 (64 * n))) (length-set bits (at / 64) word)
    ∙ filter-without (is_set bits) (is_set after) at (range_with_len 0 (64 * length bits))
    (is_set-here bits at within word kept 0 here)
    (λ t apart. is_set-other bits at within word kept t apart)

-- a member has its bit
pub member-set : (bits : List ℕ) (at : ℕ) → is_member (members_in bits) at ≡ true → is_set bits at ≡ true
unfolding members_in
member-set bits at among = (member-passes (is_set bits) 0 (64 * length bits) at among).0

pub member-within : (bits : List ℕ) (at : ℕ) → is_member (members_in bits) at ≡ true → at / 64 < length bits
member-within bits at among = elim (cases_lt at (64 * length bits)) [
  | inl inside ↦ omega (arith, inside)
  | inr past ↦ absurd (false≢true (sym (is_set-past bits at past) ∙ member-set bits at among))
]

pub set-member : (bits : List ℕ) (at : ℕ) → is_set bits at ≡ true → is_member (members_in bits) at ≡ true
unfolding members_in
set-member bits at holds = elim (cases_lt at (64 * length bits)) [
  | inl inside ↦ member-there (is_set bits) 0 (64 * length bits) at (omega arith) (omega (arith, inside)) holds
  | inr past ↦ absurd (false≢true (sym (is_set-past bits at past) ∙ holds))
]

-- no word has no member
pub members-none : (bits : List ℕ) → bits ≡ [] → members_in bits ≡ []
unfolding members_in
members-none bits none = ap (λ (l : List ℕ). filter (is_set l) (range_with_len 0 (64 * length l))) none

-- a bit tells whether its number is a member
pub set-is_member : (bits : List ℕ) (at : ℕ) → is_set bits at ≡ is_member (members_in bits) at
set-is_member bits at = elim (cases_Bool (is_set bits at)) [
  | inl holds ↦ holds ∙ sym (set-member bits at holds)
  | inr fails ↦ elim (cases_Bool (is_member (members_in bits) at)) [
    | inl among ↦ absurd (false≢true (sym fails ∙ member-set bits at among))
    | inr apart ↦ fails ∙ sym apart
  ]
]

-- a number that has no bit is no member that could be taken away
pub members-kept : (bits : List ℕ) (at : ℕ) → is_set bits at ≡ false → members_in bits ≡ without_member at (members_in bits)
unfolding members_in
members-kept bits at none = filter-without (is_set bits) (is_set bits) at (range_with_len 0 (64 * length bits)) none (λ t apart. refl)

-- members ascend
pub members-ascend : (bits : List ℕ) → IsAscending (members_in bits)
unfolding members_in
members-ascend bits = filter-ascends (is_set bits) 0 (64 * length bits)
