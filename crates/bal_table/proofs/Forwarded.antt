-- Where moved objects went: what one more move changes.
use Rattle.std.proofs.Common.{◌≡◌, ℕ, zero, suc, ◌<◌, ◌^◌, inl, inr, true, length, length-set, get_or, replicate, Option, Some, None, refl, ap, sym, subst, ◌∙◌, arith}
use Rattle.std.proofs.lemmas.Bool.{cases_eq, cases_lt}
use Rattle.std.proofs.lemmas.List.{get_or-replicate, get_or-set_other, get_or-set_same, get_or_past, length-replicate}
use Rattle.std.proofs.lemmas.Option.{none-some}
use Rattle.std.specs.Prelude.{is_some, unwrap_or}
use Rattle.bal_layout.specs.References.{target_of, word_of}
use Rattle.bal_table.specs.Moves.{Forwarding, IsForwarding, moved, no_moves, with_move}

pub moved-own : (m : Forwarding) (a to : ℕ) → a < length m.words → moved (with_move m a to) a ≡ Some to
moved-own m a to within = ap target_of (get_or-set_same m.words a (word_of to) 0 within)

pub moved-others : (m : Forwarding) (a to b : ℕ) → (a ≡ b → ⊥) → moved (with_move m a to) b ≡ moved m b
moved-others m a to b other = ap target_of (get_or-set_other m.words a b (word_of to) 0 (λ e. other (sym e)))

pub zeros-read : (n k : ℕ) → ◌≡◌ {A = ℕ} (get_or (replicate n 0) k 0) 0
zeros-read n k = elim (cases_lt k n) [
  | inl inside ↦ get_or-replicate n k 0 0 inside
  | inr after ↦ get_or_past (replicate n 0) k 0 (omega (arith, after, length-replicate {A = ℕ} n 0))
]

pub moved-none : (words a : ℕ) → moved (no_moves words) a ≡ None
moved-none words a = ap target_of (zeros-read words a)

-- a word that is not null leads somewhere
pub leads-somewhere : (word : ℕ) → (word ≡ 0 → ⊥) → is_some (target_of word) ≡ true
leads-somewhere zero some = absurd (some refl)
leads-somewhere (suc n) some = refl

-- what moved started at an address of the heap
pub moved-from : (m : Forwarding) (a to : ℕ) → moved m a ≡ Some to → a < length m.words
moved-from m a to is = elim (cases_lt a (length m.words)) [
  | inl inside ↦ inside
  | inr past ↦ absurd (none-some to (ap target_of (sym (get_or_past m.words a 0 past)) ∙ is))
]

pub IsForwarding-none : (words : ℕ) → words < 2 ^ 32 → IsForwarding (no_moves words)
IsForwarding-none words few = record {
  within = λ a to is. absurd (none-some to (sym (moved-none words a) ∙ is));
  few = omega (arith, few, length-replicate {A = ℕ} words 0);
}

pub IsForwarding-more : (m : Forwarding) (a to : ℕ) → IsForwarding m → a < length m.words → to < length m.words → IsForwarding (with_move m a to)
IsForwarding-more m a to is from within = record {
  within = λ b t found. elim (cases_eq a b) [
    | inl same ↦
        let own : Some to ≡ Some t = sym (subst (λ n. moved (with_move m a to) n ≡ Some to) same (moved-own m a to from)) ∙ found in
        omega (arith, within, ap (λ (o : Option ℕ). unwrap_or o 0) own, length-set m.words a (word_of to))
    | inr other ↦ omega (arith, is.within b t (sym (moved-others m a to b other) ∙ found), length-set m.words a (word_of to))
  ];
  few = let few = is.few in omega (arith, few, length-set m.words a (word_of to));
}
