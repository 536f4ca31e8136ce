-- Where objects start once one of them is moved down.
use Rattle.std.proofs.Common.{◌≡◌, ℕ, ◌+◌, ◌<◌, ◌≤◌, inl, inr, true, not, cond, List, [], ◌∷◌, length, map, refl, ap, sym, subst, ◌∙◌, arith}
use Rattle.std.specs.Prelude.{IsSome}
use Rattle.std.proofs.lemmas.Bool.{eq-eqb, false≢true, ne_eqb}
use Rattle.bal_base.specs.Bits.{is_member, with_member, without_member}
use Rattle.bal_base.proofs.Lemmas.{with-first, with-later}
use Rattle.bal_region.specs.Changes.{start_moved}
use Rattle.bal_region.specs.Land.{Laid, header_at, size_at, size_by}
use Rattle.bal_region.proofs.Lands.{among-cases, among-first, among-later, laid-each, laid-lower, laid-same, size-same, size-two}

module _ (from to : ℕ) where
  moved-here : (s : ℕ) → s ≡ from → start_moved from to s ≡ to
  moved-here s same = ap (λ b. cond b to s) (eq-eqb s from same)

  moved-other : (s : ℕ) → (s ≡ from → ⊥) → start_moved from to s ≡ s
  moved-other s other = ap (λ b. cond b to s) (ne_eqb s from other)

  -- all others start where they did
  moved-none : (ss : List ℕ) → ((s : ℕ) → is_member ss s ≡ true → s ≡ from → ⊥) → map (start_moved from to) ss ≡ ss
  moved-none [] other = refl
  moved-none (s ∷ ss) other =
      ap (λ k. k ∷ map (start_moved from to) ss) (moved-other s (other s (among-first s ss)))
      ∙ ap (λ (ks : List ℕ). s ∷ ks) (moved-none ss (λ t among. other t (among-later s t ss among)))

  without-none : (ss : List ℕ) → ((s : ℕ) → is_member ss s ≡ true → s ≡ from → ⊥) → without_member from ss ≡ ss
  without-none [] other = refl
  without-none (s ∷ ss) other =
      ap (λ b. cond (not b) (s ∷ without_member from ss) (without_member from ss)) (ne_eqb s from (other s (among-first s ss)))
      ∙ ap (λ (ks : List ℕ). s ∷ ks) (without-none ss (λ t among. other t (among-later s t ss among)))

  module _ (words : List ℕ) (down : to ≤ from) where
    -- those after the moved object start behind it
    behind : (low : ℕ) (ss : List ℕ) (end : ℕ) → from < low → Laid words low ss end → (s : ℕ) → is_member ss s ≡ true → s ≡ from → ⊥
    behind low ss end less laid s among same = omega (arith, less, same, (laid-each words low ss end s laid among).0)

    -- the starts without the old place and with the new one
    pub starts-slid : (low : ℕ) (ss : List ℕ) (end : ℕ) → Laid words low ss end → is_member ss from ≡ true
        → ((s : ℕ) → is_member ss s ≡ true → s < from → s + size_at words s ≤ to) → with_member to (without_member from ss) ≡ map (start_moved from to) ss
    starts-slid low [] end laid among clear = absurd (false≢true among)
    starts-slid low (s ∷ ss) end laid among clear = elim (among-cases s from ss among) [
      | inl here ↦
          let two = size-two words s laid.1 in
          let others = behind (s + size_at words s) ss end (omega (arith, here, two)) laid.2 in
          ap (λ b. with_member to (cond (not b) (s ∷ without_member from ss) (without_member from ss))) (eq-eqb s from here)
          ∙ (ap (with_member to) (without-none ss others)
          ∙ (with-first to ss (λ t later. omega (arith, here, down, two, (laid-each words (s + size_at words s) ss end t laid.2 later).0))
          ∙ (ap (λ k. k ∷ ss) (sym (moved-here s here)) ∙ ap (λ (ks : List ℕ). start_moved from to s ∷ ks) (sym (moved-none ss others)))))
      | inr later ↦
          let two = size-two words s laid.1 in
          let less : s < from = omega (arith, two, (laid-each words (s + size_at words s) ss end from laid.2 later).0) in
          let other : s ≡ from → ⊥ = λ e. omega (arith, e, less) in
          ap (λ b. with_member to (cond (not b) (s ∷ without_member from ss) (without_member from ss))) (ne_eqb s from other)
          ∙ (with-later to s (without_member from ss) (omega (arith, two, clear s (among-first s ss) less))
          ∙ (ap (λ (ks : List ℕ). s ∷ ks) (starts-slid (s + size_at words s) ss end laid.2 later (λ t among. clear t (among-later s t ss among)))
          ∙ ap (λ k. k ∷ map (start_moved from to) ss) (sym (moved-other s other))))
    ]

  -- Other words, with all headers as they were, but for the one that was moved.
  module _ (xs ys : List ℕ) (long : length xs ≡ length ys) (down : to ≤ from) (header : header_at xs from ≡ header_at ys to) where
    size-moved : size_at xs from ≡ size_at ys to
    unfolding size_at
    size-moved = ap (λ n. size_by n (header_at xs from)) long ∙ ap (size_by (length ys)) header

    -- the objects lie one after the other still
    pub laid-slid : (low : ℕ) (ss : List ℕ) (end : ℕ) → Laid xs low ss end → low ≤ to
        → ((s : ℕ) → is_member ss s ≡ true → s < from → s + size_at xs s ≤ to)
        → ((s : ℕ) → is_member ss s ≡ true → (s ≡ from → ⊥) → header_at xs s ≡ header_at ys s) → is_member ss from ≡ true
        → Laid ys low (map (start_moved from to) ss) end
    laid-slid low [] end laid room clear same among = absurd (false≢true among)
    laid-slid low (s ∷ ss) end laid room clear same among = elim (among-cases s from ss among) [
      | inl here ↦
          let two = size-two xs s laid.1 in
          let others = behind xs down (s + size_at xs s) ss end (omega (arith, here, two)) laid.2 in
          let size = ap (size_at xs) here ∙ size-moved in
          let rest = laid-same xs ys (s + size_at xs s) ss end long (λ t later _. same t (among-later s t ss later) (others t later)) laid.2 in
          subst (λ k. Laid ys low (k ∷ map (start_moved from to) ss) end) (sym (moved-here s here))
          (subst (λ ks. Laid ys low (to ∷ ks) end) (sym (moved-none ss others)) (
            room,
            subst IsSome (ap (header_at xs) here ∙ header) laid.1,
            laid-lower ys (s + size_at xs s) (to + size_at ys to) ss end (omega (arith, down, here, size)) rest,
          ))
      | inr later ↦
          let two = size-two xs s laid.1 in
          let less : s < from = omega (arith, two, (laid-each xs (s + size_at xs s) ss end from laid.2 later).0) in
          let other : s ≡ from → ⊥ = λ e. omega (arith, e, less) in
          let kept = same s (among-first s ss) other in
          subst (λ k. Laid ys low (k ∷ map (start_moved from to) ss) end) (sym (moved-other s other)) (
            laid.0,
            subst IsSome kept laid.1,
            subst (λ n. Laid ys (s + n) (map (start_moved from to) ss) end) (size-same xs ys s long kept)
                (laid-slid (s + size_at xs s) ss end laid.2 (clear s (among-first s ss) less) (λ t among. clear t (among-later s t ss among))
                (λ t among. same t (among-later s t ss among)) later),
          )
    ]
