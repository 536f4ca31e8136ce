-- Objects that are told one after the other, by their numbers.
use Rattle.std.proofs.Common.{◌≡◌, ◌<◌, ◌≤◌, ℕ, ◌+◌, cond, List, [], ◌∷◌, ◌++◌, get_or, length, ltb, take, inl, inr, Option, Some, None, refl, ap, sym, ◌∙◌, arith}
use Rattle.std.specs.Prelude.{◌↔◌, filter, nat_lt, option_and_then, slice_get, if◌then◌else◌}
use Rattle.std.proofs.lemmas.Bool.{cases_lt, le-ltb, lt-ltb}
use Rattle.std.proofs.lemmas.List.{take_more}
use Rattle.std.proofs.lemmas.List.Elements.{filter-append}
use Rattle.std.proofs.lemmas.Option.{get_or_from_slice_get, same_Some, slice_get_within}
use Rattle.bal_core.specs.declared.event.Decision.{Decision}
use Rattle.bal_copyfwd.specs.Moving.{Decisions, address_of_copy, copy_of, is_mark, is_marked_at}
use Rattle.bal_gather.specs.Lent.{Lent}
use Rattle.bal_gather.specs.Numbers.{number_of, starts_of}
use Rattle.bal_words.proofs.Lemmas.{same-or}

-- what was decided, of the first so many objects
abbrev pub decided_below : Decisions → ℕ → ℕ → Option Decision
decided_below decisions n k = if nat_lt k n then decisions k else None

-- where a copy is of an object, if it is one of the first so many
abbrev pub copy_below : Lent → Decisions → ℕ → ℕ → Option ℕ
copy_below l decisions n a = option_and_then address_of_copy (option_and_then (decided_below decisions n) (number_of l a))

module _ (l : Lent) (decisions : Decisions) (numbers : (a k : ℕ) → (number_of l a ≡ Some k) ↔ (slice_get (starts_of l) k ≡ Some a)) where
  -- of the first none it is nowhere
  pub copy-none : (a : ℕ) → copy_below l decisions 0 a ≡ None
  copy-none a = by (number_of l a)
    where
      by : (o : Option ℕ) → option_and_then address_of_copy (option_and_then (decided_below decisions 0) o) ≡ None
      by None = refl
      by (Some k) = ap (λ b. option_and_then address_of_copy (cond b (decisions k) None)) (le-ltb k 0 (omega arith))

  -- of one more
  pub copy-more : (old new : ℕ → Option ℕ) (n at : ℕ) → ((a : ℕ) → old a ≡ copy_below l decisions n a) → slice_get (starts_of l) n ≡ Some at
      → new at ≡ option_and_then address_of_copy (decisions n) → ((b : ℕ) → (b ≡ at → ⊥) → new b ≡ old b) → (a : ℕ) → new a ≡ copy_below l decisions (n + 1) a
  copy-more old new n at before here is others a = elim (same-or a at) [
    | inl same ↦
        ap new same
        ∙ (is
        ∙ (ap (λ b. option_and_then address_of_copy (cond b (decisions n) None)) (sym (lt-ltb n (n + 1) (omega arith)))
        ∙ (ap (λ o. option_and_then address_of_copy (option_and_then (decided_below decisions (n + 1)) o)) (sym ((numbers at n).1 here))
        ∙ ap (copy_below l decisions (n + 1)) (sym same))))
    | inr other ↦ others a other ∙ (before a ∙ by (number_of l a) refl other)
  ]
    where
      same-test : (k : ℕ) → (k ≡ n → ⊥) → ltb k n ≡ ltb k (n + 1)
      same-test k other = elim (cases_lt k n) [
        | inl less ↦ lt-ltb k n less ∙ sym (lt-ltb k (n + 1) (omega (arith, less)))
        | inr more ↦ le-ltb k n more ∙ sym (le-ltb k (n + 1) (past k other more))
      ]
        where
          past : (k : ℕ) → (k ≡ n → ⊥) → n ≤ k → n + 1 ≤ k
          past k other more = elim (cases_lt n k) [ inl less ↦ omega (arith, less) | inr not ↦ absurd (other (omega (arith, more, not))) ]

      by : (o : Option ℕ) → number_of l a ≡ o → (a ≡ at → ⊥)
          → option_and_then address_of_copy (option_and_then (decided_below decisions n) o) ≡ option_and_then address_of_copy (option_and_then (decided_below decisions (n + 1)) o)
      by None none other = refl
      by (Some k) some other =
          ap (λ b. option_and_then address_of_copy (cond b (decisions k) None))
          (same-test k (λ e. other (same_Some a at (sym ((numbers a k).0 some) ∙ (ap (slice_get (starts_of l)) e ∙ here)))))

  -- of an object that comes later
  pub copy-later : (n at : ℕ) → slice_get (starts_of l) n ≡ Some at → copy_below l decisions n at ≡ None
  copy-later n at here =
      ap (λ o. option_and_then address_of_copy (option_and_then (decided_below decisions n) o)) ((numbers at n).1 here)
      ∙ ap (λ b. option_and_then address_of_copy (cond b (decisions n) None)) (le-ltb n n (omega arith))

  -- and of all
  pub copy-all : (n : ℕ) → length (starts_of l) ≤ n → (a : ℕ) → copy_below l decisions n a ≡ copy_of l decisions a
  copy-all n all a = by (number_of l a) refl
    where
      by : (o : Option ℕ) → number_of l a ≡ o → option_and_then address_of_copy (option_and_then (decided_below decisions n) o) ≡ option_and_then address_of_copy (option_and_then decisions o)
      by None none = refl
      by (Some k) some =
          let within : k < length (starts_of l) = slice_get_within (starts_of l) k a ((numbers a k).0 some) in
          ap (λ b. option_and_then address_of_copy (cond b (decisions k) None)) (lt-ltb k n (omega (arith, within, all)))

  -- The marked ones.

  pub marked-more : (n at : ℕ) → slice_get (starts_of l) n ≡ Some at
      → filter (is_marked_at l decisions) (take (n + 1) (starts_of l)) ≡ filter (is_marked_at l decisions) (take n (starts_of l)) ++ (cond (is_mark (decisions n)) (at ∷ []) [])
  marked-more n at here =
      ap (filter (is_marked_at l decisions)) (take_more (starts_of l) n 0 (slice_get_within (starts_of l) n at here))
      ∙ (filter-append (is_marked_at l decisions) (take n (starts_of l)) (get_or (starts_of l) n 0 ∷ [])
      ∙ ap (λ (xs : List ℕ). filter (is_marked_at l decisions) (take n (starts_of l)) ++ xs) last)
    where
      last : filter (is_marked_at l decisions) (get_or (starts_of l) n 0 ∷ []) ≡ cond (is_mark (decisions n)) (at ∷ []) []
      last =
          ap (λ k. filter (is_marked_at l decisions) (k ∷ [])) (get_or_from_slice_get (starts_of l) n at 0 here)
          ∙ ap (λ o. cond (is_mark (option_and_then decisions o)) (at ∷ []) []) ((numbers at n).1 here)
