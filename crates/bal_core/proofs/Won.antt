-- Each decided word is won once: kept where nothing is won, and where an open word is decided.
use Rattle.std.proofs.Common.{◌≡◌, ◌⊎◌, ℕ, inl, inr, Some, None, length, ap, sym, subst, ◌∙◌}
use Rattle.std.proofs.lemmas.Bool.{cases_eq}
use Rattle.std.proofs.lemmas.Option.{none-some, same_Some}
use Rattle.bal_core.specs.declared.event.Decision.{Decision}
use Rattle.bal_core.specs.declared.row.Told.{Told}
use Rattle.bal_core.specs.World.{At, State, row_of, word_of}
use Rattle.bal_core.specs.Steps.{told}
use Rattle.bal_core.specs.Core.{AreWonOnce, Wins}
use Rattle.bal_core.proofs.Lists.{Pushed}

pub won-same : (s t : State) → ((m : ℕ) → (row_of t m).won ≡ (row_of s m).won) → ((k : ℕ) → word_of t k ≡ word_of s k) → AreWonOnce s → AreWonOnce t
won-same s t rows words won = record {
  held = λ n i k d wins. words k ∙ won.held n i k d (back n i k d wins);
  won = λ k d word. on k d (won.won k d (sym (words k) ∙ word));
  once = λ n m i j k d e one two. won.once n m i j k d e (back n i k d one) (back m j k e two);
}
  where
    back : (n i k : ℕ) (d : Decision) → Wins t n i k d → Wins s n i k d
    back n i k d wins = subst (λ l. At l i (told k d)) (rows n) wins

    on : (k : ℕ) (d : Decision) → (n : ℕ) × (i : ℕ) × Wins s n i k d → (n : ℕ) × (i : ℕ) × Wins t n i k d
    on k d w = (w.0, w.1, subst (λ l. At l w.1 (told k d)) (sym (rows w.0)) w.2)

-- an open word of object k is decided by worker n
pub record Decides (s t : State) (n k : ℕ) (d : Decision) : Type 0 where
  pub pushed : Pushed (λ m. (row_of s m).won) (λ m. (row_of t m).won) n (told k d)
  pub was : word_of s k ≡ None
  pub is : word_of t k ≡ Some d
  pub others : (j : ℕ) → (j ≡ k → ⊥) → word_of t j ≡ word_of s j

-- a decided word stays
pub decided-stays : (s t : State) (n k : ℕ) (d : Decision) → Decides s t n k d → (j : ℕ) (e : Decision) → word_of s j ≡ Some e → word_of t j ≡ Some e
decided-stays s t n k d decides j e word =
    decides.others j (λ same. none-some e (sym decides.was ∙ ap (word_of s) (sym same) ∙ word)) ∙ word

-- won before, or this object, now
abbrev pub OldOr : State → ℕ → ℕ → Decision → ℕ → ℕ → ℕ → Decision → Type 0
OldOr s n k d m i j e = Wins s m i j e ⊎ ((m ≡ n) × (i ≡ length (row_of s n).won) × (j ≡ k) × (e ≡ d))

-- what is won afterwards was won before, or it is this object
pub wins-cases : (s t : State) (n k : ℕ) (d : Decision) → Decides s t n k d → (m i j : ℕ) (e : Decision) → Wins t m i j e
    → OldOr s n k d m i j e
wins-cases s t n k d decides m i j e wins = elim (decides.pushed.cases m i (told j e) wins) [
  | inl before ↦ inl before
  | inr here ↦ inr (here.0, here.1, ap (λ (x : Told). x.object) here.2, ap (λ (x : Told). x.decision) here.2)
]

pub won-once : (s t : State) (n k : ℕ) (d : Decision) → Decides s t n k d → AreWonOnce s → AreWonOnce t
won-once s t n k d decides won = record { held = held; won = all; once = once }
  where
    held : (m i j : ℕ) (e : Decision) → Wins t m i j e → word_of t j ≡ Some e
    held m i j e wins = elim (wins-cases s t n k d decides m i j e wins) [
      | inl before ↦ decided-stays s t n k d decides j e (won.held m i j e before)
      | inr here ↦ ap (word_of t) here.2 ∙ decides.is ∙ ap Some (sym here.3)
    ]

    all : (j : ℕ) (e : Decision) → word_of t j ≡ Some e → (m : ℕ) × (i : ℕ) × Wins t m i j e
    all j e word = elim (cases_eq j k) [
      | inl same ↦ (
        n,
        length (row_of s n).won,
        subst (λ x. At (row_of t n).won (length (row_of s n).won) x)
            (ap (λ o. told o d) (sym same) ∙ ap (told j) (same_Some d e (sym decides.is ∙ ap (word_of t) (sym same) ∙ word))) decides.pushed.new,
      )
      | inr other ↦
          let before : (m : ℕ) × (i : ℕ) × Wins s m i j e = won.won j e (sym (decides.others j other) ∙ word) in
          (before.0, before.1, decides.pushed.kept before.0 before.1 (told j e) before.2)
    ]

    -- what was won before is not the object whose word was open
    differs : (m i j : ℕ) (e : Decision) → Wins s m i j e → (j ≡ k → ⊥)
    differs m i j e before same = none-some e (sym decides.was ∙ ap (word_of s) (sym same) ∙ won.held m i j e before)

    both : (m p i q j : ℕ) (e f : Decision) → OldOr s n k d m i j e → OldOr s n k d p q j f → (m ≡ p) × (i ≡ q)
    both m p i q j e f (inl one) (inl two) = won.once m p i q j e f one two
    both m p i q j e f (inl one) (inr two) = absurd (differs m i j e one two.2)
    both m p i q j e f (inr one) (inl two) = absurd (differs p q j f two one.2)
    both m p i q j e f (inr one) (inr two) = (one.0 ∙ sym two.0, one.1 ∙ sym two.1)

    once : (m p i q j : ℕ) (e f : Decision) → Wins t m i j e → Wins t p q j f → (m ≡ p) × (i ≡ q)
    once m p i q j e f one two = both m p i q j e f (wins-cases s t n k d decides m i j e one) (wins-cases s t n k d decides p q j f two)
