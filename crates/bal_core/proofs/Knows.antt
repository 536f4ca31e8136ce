-- What workers know: kept where nothing is learned, and where a worker learns of a decision.
use Rattle.std.proofs.Common.{◌≡◌, ◌⊎◌, ℕ, inl, inr, IsTrue, Some, length, take, ap, sym, subst, ◌∙◌, ◌<◌, ◌≤◌, arith}
use Rattle.std.proofs.Math.Seq.{take-length}
use Rattle.std.proofs.lemmas.Option.{slice_get_within}
use Rattle.bal_core.specs.declared.event.Decision.{Decision}
use Rattle.bal_core.specs.declared.row.Told.{Told}
use Rattle.bal_core.specs.World.{At, State, row_of, word_of}
use Rattle.bal_core.specs.Steps.{is_reached, told}
use Rattle.bal_core.specs.Core.{AreKnown, Wins}
use Rattle.bal_core.proofs.Lists.{Pushed}

pub known-same : (s t : State) → t.world ≡ s.world → ((m : ℕ) → (row_of t m).known ≡ (row_of s m).known)
    → ((m : ℕ) → (row_of t m).won ≡ (row_of s m).won) → ((k : ℕ) → word_of t k ≡ word_of s k) → AreKnown s → AreKnown t
known-same s t world rows won words known = record {
  held = λ n i k d at. words k ∙ known.held n i k d (back n i k d at);
  won = λ n i k d wins. on n k d (known.won n i k d (subst (λ l. At l i (told k d)) (won n) wins));
  reached = λ n i k d at.
      subst (λ l. IsTrue (is_reached t.world (take i l) k)) (sym (rows n))
      (subst (λ w. IsTrue (is_reached w (take i (row_of s n).known) k)) (sym world) (known.reached n i k d (back n i k d at)));
}
  where
    back : (n i k : ℕ) (d : Decision) → At (row_of t n).known i (told k d) → At (row_of s n).known i (told k d)
    back n i k d at = subst (λ l. At l i (told k d)) (rows n) at

    on : (n k : ℕ) (d : Decision) → (j : ℕ) × At (row_of s n).known j (told k d) → (j : ℕ) × At (row_of t n).known j (told k d)
    on n k d w = (w.0, subst (λ l. At l w.0 (told k d)) (sym (rows n)) w.1)

-- worker n learns that object k is decided so, as it is afterwards; it came to the object before
pub record Learns (s t : State) (n k : ℕ) (d : Decision) : Type 0 where
  pub world : t.world ≡ s.world
  pub pushed : Pushed (λ m. (row_of s m).known) (λ m. (row_of t m).known) n (told k d)
  pub is : word_of t k ≡ Some d
  pub stay : (j : ℕ) (e : Decision) → word_of s j ≡ Some e → word_of t j ≡ Some e
  pub won : (m i j : ℕ) (e : Decision) → Wins t m i j e → Wins s m i j e ⊎ ((m ≡ n) × (j ≡ k) × (e ≡ d))
  pub reached : IsTrue (is_reached s.world (row_of s n).known k)

pub known-more : (s t : State) (n k : ℕ) (d : Decision) → Learns s t n k d → AreKnown s → AreKnown t
known-more s t n k d learns known = record { held = held; won = won; reached = reached }
  where
    held : (m i j : ℕ) (e : Decision) → At (row_of t m).known i (told j e) → word_of t j ≡ Some e
    held m i j e at = elim (learns.pushed.cases m i (told j e) at) [
      | inl before ↦ learns.stay j e (known.held m i j e before)
      | inr here ↦ ap (λ (x : Told). word_of t x.object) here.2 ∙ learns.is ∙ ap (λ (x : Told). Some x.decision) (sym here.2)
    ]

    won : (m i j : ℕ) (e : Decision) → Wins t m i j e → (p : ℕ) × At (row_of t m).known p (told j e)
    won m i j e wins = elim (learns.won m i j e wins) [
      | inl before ↦
          let old : (p : ℕ) × At (row_of s m).known p (told j e) = known.won m i j e before in
          (old.0, learns.pushed.kept m old.0 (told j e) old.1)
      | inr here ↦ (
        length (row_of s n).known,
        subst (λ o. At (row_of t o).known (length (row_of s n).known) (told j e)) (sym here.0)
            (subst (λ x. At (row_of t n).known (length (row_of s n).known) x) (ap (λ o. told o d) (sym here.1) ∙ ap (told j) (sym here.2)) learns.pushed.new),
      )
    ]

    in-world : (m i j : ℕ) → i ≤ length (row_of s m).known → IsTrue (is_reached s.world (take i (row_of s m).known) j)
        → IsTrue (is_reached t.world (take i (row_of t m).known) j)
    in-world m i j most here =
        subst (λ l. IsTrue (is_reached t.world l j)) (sym (learns.pushed.taken m i most))
        (subst (λ w. IsTrue (is_reached w (take i (row_of s m).known) j)) (sym learns.world) here)

    reached : (m i j : ℕ) (e : Decision) → At (row_of t m).known i (told j e) → IsTrue (is_reached t.world (take i (row_of t m).known) j)
    reached m i j e at = elim (learns.pushed.cases m i (told j e) at) [
      | inl before ↦
          in-world m i j (let less : i < length (row_of s m).known = slice_get_within (row_of s m).known i (told j e) before in omega (arith, less))
          (known.reached m i j e before)
      | inr here ↦
          in-world m i j (let whole : i ≡ length (row_of s m).known = here.1 ∙ ap (λ o. length (row_of s o).known) (sym here.0) in omega (arith, whole))
          (subst (λ o. IsTrue (is_reached s.world (take i (row_of s o).known) j)) (sym here.0)
          (subst (λ l. IsTrue (is_reached s.world l j)) (sym (ap (λ q. take q (row_of s n).known) here.1 ∙ take-length (row_of s n).known))
          (subst (λ o. IsTrue (is_reached s.world (row_of s n).known o)) (ap (λ (x : Told). x.object) (sym here.2)) learns.reached)))
    ]
