-- An abort has a cause: kept wherever what is marked, seen and raised afterwards was so before, or has a cause now.
use Rattle.std.proofs.Common.{◌≡◌, ◌⊎◌, ℕ, inl, inr, Bool, true, false, IsTrue, Some, refl, ap, sym, subst, ◌∙◌}
use Rattle.std.specs.Prelude.{◌||◌}
use Rattle.std.specs.List.{list_any}
use Rattle.std.proofs.lemmas.List.Folds.{list_any_at}
use Rattle.std.proofs.lemmas.Option.{get_or_from_slice_get, slice_get_within}
use Rattle.bal_core.specs.declared.event.Decision.TheVariants as decision
use Rattle.bal_core.specs.World.{At, State, row_of, word_of}
use Rattle.bal_core.specs.Steps.{has_cause}
use Rattle.bal_core.specs.Core.{IsRaised}

or-right : (a b : Bool) → b ≡ true → (a || b) ≡ true
or-right true b right = refl
or-right false b right = right

-- a wish is a cause, and so is a drained pool
pub wish-is-cause : (s : State) (n : ℕ) → At s.wished n true → IsTrue (has_cause s)
wish-is-cause s n at =
    or-right s.drained (list_any (λ wished. wished) s.wished)
    (list_any_at (λ wished. wished) s.wished n false (slice_get_within s.wished n true at) (get_or_from_slice_get s.wished n true false at))

pub drained-is-cause : (s : State) → IsTrue s.drained → IsTrue (has_cause s)
drained-is-cause s drained = ap (λ b. b || list_any (λ wished. wished) s.wished) drained

pub record Keeps (s t : State) : Type 0 where
  pub causes : IsTrue (has_cause s) → IsTrue (has_cause t)
  pub marked : (k : ℕ) → word_of t k ≡ Some decision.Marked → (word_of s k ≡ Some decision.Marked) ⊎ IsTrue (has_cause t)
  pub saw : (m : ℕ) → IsTrue (row_of t m).saw → IsTrue (row_of s m).saw ⊎ IsTrue (has_cause t)
  pub sees : (m : ℕ) → IsTrue (row_of s m).saw → IsTrue (row_of t m).saw
  pub raised : (m : ℕ) → IsTrue (row_of t m).raised → IsTrue (row_of s m).raised ⊎ IsTrue (row_of t m).saw
  pub raises : (m : ℕ) → IsTrue (row_of s m).raised → IsTrue (row_of t m).raised
  pub wished : (m : ℕ) → At t.wished m true → At s.wished m true ⊎ IsTrue (row_of t m).raised

pub raised-kept : (s t : State) → Keeps s t → IsRaised s → IsRaised t
raised-kept s t keeps r = record {
  marked = λ k word. elim (keeps.marked k word) [ inl before ↦ keeps.causes (r.marked k before) | inr now ↦ now ];
  saw = λ m here. elim (keeps.saw m here) [ inl before ↦ keeps.causes (r.saw m before) | inr now ↦ now ];
  raised = λ m here. elim (keeps.raised m here) [ inl before ↦ keeps.sees m (r.raised m before) | inr now ↦ now ];
  wished = λ m here. elim (keeps.wished m here) [ inl before ↦ keeps.raises m (r.wished m before) | inr now ↦ now ];
}

-- nothing is raised or seen
pub raised-same : (s t : State) → ((m : ℕ) → (row_of t m).saw ≡ (row_of s m).saw) → ((m : ℕ) → (row_of t m).raised ≡ (row_of s m).raised)
    → t.wished ≡ s.wished → t.drained ≡ s.drained
    → ((k : ℕ) → word_of t k ≡ Some decision.Marked → (word_of s k ≡ Some decision.Marked) ⊎ IsTrue (has_cause s)) → IsRaised s → IsRaised t
raised-same s t saw raised wished drained marked r =
    raised-kept s t
    (record {
      causes = causes;
      marked = λ k word. elim (marked k word) [ inl before ↦ inl before | inr now ↦ inr (causes now) ];
      saw = λ m here. inl (sym (saw m) ∙ here);
      sees = λ m here. saw m ∙ here;
      raised = λ m here. inl (sym (raised m) ∙ here);
      raises = λ m here. raised m ∙ here;
      wished = λ m here. inl (subst (λ l. At l m true) wished here);
    }) r
  where
    causes : IsTrue (has_cause s) → IsTrue (has_cause t)
    causes here = ap (λ l. t.drained || list_any (λ w. w) l) wished ∙ ap (λ b. b || list_any (λ w. w) s.wished) drained ∙ here
