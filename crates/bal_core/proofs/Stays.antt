-- A decided word stays.
use Rattle.std.proofs.Common.{◌≡◌, ℕ, inl, inr, List, [], ◌∷◌, Option, Some, None, refl, ap, sym, ◌∙◌}
use Rattle.std.specs.Prelude.{slice_get}
use Rattle.std.proofs.lemmas.Bool.{cases_eq}
use Rattle.std.proofs.lemmas.List.{get_or-set_other}
use Rattle.std.proofs.lemmas.Option.{none-some}
use Rattle.bal_layout.specs.declared.name.Abort.{Abort}
use Rattle.bal_layout.specs.declared.name.Abort.TheVariants as abort
use Rattle.bal_core.specs.declared.event.Decision.{Decision}
use Rattle.bal_core.specs.declared.event.Decision.TheVariants as decision
use Rattle.bal_core.specs.declared.event.CoreEvent.{CoreEvent}
use Rattle.bal_core.specs.declared.event.CoreEvent.TheVariants as event
use Rattle.bal_core.specs.declared.event.CoreFault.{CoreFault}
use Rattle.bal_core.specs.World.{State, word_of}
use Rattle.bal_core.specs.Steps.{after, after_all, after_claim, after_draw, after_look, after_or_passed, after_raise, fault_of, passing}

module _ (s : State) (k : ℕ) (d : Decision) (word : word_of s k ≡ Some d) where
  claims : (n j : ℕ) (e : Decision) (o : Option Decision) → word_of s j ≡ o → word_of (after_claim s n j e o) k ≡ Some d
  claims n j e (Some found) is = word
  claims n j e None is = elim (cases_eq k j) [
    | inl same ↦ absurd (none-some d (sym is ∙ ap (word_of s) (sym same) ∙ word))
    | inr other ↦ get_or-set_other s.words j k (Some e) None other ∙ word
  ]

  looks : (n j : ℕ) (o : Option Decision) → word_of (after_look s n j o) k ≡ Some d
  looks n j None = word
  looks n j (Some found) = word

  draws : (n age : ℕ) (o : Option ℕ) → word_of (after_draw s n age o) k ≡ Some d
  draws n age None = word
  draws n age (Some region) = word

  raises : (n : ℕ) (cause : Abort) → word_of (after_raise s n cause) k ≡ Some d
  raises n (abort.Wished w) = word
  raises n abort.Drained = word

  stays-after : (e : CoreEvent) → word_of (after e s) k ≡ Some d
  stays-after (event.Look n j) = looks n j (word_of s j)
  stays-after (event.Copy n j a) = claims n j (decision.Copied a) (word_of s j) refl
  stays-after (event.Mark n j) = claims n j decision.Marked (word_of s j) refl
  stays-after (event.Draw n age) = draws n age (slice_get s.world.pool s.counter)
  stays-after (event.Raise n cause) = raises n cause
  stays-after (event.Raised n) = word

  stays-passing : (e : CoreEvent) → word_of (passing e s) k ≡ Some d
  unfolding passing
  stays-passing e = by (fault_of s e)
    where
      by : (o : Option CoreFault) → word_of (after_or_passed o e s) k ≡ Some d
      by None = stays-after e
      by (Some f) = word

pub stays-all : (events : List CoreEvent) (s : State) (k : ℕ) (d : Decision) → word_of s k ≡ Some d → word_of (after_all events s) k ≡ Some d
unfolding after_all
stays-all [] s k d word = word
stays-all (e ∷ events) s k d word = stays-all events (passing e s) k d (stays-passing s k d word e)
