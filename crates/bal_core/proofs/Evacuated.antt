-- A state at rest shows a finished evacuation.
use Rattle.std.proofs.Common.{◌≡◌, ◌<◌, ◌≤◌, ℕ, inl, inr, IsTrue, length, min, ap, sym, subst, ◌∙◌, arith}
use Rattle.std.proofs.lemmas.Bool.{cases_lt, false≢true, or_cases}
use Rattle.std.proofs.lemmas.List.{get_or_past, length-map}
use Rattle.std.proofs.Math.ListN.{get_or-map}
use Rattle.std.proofs.lemmas.Option.{slice_get_within}
use Rattle.bal_core.specs.declared.event.Decision.{Decision}
use Rattle.bal_core.specs.declared.event.Decision.TheVariants as decision
use Rattle.bal_core.specs.declared.row.Drawn.{Drawn}
use Rattle.bal_core.specs.World.{At, Row, State, blank, row_of}
use Rattle.bal_core.specs.Steps.{has_cause, told, used}
use Rattle.bal_core.specs.Core.{Fits, IsCore}
use Rattle.bal_core.specs.Rest.{IsAtRest, IsDecided}
use Rattle.bal_core.specs.Finished.{AreCauses, AreCopies, AreRegions, AreSurvivors, Evacuation, IsAborted, IsEvacuated, Receives, Survives, drawn_by, evacuation_of, won_by}
use Rattle.bal_core.proofs.Allowed.{any-at}
use Rattle.bal_core.proofs.Apart.{copies-apart, region-once}
use Rattle.bal_core.proofs.Bounds.{used-within}
use Rattle.bal_core.proofs.Walks.{decided-ends, walked-decided}

module _ (s : State) where
  abbrev e : Evacuation
  e = evacuation_of s

  won-is : (n : ℕ) → won_by e n ≡ (row_of s n).won
  won-is n = get_or-map (λ (r : Row). r.won) s.crew n blank

  drawn-is : (n : ℕ) → drawn_by e n ≡ (row_of s n).drawn
  drawn-is n = get_or-map (λ (r : Row). r.drawn) s.crew n blank

  wins-of : (n i k : ℕ) (d : Decision) → Survives e n i k d → At (row_of s n).won i (told k d)
  wins-of n i k d here = subst (λ l. At l i (told k d)) (won-is n) here

  draws-of : (n i : ℕ) (d : Drawn) → Receives e n i d → At (row_of s n).drawn i d
  draws-of n i d here = subst (λ l. At l i d) (drawn-is n) here

  -- the worker of a wish is there, since one that is not raised nothing
  there : (n : ℕ) → IsTrue (row_of s n).raised → n < length s.crew
  there n raised = elim (cases_lt n (length s.crew)) [
    | inl less ↦ less
    | inr past ↦ absurd (false≢true (sym (ap (λ (r : Row). r.raised) (get_or_past s.crew n blank past)) ∙ raised))
  ]

  aborted : IsTrue (has_cause s) → IsAborted e
  aborted cause = elim (or_cases _ _ cause) [
    | inl drained ↦ inl drained
    | inr wished ↦
        let at = any-at (λ wished. wished) s.wished wished in
        inr (at.0, subst (At s.wished at.0) at.3 at.2)
  ]

  module _ (core : IsCore s) where
    survivors : IsAtRest s → AreSurvivors e
    survivors rest = record {
      kept = λ k walk.
          let decided : IsDecided s k = walked-decided s rest k walk in
          let won = core.won.won k decided.0 decided.1 in
          (won.0, won.1, decided.0, subst (λ l. At l won.1 (told k decided.0)) (sym (won-is won.0)) won.2);
      walked = λ n i k d here. decided-ends s core k (d, core.won.held n i k d (wins-of n i k d here));
      once = λ n m i j k d f one two. core.won.once n m i j k d f (wins-of n i k d one) (wins-of m j k f two);
    }

    copies : AreCopies e
    copies = record {
      fits = λ n i k a here.
          subst (λ l. Fits s.world l (won_by e n) i k a) (sym (drawn-is n))
          (subst (λ l. Fits s.world (row_of s n).drawn l i k a) (sym (won-is n)) (core.packed.fits n i k a (wins-of n i k (decision.Copied a) here)));
      apart = λ n m i j k l a b one two other.
          copies-apart s core n m i j k l a b (wins-of n i k (decision.Copied a) one) (wins-of m j l (decision.Copied b) two) other;
    }

    lower : (o : ℕ) → o < s.counter → o < length s.world.pool → o < min s.counter (length s.world.pool)
    lower o one two = omega (arith, one, two)

    regions : AreRegions e
    regions = record {
      taken = omega arith;
      drawn = λ n i d here.
          let old = core.drawn.drawn n i d (draws-of n i d here) in
          (lower d.ordinal old.0 (slice_get_within s.world.pool d.ordinal d.region old.1), old.1, old.2);
      all = λ o below.
          let old = core.drawn.all o (omega (arith, below)) (omega (arith, below)) in
          (old.0, old.1, old.2, subst (λ l. At l old.1 old.2) (sym (drawn-is old.0)) old.3, old.4);
      once = λ n m i j d f one two same. region-once s core n m i j d f (draws-of n i d one) (draws-of m j f two) same;
      room = λ n i d here.
          subst (λ l. used s.world d.region l ≤ s.world.shape.words) (sym (won-is n))
          (used-within s.world (row_of s n).drawn (row_of s n).won (core.packed.fits n) d.region);
    }

    causes : AreCauses e
    causes = record {
      marked = λ n i k here. aborted (core.raised.marked k (core.won.held n i k decision.Marked (wins-of n i k decision.Marked here)));
      wished = λ n at. subst (λ l. n < l) (sym (length-map s.crew (λ (r : Row). r.won))) (there n (core.raised.wished n at));
      drained = λ here. let past : length s.world.pool < s.counter = core.drained.drained here in omega (arith, past);
    }

    pub evacuated : IsAtRest s → IsEvacuated e
    evacuated rest = record {
      world = core.world;
      crew = length-map s.crew (λ (r : Row). r.drawn) ∙ sym (length-map s.crew (λ (r : Row). r.won));
      survivors = survivors rest;
      copies = copies;
      regions = regions;
      causes = causes;
    }
