-- A list of events in turn.
use Rattle.std.proofs.Common.{◌≡◌, ◌+◌, ◌<◌, ℕ, zero, suc, List, [], ◌∷◌, length, take, get_or, refl, subst, arith}
use Rattle.bal_core.specs.declared.event.CoreEvent.{CoreEvent}
use Rattle.bal_core.specs.World.{State}
use Rattle.bal_core.specs.Steps.{after_all, passing}

-- after one event more
one-more : (events : List CoreEvent) (i : ℕ) (d : CoreEvent) (s : State) → i < length events
    → after_all (take (suc i) events) s ≡ passing (get_or events i d) (after_all (take i events) s)
unfolding after_all
one-more [] i d s within = absurd (omega (arith, within))
one-more (e ∷ events) zero d s within = refl
one-more (e ∷ events) (suc i) d s within = one-more events i d (passing e s) (omega (arith, within))

pub after-one-more : (events : List CoreEvent) (i : ℕ) (d : CoreEvent) (s : State) → i < length events
    → after_all (take (i + 1) events) s ≡ passing (get_or events i d) (after_all (take i events) s)
after-one-more events i d s within =
    let next : suc i ≡ i + 1 = omega arith in
    subst (λ n. after_all (take n events) s ≡ passing (get_or events i d) (after_all (take i events) s)) next (one-more events i d s within)

pub after-none : (s : State) → after_all [] s ≡ s
unfolding after_all
after-none s = refl
