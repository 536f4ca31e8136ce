-- Whether an event of a mark cycle, or a global collection, may come.
use Rattle.std.proofs.Common.{◌≡◌, ℕ, List, [], ◌∷◌, ◌||◌, not, Bool, true, false, Option, Some, None, length, refl}
use Rattle.std.specs.Prelude.{filter, map}
use Rattle.std.specs.Bool.{Decides}
use Rattle.std.specs.List.{list_any}
use Rattle.bal_layout.specs.declared.name.Name.{Name}
use Rattle.bal_model.specs.declared.config.Config.{Config}
use Rattle.bal_model.specs.declared.event.Packed.{Packed}
use Rattle.bal_rules.specs.Board.{Board, Cycle, names_placed, without_names, words_of}
use Rattle.bal_rules.specs.GlobalEvents.{IsGlobal, NeverDescend, garbage, survivors, names_packed, former_region, next_fit, targets_of_packing}
use Rattle.bal_rules.specs.MarkEvents.{IsMarkStep, IsMark, IsSweep, IsEnd, InCycle, AreOpen, is_open, is_full_step, cycle_with_listed, is_old_garbage}
use Rattle.bal_layout.specs.Names.{is_among}
use Rattle.bal_model.specs.Walk.{reachable, targets}
use Rattle.bal_laws.proofs.Deciders.{Decided, always, never, is_true, at_most, both, like, each, equal, numbers, lists}
use Rattle.bal_laws.proofs.DecidersWords.{names}

-- no cycle runs
abbrev pub no_cycle_test : Option Cycle → Bool
no_cycle_test None = true
no_cycle_test (Some cycle) = false

pub no_cycle-decides : (o : Option Cycle) → Decides (no_cycle_test o) (o ≡ None)
no_cycle-decides None = (λ h. refl, λ h. refl)
no_cycle-decides (Some cycle) = (λ h. cc, λ h. cc)

abbrev pub no_cycle : (o : Option Cycle) → Decided (o ≡ None)
no_cycle o = record { test = no_cycle_test o; decides = no_cycle-decides o }

-- a cycle runs, and this holds of it
abbrev pub in_cycle : {P : Cycle → Type 0} → ((cycle : Cycle) → Decided (P cycle)) → (o : Option Cycle) → Decided (InCycle o P)
in_cycle d None = never
in_cycle d (Some cycle) = d cycle

-- a mark step
abbrev pub are_open : (b : Board) (cycle : Cycle) (xs : List Name) → Decided (AreOpen b cycle xs)
are_open b cycle [] = always
are_open b cycle (x ∷ xs) = both (is_true (is_open b cycle x)) (are_open b (cycle_with_listed b.plain (x ∷ []) cycle) xs)

abbrev pub is_mark_step : (c : Config) (b : Board) (listed : List Name) (cycle : Cycle) → Decided (IsMarkStep c b listed cycle)
is_mark_step c b listed cycle =
    like (λ h. record { at_most = h.0; each_open = h.1.0; fewer_at_the_end = h.1.1 }) (λ r. (r.at_most, (r.each_open, r.fewer_at_the_end)))
    (both (at_most (length listed) c.mark_step)
    (both (are_open b cycle listed)
    (is_true (is_full_step c b listed cycle))))

abbrev pub is_mark : (c : Config) (b : Board) (listed : List Name) → Decided (IsMark c b listed)
is_mark c b listed = in_cycle (is_mark_step c b listed) b.cycle

-- the end of a cycle
abbrev pub is_sweep : (b : Board) (dead : List Name) (cycle : Cycle) → Decided (IsSweep b dead cycle)
is_sweep b dead cycle =
    like (λ h. record { present_ascending = h.0; old_garbage_goes = h.1.0; reachable_stays = h.1.1.0; listed_stays = h.1.1.1.0; none_refers = h.1.1.1.1 })
    (λ r. (r.present_ascending, (r.old_garbage_goes, (r.reachable_stays, (r.listed_stays, r.none_refers)))))
    (both (equal (lists names) dead (filter (λ x. is_among x dead) (names_placed b.present)))
    (both (each (λ (x : Name). is_true (is_among x dead || not (is_old_garbage cycle x))) (names_placed b.present))
    (both (each (λ (x : Name). is_true (not (is_among x (reachable b.plain)))) dead)
    (both (each (λ (x : Name). is_true (not (is_among x cycle.listed))) dead)
    (each (λ (x : Name). is_true (is_among x dead || not (list_any (λ y. is_among y dead) (targets b.plain x)))) (names_placed b.present))))))

abbrev pub is_end : (b : Board) (dead : List Name) → Decided (IsEnd b dead)
is_end b dead = in_cycle (is_sweep b dead) b.cycle

-- a global collection
abbrev pub never_descend : (ns : List ℕ) → Decided (NeverDescend ns)
never_descend [] = always
never_descend (m ∷ []) = always
never_descend (m ∷ n ∷ ns) = both (at_most m n) (never_descend (n ∷ ns))

abbrev pub is_global : (c : Config) (b : Board) (dead : List Name) (packed : List Packed) → Decided (IsGlobal c b dead packed)
is_global c b dead packed =
    like
    (λ h. record { just_the_garbage = h.0; as_many = h.1.0; each_packed = h.1.1.0; by_region = h.1.1.1.0; by_next_fit = h.1.1.1.1.0; none_up = h.1.1.1.1.1 })
    (λ r. (r.just_the_garbage, (r.as_many, (r.each_packed, (r.by_region, (r.by_next_fit, r.none_up))))))
    (both (equal (lists names) dead (garbage b))
    (both (equal numbers (length packed) (length (survivors b)))
    (both (each (λ (x : Name). is_true (is_among x (names_packed packed))) (survivors b))
    (both (never_descend (map (former_region b) packed))
    (both
    (equal (lists numbers) (map (λ (k : Packed). k.region) packed)
    (next_fit c.geometry.words (targets_of_packing (without_names c dead b)) 0 (map (words_of c b) (names_packed packed))))
    (each (λ (k : Packed). at_most k.region (former_region b k)) packed))))))
