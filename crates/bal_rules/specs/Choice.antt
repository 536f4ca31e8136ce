-- Which regions a partial collection takes: the young ones, and of the older ones those with the most garbage in them. A
-- region whose list has overflowed is passed over: nobody knows which cards refer into it.
use Rattle.std.specs.Prelude.{ℕ, ◌-◌, ◌==◌, ◌&&◌, ◌||◌, not, nat_lt, Bool, true, false, List, [], ◌∷◌, filter, length, Option, Some, None}
use Rattle.std.specs.List.{list_any}
use Rattle.bal_layout.specs.declared.name.Name.{Name}
use Rattle.bal_model.specs.declared.config.Config.{Config}
use Rattle.bal_layout.specs.Regions.{region_at, is_eden, all_regions}
use Rattle.bal_remember.specs.Remembered.{Remembered, cards, is_overflowed, overflowed}
use Rattle.bal_layout.specs.declared.region_state.RegionState.{RegionState}
use Rattle.bal_layout.specs.declared.region_state.Role.{Role}
use Rattle.bal_layout.specs.declared.region_state.Role.TheVariants as roles
use Rattle.bal_rules.specs.Board.{Board, Placed, place_of}
use Rattle.bal_model.specs.Walk.{targets}

-- a region of objects that isn't eden
abbrev pub is_old : Role → Bool
is_old roles.Free = false
is_old (roles.Object age) = not (age == 0)
is_old roles.Leaf = false

abbrev pub is_young : RegionState → Bool
is_young r = is_eden r.role && not (is_overflowed r.remembered)

-- an older region with words that are thought to be dead
abbrev pub is_wasting : RegionState → Bool
is_wasting r = is_old r.role && not (is_overflowed r.remembered) && nat_lt r.estimate r.used

abbrev pub waste : RegionState → ℕ
waste r = r.used - r.estimate

-- the one with more waste goes first, then the one with the lower number
abbrev pub goes_before : List RegionState → ℕ → ℕ → Bool
goes_before regions p q =
    nat_lt (waste (region_at regions q)) (waste (region_at regions p))
    || ((waste (region_at regions p) == waste (region_at regions q)) && nat_lt p q)

abbrev pub wasting_regions : List RegionState → List ℕ
wasting_regions regions = filter (λ q. is_wasting (region_at regions q)) (all_regions regions)

-- fewer than n of the wasting regions go before it
abbrev pub is_among_first : List RegionState → ℕ → ℕ → Bool
is_among_first regions n q = nat_lt (length (filter (λ p. goes_before regions p q) (wasting_regions regions))) n

abbrev pub is_chosen : Config → List RegionState → ℕ → Bool
is_chosen c regions q =
    is_young (region_at regions q) || (is_wasting (region_at regions q) && is_among_first regions c.older q)

abbrev pub choice : Config → List RegionState → List ℕ
choice c regions = filter (is_chosen c regions) (all_regions regions)

-- What makes a choice safe: whoever refers into a region is on its list.

-- whether a present object of a name lies in a region
abbrev pub lies_at : Option Placed → ℕ → Bool
lies_at None q = false
lies_at (Some p) q = p.region == q

abbrev pub lies_in : Board → ℕ → Name → Bool
lies_in b q x = lies_at (place_of b.present x) q

-- a present object of another region refers to a present object of this one
abbrev pub is_referred_to : Board → ℕ → Bool
is_referred_to b q = list_any (λ (p : Placed). not (p.region == q) && list_any (lies_in b q) (targets b.plain p.name)) b.present

-- the list has a card, or has overflowed
abbrev pub is_noted : Remembered → Bool
is_noted (cards []) = false
is_noted (cards (card ∷ cs)) = true
is_noted overflowed = true

abbrev pub is_remembered : Board → ℕ → Bool
is_remembered b q = not (is_referred_to b q) || is_noted (region_at b.regions q).remembered
