-- Where an allocation finds room among regions, one of which may be current. The current region takes it where its words
-- fit; otherwise the lowest free region becomes current. Leaves take the lowest free regions that are left.
use Rattle.std.specs.Prelude.{ℕ, ◌+◌, ◌&&◌, ◌||◌, Bool, false, List, length, take, drop, nat_le, nat_lt, Option, Some, None, slice_index_or, unwrap_or, if◌then◌else◌}
use Rattle.bal_layout.specs.declared.geometry.Want.{Want}
use Rattle.bal_layout.specs.Shape.{Shape}
use Rattle.bal_layout.specs.Regions.{region_at, free_regions, eden_regions}
use Rattle.bal_layout.specs.declared.region_state.RegionState.{RegionState}
use Rattle.bal_model.specs.Entries.{Spot}

-- whether the current region, if there is one, has so many words left
abbrev pub fits_current : Shape → List RegionState → Option ℕ → ℕ → Bool
fits_current s regions None words = false
fits_current s regions (Some q) words = nat_le ((region_at regions q).used + words) s.words

-- the current region takes the words, and free regions the leaves
abbrev pub has_room_here : Shape → List RegionState → Option ℕ → Want → Bool
has_room_here s regions current w = fits_current s regions current w.words && nat_le w.leaves (length (free_regions regions))

-- a free region takes the words, and other free regions the leaves
abbrev pub has_fresh_room : List RegionState → Want → Bool
has_fresh_room regions w = nat_le (1 + w.leaves) (length (free_regions regions))

-- fewer regions are eden than may be, so that one more may
abbrev pub is_within_eden : ℕ → List RegionState → Bool
is_within_eden eden regions = nat_lt (length (eden_regions regions)) eden

-- room without collecting: a free region is taken only where one more may be eden
abbrev pub has_soft_room : Shape → ℕ → List RegionState → Option ℕ → Want → Bool
has_soft_room s eden regions current w = has_room_here s regions current w || (is_within_eden eden regions && has_fresh_room regions w)

-- room at all, whatever the number of eden regions
abbrev pub has_hard_room : Shape → List RegionState → Option ℕ → Want → Bool
has_hard_room s regions current w = has_room_here s regions current w || has_fresh_room regions w

-- where the request goes
abbrev pub spot_for : Shape → List RegionState → Option ℕ → Want → Spot
spot_for s regions current w =
    if fits_current s regions current w.words then
    record { region = unwrap_or current 0; leaves = take w.leaves (free_regions regions) }
    else record { region = slice_index_or (free_regions regions) 0 0; leaves = take w.leaves (drop 1 (free_regions regions)) }
