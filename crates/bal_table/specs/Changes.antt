-- What a table is after each change.
use Rattle.std.specs.Prelude.{ℕ, ◌+◌, ◌≡◌, ◌<◌, ◌≤◌, true, IsSome, List, Option, None, [], ◌∷◌, length, map, replicate, slice_set}
use Rattle.std.specs.List.{range_with_len}
use Rattle.bal_layout.specs.Addresses.{offset_of, region_of}
use Rattle.bal_layout.specs.Regions.{free_region, freed, is_object, region_at, region_with_object}
use Rattle.bal_layout.specs.Shape.{Shape}
use Rattle.bal_layout.specs.declared.region_state.RegionState.{RegionState}
use Rattle.bal_layout.specs.declared.region_state.Role.{Role}
use Rattle.bal_layout.specs.declared.region_state.Role.TheVariants.{Object}
use Rattle.bal_remember.specs.Remembered.{Remembered, without_between}
use Rattle.bal_region.specs.Changes.{MaySlide, blank_words, cut_short, empty_land, with_object, with_slid, with_word, without}
use Rattle.bal_region.specs.Land.{IsBehindHeaders, Land, object_in}
use Rattle.bal_table.specs.Table.{Table, land_at, role_at, things_of}

-- free regions alone, each with its number
abbrev pub empty_table : Shape → Table
empty_table s = record {
  shape = s;
  lands = map (λ q. empty_land q s.words) (range_with_len 0 s.regions);
  regions = replicate s.regions free_region;
  current = None;
}

abbrev pub with_land : Table → ℕ → Land → Table
with_land t q l = record t { lands = slice_set t.lands q l }

abbrev pub with_region : Table → ℕ → RegionState → Table
with_region t q r = record t { regions = slice_set t.regions q r }

abbrev pub with_role : Table → ℕ → Role → Table
with_role t q role = with_region t q (record (region_at t.regions q) { role = role })

abbrev pub with_estimate : Table → ℕ → ℕ → Table
with_estimate t q words = with_region t q (record (region_at t.regions q) { estimate = words })

-- another remembered list in the place of a region's
abbrev pub with_remembered : Table → ℕ → Remembered → Table
with_remembered t q r = with_region t q (record (region_at t.regions q) { remembered = r })

abbrev pub with_current : Table → Option ℕ → Table
with_current t q = record t { current = q }

-- a region that may be the current one: it is eden
abbrev pub MayBeCurrent : Table → ℕ → Type 0
MayBeCurrent t q = (q < t.shape.regions) × (role_at t q ≡ Object 0)

-- a word is another
abbrev pub with_word_at : Table → ℕ → ℕ → Table
with_word_at t address word =
    with_land t (region_of t.shape address) (with_word (land_at t (region_of t.shape address)) (offset_of t.shape address) word)

-- an object with these first two words is placed in a region; its others are zero, and all are thought to be alive
abbrev pub with_new : Table → ℕ → ℕ → ℕ → ℕ → Table
with_new t q first second words =
    with_region (with_land t q (with_object (land_at t q) (blank_words first second words))) q (region_with_object words (region_at t.regions q))

-- no object starts there any more
abbrev pub without_object : Table → ℕ → Table
without_object t address =
    with_land t (region_of t.shape address) (without (land_at t (region_of t.shape address)) (offset_of t.shape address))

-- the words from an address on that an object takes that starts there
abbrev pub object_words : Table → ℕ → List ℕ
object_words t address = object_in (land_at t (region_of t.shape address)).words (offset_of t.shape address)

-- an object is placed in a region, and all of it is thought to be alive
abbrev pub with_placed : Table → ℕ → List ℕ → Table
with_placed t q object = with_region (with_land t q (with_object (land_at t q) object)) q (region_with_object (length object) (region_at t.regions q))

-- an object may be moved down in its region, or stay: no other has a word from its new place up to its end
pub record MayMoveDown (t : Table) (from to : ℕ) : Type 0 where
  pub region : region_of t.shape to ≡ region_of t.shape from
  pub slide : MaySlide (land_at t (region_of t.shape from)) (offset_of t.shape from) (offset_of t.shape to)

-- an object is moved in its region
abbrev pub with_slid_object : Table → ℕ → ℕ → Table
with_slid_object t from to =
    with_land t (region_of t.shape from) (with_slid (land_at t (region_of t.shape from)) (offset_of t.shape from) (offset_of t.shape to))

-- an object may be moved to the end of another region, which has objects, and words enough
pub record MayCarry (t : Table) (from q : ℕ) : Type 0 where
  pub object : IsSome (things_of t from)
  pub within : q < t.shape.regions
  pub other : region_of t.shape from ≡ q → ⊥
  pub objects : is_object (role_at t q) ≡ true
  pub fits : (land_at t q).used + length (object_words t from) ≤ t.shape.words

-- an object is moved to another region: it is placed there, and taken away where it was
abbrev pub with_carried : Table → ℕ → ℕ → Table
with_carried t from q = without_object (with_placed t q (object_words t from)) from

-- the words of a region after its last object are given out no more
abbrev pub with_cut : Table → ℕ → Table
with_cut t q =
    with_region (with_land t q (cut_short (land_at t q))) q (record (region_at t.regions q) { used = (cut_short (land_at t q)).used })

-- a region is free and empty, nothing is remembered of it, and no list keeps a card of it
abbrev pub with_freed : Table → ℕ → Table
with_freed t q = record (with_land t q (empty_land q t.shape.words)) { regions = freed t.shape (q ∷ []) t.regions }

-- the state of a region whose list loses the cards from one up to another
abbrev pub without_cards_between : ℕ → ℕ → RegionState → RegionState
without_cards_between from to r = record r { remembered = without_between from to r.remembered }

-- no object has its header or its name at this address
abbrev pub MayBeWritten : Table → ℕ → Type 0
MayBeWritten t address = IsBehindHeaders (land_at t (region_of t.shape address)) (offset_of t.shape address)
