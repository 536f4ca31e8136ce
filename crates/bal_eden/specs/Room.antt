-- Where an allocation finds room in the table, and what it does there. The table's regions are those of a journal's board, so
-- room is what the definition of a legal run says it is.
use Rattle.std.specs.Prelude.{◌≡◌, ℕ, Bool, true, false, Option, Some, None, slice_get, slice_set, if◌then◌else◌, unwrap_or}
use Rattle.bal_layout.specs.Addresses.{IsAddress, address_in, region_of}
use Rattle.bal_layout.specs.Geometry.{want_of_plain}
use Rattle.bal_layout.specs.Header.{first_word, second_word}
use Rattle.bal_layout.specs.Regions.{free_regions, is_free, region_at, region_with_object}
use Rattle.bal_layout.specs.Shape.{Shape}
use Rattle.bal_layout.specs.Sizes.{want_of_array}
use Rattle.bal_layout.specs.declared.geometry.Want.{Want}
use Rattle.bal_layout.specs.declared.header.Header.{Header}
use Rattle.bal_layout.specs.declared.name.Kind.{Kind}
use Rattle.bal_layout.specs.declared.name.Kind.TheVariants.{Plain, Array, Spine}
use Rattle.bal_layout.specs.declared.region_state.Role.TheVariants as roles
use Rattle.bal_model.specs.Entries.{Spot}
use Rattle.bal_rules.specs.Room.{fits_current, has_fresh_room, has_hard_room, has_room_here, has_soft_room, is_within_eden, spot_for}
use Rattle.bal_table.specs.Changes.{with_current, with_new, with_role}
use Rattle.bal_table.specs.Table.{Table, land_at, things_of}
use Rattle.bal_words.specs.Things.{Updated, blank_thing}
use Rattle.bal_eden.specs.declared.room.Room.{Room}
use Rattle.bal_eden.specs.declared.room.Room.TheVariants.{Here, Fresh, Nowhere}

-- Room.

-- soft room with a budget of eden regions, and hard room without one
abbrev pub has_room : Table → Option ℕ → Want → Bool
has_room t (Some eden) w = has_soft_room t.shape eden t.regions t.current w
has_room t None w = has_hard_room t.shape t.regions t.current w

-- one more region may be eden
abbrev pub is_within_budget : Table → Option ℕ → Bool
is_within_budget t (Some eden) = is_within_eden eden t.regions
is_within_budget t None = true

-- the room takes what is wanted
abbrev pub IsRoom : Table → Want → Room → Type 0
IsRoom t w Here = has_room_here t.shape t.regions t.current w ≡ true
IsRoom t w (Fresh q) = (fits_current t.shape t.regions t.current w.words ≡ false) × (has_fresh_room t.regions w ≡ true)
    × (slice_get (free_regions t.regions) 0 ≡ Some q)
IsRoom t w Nowhere = ⊥

-- the answer is room, or that there is none
abbrev pub Finds : Table → Want → Option ℕ → Room → Type 0
Finds t w soft Here = (has_room t soft w ≡ true) × IsRoom t w Here
Finds t w soft (Fresh q) = (has_room t soft w ≡ true) × IsRoom t w (Fresh q)
Finds t w soft Nowhere = has_room t soft w ≡ false

-- Allocation.

-- what an object with this header asks for
abbrev pub want_of_kind : Shape → Kind → ℕ → ℕ → Option Want
want_of_kind s Plain refs values = want_of_plain s refs values
want_of_kind s Array refs values = want_of_array s refs
want_of_kind s Spine refs values = want_of_array s refs

abbrev pub want_of_header : Shape → Header → Option Want
want_of_header s h = want_of_kind s h.kind h.refs h.values

-- where it goes
abbrev pub spot_in : Table → Want → Spot
spot_in t w = spot_for t.shape t.regions t.current w

-- the room's region is the current one
abbrev pub opened : Table → Room → Table
opened t Here = t
opened t (Fresh q) = with_current (with_role t q (roles.Object 0)) (Some q)
opened t Nowhere = t

-- the current region
abbrev pub current_of : Table → ℕ
current_of t = unwrap_or t.current 0

-- the address behind what the current region has given out
abbrev pub end_of : Table → ℕ
end_of t = address_in t.shape (current_of t) (land_at t (current_of t)).used

-- the current region has one object more
abbrev pub with_allocated : Table → Want → Header → Table
with_allocated t w h = with_new t (current_of t) (first_word h) (second_word h) w.words

-- a new object is placed in the room, and nothing else is another, no word that is free either. It starts at the address, in
-- the region where the request goes; that region takes its words, and if it was free, it is then the current one
pub record Allocates (before after : Table) (w : Want) (room : Room) (h : Header) (address : ℕ) : Type 0 where
  pub exact : after ≡ with_allocated (opened before room) w h
  pub address_is : address ≡ end_of (opened before room)
  pub none_started : things_of before address ≡ None
  pub object : Updated (things_of before) (things_of after) address (Some (blank_thing h.name h.kind h.refs h.values))
  pub within : IsAddress before.shape address
  pub region : region_of before.shape address ≡ (spot_in before w).region
  pub regions : after.regions
      ≡ slice_set before.regions (spot_in before w).region (region_with_object w.words (region_at before.regions (spot_in before w).region))
  pub current : after.current
      ≡ (if is_free (region_at before.regions (spot_in before w).region).role then Some (spot_in before w).region else before.current)
