-- The regions into which one worker copies survivors.
use Rattle.std.specs.Prelude.{◌≡◌, ℕ, ◌+◌, ◌-◌, ◌<◌, ◌≤◌, ◌==◌, Bool, false, not, nat_le, List, [], ◌∷◌, ◌++◌, length, map, Option, Some, None, option_map, if◌then◌else◌, slice_index_or, slice_set}
use Rattle.std.specs.Option.{option_or}
use Rattle.bal_layout.specs.Addresses.{IsAddress, address_in}
use Rattle.bal_layout.specs.Shape.{Shape, largest_of}
use Rattle.bal_region.specs.Changes.{empty_land, with_object}
use Rattle.bal_region.specs.Land.{IsLand, Land, size_at}
use Rattle.bal_dest.specs.declared.buffers.Destination.{Destination}
use Rattle.bal_dest.specs.declared.buffers.Reservation.{Reservation}

-- the regions in the order in which they were added, each with its age; the words that are reserved at the end of one of them;
-- and how many regions may still be added
pub record Buffers : Type 0 where
  pub shape : Shape
  pub regions : List Destination
  pub reserved : Option Reservation
  pub room : ℕ

-- Look-ups. Past the end there is an empty region.

abbrev pub destination_at : List Destination → ℕ → Destination
destination_at regions place = slice_index_or regions place (record { age = 0; region = empty_land 0 0 })

abbrev pub age_at : Buffers → ℕ → ℕ
age_at b place = (destination_at b.regions place).age

abbrev pub land_at : Buffers → ℕ → Land
land_at b place = (destination_at b.regions place).region

-- the last place at which a number stands in a list, if it does
unfoldable pub last_place : ℕ → List ℕ → Option ℕ
last_place n [] = None
last_place n (m ∷ ms) = option_or (option_map (λ place. place + 1) (last_place n ms)) (if m == n then Some 0 else None)

-- the open region of an age is the last one that was added for it
abbrev pub open_place : Buffers → ℕ → Option ℕ
open_place b age = last_place age (map (λ (d : Destination). d.age) b.regions)

-- so many words more fit there
abbrev pub fits_at : Buffers → ℕ → Option ℕ → Bool
fits_at b words None = false
fits_at b words (Some place) = nat_le ((land_at b place).used + words) b.shape.words

-- an age has no open region with so many words left
abbrev pub wants_region : Buffers → ℕ → ℕ → Bool
wants_region b age words = not (fits_at b words (open_place b age))

-- how many words are reserved, if any are
abbrev pub reserved_words : Buffers → Option ℕ
reserved_words b = option_map (λ (r : Reservation). r.words) b.reserved

-- the address behind what was given out of a region
abbrev pub end_of : Buffers → ℕ → ℕ
end_of b place = address_in b.shape (land_at b place).number (land_at b place).used

-- What buffers are.

-- objects with these starts lie between two offsets without gaps
abbrev pub HaveNoGaps : List ℕ → ℕ → List ℕ → ℕ → Type 0
HaveNoGaps words from [] end = from ≡ end
HaveNoGaps words from (s ∷ ss) end = (s ≡ from) × HaveNoGaps words (s + size_at words s) ss end

-- a region of the heap, with an age up to the greatest. Its objects lie from its first word on without gaps
pub record IsDestination (s : Shape) (d : Destination) : Type 0 where
  pub age : d.age ≤ 24
  pub number : d.region.number < s.regions
  pub words : length d.region.words ≡ s.words
  pub land : IsLand d.region
  pub no_gaps : HaveNoGaps d.region.words 0 d.region.starts d.region.used

-- each region of an age but the last is so full that it has no room for a largest object
abbrev pub ArePackedTight : Buffers → Type 0
ArePackedTight b = (i j : ℕ) → i < j → j < length b.regions → age_at b i ≡ age_at b j → b.shape.words < (land_at b i).used + largest_of b.shape

-- the reserved words fit at the end of their region
abbrev pub MayReserve : Buffers → Reservation → Type 0
MayReserve b r = (r.place < length b.regions) × ((land_at b r.place).used + r.words ≤ b.shape.words)

pub record IsBuffers (b : Buffers) : Type 0 where
  pub each : (place : ℕ) → place < length b.regions → IsDestination b.shape (destination_at b.regions place)
  pub tight : ArePackedTight b
  pub reserved : (r : Reservation) → b.reserved ≡ Some r → MayReserve b r

-- Changes.

abbrev pub no_buffers : Shape → ℕ → Buffers
no_buffers s room = record { shape = s; regions = []; reserved = None; room = room }

-- a region more, which is the open one of its age
abbrev pub with_region : Buffers → ℕ → Land → Buffers
with_region b age l = record b { regions = b.regions ++ record { age = age; region = l } ∷ []; room = b.room - 1 }

-- an object is appended to the region in which words were reserved for it
abbrev pub placed_in : List Destination → ℕ → List ℕ → List Destination
placed_in regions place object =
    slice_set regions place (record (destination_at regions place) { region = with_object (destination_at regions place).region object })

abbrev pub placed_by : List Destination → Option Reservation → List ℕ → List Destination
placed_by regions None object = regions
placed_by regions (Some r) object = placed_in regions r.place object

abbrev pub with_copy : Buffers → List ℕ → Buffers
with_copy b object = record b { regions = placed_by b.regions b.reserved object; reserved = None }

abbrev pub withdrawn : Buffers → Buffers
withdrawn b = record b { reserved = None }

-- words are reserved at the end of the open region of an age, at this address, and fit there
pub record Reserves (before after : Buffers) (age words address : ℕ) : Type 0 where
  pub place : ℕ
  pub open_is : open_place before age ≡ Some place
  pub held : place < length before.regions
  pub age_is : age_at before place ≡ age
  pub fits : (land_at before place).used + words ≤ before.shape.words
  pub exact : after ≡ record before { reserved = Some (record { place = place; words = words }) }
  pub address_is : address ≡ end_of before place
  pub within : IsAddress before.shape address

-- the first region leaves with its number and its age, or none is left and nothing changes
abbrev pub Takes : Buffers → Buffers → Option (ℕ × ℕ × Land) → Type 0
Takes before after None = (before.regions ≡ []) × (after ≡ before)
Takes before after (Some taken) =
    (before.regions ≡ record { age = taken.1; region = taken.2 } ∷ after.regions) × (taken.0 ≡ taken.2.number)
    × (after ≡ record before { regions = after.regions })
