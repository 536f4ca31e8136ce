-- The table of the heap's regions: what each is used for, and what starts at an address.
use Rattle.std.specs.Prelude.{ℕ, ◌+◌, ◌≡◌, ◌<◌, ◌≤◌, ⊤, false, true, IsTrue, List, [], length, Option, Some, None, option_map, option_and_then, slice_index_or, nat_lt, if◌then◌else◌}
use Rattle.std.specs.Option.{option_or}
use Rattle.bal_layout.specs.Addresses.{address_in, offset_of, region_of}
use Rattle.bal_layout.specs.Header.{header_of, size_in}
use Rattle.bal_layout.specs.Regions.{free_region, is_free, is_object, region_at}
use Rattle.bal_layout.specs.Shape.{Shape, IsShape, largest_of}
use Rattle.bal_layout.specs.declared.header.Header.{Header}
use Rattle.bal_layout.specs.declared.name.Kind.TheVariants.{Spine}
use Rattle.bal_layout.specs.declared.region_state.RegionState.{RegionState}
use Rattle.bal_layout.specs.declared.region_state.Role.{Role}
use Rattle.bal_layout.specs.declared.region_state.Role.TheVariants.{Free, Object, Leaf}
use Rattle.bal_remember.specs.Remembered.{Remembered}
use Rattle.bal_region.specs.Land.{Land, IsLand, first_from, header_at, holder_of, object_at, starts_at}
use Rattle.bal_region.specs.Changes.{empty_land}
use Rattle.bal_words.specs.Pieces.{header_in, thing_of}
use Rattle.bal_words.specs.Things.{Thing, Things}

-- the heap's regions by number: their words, and beside them what each is used for, how full it is, how much of it is
-- thought to be alive and what is remembered of it. The current region is the one that takes new objects
pub record Table : Type 0 where
  pub shape : Shape
  pub lands : List Land
  pub regions : List RegionState
  pub current : Option ℕ

-- Look-ups. Past the end there is an empty region, which is free.

abbrev pub land_at : Table → ℕ → Land
land_at t q = slice_index_or t.lands q (empty_land 0 0)

abbrev pub role_at : Table → ℕ → Role
role_at t q = (region_at t.regions q).role

abbrev pub estimate_at : Table → ℕ → ℕ
estimate_at t q = (region_at t.regions q).estimate

abbrev pub remembered_at : Table → ℕ → Remembered
remembered_at t q = (region_at t.regions q).remembered

-- objects have an age of at most 24. No region is a leaf yet
abbrev pub IsRole : Role → Type 0
IsRole Free = ⊤
IsRole (Object age) = age ≤ 24
IsRole Leaf = ⊥

-- What starts at an address.

-- the words of the object that starts there, if one does
abbrev pub objects_of : Table → ℕ → Option (List ℕ)
objects_of t address = object_at (land_at t (region_of t.shape address)) (offset_of t.shape address)

-- the object whose words these are
abbrev pub thing_in : List ℕ → Option Thing
thing_in words = option_map (λ h. thing_of h words []) (header_in words)

-- the object that starts there, if one does
abbrev pub things_of : Table → Things
things_of t address = option_and_then thing_in (objects_of t address)

-- the references and the numbers of the object that starts there
abbrev pub refs_in : Option Thing → List ℕ
refs_in None = []
refs_in (Some x) = x.refs

abbrev pub values_in : Option Thing → List ℕ
values_in None = []
values_in (Some x) = x.values

-- where the reference and the number in a slot of an object lie
abbrev pub slot_place : Table → ℕ → ℕ → ℕ
slot_place t address slot = address + (2 + slot)

abbrev pub value_place : Table → ℕ → ℕ → ℕ
value_place t address slot = address + (2 + length (refs_in (things_of t address)) + slot)

-- where the number lies, if the object has one in such a slot
abbrev pub value_found : Table → ℕ → ℕ → Option ℕ
value_found t address slot = if nat_lt slot (length (values_in (things_of t address))) then Some (value_place t address slot) else None

-- the word at an address
abbrev pub word_at : Table → ℕ → ℕ
word_at t address = slice_index_or (land_at t (region_of t.shape address)).words (offset_of t.shape address) 0

-- where the object starts that has a word at an address
abbrev pub holder_at : Table → ℕ → Option ℕ
holder_at t address =
    option_map (address_in t.shape (region_of t.shape address)) (holder_of (land_at t (region_of t.shape address)) (offset_of t.shape address))

-- where the object starts that has a word at an address, or else the first one behind it in its region
abbrev pub object_from : Table → ℕ → Option ℕ
object_from t address =
    option_or (holder_at t address)
    (option_map (address_in t.shape (region_of t.shape address)) (first_from (land_at t (region_of t.shape address)) (offset_of t.shape address)))

-- What a table is.

-- an object with this header may start in a region: it lies in one piece, since no object is a spine yet, and is no larger
-- than the largest one may be
pub record MayStart (s : Shape) (h : Header) : Type 0 where
  pub piece : h.kind ≡ Spine → ⊥
  pub small : size_in s.words h ≤ largest_of s

-- these two words are the first of such an object, which takes so many words
pub record IsPiece (s : Shape) (first second words : ℕ) : Type 0 where
  pub header : Header
  pub read : header_of first second ≡ Some header
  pub size : size_in s.words header ≡ words
  pub may : MayStart s header

-- a region's words fit its number and its state: it has as many words as each has, and has given out as many as its state
-- says. No more of these are thought to be alive; without objects none was given out, and of a free region nothing is
-- remembered
pub record IsRegion (s : Shape) (q : ℕ) (r : RegionState) (l : Land) : Type 0 where
  pub land : IsLand l
  pub number : l.number ≡ q
  pub words : length l.words ≡ s.words
  pub role : IsRole r.role
  pub used : r.used ≡ l.used
  pub estimate : r.estimate ≤ r.used
  pub empty : is_object r.role ≡ false → r.used ≡ 0
  pub free : is_free r.role ≡ true → r ≡ free_region
  pub pieces : (at : ℕ) (h : Header) → IsTrue (starts_at l at) → header_at l.words at ≡ Some h → MayStart s h

-- the current region is eden
pub record IsTable (t : Table) : Type 0 where
  pub shape : IsShape t.shape
  pub lands : length t.lands ≡ t.shape.regions
  pub regions : length t.regions ≡ t.shape.regions
  pub each : (q : ℕ) → q < t.shape.regions → IsRegion t.shape q (region_at t.regions q) (land_at t q)
  pub current : (q : ℕ) → t.current ≡ Some q → (q < t.shape.regions) × (role_at t q ≡ Object 0)
