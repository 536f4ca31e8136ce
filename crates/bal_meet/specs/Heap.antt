-- The state of a heap as plain data, and what it means that it is the state of a board. The words are met by relations, and
-- all else by one equation, so that a change of it is one function for the heap and for the board.
use Rattle.std.specs.Prelude.{◌≡◌, ℕ, ◌+◌, List, All, Bool, IsTrue, Option, Some, None, length, map, not, slice_get, slice_index_or, slice_set, if◌then◌else◌}
use Rattle.bal_layout.specs.Addresses.{region_of}
use Rattle.bal_layout.specs.Names.{is_among}
use Rattle.bal_layout.specs.References.{word_of}
use Rattle.bal_layout.specs.Regions.{freed, is_free, region_at, region_with_object}
use Rattle.bal_layout.specs.Shape.{Shape}
use Rattle.bal_layout.specs.declared.geometry.Want.{Want}
use Rattle.bal_layout.specs.declared.name.Kind.{Kind}
use Rattle.bal_layout.specs.declared.name.Name.{Name}
use Rattle.bal_layout.specs.declared.region_state.RegionState.{RegionState}
use Rattle.bal_meet.specs.Decode.{Decodes, placed_at}
use Rattle.bal_model.specs.Entries.{Spot}
use Rattle.bal_model.specs.Plain.{Mutator, State}
use Rattle.bal_roots.specs.Roots.{register_place}
use Rattle.bal_rules.specs.Board.{Board, Placed, names_placed, place_of}
use Rattle.bal_remember.specs.Remembered.{remembers, with_card}
use Rattle.bal_rules.specs.NoteEvents.{is_card_in}
use Rattle.bal_rules.specs.RowEvents.{with_leaves}
use Rattle.bal_rules.specs.Sound.{IsAscending}
use Rattle.bal_words.specs.Moved.{Carried, Closed, Fixed, LeadsToKept, word_to}
use Rattle.bal_words.specs.Things.{Thing, Things, Updated, blank_thing}

-- what is counted beside the words: how many objects each thread has made, the state of each region with its remembered
-- list, and the region that takes new objects
pub record Account : Type 0 where
  pub made : List ℕ
  pub regions : List RegionState
  pub current : Option ℕ

-- a heap: its shape, which objects start where, the leaf regions of the one at an address, what the roots hold, and its account
pub record Heap : Type 0 where
  pub shape : Shape
  pub things : Things
  pub leaves : ℕ → List ℕ
  pub roots : List ℕ
  pub account : Account

-- where the object lies that starts at an address
abbrev pub spot_at : Heap → ℕ → Spot
spot_at h a = record { region = region_of h.shape a; leaves = h.leaves a }

abbrev pub made_counts : State → List ℕ
made_counts s = map (λ (m : Mutator). length m.made) s.mutators

-- the account that a board gives
abbrev pub account_of : Board → Account
account_of b = record { made = made_counts b.plain; regions = b.regions; current = b.current }

-- the heap's state is that of the board
pub record Meets (h : Heap) (b : Board) : Type 0 where
  pub decodes : Decodes (spot_at h) h.things h.roots b.plain b.present
  pub account : h.account ≡ account_of b

-- Changes of a heap.

abbrev pub with_things : Things → Heap → Heap
with_things things h = record h { things = things }

abbrev pub with_root : ℕ → ℕ → Heap → Heap
with_root place word h = record h { roots = slice_set h.roots place word }

abbrev pub with_regions : List RegionState → Heap → Heap
with_regions regions h = record h { account = record h.account { regions = regions } }

abbrev pub with_current : Option ℕ → Heap → Heap
with_current current h = record h { account = record h.account { current = current } }

-- regions are freed, and no list keeps a card of theirs
abbrev pub with_freed : List ℕ → Heap → Heap
with_freed qs h = with_regions (freed h.shape qs h.account.regions) h

-- A card is noted.

-- a region's list takes a card, if it may hold so many
abbrev pub with_noted : ℕ → ℕ → ℕ → Heap → Heap
with_noted limit q card h = with_regions (slice_set h.account.regions q
    (record (region_at h.account.regions q) { remembered = with_card limit card (region_at h.account.regions q).remembered })) h

-- the reference in a slot of the object at an address leads into a region in which the object does not lie, and the list of
-- that region does not know of the slot's card
pub record IsNoted (h : Heap) (q card a i : ℕ) : Type 0 where
  pub holder : Thing
  pub starts : h.things a ≡ Some holder
  pub target : ℕ
  pub refers : slice_get holder.refs i ≡ Some (word_of target)
  pub into : region_of h.shape target ≡ q
  pub from_outside : region_of h.shape a ≡ q → ⊥
  pub of_the_slot : IsTrue (is_card_in h.shape (region_of h.shape a) (h.leaves a) i card)
  pub new_card : IsTrue (not (remembers (region_at h.account.regions q).remembered card))

-- An object is placed.

-- the name of the next object that a thread makes
abbrev pub next_made : Account → ℕ → Name
next_made a t = record { thread = t; ordinal = slice_index_or a.made t 0 + 1 }

-- a thread has made one object more, which lies at that spot: its region takes its words, and if it was free, it is then the
-- current one
abbrev pub with_object_in : ℕ → Want → Spot → Account → Account
with_object_in t w spot a = record {
  made = slice_set a.made t (slice_index_or a.made t 0 + 1);
  regions = with_leaves spot.leaves (slice_set a.regions spot.region (region_with_object w.words (region_at a.regions spot.region)));
  current = if is_free (region_at a.regions spot.region).role then Some spot.region else a.current;
}

-- a thread's next object, whose references are null and whose numbers are zero, is placed at an address at which none started,
-- and one of the thread's registers takes it
pub record Places (before after : Heap) (t r : ℕ) (kind : Kind) (refs values : ℕ) (w : Want) (a : ℕ) : Type 0 where
  pub shape : after.shape ≡ before.shape
  pub none_started : before.things a ≡ None
  pub object : Updated before.things after.things a (Some (blank_thing (next_made before.account t) kind refs values))
  pub leaves : (b : ℕ) (x : Thing) → before.things b ≡ Some x → after.leaves b ≡ before.leaves b
  pub roots : after.roots ≡ slice_set before.roots (register_place t r) (word_of a)
  pub account : after.account ≡ with_object_in t w (spot_at after a) before.account

-- Objects are removed, or moved.

-- the objects that are kept were carried to new addresses with their leaves, and then each reference and each root was
-- mended. With a map that leads each address to itself, the others were removed and nothing moved
pub record Moves (before after : Heap) (middle : Things) (keeps : ℕ → Bool) (to : ℕ → ℕ) : Type 0 where
  pub shape : after.shape ≡ before.shape
  pub carried : Carried before.things middle keeps to
  pub mended : Fixed middle after.things to
  -- what is kept, and what roots hold, leads only to what is kept
  pub closed : Closed before.things keeps
  pub held : All (LeadsToKept keeps) before.roots
  pub roots : after.roots ≡ map (word_to to) before.roots
  pub made : after.account.made ≡ before.account.made

-- these are the kept objects by ascending name, each placed where it lies after it was moved
pub record ArePlaced (before : Things) (spot : ℕ → Spot) (keeps : ℕ → Bool) (to : ℕ → ℕ) (present : List Placed) : Type 0 where
  pub each : (a : ℕ) (x : Thing) → before a ≡ Some x → IsTrue (keeps a) → place_of present x.name ≡ Some (placed_at x.name (spot (to a)))
  pub only : (n : Name) → IsTrue (is_among n (names_placed present)) → (a : ℕ) × ((x : Thing) × (before a ≡ Some x) × IsTrue (keeps a) × (x.name ≡ n))
  pub ascending : IsAscending (names_placed present)
