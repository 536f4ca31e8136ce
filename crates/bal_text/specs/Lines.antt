-- Which events have a line: the numbers have the ranges of their types, what ascends does so strictly, and a place stands
-- exactly on an allocation that replied a name.
use Rattle.std.specs.Prelude.{◌≡◌, ℕ, ⊤, ◌<◌, ◌^◌, List, [], ◌∷◌, Option, Some, None, Bool, true, false, ◌&&◌, nat_lt}
use Rattle.std.specs.List.{AllByRecursion}
use Rattle.bal_layout.specs.declared.name.Name.{Name}
use Rattle.bal_layout.specs.declared.name.Abort.{Abort}
use Rattle.bal_layout.specs.declared.name.Abort.TheVariants as abort
use Rattle.bal_model.specs.declared.row.Op.{Op}
use Rattle.bal_model.specs.declared.row.Op.TheVariants as op
use Rattle.bal_model.specs.declared.row.Reply.{Reply}
use Rattle.bal_model.specs.declared.row.Reply.TheVariants as reply
use Rattle.bal_model.specs.declared.event.How.{How}
use Rattle.bal_model.specs.declared.event.How.TheVariants as how
use Rattle.bal_model.specs.declared.event.Kept.{Kept}
use Rattle.bal_model.specs.declared.event.Packed.{Packed}
use Rattle.bal_model.specs.Entries.{Entry, Spot, row, note, partial, begin, mark, end, global}
use Rattle.bal_layout.specs.Names.{is_before}
use Rattle.bal_model.specs.Spelling.{op_numbers}

-- numbers of 32 bits; a heap has at most 2047 regions, and there are at most 32 workers
abbrev pub IsSmall : ℕ → Type 0
IsSmall n = n < 2 ^ 32

abbrev pub IsRegion : ℕ → Type 0
IsRegion q = q < 2047

abbrev pub IsWorker : ℕ → Type 0
IsWorker w = w < 32

-- a name has two numbers of 32 bits: whether there is such an object is for a run to say
abbrev pub IsName : Name → Type 0
IsName x = IsSmall x.thread × IsSmall x.ordinal

-- each item stands before the next one
abbrev pub ascends : {A : Type 0} → (A → A → Bool) → List A → Bool
ascends before [] = true
ascends before (x ∷ []) = true
ascends before (x ∷ y ∷ xs) = before x y && ascends before (y ∷ xs)

-- the value of a put may have 64 bits, and every other number of a row 32
abbrev pub OpFits : Op → Type 0
OpFits (op.Put holder slot number) = (holder < 2 ^ 32) × (slot < 2 ^ 32) × (number < 2 ^ 64)
OpFits o = AllByRecursion IsSmall (op_numbers o)

-- the name and the number of a reply are in range
abbrev pub IsReply : Reply → Type 0
IsReply (reply.Name x) = IsName x
IsReply (reply.Number n) = n < 2 ^ 64
IsReply r = ⊤

-- an allocation that replied a name is placed, and nothing else is
abbrev pub is_placed : Op → Reply → Bool
is_placed (op.New register refs values) (reply.Name x) = true
is_placed (op.Arr register len) (reply.Name x) = true
is_placed o r = false

-- where an object was placed, and whether it has to be
abbrev pub IsSpot : Spot → Type 0
IsSpot s = IsRegion s.region × AllByRecursion IsRegion s.leaves

abbrev pub IsPlace : Bool → Option Spot → Type 0
IsPlace true None = ⊥
IsPlace true (Some s) = IsSpot s
IsPlace false None = ⊤
IsPlace false (Some s) = ⊥

-- an object that an evacuation kept
abbrev pub IsHow : How → Type 0
IsHow (how.Copied q) = IsRegion q
IsHow how.Marked = ⊤

abbrev pub IsKept : Kept → Type 0
IsKept k = IsName k.name × IsHow k.how × IsWorker k.worker

-- kept objects ascend by name
abbrev pub is_kept_before : Kept → Kept → Bool
is_kept_before k j = is_before k.name j.name

-- why an evacuation was abandoned
abbrev pub IsCause : Abort → Type 0
IsCause (abort.Wished w) = IsWorker w
IsCause abort.Drained = ⊤

-- the wished workers by number, then that the pool was drained
abbrev pub is_cause_before : Abort → Abort → Bool
is_cause_before (abort.Wished w) (abort.Wished v) = nat_lt w v
is_cause_before (abort.Wished w) abort.Drained = true
is_cause_before abort.Drained c = false

-- an object that a compaction packed
abbrev pub IsPacked : Packed → Type 0
IsPacked k = IsName k.name × IsRegion k.region

-- a list whose items are right, and ascend
pub record IsRising {A : Type 0} (Is : A → Type 0) (before : A → A → Bool) (xs : List A) : Type 0 where
  pub each : AllByRecursion Is xs
  pub up : ascends before xs ≡ true

-- a row: its thread, its number within the thread, what it does, what it replied and where an allocation was placed
pub record IsRowLine (thread number : ℕ) (does : Op) (replied : Reply) (place : Option Spot) : Type 0 where
  pub is_thread : IsSmall thread
  pub is_number : IsSmall number
  pub fits : OpFits does
  pub is_reply : IsReply replied
  pub is_place : IsPlace (is_placed does replied) place

-- a note: the region, the card, which is below 2^18, and the holder with its slot
pub record IsNoteLine (region card : ℕ) (holder : Name) (slot : ℕ) : Type 0 where
  pub is_region : IsRegion region
  pub is_card : card < 2 ^ 18
  pub is_holder : IsName holder
  pub is_slot : IsSmall slot

-- a partial collection: regions, kept objects and causes ascend
pub record IsPartialLine (chosen : List ℕ) (scans : ℕ) (kept : List Kept) (aborts : List Abort) : Type 0 where
  pub are_chosen : IsRising IsRegion nat_lt chosen
  pub is_count : IsSmall scans
  pub are_kept : IsRising IsKept is_kept_before kept
  pub are_causes : IsRising IsCause is_cause_before aborts

-- an event has a line; names that a mark step lists and packed objects stand in any order
abbrev pub HasLine : Entry → Type 0
HasLine (row t k o r p) = IsRowLine t k o r p
HasLine (note q card holder slot) = IsNoteLine q card holder slot
HasLine (partial chosen scans kept aborts) = IsPartialLine chosen scans kept aborts
HasLine begin = ⊤
HasLine (mark names) = AllByRecursion IsName names
HasLine (end dead) = IsRising IsName is_before dead
HasLine (global dead packed) = IsRising IsName is_before dead × AllByRecursion IsPacked packed
