-- Where the objects of the chosen regions went, by what was decided of each.
use Rattle.std.specs.Prelude.{◌≡◌, ◌||◌, ℕ, Bool, IsTrue, List, Option, None, Some, false, is_some, not, option_and_then, true, unwrap_or, if◌then◌else◌}
use Rattle.bal_core.specs.declared.event.Decision.{Decision}
use Rattle.bal_core.specs.declared.event.Decision.TheVariants as decision
use Rattle.bal_core.specs.World.{IsRoot, PointsTo}
use Rattle.bal_gather.specs.Lent.{Lent, is_chosen}
use Rattle.bal_gather.specs.Numbers.{number_of}
use Rattle.bal_kept.specs.Collected.{world_from}
use Rattle.bal_layout.specs.Addresses.{region_of}
use Rattle.bal_layout.specs.Regions.{is_in, is_object}
use Rattle.bal_table.specs.Table.{Table, role_at, things_of}
use Rattle.bal_words.specs.Things.{Thing}

-- what was decided of each object of the chosen regions, by its number
abbrev pub Decisions : Type 0
Decisions = ℕ → Option Decision

-- what was decided of the object that starts at an address, if it is one of these and was decided
abbrev pub decided_at : Lent → Decisions → ℕ → Option Decision
decided_at l decisions a = option_and_then decisions (number_of l a)

abbrev pub address_of_copy : Decision → Option ℕ
address_of_copy (decision.Copied address) = Some address
address_of_copy decision.Marked = None

abbrev pub is_mark : Option Decision → Bool
is_mark None = false
is_mark (Some (decision.Copied address)) = false
is_mark (Some decision.Marked) = true

-- where its copy is, if it was copied
abbrev pub copy_of : Lent → Decisions → ℕ → Option ℕ
copy_of l decisions a = option_and_then address_of_copy (decided_at l decisions a)

-- where it is then, if it was copied or not
abbrev pub goes_to : Lent → Decisions → ℕ → ℕ
goes_to l decisions a = unwrap_or (copy_of l decisions a) a

abbrev pub is_marked_at : Lent → Decisions → ℕ → Bool
is_marked_at l decisions a = is_mark (decided_at l decisions a)

-- it stays in the heap: it does not lie in a chosen region, or it was decided
abbrev pub survives : Lent → Decisions → ℕ → Bool
survives l decisions a = not (is_chosen l a) || is_some (decided_at l decisions a)

-- the regions that were drawn are put back, with just the copies, and everything else is as it was
pub record IsPutBack (l : Lent) (decisions : Decisions) (drawn : List ℕ) (u : Table) : Type 0 where
  pub shape : u.shape ≡ l.table.shape
  pub free : (q : ℕ) → IsTrue (is_in q drawn) → is_object (role_at l.table q) ≡ false
  pub copies : (a b : ℕ) → copy_of l decisions a ≡ Some b
      → IsTrue (is_in (region_of l.table.shape b) drawn) × (things_of u b ≡ things_of l.table a)
  pub only : (b : ℕ) (x : Thing) → IsTrue (is_in (region_of l.table.shape b) drawn) → things_of u b ≡ Some x → (a : ℕ) × (copy_of l decisions a ≡ Some b)
  pub others : (b : ℕ) → is_in (region_of l.table.shape b) drawn ≡ false → things_of u b ≡ things_of l.table b

-- of the chosen regions the marked objects are left, and of the others all
pub record IsLeft (l : Lent) (decisions : Decisions) (u v : Table) : Type 0 where
  pub objects : (a : ℕ) → things_of v a ≡ (if is_chosen l a then (if is_marked_at l decisions a then things_of u a else None) else things_of u a)

-- nothing is left to decide: each root and each target of a decided object is decided
pub record IsQuiet (l : Lent) (held pool : List ℕ) (decisions : Decisions) : Type 0 where
  pub roots : (k : ℕ) → IsRoot (world_from l held pool) k → is_some (decisions k) ≡ true
  pub targets : (j k : ℕ) → is_some (decisions j) ≡ true → PointsTo (world_from l held pool) j k → is_some (decisions k) ≡ true
