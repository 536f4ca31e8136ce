-- Objects are those of a board from the beginning, after each row and after each allocation.
use Rattle.std.proofs.Common.{◌≡◌, ◌<◌, ◌+◌, ℕ, suc, Some, None, List, [], length, set, replicate, refl, ap, ap₂, sym, subst, ◌∙◌}
use Rattle.std.specs.Prelude.{if◌then◌else◌}
use Rattle.bal_layout.specs.Addresses.{region_of}
use Rattle.bal_layout.specs.Regions.{free_region, is_free, region_at, region_with_object}
use Rattle.bal_layout.specs.Shape.{IsShape, Shape}
use Rattle.bal_layout.specs.declared.name.Name.{Name}
use Rattle.bal_layout.specs.declared.region_state.RegionState.{RegionState}
use Rattle.bal_words.specs.Things.{blank_thing}
use Rattle.bal_words.proofs.Lemmas.{map-replicated}
use Rattle.bal_roots.specs.Roots.{null_roots, register_place}
use Rattle.bal_barrier.proofs.Lemmas.{covered-blank, covered-empty, lists-stay}
use Rattle.bal_cards.specs.Cards.{Cards, all_clean}
use Rattle.bal_table.specs.Changes.{empty_table}
use Rattle.bal_table.specs.Table.{IsTable, Table}
use Rattle.bal_table.proofs.Lemmas.{IsTable-empty, thing-none}
use Rattle.bal_eden.proofs.Lemmas.{allocated-shape}
use Rattle.bal_eden.specs.declared.room.Room.{Room}
use Rattle.bal_eden.specs.Room.{Allocates, spot_in}
use Rattle.bal_meet.specs.Heap.{Account, Meets, Places, with_object_in}
use Rattle.bal_meet.proofs.Lemmas.{empty-meets, next-met, placed-meets}
use Rattle.bal_model.specs.Configs.{without_options}
use Rattle.bal_model.specs.Plain.{Mutator, allocating, idle, next_name, step}
use Rattle.bal_model.specs.declared.config.Config.{Config}
use Rattle.bal_model.specs.declared.row.Op.{Op}
use Rattle.bal_model.specs.declared.row.Reply.{Reply}
use Rattle.bal_rules.specs.Board.{Board, opening}
use Rattle.bal_rules.specs.RowEvents.{board_with_object}
use Rattle.bal_heap.specs.Kept.{AreKept}
use Rattle.bal_heap.specs.Objects.{Allocated, AreOnBoard, Objects, Performs, after_allocation, header_for, heap_of, made_in}
use Rattle.bal_heap.specs.Request.{IsRequest, requested}
use Rattle.bal_heap.specs.declared.request.Request.{Request}

-- The beginning.

-- no object, and nothing that holds one
abbrev pub nothing : Shape → Objects
nothing s = record { table = empty_table s; cards = all_clean s; roots = null_roots; made = replicate 32 0 }

-- so these are
pub nothing-is : (s : Shape) (table : Table) (cards : Cards) (roots made : List ℕ) → table ≡ empty_table s → cards ≡ all_clean s → roots ≡ null_roots
    → made ≡ replicate 32 0 → ◌≡◌ {A = Objects} (record { table = table; cards = cards; roots = roots; made = made }) (nothing s)
nothing-is s table cards roots made t c r m = cc

-- they are those of the opening board
pub on-opening : (c : Config) → IsShape c.geometry → AreOnBoard (nothing c.geometry) (opening c)
on-opening c shape = record {
  table = IsTable-empty c.geometry shape;
  meets = empty-meets c (heap_of (nothing c.geometry)) (λ a. thing-none c.geometry a shape) refl
      (ap (λ (made : List ℕ). record { made = made; regions = replicate c.geometry.regions free_region; current = None })
      (sym (map-replicated (λ (m : Mutator). length m.made) 32 idle)));
  cards = refl;
  covered = covered-empty c.geometry (all_clean c.geometry) shape;
}

-- whatever the configuration is beside the shape
pub on-opening_of : (s : Shape) → IsShape s → (c : Config) → c.geometry ≡ s → AreOnBoard (nothing s) (opening c)
on-opening_of s shape c is = subst (λ (g : Shape). AreOnBoard (nothing g) (opening c)) is (on-opening c (subst IsShape (sym is) shape))

-- and are kept as objects are
pub kept-nothing : (s : Shape) → IsShape s → AreKept (nothing s)
kept-nothing s shape = record { board = opening (record without_options { geometry = s }); on = on-opening (record without_options { geometry = s }) shape }

-- A row that asks for no room.

-- some board is met after a row
pub kept-after : (o after : Objects) (t : ℕ) (row : Op) (r : Reply) → AreKept o → Performs o after t row r → AreKept after
kept-after o after t row r kept p = record { board = record kept.board { plain = (step kept.board.plain t row).1 }; on = p.meets kept.board kept.on }

-- also where roots are others, or the table is another
pub kept-roots : (o : Objects) (t : ℕ) (row : Op) (r : Reply) → AreKept o → (roots : List ℕ) → Performs o (record o { roots = roots }) t row r → AreKept (record o { roots = roots })
kept-roots o t row r kept roots p = kept-after o (record o { roots = roots }) t row r kept p

pub kept-table : (o : Objects) (t : ℕ) (row : Op) (r : Reply) → AreKept o → (table : Table) → Performs o (record o { table = table }) t row r → AreKept (record o { table = table })
kept-table o t row r kept table p = kept-after o (record o { table = table }) t row r kept p

-- An allocation.

-- the name of the next object that a thread makes
abbrev pub name_next : Objects → ℕ → Name
name_next o t = record { thread = t; ordinal = made_in o t + 1 }

module _ (o : Objects) (t : ℕ) (q : Request) (room : Room) (table : Table) (address : ℕ) (kept : AreKept o) (thread : t < 32) (request : IsRequest o.table.shape q)
    (new : Allocates o.table table q.want room (header_for q (name_next o t)) address) (limits : IsTable table) where
  -- the shape stays
  same-shape : table.shape ≡ o.table.shape
  same-shape = allocated-shape o.table table q.want room (header_for q (name_next o t)) address new

  -- objects once it is made, and its register holds it
  abbrev objects_allocated : Objects
  objects_allocated = record o { table = table; roots = set o.roots (register_place t q.register) (suc address); made = set o.made t (made_in o t + 1) }

  -- where it lies
  there : region_of table.shape address ≡ (spot_in o.table q.want).region
  there = ap (λ (s : Shape). region_of s address) same-shape ∙ new.region

  account-is : (p : ℕ) → p ≡ (spot_in o.table q.want).region
      → ◌≡◌ {A = Account} (heap_of objects_allocated).account (with_object_in t q.want (record { region = p; leaves = [] }) (heap_of o).account)
  account-is p is = ap₂ (λ (rs : List RegionState) c. record { made = set o.made t (made_in o t + 1); regions = rs; current = c })
      (new.regions ∙ ap (λ (n : ℕ). set o.table.regions n (region_with_object q.want.words (region_at o.table.regions n))) (sym is))
      (new.current ∙ ap (λ (n : ℕ). if is_free (region_at o.table.regions n).role then Some n else o.table.current) (sym is))

  places : Places (heap_of o) (heap_of objects_allocated) t q.register q.kind q.refs q.values q.want address
  places = record {
    shape = same-shape;
    none_started = new.none_started;
    object = new.object;
    leaves = λ b x is. refl;
    roots = refl;
    account = account-is (region_of table.shape address) there;
  }

  -- no list is another
  lists : (k : ℕ) → (region_at table.regions k).remembered ≡ (region_at o.table.regions k).remembered
  lists k =
      let p = (spot_in o.table q.want).region in
      ap (λ (rs : List RegionState). (region_at rs k).remembered) new.regions
      ∙ lists-stay o.table.regions p (region_with_object q.want.words (region_at o.table.regions p)) refl k

  -- whatever board was met, the one with the object is met
  on-allocated : (region : ℕ) → region ≡ region_of table.shape address → (d : Board) → AreOnBoard o d
      → AreOnBoard objects_allocated (board_with_object (next_name d.plain t) q.want (record { region = region; leaves = [] })
      (record d { plain = (allocating d.plain t q.register (requested q)).1 }))
  on-allocated region is d h = record {
    table = limits;
    meets = subst (λ (p : ℕ). Meets (heap_of objects_allocated) (board_with_object (next_name d.plain t) q.want (record { region = p; leaves = [] })
        (record d { plain = (allocating d.plain t q.register (requested q)).1 }))) (sym is)
        (placed-meets (heap_of o) (heap_of objects_allocated) d t q.register q.refs q.values address q.kind q.want h.meets thread request.register places);
    cards = h.cards ∙ sym same-shape;
    covered = covered-blank o.table table o.cards address q.refs (blank_thing (name_next o t) q.kind q.refs q.values) h.table limits same-shape new.object refl
        lists h.covered;
  }

  -- no other word is another
  words-allocated : objects_allocated ≡ after_allocation o t q room (name_next o t)
  words-allocated =
      ap₂ (λ (u : Table) (n : ℕ). record o { table = u; roots = set o.roots (register_place t q.register) (suc n); made = set o.made t (made_in o t + 1) }) new.exact new.address_is

  allocated-there : (region : ℕ) → region ≡ region_of table.shape address → Allocated o objects_allocated t q room (name_next o t) region
  allocated-there region is = record {
    words = words-allocated;
    shape = same-shape;
    name_is = λ d h. next-met (heap_of o) d t h.meets thread;
    meets = on-allocated region is;
    region = is ∙ there;
  }

-- an object with the next ordinal is allocated, and a register takes its word
pub allocated : (o : Objects) (t : ℕ) (q : Request) (room : Room) (table : Table) (address ordinal region : ℕ) (roots made : List ℕ) → AreKept o → t < 32 → IsRequest o.table.shape q
    → ordinal ≡ made_in o t + 1 → Allocates o.table table q.want room (header_for q (record { thread = t; ordinal = ordinal })) address → IsTable table
    → roots ≡ set o.roots (register_place t q.register) (suc address) → made ≡ set o.made t ordinal → region ≡ region_of table.shape address
    → AreKept (record o { table = table; roots = roots; made = made })
    × Allocated o (record o { table = table; roots = roots; made = made }) t q room (record { thread = t; ordinal = ordinal }) region
allocated o t q room table address ordinal region roots made kept thread request next new limits root count is =
    let exact = subst (λ (n : ℕ). Allocates o.table table q.want room (header_for q (record { thread = t; ordinal = n })) address) next new in
    let after : Objects = record o { table = table; roots = roots; made = made } in
    let same : objects_allocated o t q room table address kept thread request exact limits ≡ after = cc in
    let done = allocated-there o t q room table address kept thread request exact limits region is in (
      subst AreKept same (record {
        board = board_with_object (next_name kept.board.plain t) q.want (record { region = region; leaves = [] })
            (record kept.board { plain = (allocating kept.board.plain t q.register (requested q)).1 });
        on = done.meets kept.board kept.on;
      }),
      subst (λ (u : Objects). Allocated o u t q room (record { thread = t; ordinal = ordinal }) region) same
          (subst (λ (n : ℕ). Allocated o (objects_allocated o t q room table address kept thread request exact limits) t q room (record { thread = t; ordinal = n }) region) (sym next) done),
    )
