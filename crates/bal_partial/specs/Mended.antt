-- The heap after the evacuation: regions that were out are put back, the chosen ones are settled, and references are mended.
use Rattle.std.specs.Prelude.{ℕ, List}
use Rattle.bal_cards.specs.Cards.{Cards}
use Rattle.bal_copyfwd.specs.Returned.{refilled}
use Rattle.bal_fixup.specs.Dirtied.{BecameDirty, HasReferenceIn, with_dirty_places}
use Rattle.bal_fixup.specs.Mended.{HasSameStarts}
use Rattle.bal_fixup.specs.Mending.{MendedWhere}
use Rattle.bal_fixup.specs.Placed.{lies_among, with_mended}
use Rattle.bal_partial.specs.Collection.{Collection, marked_of}
use Rattle.bal_settle.specs.Settled.{lost_regions, settled}
use Rattle.bal_sweep.specs.Sweep.{without_regions}
use Rattle.bal_table.specs.Moves.{Forwarding, moved_to}
use Rattle.bal_table.specs.Table.{IsTable, Table, things_of}

-- the heap with the copies, in which the chosen regions keep just the marked objects. No reference is mended yet
abbrev pub settled_of : Collection → Table
settled_of x = settled x.chosen (marked_of x) (refilled x.table x.course)

-- and with the references mended that lead into the chosen regions from outside
abbrev pub places_mended : Collection → Forwarding → Table
places_mended x m = with_mended (moved_to m) x.places (settled_of x)

-- then the references in the regions of survivors are mended too. Their cards are dirty, and so are those of the places; freed
-- regions have no dirty card else
pub record IsMended (x : Collection) (m : Forwarding) (regions : List ℕ) (before after : Cards) (v : Table) : Type 0 where
  pub before_is : IsTable (settled_of x)
  pub after_is : IsTable v
  pub mended : MendedWhere (things_of (places_mended x m)) (things_of v) (lies_among x.table.shape regions) (moved_to m)
  pub same : HasSameStarts (places_mended x m) v
  pub dirty : BecameDirty (with_dirty_places x.places (without_regions (lost_regions x.table.shape x.chosen (marked_of x)) before)) after
      (HasReferenceIn (places_mended x m) regions)
