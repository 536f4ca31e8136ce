-- How the regions of a table are read while some of them are out.
use Rattle.std.specs.Prelude.{◌≡◌, ◌⊎◌, length}
use Rattle.bal_region.specs.Changes.{empty_land}
use Rattle.bal_region.specs.Land.{Land}

-- a region is read as itself, or one without words as an empty one
abbrev pub IsReadAs : Land → Land → Type 0
IsReadAs l read = (l ≡ read) ⊎ ((l ≡ empty_land l.number 0) × (read ≡ empty_land read.number (length read.words)))
