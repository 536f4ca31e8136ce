-- How a region is kept: its words as far as they were written, and where objects start, with room for all that it can ever
-- have.
use Rattle.std.specs.Prelude.{◌<◌, ◌≤◌, ◌^◌, length, vec_capacity}
use Rattle.bal_base.specs.Filling.{padded}
use Rattle.bal_region.specs.Land.{Land, IsLand}
use Rattle.bal_region.specs.declared.region.Region.TheInside.{Inside}

abbrev pub land_of : Inside → Land
land_of a = record { number = a.number; words = padded a.room a.words.items; starts = a.starts.members; used = a.used }

pub record IsRegion (a : Inside) : Type 0 where
  pub land : IsLand (land_of a)
  pub few : a.room < 2 ^ 32
  -- each word that was given out was written
  pub written : a.used ≤ length a.words.items
  pub within : length a.words.items ≤ a.room
  pub words : a.room ≤ vec_capacity a.words
  pub starts : a.room ≤ a.starts.room
