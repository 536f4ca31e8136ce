-- Regions with which the calls are tried.
use Rattle.std.specs.Prelude.{◌≡◌, None}
use Rattle.bal_dest.specs.Buffers.{Buffers}

-- regions of a heap of four regions with 256 words each, and nothing is reserved
pub record IsTrial (b : Buffers) : Type 0 where
  pub regions : b.shape.regions ≡ 4
  pub words : b.shape.words ≡ 256
  pub idle : b.reserved ≡ None
