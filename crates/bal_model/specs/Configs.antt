-- Configurations.
use Rattle.std.specs.Prelude.{ℕ, ◌≤◌, ◌/◌, IfSome, None}
use Rattle.bal_layout.specs.Shape.{IsShape}
use Rattle.bal_model.specs.declared.config.Config.{Config}

-- 64 regions of 1024 words, 8 of them eden, and the usual numbers for the rest
abbrev pub without_options : Config
without_options = record {
  geometry = record { regions = 64; words = 1024 };
  eden = 8;
  older = 2;
  cards = 64;
  workers = 4;
  mark_every = 4;
  mark_step = 256;
  abort_after = None;
}

abbrev pub IsBetween : ℕ → ℕ → ℕ → Type 0
IsBetween least most n = (least ≤ n) × (n ≤ most)

-- what each number of a configuration keeps to
pub record IsWithinLimits (c : Config) : Type 0 where
  pub geometry : IsShape c.geometry
  pub eden : IsBetween 1 (c.geometry.regions / 2) c.eden
  pub older : IsBetween 0 64 c.older
  pub cards : IsBetween 1 1024 c.cards
  pub workers : IsBetween 1 32 c.workers
  pub mark_every : IsBetween 1 1000 c.mark_every
  pub mark_step : IsBetween 1 1000000 c.mark_step
  pub abort_after : IfSome c.abort_after (IsBetween 0 1000000)
