-- What the worked journals are.
use Rattle.std.specs.Prelude.{List}
use Rattle.bal_model.specs.declared.config.Config.{Config}
use Rattle.bal_model.specs.declared.row.Row.{Row}
use Rattle.bal_model.specs.Entries.{Entry}
use Rattle.bal_rules.specs.Interim.{Rule}
use Rattle.bal_rules.specs.Run.{IsWholeRun, IsComplete, IsInFileOrder}

-- a journal as `replay` writes it for a trace: a whole and complete run of it, in file order
pub record IsReplay (rule : Rule) (c : Config) (rows : List Row) (entries : List Entry) : Type 0 where
  pub run : IsWholeRun rule c rows entries
  pub complete : IsComplete rows entries
  pub in_order : IsInFileOrder rows entries
