-- The objects once the whole heap was collected.
use Rattle.std.proofs.Common.{◌≡◌, ℕ, List, refl, sym, ◌∙◌}
use Rattle.bal_barrier.specs.Coverage.{IsCovered}
use Rattle.bal_cards.specs.Cards.{Cards}
use Rattle.bal_global.specs.Global.{IsOnBoard}
use Rattle.bal_layout.specs.declared.name.Name.{Name}
use Rattle.bal_model.specs.Configs.{without_options}
use Rattle.bal_model.specs.declared.config.Config.{Config}
use Rattle.bal_model.specs.declared.event.Packed.{Packed}
use Rattle.bal_rules.specs.Board.{Board}
use Rattle.bal_rules.specs.GlobalEvents.{IsGlobal, after_global}
use Rattle.bal_table.specs.Table.{IsTable, Table}
use Rattle.bal_heap.specs.Kept.{AreKept}
use Rattle.bal_heap.specs.Objects.{AreOnBoard, Objects}

module _ (o : Objects) (table : Table) (cards : Cards) (roots : List ℕ) (dead : List Name) (packed : List Packed)
    (event : (c : Config) (b : Board) (made : List ℕ) → IsOnBoard c o.table o.roots made b → IsGlobal c b dead packed)
    (meets : (c : Config) (b : Board) (made : List ℕ) → IsOnBoard c o.table o.roots made b → IsOnBoard c table roots made (after_global c b dead packed))
    (is-table : IsTable table) (covered : IsCovered table cards) (shape : cards.shape ≡ o.cards.shape) where
  -- they are those of the board that the event leaves
  pub collected : (c : Config) (b : Board) → c.geometry ≡ o.table.shape → AreOnBoard o b
      → IsGlobal c b dead packed × AreOnBoard (record { table = table; cards = cards; roots = roots; made = o.made }) (after_global c b dead packed)
  collected c b same on =
      let was : IsOnBoard c o.table o.roots o.made b = record { shape = same; meets = on.meets } in
      let is = meets c b o.made was in (
        event c b o.made was,
        record { table = is-table; meets = is.meets; cards = shape ∙ (on.cards ∙ (sym same ∙ is.shape)); covered = covered },
      )

  pub shape-collected : (b : Board) → AreOnBoard o b → table.shape ≡ o.table.shape
  shape-collected b on = sym (meets (record without_options { geometry = o.table.shape }) b o.made (record { shape = refl; meets = on.meets })).shape

  pub kept-collected : (b : Board) → AreOnBoard o b → AreKept (record { table = table; cards = cards; roots = roots; made = o.made })
  kept-collected b on = record {
    board = after_global (record without_options { geometry = o.table.shape }) b dead packed;
    on = (collected (record without_options { geometry = o.table.shape }) b refl on).1;
  }
