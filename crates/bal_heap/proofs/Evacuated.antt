-- The objects once some regions were collected.
use Rattle.std.proofs.Common.{◌≡◌, ◌≤◌, ℕ, List, [], Option, Result, Ok, Err, refl, ap, sym, subst, ◌∙◌, arith}
use Rattle.std.specs.Prelude.{◌||◌, IfOk, IsTrue, OnErr, OnOk}
use Rattle.bal_barrier.specs.Coverage.{AreRemembered, IsCovered, remembered_of}
use Rattle.bal_base.specs.Bits.{is_member}
use Rattle.bal_base.specs.declared.memory.NoMemory.{NoMemory}
use Rattle.bal_cards.specs.Cards.{Cards}
use Rattle.bal_global.specs.Global.{IsOnBoard}
use Rattle.bal_layout.specs.Addresses.{card_of}
use Rattle.bal_model.specs.Configs.{without_options}
use Rattle.bal_model.specs.declared.config.Config.{Config}
use Rattle.bal_model.specs.declared.event.PartialCollection.{PartialCollection}
use Rattle.bal_remember.specs.Remembered.{remembers}
use Rattle.bal_rules.specs.Board.{Board}
use Rattle.bal_rules.specs.Packing.{IsEvacuation}
use Rattle.bal_rules.specs.PartialEvents.{after_partial}
use Rattle.bal_table.specs.Table.{IsTable, Table}
use Rattle.bal_heap.specs.Kept.{AreKept}
use Rattle.bal_heap.specs.Objects.{AreOnBoard, IsEvacuated, Objects}

-- without dirty cards the regions alone know of all references between them
pub all-remembered : (o : Objects) (b : Board) → AreOnBoard o b → o.cards.list ≡ [] → AreRemembered o.table
all-remembered o b on clean = record {
  each = λ holder number place target crosses.
      subst (λ (list : List ℕ). IsTrue (is_member list (card_of place) || remembers (remembered_of o.table target) (card_of place))) clean
      (on.covered.each holder number place target crosses);
}

module _ (o : Objects) (older : ℕ) (limit : Option ℕ) (table : Table) (cards : Cards) (roots : List ℕ) where
  abbrev after : Objects
  after = record { table = table; cards = cards; roots = roots; made = o.made }

  abbrev IsLegal : PartialCollection → Type 0
  IsLegal did = (c : Config) (b : Board) (made : List ℕ) → IsOnBoard c o.table o.roots made b → c.older ≡ older → c.abort_after ≡ limit → 1 ≤ c.workers
      → IsEvacuation c b did.chosen.list did.scans did.kept.list did.aborts.list

  abbrev AreMet : PartialCollection → Type 0
  AreMet did = (c : Config) (b : Board) (made : List ℕ) → IsOnBoard c o.table o.roots made b → c.older ≡ older → c.abort_after ≡ limit → 1 ≤ c.workers
      → IsOnBoard c table roots made (after_partial c b did.chosen.list did.kept.list)

  -- a configuration with these options, for a heap of this shape
  abbrev some_options : Config
  some_options = record without_options { geometry = o.table.shape; older = older; abort_after = limit }

  module _ (did : PartialCollection) (legal : IsLegal did) (meets : AreMet did) (covered : IsCovered table cards) (is-table : IsTable table)
      (shape : cards.shape ≡ o.cards.shape) where
    -- they are those of the board that the event leaves
    done : IsEvacuated o after older limit did.chosen.list did.scans did.kept.list did.aborts.list
    done c b same older-is limit-is workers on =
        let was : IsOnBoard c o.table o.roots o.made b = record { shape = same; meets = on.meets } in
        let is = meets c b o.made was older-is limit-is workers in (
          legal c b o.made was older-is limit-is workers,
          record { table = is-table; meets = is.meets; cards = shape ∙ (on.cards ∙ (sym same ∙ is.shape)); covered = covered },
        )

    shape-done : (b : Board) → AreOnBoard o b → table.shape ≡ o.table.shape
    shape-done b on = sym (meets some_options b o.made (record { shape = refl; meets = on.meets }) refl refl (omega arith)).shape

    kept-done : (b : Board) → AreOnBoard o b → AreKept after
    kept-done b on = record {
      board = after_partial some_options b did.chosen.list did.kept.list;
      on = (done some_options b refl refl refl (omega arith) on).1;
    }

  -- If memory was refused, all is as it was.
  module _ (is-table : IsTable table) (shape : cards.shape ≡ o.cards.shape) (b : Board) (on : AreOnBoard o b) where
    abbrev Same : Type 0
    Same = (table ≡ o.table) × (cards ≡ o.cards) × (roots ≡ o.roots)

    same-objects : Same → after ≡ o
    same-objects same =
        ap (λ (t : Table). record { table = t; cards = cards; roots = roots; made = o.made }) same.0
        ∙ (ap (λ (d : Cards). record o { cards = d; roots = roots }) same.1 ∙ ap (λ (rs : List ℕ). record o { roots = rs }) same.2)

    pub kept-evacuated : (r : Result PartialCollection NoMemory) → IfOk r IsLegal → IfOk r AreMet → OnOk r (IsCovered table cards) → OnErr r Same → AreKept after
    kept-evacuated (Ok did) legal meets covered same = kept-done did legal meets covered is-table shape b on
    kept-evacuated (Err e) legal meets covered same = record { board = b; on = subst (λ (x : Objects). AreOnBoard x b) (sym (same-objects same)) on }

    pub shape-evacuated : (r : Result PartialCollection NoMemory) → IfOk r IsLegal → IfOk r AreMet → OnOk r (IsCovered table cards) → OnErr r Same
        → table.shape ≡ o.table.shape
    shape-evacuated (Ok did) legal meets covered same = shape-done did legal meets covered is-table shape b on
    shape-evacuated (Err e) legal meets covered same = subst (λ (t : Table). t.shape ≡ o.table.shape) (sym same.0) refl

    pub evacuated : (r : Result PartialCollection NoMemory) → IfOk r IsLegal → IfOk r AreMet → OnOk r (IsCovered table cards)
        → IfOk r (λ did. IsEvacuated o after older limit did.chosen.list did.scans did.kept.list did.aborts.list)
    evacuated (Ok did) legal meets covered = done did legal meets covered is-table shape
    evacuated (Err e) legal meets covered = tt

    pub refused : (r : Result PartialCollection NoMemory) → OnErr r Same → OnErr r (after ≡ o)
    refused (Ok did) same = tt
    refused (Err e) same = same-objects same
