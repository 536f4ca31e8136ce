use Rattle.std.proofs.Common.{◌≡◌, ◌∙◌, List, ap, map, subst, sym}
use Rattle.bal_region.specs.Land.{Land}
use Rattle.bal_table.specs.KeptOccupied.{seen_land, seen_table}
use Rattle.bal_table.specs.Occupied.{Occupied}
use Rattle.bal_table.specs.Table.{IsTable}
use Rattle.bal_table.proofs.Hollow.{lands-whole}
use Rattle.bal_table.proofs.occupied.Occupied.whole.Goals as goal

-- none is out
lands : (c : goal.After-self) → map (seen_land c.self.inside.geometry) c.self.inside.regions.items ≡ c.self.inside.regions.items
lands c = lands-whole c.self.inside c.self.invariant (ap (λ (o : Occupied). o.out) c.self.view_is ∙ c.requires)

pub invariant_of-result : goal.invariant_of-result
invariant_of-result c =
    let a = c.self.inside in
    record {
      table = subst (λ ls. IsTable (record (seen_table a) { lands = ls })) (lands c) c.self.invariant.table;
      counts = c.self.invariant.counts;
    }

pub returns : goal.returns
returns c =
    ap (λ (ls : List Land). record (seen_table c.self.inside) { lands = ls }) (sym (lands c)) ∙ ap (λ (o : Occupied). o.table) c.self.view_is
