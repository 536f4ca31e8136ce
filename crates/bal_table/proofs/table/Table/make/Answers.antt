use Rattle.std.proofs.Common.{◌∙◌, List, ap, refl}
use Rattle.std.specs.Prelude.{None}
use Rattle.bal_layout.specs.declared.region_state.RegionState.{RegionState}
use Rattle.bal_region.specs.Land.{Land}
use Rattle.bal_table.specs.Changes.{empty_table}
use Rattle.bal_table.proofs.Parts.{IsKept-made}
use Rattle.bal_table.proofs.table.Table.make.Goals as goal

pub invariant_of-result : goal.invariant_of-result
invariant_of-result c =
    let s = c.args.geometry in
    IsKept-made _ c.regions-regions.ensures.limits
    (ap (λ (ls : List Land). record { shape = s; lands = ls; regions = c.in_ok-free_states.field-0.items; current = None }) c.in_ok-empty_regions.ensures
    ∙ ap (λ (rs : List RegionState). record { shape = s; lands = (empty_table s).lands; regions = rs; current = None }) c.in_ok-free_states.ensures)
    refl c.regions-regions.ensures.number refl
