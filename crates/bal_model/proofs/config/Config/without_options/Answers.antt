use Rattle.std.proofs.Common.{◌≡◌, ◌∙◌, sym, refl, Option, Some, None}
use Rattle.bal_layout.specs.Geometry.{fault_of}
use Rattle.bal_layout.specs.declared.geometry.GeometryFault.{GeometryFault}
use Rattle.bal_model.proofs.config.Config.without_options.Goals as goal

-- 64 regions of 1024 words are a geometry
good : fault_of 64 1024 ≡ None
good = refl

bad : (fault : GeometryFault) → ◌≡◌ {A = Option GeometryFault} None (Some fault) → ⊥
bad fault e = cc

pub unreachable-requires : goal.unreachable-requires
unreachable-requires c = bad c.in_default.field-0 (sym good ∙ c.in_default.ensures)
