use Rattle.std.proofs.Common.{◌∙◌, ap}
use Rattle.std.specs.Option.{option_map}
use Rattle.bal_compact.proofs.Compacts.{last-is}
use Rattle.bal_model.specs.declared.event.Packed.{Packed}
use Rattle.bal_compact.proofs.last_region.Goals as goal

pub returns : goal.returns
returns c = ap (option_map (λ (k : Packed). k.region)) c.in_ok-last.ensures.value ∙ last-is c.args.packed.now
