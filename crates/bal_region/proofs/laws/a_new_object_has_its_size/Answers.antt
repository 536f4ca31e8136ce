use Rattle.bal_region.proofs.Seen.{IsObject-blank, size-header}
use Rattle.bal_region.proofs.laws.a_new_object_has_its_size.Goals as goal

pub returns-clause-two : goal.returns-clause-two
returns-clause-two c = size-header

pub returns-clause-object : goal.returns-clause-object
returns-clause-object c = IsObject-blank
