use Rattle.bal_meet.proofs.Reading.{global-decoded, register-decoded}
use Rattle.bal_meet.proofs.read.a_root_is_read_from_its_word.Goals as goal

pub returns-clause-register : goal.returns-clause-register
returns-clause-register c = register-decoded

pub returns-clause-global : goal.returns-clause-global
returns-clause-global c = global-decoded
