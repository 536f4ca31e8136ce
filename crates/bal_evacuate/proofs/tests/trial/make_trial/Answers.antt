use Rattle.std.proofs.Common.{arith, subst, sym}
use Rattle.bal_core.specs.Start.{IsObject}
use Rattle.bal_evacuate.specs.Trials.{small}
use Rattle.bal_evacuate.proofs.Trials.{object-of}
use Rattle.bal_evacuate.proofs.tests.trial.make_trial.Goals as goal

pub returns-clause-trial : goal.returns-clause-trial
returns-clause-trial c = record {
  some = c.requires.some;
  first = subst (IsObject small) (sym c.in_ok-words_of.ensures) (object-of c.args.first c.requires.least c.requires.most);
  other = subst (IsObject small) (sym c.in_ok-words_of-2.ensures) (object-of 31 (omega arith) (omega arith));
  age = c.requires.age;
}
