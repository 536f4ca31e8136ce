use Rattle.bal_region.proofs.Changed.{IsLand-written}
use Rattle.bal_region.proofs.Seen.{IsBehindHeaders-free, IsBehindHeaders-inside, object-outside, object-written}
use Rattle.bal_region.proofs.laws.a_written_word_is_the_only_change.Goals as goal

pub returns-clause-behind : goal.returns-clause-behind
returns-clause-behind c = IsBehindHeaders-inside

pub returns-clause-inside : goal.returns-clause-inside
returns-clause-inside c = λ l s k word object land is two within. object-written l s k object land is two within word

pub returns-clause-free : goal.returns-clause-free
returns-clause-free c = IsBehindHeaders-free

pub returns-clause-outside : goal.returns-clause-outside
returns-clause-outside c = object-outside

pub returns-clause-land : goal.returns-clause-land
returns-clause-land c = IsLand-written
