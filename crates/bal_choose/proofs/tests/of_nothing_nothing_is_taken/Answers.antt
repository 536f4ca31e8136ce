use Rattle.std.proofs.Common.{rules}
use Rattle.std.specs.List.{IsDistinct}
use Rattle.bal_choose.proofs.tests.of_nothing_nothing_is_taken.Goals as goal

pub are_taken-requires : goal.are_taken-requires
unfolding IsDistinct
are_taken-requires g c = search rules

pub are_taken-requires-2 : goal.are_taken-requires-2
unfolding IsDistinct
are_taken-requires-2 g c = search rules
