use Rattle.bal_copyfwd.proofs.States.{states-after}
use Rattle.bal_copyfwd.proofs.laws.regions_are_those_of_the_board.Goals as goal

pub returns : goal.returns
returns c = λ conf b chosen e kept u marked whole leaves in_use ascending shape back counted.
    states-after conf b chosen e kept whole leaves in_use ascending u marked shape back counted
