use Rattle.bal_copyfwd.proofs.PutBack.{objects-back, objects-other, other-state, own-state}
use Rattle.bal_copyfwd.proofs.laws.regions_are_put_back.Goals as goal

pub returns-clause-objects : goal.returns-clause-objects
returns-clause-objects c = λ bs t i a b. objects-back bs t i b a

pub returns-clause-state : goal.returns-clause-state
returns-clause-state c = own-state

pub returns-clause-others : goal.returns-clause-others
returns-clause-others c = objects-other

pub returns-clause-other_states : goal.returns-clause-other_states
returns-clause-other_states c = other-state
