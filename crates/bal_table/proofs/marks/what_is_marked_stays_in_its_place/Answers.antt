use Rattle.bal_table.proofs.Marking.{IsMarked-more, in-marked, marked-after, marked-few}
use Rattle.bal_table.proofs.marks.what_is_marked_stays_in_its_place.Goals as goal

pub returns-clause-marked : goal.returns-clause-marked
returns-clause-marked c = in-marked

pub returns-clause-after : goal.returns-clause-after
returns-clause-after c = marked-after

pub returns-clause-few : goal.returns-clause-few
returns-clause-few c = marked-few

pub returns-clause-limits : goal.returns-clause-limits
returns-clause-limits c = IsMarked-more
