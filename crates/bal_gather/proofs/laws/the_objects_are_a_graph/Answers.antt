use Rattle.bal_gather.proofs.Graphs.{graph-is}
use Rattle.bal_gather.proofs.laws.the_objects_are_a_graph.Goals as goal

pub returns : goal.returns
returns c = graph-is c.a_header_has_one_spelling.ensures.only
