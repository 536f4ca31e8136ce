use Rattle.bal_laws.proofs.Replies.{run-replies}
use Rattle.bal_laws.proofs.order.replies_are_the_plain_graphs.Goals as goal

pub returns : goal.returns
returns c = run-replies
