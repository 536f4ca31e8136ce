use Rattle.bal_laws.proofs.Replies.{same-replies}
use Rattle.bal_laws.proofs.order.two_configurations_reply_the_same.Goals as goal

pub returns : goal.returns
returns c = same-replies
