use Rattle.bal_copyfwd.proofs.Returned.{put-back}
use Rattle.bal_copyfwd.proofs.laws.an_evacuation_is_put_back.Goals as goal

pub returns : goal.returns
returns c = λ t chosen p k. put-back c.objects_are_numbered_by_address.ensures.number t chosen p k
