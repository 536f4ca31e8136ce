use Rattle.std.proofs.Common.{inl, sym, ◌∙◌}
use Rattle.bal_layout.specs.Addresses.{address_in}
use Rattle.bal_table.specs.Changes.{with_carried, with_slid_object}
use Rattle.bal_table.specs.Table.{land_at, things_of}
use Rattle.bal_table.proofs.Carried.{carried-free, thing-carried}
use Rattle.bal_table.proofs.Cut.{things-cut}
use Rattle.bal_table.proofs.Slid.{slid-free, thing-slid}
use Rattle.bal_table.proofs.laws.objects_of_a_table_are_moved_one_by_one.Goals as goal

pub returns-clause-slid : goal.returns-clause-slid
returns-clause-slid c = λ before t g keeps old new from to x shows carried is kept still table may redirected.
    c.objects_are_carried_one_by_one.ensures.step before (things_of t) (things_of (with_slid_object t from to)) g keeps old new from to x shows carried is kept still
    (slid-free t from to table may) (thing-slid t from to table may) redirected

pub returns-clause-carried : goal.returns-clause-carried
returns-clause-carried c = λ before t g keeps old new from q x shows carried is kept still table may redirected.
    c.objects_are_carried_one_by_one.ensures.step before (things_of t) (things_of (with_carried t from q)) g keeps old new from (address_in t.shape q (land_at t q).used) x
    shows carried is kept still (inl (carried-free t from q table may)) (thing-carried t from q table may) redirected

pub returns-clause-cut : goal.returns-clause-cut
returns-clause-cut c = λ before t keeps to q table within carried. record {
  carried = λ a x is kept. things-cut t q (to a) table within ∙ carried.carried a x is kept;
  only = λ b x is. carried.only b x (sym (things-cut t q b table within) ∙ is);
}
