use Rattle.bal_partial.proofs.Refills.{refilled-table}
use Rattle.bal_partial.proofs.Standing.{each-stands}
use Rattle.bal_partial.specs.Collection.{plan_of}
use Rattle.bal_table.proofs.Lemmas.{IsOccupied-vacated}
use Rattle.bal_partial.proofs.laws.what_was_out_may_be_put_back.Goals as goal

pub returns-clause-fill : goal.returns-clause-fill
returns-clause-fill c = λ roots x is. record {
  out = c.an_evacuation_puts_back_what_is_out.ensures.out x.table x.chosen (plan_of x) x.course is.evacuation;
  apart = c.an_evacuation_puts_back_what_is_out.ensures.apart x.table x.chosen (plan_of x) x.course is.evacuation;
  each = each-stands c.objects_are_numbered_by_address.ensures.number x.table x.chosen (plan_of x) x.course is.evacuation;
}

pub returns-clause-table : goal.returns-clause-table
returns-clause-table c = λ roots x is.
    refilled-table x.table x.chosen (plan_of x) x.course is.evacuation c.a_region_that_is_put_back_has_its_objects.ensures.occupied
    (IsOccupied-vacated x.table is.evacuation.table)
    (record {
      out = c.an_evacuation_puts_back_what_is_out.ensures.out x.table x.chosen (plan_of x) x.course is.evacuation;
      apart = c.an_evacuation_puts_back_what_is_out.ensures.apart x.table x.chosen (plan_of x) x.course is.evacuation;
      each = each-stands c.objects_are_numbered_by_address.ensures.number x.table x.chosen (plan_of x) x.course is.evacuation;
    })
