use Rattle.std.proofs.Common.{ℕ, List}
use Rattle.bal_copyfwd.specs.Returned.{backs_of, refilled}
use Rattle.bal_partial.proofs.BackAsDrawn.{count-kept}
use Rattle.bal_partial.proofs.CoveredAfter.{collected}
use Rattle.bal_partial.proofs.Mendable.{Known, known, settle-may}
use Rattle.bal_partial.specs.Collection.{Collection, IsCollection, lent_by, marked_of, plan_of}
use Rattle.bal_settle.specs.Settled.{lost_regions}
use Rattle.bal_table.proofs.Lemmas.{IsTable-vacated}
use Rattle.bal_table.specs.Occupied.{vacated}
use Rattle.bal_partial.proofs.laws.references_are_covered_after_it.Goals as goal

-- what the laws say of a collection
all : goal.After-what_led_to_objects_may_be_mended → (roots : List ℕ) (x : Collection) → IsCollection roots x → Known roots x
all c roots x is =
    known roots x is (c.what_was_out_may_be_put_back.ensures.fill roots x is) (c.what_was_out_may_be_put_back.ensures.table roots x is)
    (c.an_evacuation_is_put_back.ensures x.table x.chosen (plan_of x) x.course is.evacuation (c.what_was_out_may_be_put_back.ensures.fill roots x is))
    (λ a. c.objects_are_numbered_by_address.ensures.listed (lent_by x) a (IsTable-vacated x.table is.evacuation.table))
    (c.objects_are_numbered_by_address.ensures.ascend (lent_by x))
    (c.regions_are_put_back.ensures.other_states (backs_of x.course) (vacated x.table))
    (λ p. c.what_is_held_from_outside_is_gathered.ensures.places (lent_by x) roots x.held x.places p)
    (λ words. c.what_led_to_objects_may_be_mended.ensures.roots x.table words is.evacuation.table)

pub returns : goal.returns
returns c = λ roots x m regions d e v is moves are shape mended.
    c.references_are_covered_again.ensures x.table v e
    (record { chosen = x.chosen; freed = lost_regions x.table.shape x.chosen (marked_of x); survivors = regions; places = x.places })
    is.evacuation.table is.begins.remembered is.begins.finds
    (collected roots x (all c roots x is)
    (c.a_settled_table_keeps_just_the_marked.ensures.objects (refilled x.table x.course) x.chosen (marked_of x) (c.what_was_out_may_be_put_back.ensures.table roots x is)
    (settle-may roots x (all c roots x is)))
    (c.a_settled_table_keeps_just_the_marked.ensures.slots (refilled x.table x.course) x.chosen (marked_of x) (c.what_was_out_may_be_put_back.ensures.table roots x is)
    (settle-may roots x (all c roots x is)))
    (c.a_settled_table_keeps_just_the_marked.ensures.words (refilled x.table x.course) x.chosen (marked_of x) (c.what_was_out_may_be_put_back.ensures.table roots x is)
    (settle-may roots x (all c roots x is)))
    (c.a_settled_table_keeps_just_the_marked.ensures.regions (refilled x.table x.course) x.chosen (marked_of x))
    (count-kept (backs_of x.course) (vacated x.table)) regions are m d e v mended)
