use Rattle.std.proofs.Common.{ℕ, List}
use Rattle.bal_copyfwd.specs.Returned.{backs_of, refilled}
use Rattle.bal_partial.proofs.Mendable.{Known, known, places-outside, places-references, places-slots, region-within, settle-may, survivors-references}
use Rattle.bal_partial.specs.Collection.{Collection, IsCollection, lent_by, marked_of, plan_of}
use Rattle.bal_table.proofs.Lemmas.{IsTable-vacated}
use Rattle.bal_table.specs.Occupied.{vacated}
use Rattle.bal_partial.proofs.laws.what_it_mends_may_be_mended.Goals as goal

-- what the laws say of a collection
all : goal.After-what_led_to_objects_may_be_mended → (roots : List ℕ) (x : Collection) → IsCollection roots x → Known roots x
all c roots x is =
    known roots x is (c.what_was_out_may_be_put_back.ensures.fill roots x is) (c.what_was_out_may_be_put_back.ensures.table roots x is)
    (c.an_evacuation_is_put_back.ensures x.table x.chosen (plan_of x) x.course is.evacuation (c.what_was_out_may_be_put_back.ensures.fill roots x is))
    (λ a. c.objects_are_numbered_by_address.ensures.listed (lent_by x) a (IsTable-vacated x.table is.evacuation.table))
    (c.objects_are_numbered_by_address.ensures.ascend (lent_by x))
    (c.regions_are_put_back.ensures.other_states (backs_of x.course) (vacated x.table))
    (λ p. c.what_is_held_from_outside_is_gathered.ensures.places (lent_by x) roots x.held x.places p)
    (λ words. c.what_led_to_objects_may_be_mended.ensures.roots x.table words is.evacuation.table)

pub returns-clause-settle : goal.returns-clause-settle
returns-clause-settle c = λ roots x is. settle-may roots x (all c roots x is)

pub returns-clause-ascending : goal.returns-clause-ascending
returns-clause-ascending c = λ roots x is. c.gathered_places_ascend.ensures (lent_by x) roots x.held x.places (IsTable-vacated x.table is.evacuation.table) is.gathered

pub returns-clause-slots : goal.returns-clause-slots
returns-clause-slots c = λ roots x is.
    places-slots roots x (all c roots x is)
    (c.a_settled_table_keeps_just_the_marked.ensures.objects (refilled x.table x.course) x.chosen (marked_of x) (c.what_was_out_may_be_put_back.ensures.table roots x is)
    (settle-may roots x (all c roots x is)))
    (c.a_settled_table_keeps_just_the_marked.ensures.slots (refilled x.table x.course) x.chosen (marked_of x) (c.what_was_out_may_be_put_back.ensures.table roots x is)
    (settle-may roots x (all c roots x is)))
    (c.a_settled_table_keeps_just_the_marked.ensures.words (refilled x.table x.course) x.chosen (marked_of x) (c.what_was_out_may_be_put_back.ensures.table roots x is)
    (settle-may roots x (all c roots x is)))

pub returns-clause-words : goal.returns-clause-words
returns-clause-words c = λ roots x p is among.
    places-references roots x (all c roots x is)
    (c.a_settled_table_keeps_just_the_marked.ensures.objects (refilled x.table x.course) x.chosen (marked_of x) (c.what_was_out_may_be_put_back.ensures.table roots x is)
    (settle-may roots x (all c roots x is)))
    (c.a_settled_table_keeps_just_the_marked.ensures.slots (refilled x.table x.course) x.chosen (marked_of x) (c.what_was_out_may_be_put_back.ensures.table roots x is)
    (settle-may roots x (all c roots x is)))
    (c.a_settled_table_keeps_just_the_marked.ensures.words (refilled x.table x.course) x.chosen (marked_of x) (c.what_was_out_may_be_put_back.ensures.table roots x is)
    (settle-may roots x (all c roots x is))) p among

pub returns-clause-within : goal.returns-clause-within
returns-clause-within c = λ roots x regions q is are among.
    region-within roots x (all c roots x is)
    (c.a_settled_table_keeps_just_the_marked.ensures.objects (refilled x.table x.course) x.chosen (marked_of x) (c.what_was_out_may_be_put_back.ensures.table roots x is)
    (settle-may roots x (all c roots x is)))
    (c.a_settled_table_keeps_just_the_marked.ensures.slots (refilled x.table x.course) x.chosen (marked_of x) (c.what_was_out_may_be_put_back.ensures.table roots x is)
    (settle-may roots x (all c roots x is)))
    (c.a_settled_table_keeps_just_the_marked.ensures.words (refilled x.table x.course) x.chosen (marked_of x) (c.what_was_out_may_be_put_back.ensures.table roots x is)
    (settle-may roots x (all c roots x is))) regions are q among

pub returns-clause-references : goal.returns-clause-references
returns-clause-references c = λ roots x m regions a is is-table are lies.
    survivors-references roots x (all c roots x is)
    (c.a_settled_table_keeps_just_the_marked.ensures.objects (refilled x.table x.course) x.chosen (marked_of x) (c.what_was_out_may_be_put_back.ensures.table roots x is)
    (settle-may roots x (all c roots x is)))
    (c.a_settled_table_keeps_just_the_marked.ensures.slots (refilled x.table x.course) x.chosen (marked_of x) (c.what_was_out_may_be_put_back.ensures.table roots x is)
    (settle-may roots x (all c roots x is)))
    (c.a_settled_table_keeps_just_the_marked.ensures.words (refilled x.table x.course) x.chosen (marked_of x) (c.what_was_out_may_be_put_back.ensures.table roots x is)
    (settle-may roots x (all c roots x is))) regions are m is-table a lies

pub returns-clause-outside : goal.returns-clause-outside
returns-clause-outside c = λ roots x m regions is moves are.
    places-outside roots x (all c roots x is)
    (c.a_settled_table_keeps_just_the_marked.ensures.objects (refilled x.table x.course) x.chosen (marked_of x) (c.what_was_out_may_be_put_back.ensures.table roots x is)
    (settle-may roots x (all c roots x is)))
    (c.a_settled_table_keeps_just_the_marked.ensures.slots (refilled x.table x.course) x.chosen (marked_of x) (c.what_was_out_may_be_put_back.ensures.table roots x is)
    (settle-may roots x (all c roots x is)))
    (c.a_settled_table_keeps_just_the_marked.ensures.words (refilled x.table x.course) x.chosen (marked_of x) (c.what_was_out_may_be_put_back.ensures.table roots x is)
    (settle-may roots x (all c roots x is))) regions are m moves
    (c.gathered_places_ascend.ensures (lent_by x) roots x.held x.places (IsTable-vacated x.table is.evacuation.table) is.gathered)
