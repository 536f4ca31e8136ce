use Rattle.bal_kept.proofs.Named.{given}
use Rattle.bal_kept.proofs.Worlds.{names-all, names-once, number-aged, number-named, number-sized}
use Rattle.bal_kept.proofs.told.the_world_tells_the_objects.Goals as goal

pub returns-clause-name : goal.returns-clause-name
returns-clause-name c = λ l held pool k a x at. number-named l held pool k a at x

pub returns-clause-size : goal.returns-clause-size
returns-clause-size c = λ l held pool k a words at. number-sized l held pool k a at words

pub returns-clause-age : goal.returns-clause-age
returns-clause-age c = number-aged

pub returns-clause-all : goal.returns-clause-all
returns-clause-all c = λ b spot l roots held places pool name from.
    names-all (given c.objects_are_numbered_by_address.ensures.number c.what_is_held_from_outside_is_gathered.ensures.held from) pool name

pub returns-clause-once : goal.returns-clause-once
returns-clause-once c = λ b spot l roots held places pool name j k from.
    names-once (given c.objects_are_numbered_by_address.ensures.number c.what_is_held_from_outside_is_gathered.ensures.held from) pool name j k
