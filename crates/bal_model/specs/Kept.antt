-- What is kept of a set of objects: the ends of walks inside the set that begin at what is held from outside of it.
use Rattle.std.specs.Prelude.{◌||◌, not, List, filter}
use Rattle.std.specs.List.{list_any}
use Rattle.bal_layout.specs.declared.name.Name.{Name}
use Rattle.bal_layout.specs.Names.{is_among}
use Rattle.bal_model.specs.Plain.{State}
use Rattle.bal_model.specs.Walk.{Ground, ends_of_walks, root_names, targets}

-- the present names that aren't in the set; objects that are garbage already are among them
abbrev pub outside_of : List Name → List Name → List Name
outside_of chosen present = filter (λ x. not (is_among x chosen)) present

-- walks inside the set begin at names that a register or a global holds, or an object outside of the set
abbrev pub kept_ground : State → List Name → List Name → Ground
kept_ground s present chosen = record {
  inside = chosen;
  begins = λ x. is_among x (root_names s) || list_any (λ y. is_among x (targets s y)) (outside_of chosen present);
  refs = targets s;
}

-- of the present names, those of the set that are kept, ascending where the set is
abbrev pub kept_names : State → List Name → List Name → List Name
kept_names s present chosen = ends_of_walks (kept_ground s present chosen)
