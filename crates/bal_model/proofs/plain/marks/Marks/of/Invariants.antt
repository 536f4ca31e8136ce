use Rattle.std.proofs.Common.{◌≡◌, take}
use Rattle.std.specs.Prelude.{IsSome}
use Rattle.bal_layout.specs.declared.name.Name.{Name}
use Rattle.bal_layout.specs.Names.{is_among}
use Rattle.bal_model.specs.Plain.{object}
use Rattle.bal_model.specs.Marks.{HasRoom, is_marked}
use Rattle.bal_model.proofs.plain.marks.Marks.of.Given as goal

-- those below this one are marked
abbrev pub invariant-loop-index : goal.invariant-loop-index
invariant-loop-index l = record {
  marked : (x : Name) → is_marked l.marks x ≡ is_among x (take l.index l.names);
  room : (x : Name) → IsSome (object l.state x) → HasRoom l.marks x;
}
