use Rattle.std.proofs.Common.{◌≡◌, take, filter, flat_map, not}
use Rattle.bal_model.specs.Marks.{is_marked}
use Rattle.bal_model.specs.Searching.{IsSearch, with_all_found}
use Rattle.bal_model.specs.Walk.{targets}
use Rattle.bal_model.proofs.plain.reach.Search.find_from_outside.Given as goal

-- walks have come to what stands below this one
abbrev pub invariant-loop-index : goal.invariant-loop-index
invariant-loop-index l = record {
  search : IsSearch l.self;
  inside : l.self.inside ≡ l.initial.self.inside;
  found : l.self.found.items ≡ with_all_found (is_marked l.initial.self.inside) l.initial.self.found.items (flat_map (targets l.state) (filter (λ x. not (is_marked l.initial.self.inside x)) (take l.index l.present)));
}
