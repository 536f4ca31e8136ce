use Rattle.std.proofs.Common.{◌≡◌, take, flat_map}
use Rattle.bal_model.specs.Marks.{is_marked}
use Rattle.bal_model.specs.Searching.{IsSearch, with_all_found}
use Rattle.bal_model.specs.Walk.{names_in}
use Rattle.bal_model.proofs.plain.reach.Search.find_registers.Given as goal

-- walks have come to what stands below this one
abbrev pub invariant-loop-thread : goal.invariant-loop-thread
invariant-loop-thread l = record {
  search : IsSearch l.self;
  inside : l.self.inside ≡ l.initial.self.inside;
  found : l.self.found.items ≡ with_all_found (is_marked l.initial.self.inside) l.initial.self.found.items (flat_map (λ m. names_in m.registers) (take l.thread l.state.mutators));
}
