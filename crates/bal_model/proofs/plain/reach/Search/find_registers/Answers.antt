use Rattle.std.proofs.Common.{◌≡◌, ◌∙◌, List, ap, sym, arith, flat_map}
use Rattle.std.proofs.lemmas.Grind.{flat_map-append}
use Rattle.std.proofs.lemmas.List.{append-nil}
use Rattle.bal_layout.specs.declared.name.Name.{Name}
use Rattle.bal_model.specs.Plain.{Mutator, mutator}
use Rattle.bal_model.specs.Marks.{is_marked}
use Rattle.bal_model.specs.Searching.{with_all_found}
use Rattle.bal_model.specs.Walk.{names_in}
use Rattle.bal_model.proofs.GraphFacts.{kept-count, kept-mutator}
use Rattle.bal_model.proofs.SearchFacts.{then-more}
use Rattle.bal_model.proofs.plain.reach.Search.find_registers.Goals as goal

abbrev held_by : Mutator → List Name
held_by m = names_in m.registers

pub loop-thread-preserved : goal.loop-thread-preserved
loop-thread-preserved c =
    let before = c.args.self.now in
    let s = c.args.state.now in
    let t = c.loop-thread.thread in
    let r = c.loop-thread.self in
    let inv = c.loop-thread.invariant in
    let m = c.index.result.now in
    let many = kept-count c.state.inside s c.state.view_is in
    let is = kept-mutator c.state.inside s c.state.view_is t m (omega (arith, c.loop-thread-test.true, c.len-thread-end.ensures)) c.index.ensures in
    let held : c.as_slice.result.now ≡ (mutator s t).registers = c.as_slice.ensures ∙ ap (λ (k : Mutator). k.registers) (sym is) in
    record {
      search = c.in_ok-find_all.ensures.search;
      inside = c.find_all.ensures.inside ∙ inv.inside;
      found = then-more (flat_map held_by) (flat_map-append held_by) before.inside r.inside before.found.items r.found.items c.find_all.new.self.found.items s.mutators t _
          (omega (arith, c.loop-thread-test.true, c.len-thread-end.ensures, many)) inv.inside inv.found
          (c.in_ok-find_all.ensures.found ∙ ap (with_all_found (is_marked r.inside) r.found.items) (ap names_in held ∙ sym (append-nil (held_by (mutator s t)))));
    }
