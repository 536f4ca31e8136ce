use Rattle.std.proofs.Common.{◌≡◌, ◌∙◌, ◌+◌, [], ◌∷◌, List, Option, None, ap, sym, subst, take}
use Rattle.std.proofs.lemmas.List.Elements.{filter_map-append}
use Rattle.bal_layout.specs.declared.name.Name.{Name}
use Rattle.bal_model.specs.declared.plain.reach.Search.{Search}
use Rattle.bal_model.specs.Marks.{is_marked}
use Rattle.bal_model.specs.Searching.{IsSearch, with_all_found}
use Rattle.bal_model.specs.Walk.{names_in}
use Rattle.bal_model.proofs.SearchFacts.{then-more}
use Rattle.bal_model.proofs.plain.reach.Search.find_all.Goals.{in-Some+in_ok-find, in_default}
use Rattle.bal_model.proofs.plain.reach.Search.find_all.Goals as goal

-- what the loop keeps
abbrev Stands : Search → List Name → Search → Type 0
Stands before names now = record {
  search : IsSearch now;
  inside : now.inside ≡ before.inside;
  found : now.found.items ≡ with_all_found (is_marked before.inside) before.found.items names;
}

pub loop-index-preserved : goal.loop-index-preserved
loop-index-preserved c =
    let before = c.args.self.now in
    let names = c.args.names.now in
    let i = c.loop-index.index in
    let r = c.loop-index.self in
    let inv = c.loop-index.invariant in
    let more = λ (h : List Name). then-more names_in (filter_map-append (λ (o : Option Name). o)) before.inside r.inside before.found.items r.found.items h names i None c.loop-index-test.true inv.inside inv.found in
    elim c.match-names-index.branch [
      | in-Some+in_ok-find w ↦ subst (Stands before (names_in (take (i + 1) names))) (sym w.self-is) (record {
        search = w.in_ok-find.ensures.search;
        inside = w.find.ensures.inside ∙ inv.inside;
        found = more w.find.new.self.found.items
            (w.in_ok-find.ensures.found ∙ ap (λ (o : Option Name). with_all_found (is_marked r.inside) r.found.items (names_in (o ∷ []))) (sym w.in-Some.is));
      })
      | in_default w ↦ subst (Stands before (names_in (take (i + 1) names))) (sym w.self-is) (record {
        search = inv.search;
        inside = inv.inside;
        found = more r.found.items (ap (λ (o : Option Name). with_all_found (is_marked r.inside) r.found.items (names_in (o ∷ []))) (sym w.in_default.is));
      })
    ]
