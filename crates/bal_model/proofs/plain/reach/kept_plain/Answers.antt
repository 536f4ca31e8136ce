use Rattle.std.proofs.Common.{◌≡◌, ◌∙◌, Some, ◌+◌, ◌-◌, ◌<◌, ◌≤◌, ◌↔◌, IsTrue, ℕ, [], List, refl, ap, sym, subst, arith, filter, flat_map, not, length, length-append, get_or}
use Rattle.std.specs.Prelude.{slice_get}
use Rattle.std.proofs.lemmas.Option.{get_or_from_slice_get, slice_get_within}
use Rattle.std.proofs.lemmas.Result.{IfOk-weaker}
use Rattle.std.proofs.lemmas.List.Sums.{fold-append}
use Rattle.bal_layout.specs.declared.name.Name.{Name}
use Rattle.bal_layout.specs.Names.{is_among}
use Rattle.bal_model.specs.declared.plain.marks.Marks.{Marks}
use Rattle.bal_model.specs.Ascending.{IsAscending}
use Rattle.bal_model.specs.Kept.{kept_ground}
use Rattle.bal_model.specs.Marks.{is_marked}
use Rattle.bal_model.specs.Searching.{IsClosing, with_all_found, with_found}
use Rattle.bal_model.specs.Walk.{EndsWalk, ends_of_walks, root_names, targets}
use Rattle.bal_model.proofs.Ascending.{ends-ascend}
use Rattle.bal_model.proofs.SearchFacts.{all-found-after, all-looked, begun_from, closing-begun, closing-next, kept-begins, left-all-found, tells-ends}
use Rattle.bal_model.proofs.plain.reach.kept_plain.Goals as goal

pub loop-name-init : goal.loop-name-init
loop-name-init c =
    let s = c.args.state.now in
    let present = c.args.present.now in
    let chosen = c.args.chosen.now in
    let made = c.in_ok-search.search in
    let same = c.in_ok-search.ensures.inside in
    let inside = is_marked made.inside in
    let roots = c.find_roots.new.self in
    let outside = flat_map (targets s) (filter (λ x. not (inside x)) present) in
    let held = c.in_ok-find_roots.ensures.found ∙ ap (λ (l : List Name). with_all_found inside l (root_names s)) c.in_ok-search.ensures.found in
    let all : c.find_from_outside.new.self.found.items ≡ with_all_found inside [] (begun_from s present chosen inside same) =
    c.in_ok-find_from_outside.ensures.found
    ∙ (ap (λ (m : Marks). with_all_found (is_marked m) roots.found.items (flat_map (targets s) (filter (λ x. not (is_marked m x)) present))) c.find_roots.ensures.inside
    ∙ (ap (λ (l : List Name). with_all_found inside l outside) held ∙ sym (fold-append (with_found inside) [] (root_names s) outside))) in
    record {
      search = c.in_ok-find_from_outside.ensures.search;
      inside = λ x. ap (λ (m : Marks). is_marked m x) (c.find_from_outside.ensures.inside ∙ c.find_roots.ensures.inside) ∙ same x;
      closing = subst (λ (l : List Name). IsClosing (kept_ground s present chosen) l 0) (sym all)
          (closing-begun (kept_ground s present chosen) inside same (begun_from s present chosen inside same) (kept-begins s present chosen inside same));
      within = omega arith;
    }

-- the name that is looked at is one of those found
looked : (found : List Name) (i : ℕ) (x : Name) → slice_get found i ≡ Some x → (i < length found) × (x ≡ get_or found i x)
looked found i x e = (slice_get_within found i x e, sym (get_or_from_slice_get found i x x e))

-- how much is left to do
abbrev left_of : List Name → List Name → ℕ
left_of chosen f = length (filter (λ x. not (is_among x f)) chosen) + length f

less : (before after many i rest : ℕ) → i < many → before ≡ rest + many → after ≤ before → after - (i + 1) < before - i
less before after many i rest h e le = omega (arith, h, e, le)

pub loop-name-smaller : goal.loop-name-smaller
loop-name-smaller c =
    let chosen = c.args.chosen.now in
    let r = c.loop-name.search in
    let f = r.found.items in
    let i = c.loop-name.looked_at in
    let new = c.find_targets.new.self.found.items in
    let here = looked f i c.in-Some.name (sym c.found_at.ensures ∙ c.in-Some.is) in
    let left = left-all-found (is_marked r.inside) chosen (λ x h. sym (c.loop-name.invariant.inside x) ∙ h) (targets c.args.state.now c.in-Some.name) f in
    let same : left_of chosen new ≡ left_of chosen (with_all_found (is_marked r.inside) f (targets c.args.state.now c.in-Some.name)) =
    ap (left_of chosen) c.in_ok-find_targets.ensures.found in
    less (left_of chosen f) (left_of chosen new) (length f) i (length (filter (λ x. not (is_among x f)) chosen)) here.0 refl (subst (λ n. n ≤ left_of chosen f) (sym same) left)

pub loop-name-preserved : goal.loop-name-preserved
loop-name-preserved c =
    let s = c.args.state.now in
    let r = c.loop-name.search in
    let f = r.found.items in
    let i = c.loop-name.looked_at in
    let inv = c.loop-name.invariant in
    let x = c.in-Some.name in
    let new = c.find_targets.new.self.found.items in
    let inside = is_marked r.inside in
    let here = looked f i x (sym c.found_at.ensures ∙ c.in-Some.is) in
    let found : new ≡ with_all_found inside f (targets s x) = c.in_ok-find_targets.ensures.found in
    let more = all-found-after inside (targets s x) f in
    let g = kept_ground s c.args.present.now c.args.chosen.now in
    record {
      search = c.in_ok-find_targets.ensures.search;
      inside = λ y. ap (λ (m : Marks). is_marked m y) c.find_targets.ensures.inside ∙ inv.inside y;
      closing = subst (λ (l : List Name). IsClosing g l (i + 1)) (sym found) (closing-next g inside inv.inside f i x inv.closing here.0 here.1);
      within = omega (arith, here.0, ap length found, ap length more.1, length-append f more.0);
    }

pub returns-clause-names : goal.returns-clause-names
returns-clause-names c =
    let g = kept_ground c.args.state.now c.args.present.now c.args.chosen.now in
    let inv = c.loop-name.invariant in
    let listed = all-looked g c.loop-name.search inv.search inv.inside c.loop-name.looked_at inv.closing (sym c.found_at.ensures ∙ c.in_default.is) in
    IfOk-weaker c.found_among.result
    (λ kept. kept.list ≡ filter (λ x. not (is_marked c.loop-name.search.unfound x)) c.args.chosen.now) (λ kept. kept.list ≡ ends_of_walks g)
    (λ kept is. is ∙ listed) c.found_among.ensures

pub returns-clause-walks : goal.returns-clause-walks
returns-clause-walks c =
    let g = kept_ground c.args.state.now c.args.present.now c.args.chosen.now in
    let inv = c.loop-name.invariant in
    let listed = all-looked g c.loop-name.search inv.search inv.inside c.loop-name.looked_at inv.closing (sym c.found_at.ensures ∙ c.in_default.is) in
    IfOk-weaker c.found_among.result
    (λ kept. kept.list ≡ filter (λ x. not (is_marked c.loop-name.search.unfound x)) c.args.chosen.now)
    (λ kept. (x : Name) → IsTrue (is_among x kept.list) ↔ EndsWalk g x)
    (λ kept is. tells-ends g kept.list (is ∙ listed)) c.found_among.ensures

pub returns-clause-ordered : goal.returns-clause-ordered
returns-clause-ordered c =
    let g = kept_ground c.args.state.now c.args.present.now c.args.chosen.now in
    let inv = c.loop-name.invariant in
    let listed = all-looked g c.loop-name.search inv.search inv.inside c.loop-name.looked_at inv.closing (sym c.found_at.ensures ∙ c.in_default.is) in
    IfOk-weaker c.found_among.result
    (λ kept. kept.list ≡ filter (λ x. not (is_marked c.loop-name.search.unfound x)) c.args.chosen.now)
    (λ kept. IsAscending c.args.chosen.now → IsAscending kept.list)
    (λ kept is. λ ascends. subst IsAscending (sym (is ∙ listed)) (ends-ascend g ascends)) c.found_among.ensures
