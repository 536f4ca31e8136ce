use Rattle.std.proofs.Common.{◌≡◌, ◌≤◌, ◌+◌, ◌-◌, length, filter, not}
use Rattle.bal_layout.specs.declared.name.Name.{Name}
use Rattle.bal_layout.specs.Names.{is_among}
use Rattle.bal_model.specs.Kept.{kept_ground}
use Rattle.bal_model.specs.Marks.{is_marked}
use Rattle.bal_model.specs.Searching.{IsClosing, IsSearch}
use Rattle.bal_model.proofs.plain.reach.kept_plain.Given as goal

-- those that were looked at led to nothing that was not found
abbrev pub invariant-loop-name : goal.invariant-loop-name
invariant-loop-name l = record {
  search : IsSearch l.search;
  inside : (x : Name) → is_marked l.search.inside x ≡ is_among x l.chosen;
  closing : IsClosing (kept_ground l.state l.present l.chosen) l.search.found.items l.looked_at;
  within : l.looked_at ≤ length l.search.found.items;
}

-- each of the chosen is found once at most, and looked at once
abbrev pub decreases-loop-name : goal.decreases-loop-name
decreases-loop-name l = length (filter (λ x. not (is_among x l.search.found.items)) l.chosen) + length l.search.found.items - l.looked_at
