-- Lists that become empty from the first region on.
use Rattle.std.proofs.Common.{◌≡◌, ℕ, ◌+◌, ◌<◌, ◌≤◌, ◌++◌, List, [], drop, get_or, length, map, take, refl, ap, ◌∙◌, arith, append-nil, length-append, length-drop, length-take, take_all}
use Rattle.std.proofs.lemmas.List.{drop_all, get_or_default, length-map}
use Rattle.std.proofs.lemmas.List.Edits.{map_over_more}
use Rattle.bal_layout.specs.Regions.{free_region}
use Rattle.bal_layout.specs.declared.region_state.RegionState.{RegionState}
use Rattle.bal_remember.specs.Remembered.{cards}
use Rattle.bal_table.specs.Changes.{with_remembered}
use Rattle.bal_table.specs.Table.{IsTable, Table}
use Rattle.bal_rebuild.specs.Rebuilt.{with_empty_list, with_empty_lists}

-- so many lists are empty, and the others are as they were
abbrev pub with_some_empty : Table → ℕ → Table
with_some_empty t n = record t { regions = map with_empty_list (take n t.regions) ++ drop n t.regions }

-- one more
pub empty-more : (t u v : Table) (n : ℕ) → IsTable t → n < t.shape.regions → u ≡ with_some_empty t n → v ≡ with_remembered u n (cards []) → v ≡ with_some_empty t (n + 1)
empty-more t u v n table within so_far emptied =
    let now : List RegionState = map with_empty_list (take n t.regions) ++ drop n t.regions in
    let all : length now ≡ length t.regions =
    length-append (map with_empty_list (take n t.regions)) (drop n t.regions)
    ∙ omega (arith, length-map (take n t.regions) with_empty_list, length-take n t.regions, length-drop n t.regions, within, table.regions) in
    let more = map_over_more with_empty_list t.regions now n (get_or now n free_region) (omega (arith, within, table.regions)) refl
    (get_or_default now n free_region (get_or now n free_region) (omega (arith, within, table.regions, all))) in
    emptied ∙ (ap (λ (w : Table). with_remembered w n (cards [])) so_far ∙ ap (λ (rs : List RegionState). record t { regions = rs }) more)

-- and in the end all
pub empty-all : (t u : Table) (n : ℕ) → IsTable t → t.shape.regions ≤ n → u ≡ with_some_empty t n → u ≡ with_empty_lists t
empty-all t u n table all so_far =
    so_far
    ∙ (ap (λ (rs : List RegionState). record t { regions = map with_empty_list rs ++ drop n t.regions }) (take_all n t.regions (omega (arith, all, table.regions)))
    ∙ (ap (λ (rs : List RegionState). record t { regions = map with_empty_list t.regions ++ rs }) (drop_all n t.regions (omega (arith, all, table.regions)))
    ∙ ap (λ (rs : List RegionState). record t { regions = rs }) (append-nil (map with_empty_list t.regions))))
