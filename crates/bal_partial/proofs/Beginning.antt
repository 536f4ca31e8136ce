-- A heap that shows a graph may begin a partial collection after a flush.
use Rattle.std.proofs.Common.{◌≡◌, ℕ, List, All, refl, sym, subst, ◌∙◌}
use Rattle.std.proofs.lemmas.Option.{get_or_from_slice_get, slice_get_within}
use Rattle.bal_barrier.proofs.Lemmas.{has}
use Rattle.bal_barrier.specs.Coverage.{AreRemembered}
use Rattle.bal_barrier.specs.Flush.{LeadToObjects}
use Rattle.bal_choose.specs.Rows.{MayBeCollected}
use Rattle.bal_layout.specs.Graph.{Graph}
use Rattle.bal_layout.specs.declared.region_state.RegionState.{RegionState}
use Rattle.bal_model.specs.Configs.{without_options}
use Rattle.bal_model.specs.declared.config.Config.{Config}
use Rattle.bal_partial.specs.Collection.{MayBegin}
use Rattle.bal_rules.specs.Choice.{choice}
use Rattle.bal_table.specs.Table.{IsTable, Table, things_of, word_at}
use Rattle.bal_words.specs.Shown.{Finds, Shows}

-- in a table that shows a graph no reference dangles
lead-shown : (t : Table) (g : Graph) → IsTable t → Shows (things_of t) g → LeadToObjects t
lead-shown t g table s = record {
  each = λ a i p slot.
      let h = has t a i p table slot in
      subst (Finds (things_of t)) (get_or_from_slice_get h.thing.refs i (word_at t p) 0 h.reads)
      (s.found a h.thing h.is i 0 (slice_get_within h.thing.refs i (word_at t p) h.reads));
}

-- what is chosen by so many older regions may be collected
may-collect : (regions : List RegionState) (older : ℕ) (chosen : List ℕ) → ((c : Config) → c.older ≡ older → chosen ≡ choice c regions)
    → ((c : Config) (rs : List RegionState) → MayBeCollected rs (choice c rs)) → MayBeCollected regions chosen
may-collect regions older chosen chooses may =
    let c : Config = record without_options { older = older } in
    subst (MayBeCollected regions) (sym (chooses c refl)) (may c regions)

may-begin : (t : Table) (g : Graph) (chosen roots : List ℕ) → IsTable t → Shows (things_of t) g → All (Finds (things_of t)) roots → AreRemembered t
    → MayBeCollected t.regions chosen → MayBegin t chosen roots
may-begin t g chosen roots table shows held remembered may = record {
  may = may;
  remembered = remembered;
  finds = lead-shown t g table shows;
  held = held;
  named = λ a b x y one two. shows.once a b x y one two;
}

pub begins : (t : Table) (g : Graph) (older : ℕ) (chosen roots taken : List ℕ) → taken ≡ chosen → ((c : Config) → c.older ≡ older → chosen ≡ choice c t.regions)
    → ((c : Config) (rs : List RegionState) → MayBeCollected rs (choice c rs)) → IsTable t → Shows (things_of t) g → All (Finds (things_of t)) roots → AreRemembered t
    → MayBegin t taken roots
begins t g older chosen roots taken same chooses may table shows held remembered =
    may-begin t g taken roots table shows held remembered (may-collect t.regions older taken (λ c is. same ∙ chooses c is) may)
