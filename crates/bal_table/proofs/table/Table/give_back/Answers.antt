use Rattle.std.proofs.Common.{◌≡◌, ℕ, ◌+◌, ◌*◌, ◌/◌, ◌<◌, ◌∙◌, List, ap, arith, length, map, set, subst, sym}
use Rattle.bal_layout.specs.Regions.{emptied, free_region}
use Rattle.bal_layout.specs.Shape.{IsShape}
use Rattle.bal_layout.specs.declared.region_state.RegionState.{RegionState}
use Rattle.bal_region.specs.Changes.{empty_land}
use Rattle.bal_region.specs.Land.{Land}
use Rattle.bal_table.specs.Changes.{with_land, with_region, without_cards_between}
use Rattle.bal_table.specs.Kept.{AreCounted, table_of}
use Rattle.bal_table.specs.Table.{IsTable, Table}
use Rattle.bal_table.proofs.Forgotten.{AreCounted-forgot, IsTable-forgot, cards-in-region, freed-forgotten}
use Rattle.bal_table.proofs.Parts.{counts-kept, empty-read, state-freed, state-read}
use Rattle.bal_table.proofs.Tables.{IsTable-emptied}
use Rattle.bal_table.proofs.table.Table.give_back.Goals as goal

pub invariant_of-self : goal.invariant_of-self
invariant_of-self c =
    let a = c.self.inside in
    let q = c.args.region in
    let kept = c.self.invariant in
    let within = subst (λ (t : Table). q < t.shape.regions) (sym c.self.view_is) c.requires.within in
    let land = c.reset.ensures ∙ empty-read a kept q c.index_mut.result.now within c.index_mut.ensures.value in
    let state = c.empty.ensures ∙ ap emptied (state-read a kept q within c.index_mut-2.result.now c.index_mut-2.ensures.value) in
    record {
      table = subst (λ (l : Land). IsTable (with_region (with_land (table_of a) q l) q c.empty.new.self)) (sym land)
          (subst (λ (r : RegionState). IsTable (with_region (with_land (table_of a) q (empty_land q a.geometry.words)) q r)) (sym state)
          (IsTable-emptied (table_of a) q kept.table within));
      counts = counts-kept a kept q within c.empty.new.self (ap (λ (r : RegionState). r.role) state);
    }

pub returns : goal.returns
returns c =
    let a = c.self.inside in
    let q = c.args.region in
    let kept = c.self.invariant in
    let within = subst (λ (t : Table). q < t.shape.regions) (sym c.self.view_is) c.requires.within in
    let land = c.reset.ensures ∙ empty-read a kept q c.index_mut.result.now within c.index_mut.ensures.value in
    let state = c.empty.ensures ∙ ap emptied (state-read a kept q within c.index_mut-2.result.now c.index_mut-2.ensures.value) in
    let freed = state-freed a.states.items q c.empty.new.self (omega (arith, within, kept.table.regions)) state in
    let t = c.args.self.now in
    let cleared : c.set_role.new.self ≡ with_region (with_land t q (empty_land q t.shape.words)) q free_region =
    c.set_role.ensures
    ∙ (ap (λ (rs : List RegionState). record { shape = a.geometry; lands = set a.regions.items q c.reset.new.self; regions = rs; current = a.current }) freed
    ∙ (ap (λ (l : Land). with_region (with_land (table_of a) q l) q free_region) land
    ∙ ap (λ (u : Table). with_region (with_land u q (empty_land q u.shape.words)) q free_region) c.self.view_is)) in
    let shape = subst (λ (u : Table). IsShape u.shape) c.self.view_is kept.table.shape in
    let inside : q < length t.regions = subst (λ (u : Table). q < length u.regions) c.self.view_is (omega (arith, within, kept.table.regions)) in
    let words : c.words-cards.result ≡ t.shape.words = c.words-cards.ensures.number ∙ ap (λ (u : Table). u.shape.words) c.self.view_is in
    let forget : ℕ → List RegionState → List RegionState = λ n. map (without_cards_between (q * (n / 64)) ((q + 1) * (n / 64))) in
    ap (λ (rs : List RegionState). record (table_of c.self-2.inside) { regions = rs }) c.forget_cards.ensures
    ∙ (ap (λ (u : Table). record u { regions = forget c.words-cards.result u.regions }) (c.self-2.view_is ∙ cleared)
    ∙ (ap (λ n. record (with_land t q (empty_land q t.shape.words)) { regions = forget n (set t.regions q free_region) }) words
    ∙ ap (λ (rs : List RegionState). record (with_land t q (empty_land q t.shape.words)) { regions = rs }) (sym (freed-forgotten t.shape q t.regions (cards-in-region t.shape shape) inside))))

pub invariant_of-self-2 : goal.invariant_of-self-2
invariant_of-self-2 c =
    let a = c.self-2.inside in
    let cards = c.words-cards.result / 64 in
    let from = c.args.region * cards in
    let to = (c.args.region + 1) * cards in
    record {
      table = subst (λ (rs : List RegionState). IsTable (record (table_of a) { regions = rs })) (sym c.forget_cards.ensures) (IsTable-forgot from to (table_of a) c.self-2.invariant.table);
      counts = subst (λ (rs : List RegionState). AreCounted rs a.lowest a.free a.eden) (sym c.forget_cards.ensures) (AreCounted-forgot from to a.states.items a.lowest a.free a.eden c.self-2.invariant.counts);
    }
