use Rattle.std.proofs.Common.{◌≡◌, ◌+◌, ◌<◌, ◌∙◌, [], Some, None, true, ap, arith, length, subst, sym}
use Rattle.std.specs.Prelude.{IsSome, slice_get}
use Rattle.std.proofs.lemmas.Bool.{false≢true}
use Rattle.bal_layout.specs.Addresses.{address_in}
use Rattle.bal_layout.specs.Shape.{Shape}
use Rattle.bal_region.specs.Land.{Land, first_from, object_at, size_at, starts_at}
use Rattle.bal_region.proofs.Lemmas.{size-seen}
use Rattle.bal_table.specs.Changes.{with_estimate, with_land, without_object}
use Rattle.bal_table.specs.Table.{Table, land_at, things_of}
use Rattle.bal_table.proofs.Lemmas.{start-address}
use Rattle.bal_sweep.specs.InPlace.{IsKeeping}
use Rattle.bal_sweep.specs.Sweep.{left_at}
use Rattle.bal_sweep.proofs.Keeping.{keeping-at, keeping-gone, keeping-kept, keeping-none}
use Rattle.bal_sweep.proofs.Objects.{IsAt, swept-estimate, swept-live, swept-table, sweeping-live}
use Rattle.bal_sweep.proofs.in_place.keep_marked.Goals as goal
use Rattle.bal_sweep.proofs.in_place.keep_marked.Goals.{After-address-address, After-geometry-in-Some, After-object, After-set_estimate, then-is_at, else-is_at}

pub loop-offset-init : goal.loop-offset-init
loop-offset-init c = record {
  keeping = keeping-none c.args.marked.now c.args.table.now c.args.region c.geometry.ensures.limits c.requires.within c.requires.marked;
  within = omega arith;
}

-- the object that is found is the next one
first : (c : After-geometry-in-Some) → Some c.in-Some.offset ≡ first_from (land_at c.loop-offset.table c.args.region) c.loop-offset.next
first c = c.in-Some.ensures.least ∙ ap (λ (l : Land). first_from l c.loop-offset.next) c.region.ensures

next : (c : After-geometry-in-Some) → IsAt c.args.marked.now c.args.table.now c.args.region c.geometry.ensures.limits c.requires.within
    c.loop-offset.table c.loop-offset.invariant.keeping.swept.done c.in-Some.offset
next c = keeping-at c.args.marked.now c.args.table.now c.args.region c.geometry.ensures.limits c.requires.within c.requires.marked c.loop-offset.table c.loop-offset.next
    c.loop-offset.live c.loop-offset.met c.in-Some.offset c.loop-offset.invariant.keeping (first c) c.in-Some.ensures.behind

same-shape : (c : After-geometry-in-Some) → c.loop-offset.table.shape ≡ c.args.table.now.shape
same-shape c = ap (λ (w : Table). w.shape) c.loop-offset.invariant.keeping.swept.table

pub address-address-requires-clause-offset : goal.address-address-requires-clause-offset
address-address-requires-clause-offset c =
    let g = (goal.at.address-address-requires-clause-offset c).After-geometry-in-Some in
    omega (arith, (next g).inside, ap (λ (s : Shape). s.words) (c.geometry-in-Some.ensures.shape ∙ same-shape g))

-- it is the object's address
at : (c : After-address-address) → c.loop-offset.table.shape ≡ c.args.table.now.shape
    → c.address-address.result ≡ address_in c.args.table.now.shape c.args.region c.in-Some.offset
at c same = c.address-address.ensures.address ∙ ap (λ s. address_in s c.args.region c.in-Some.offset) (c.geometry-in-Some.ensures.shape ∙ same)

-- its words are those that are counted
size : (c : After-object) → c.loop-offset.table.shape ≡ c.args.table.now.shape
    → size_at (land_at c.loop-offset.table c.args.region).words c.in-Some.offset ≡ length c.object.result.now
size c same =
    let within : c.args.region < c.loop-offset.table.shape.regions = omega (arith, c.requires.within, ap (λ (s : Shape). s.regions) same) in
    size-seen (land_at c.loop-offset.table c.args.region) c.in-Some.offset (c.geometry-in-Some.ensures.limits.each c.args.region within).land c.object.result.now
    (ap (λ (l : Land). object_at l c.in-Some.offset) (sym c.region-then-is_at.ensures) ∙ c.object.ensures.words)

kept : (g : After-geometry-in-Some) → slice_get g.args.marked.now g.loop-offset.met ≡ Some (address_in g.args.table.now.shape g.args.region g.in-Some.offset)
    → IsKeeping g.args.marked.now g.args.table.now g.loop-offset.table g.args.region (g.in-Some.offset + 1)
    (g.loop-offset.live + size_at (land_at g.loop-offset.table g.args.region).words g.in-Some.offset) (g.loop-offset.met + 1)
kept g is = keeping-kept g.args.marked.now g.args.table.now g.args.region g.geometry.ensures.limits g.requires.within g.requires.marked g.loop-offset.table g.loop-offset.next
    g.loop-offset.live g.loop-offset.met g.in-Some.offset g.loop-offset.invariant.keeping (first g) g.in-Some.ensures.behind is

gone : (g : After-geometry-in-Some) → (slice_get g.args.marked.now g.loop-offset.met ≡ Some (address_in g.args.table.now.shape g.args.region g.in-Some.offset) → ⊥)
    → IsKeeping g.args.marked.now g.args.table.now (without_object g.loop-offset.table (address_in g.args.table.now.shape g.args.region g.in-Some.offset)) g.args.region
    (g.in-Some.offset + 1) g.loop-offset.live g.loop-offset.met
gone g other = keeping-gone g.args.marked.now g.args.table.now g.args.region g.geometry.ensures.limits g.requires.within g.requires.marked g.loop-offset.table g.loop-offset.next
    g.loop-offset.live g.loop-offset.met g.in-Some.offset g.loop-offset.invariant.keeping (first g) g.in-Some.ensures.behind other

pub overflow_add-live : goal.overflow_add-live
overflow_add-live c =
    let h = goal.at.overflow_add-live c in
    let g = h.After-geometry-in-Some in
    let same = same-shape g in
    let region = c.geometry.ensures.limits.each c.args.region c.requires.within in
    let k = kept g (c.is_at.ensures.0 c.if-is_at.true ∙ ap Some (at h.After-address-address same)) in
    omega (
      arith,
      sweeping-live c.args.marked.now c.args.table.now c.args.region c.geometry.ensures.limits c.requires.within c.loop-offset.table (c.in-Some.offset + 1)
          (c.loop-offset.live + size_at (land_at c.loop-offset.table c.args.region).words c.in-Some.offset) [] k.names k.swept,
      size h.After-object same,
      region.land.within,
      region.words,
      c.geometry.ensures.limits.shape.most_words,
    )

pub remove-requires : goal.remove-requires
remove-requires c =
    let g = (goal.at.remove-requires c).After-geometry-in-Some in
    let within : c.args.region < c.loop-offset.table.shape.regions = omega (arith, c.requires.within, ap (λ (s : Shape). s.regions) (same-shape g)) in
    let starts = subst (λ (l : Land). starts_at l c.in-Some.offset ≡ true) c.region.ensures c.in-Some.ensures.start in
    subst (λ a. IsSome (things_of c.loop-offset.table a))
    (sym (c.address-address.ensures.address ∙ ap (λ s. address_in s c.args.region c.in-Some.offset) c.geometry-in-Some.ensures.shape))
    (start-address c.loop-offset.table c.args.region c.in-Some.offset c.geometry-in-Some.ensures.limits within starts)

pub loop-offset-smaller : goal.loop-offset-smaller
loop-offset-smaller c =
    let g = (goal.at.loop-offset-smaller c).After-geometry-in-Some in
    omega (arith, (next g).inside, c.in-Some.ensures.behind)

pub loop-offset-preserved : goal.loop-offset-preserved
loop-offset-preserved c =
    let h = goal.at.loop-offset-preserved c in
    let g = h.After-geometry-in-Some in
    let same = same-shape g in
    let here = at h.After-address-address same in
    let u = c.loop-offset.table in
    let within : c.args.region < u.shape.regions = omega (arith, c.requires.within, ap (λ (s : Shape). s.regions) same) in
    record {
      keeping = elim c.if-is_at.branch [
        | then-is_at w ↦
            let k = kept g (c.is_at.ensures.0 w.if-is_at.true ∙ ap Some here) in
            let words = size-seen (land_at u c.args.region) c.in-Some.offset (c.geometry-in-Some.ensures.limits.each c.args.region within).land w.object.result.now
            (ap (λ (l : Land). object_at l c.in-Some.offset) (sym w.region-then-is_at.ensures) ∙ w.object.ensures.words) in
            subst (λ (v : Table). IsKeeping c.args.marked.now c.args.table.now v c.args.region (c.in-Some.offset + 1) c.if-is_at.live c.if-is_at.met) (sym w.table-is)
            (subst (λ n. IsKeeping c.args.marked.now c.args.table.now u c.args.region (c.in-Some.offset + 1) c.if-is_at.live n) (sym w.met-is)
            (subst (λ n. IsKeeping c.args.marked.now c.args.table.now u c.args.region (c.in-Some.offset + 1) n (c.loop-offset.met + 1)) (omega (arith, w.live-is, words)) k))
        | else-is_at w ↦
            let k = gone g (λ is. false≢true (sym w.if-is_at.false ∙ c.is_at.ensures.1 (is ∙ ap Some (sym here)))) in
            subst (λ (v : Table). IsKeeping c.args.marked.now c.args.table.now v c.args.region (c.in-Some.offset + 1) c.if-is_at.live c.if-is_at.met)
            (sym (w.table-is ∙ (w.remove.ensures ∙ ap (without_object u) here)))
            (subst (λ n. IsKeeping c.args.marked.now c.args.table.now (without_object u (address_in c.args.table.now.shape c.args.region c.in-Some.offset)) c.args.region
            (c.in-Some.offset + 1) c.if-is_at.live n) (sym w.met-is)
            (subst (λ n. IsKeeping c.args.marked.now c.args.table.now (without_object u (address_in c.args.table.now.shape c.args.region c.in-Some.offset)) c.args.region
            (c.in-Some.offset + 1) n c.loop-offset.met) (sym w.live-is) k))
      ];
      within = omega (arith, (next g).inside);
    }

pub set_estimate-requires-clause-given_out : goal.set_estimate-requires-clause-given_out
set_estimate-requires-clause-given_out c =
    let k = c.loop-offset.invariant.keeping in
    let none = c.in_default.ensures.least ∙ ap (λ (l : Land). first_from l c.loop-offset.next) c.region.ensures in
    swept-estimate c.args.marked.now c.args.table.now c.args.region c.geometry.ensures.limits c.requires.within c.loop-offset.table c.loop-offset.next c.loop-offset.live
    [] k.names k.swept none

pub returns : goal.returns
returns c =
    let t = c.args.table.now in
    let q = c.args.region in
    let k = c.loop-offset.invariant.keeping in
    let none : None ≡ first_from (land_at c.loop-offset.table q) c.loop-offset.next =
    c.in_default.ensures.least ∙ ap (λ (l : Land). first_from l c.loop-offset.next) c.region.ensures in
    c.set_estimate.ensures
    ∙ (ap (λ (u : Table). with_estimate u q c.loop-offset.live)
    (swept-table c.args.marked.now t q c.geometry.ensures.limits c.requires.within c.loop-offset.table c.loop-offset.next c.loop-offset.live [] k.names k.swept none)
    ∙ ap (with_estimate (with_land t q (left_at c.args.marked.now t q)) q)
    (swept-live c.args.marked.now t q c.geometry.ensures.limits c.requires.within c.loop-offset.table c.loop-offset.next c.loop-offset.live [] k.names k.swept none))
