use Rattle.std.proofs.Common.{◌≡◌, ◌∙◌, ap, arith, length, refl, List, ℕ}
use Rattle.bal_region.specs.Changes.{cut_short, end_of}
use Rattle.bal_region.specs.Region.{land_of}
use Rattle.bal_region.proofs.Ends.{end-none}
use Rattle.bal_region.proofs.Moving.{IsRegion-cut, land-cut, last-within, used-cut}
use Rattle.bal_region.proofs.Regions.{size-read}
use Rattle.bal_region.proofs.region.Region.cut.Goals as goal
use Rattle.bal_region.proofs.region.Region.cut.Goals.{in-Some, in-None}

pub size_of-requires-clause-within : goal.size_of-requires-clause-within
size_of-requires-clause-within c =
    let last = last-within c.self.inside c.self.invariant c.in-Some.start c.in-Some.ensures in
    omega (arith, last.0, last.1, ap (λ (ws : List ℕ). length ws) c.deref.ensures.value)

pub overflow_cast-self : goal.overflow_cast-self
overflow_cast-self c =
    let last = last-within c.self.inside c.self.invariant c.in-Some.start c.in-Some.ensures in
    let size = c.size_of.ensures ∙ size-read c.self.inside c.in-Some.start c.deref.result.now c.self.invariant c.deref.ensures.value in
    omega (arith, last.1, last.2, size)

pub overflow_add-self : goal.overflow_add-self
overflow_add-self c =
    let last = last-within c.self.inside c.self.invariant c.in-Some.start c.in-Some.ensures in
    let size = c.size_of.ensures ∙ size-read c.self.inside c.in-Some.start c.deref.result.now c.self.invariant c.deref.ensures.value in
    omega (arith, last.1, last.2, size)

pub invariant_of-self : goal.invariant_of-self
invariant_of-self c =
    let a = c.self.inside in
    let used : c.match-last_to.self ≡ end_of (land_of a).words 0 a.starts.members = elim c.match-last_to.branch [
      | in-Some w ↦ used-cut a c.self.invariant w.in-Some.start w.size_of.result c.match-last_to.self w.deref.result.now w.in-Some.ensures w.deref.ensures.value w.size_of.ensures w.self-is
      | in-None w ↦ w.self-is ∙ end-none (land_of a) c.self.invariant.land w.in-None.ensures
    ] in
    IsRegion-cut a c.self.invariant _ (land-cut a c.self.invariant _ used) refl refl (omega arith) (omega arith)

pub returns : goal.returns
returns c =
    let a = c.self.inside in
    let used : c.match-last_to.self ≡ end_of (land_of a).words 0 a.starts.members = elim c.match-last_to.branch [
      | in-Some w ↦ used-cut a c.self.invariant w.in-Some.start w.size_of.result c.match-last_to.self w.deref.result.now w.in-Some.ensures w.deref.ensures.value w.size_of.ensures w.self-is
      | in-None w ↦ w.self-is ∙ end-none (land_of a) c.self.invariant.land w.in-None.ensures
    ] in
    land-cut a c.self.invariant _ used ∙ ap cut_short c.self.view_is
