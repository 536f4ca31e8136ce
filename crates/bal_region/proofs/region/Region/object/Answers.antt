use Rattle.std.proofs.Common.{◌≡◌, ◌+◌, ◌-◌, ◌∙◌, ap, arith, drop, length, subst, sym, take, List, ℕ, Some, true}
use Rattle.bal_region.specs.Land.{IsObject, Land, object_at, starts_at}
use Rattle.bal_region.specs.Region.{land_of}
use Rattle.bal_region.proofs.Regions.{object-read, object-within, size-read}
use Rattle.bal_region.proofs.Seen.{IsObject-seen, length-object, object-ends, object-there}
use Rattle.bal_region.proofs.region.Region.object.Goals as goal

pub size_of-size-requires-clause-within : goal.size_of-size-requires-clause-within
size_of-size-requires-clause-within c =
    let starts = subst (λ (l : Land). starts_at l c.args.offset ≡ true) (sym c.self.view_is) c.requires in
    let found = object-within c.self.inside c.args.offset c.self.invariant starts in
    omega (arith, found.0, found.1, ap (λ (ws : List ℕ). length ws) c.deref.ensures.value)

pub overflow_add-result : goal.overflow_add-result
overflow_add-result c =
    let starts = subst (λ (l : Land). starts_at l c.args.offset ≡ true) (sym c.self.view_is) c.requires in
    let found = object-within c.self.inside c.args.offset c.self.invariant starts in
    let size = c.size_of-size.ensures ∙ size-read c.self.inside c.args.offset c.deref.result.now c.self.invariant c.deref.ensures.value in
    omega (arith, found.1, size, c.self.invariant.few)

pub slice_bounds-result-end : goal.slice_bounds-result-end
slice_bounds-result-end c =
    let starts = subst (λ (l : Land). starts_at l c.args.offset ≡ true) (sym c.self.view_is) c.requires in
    let found = object-within c.self.inside c.args.offset c.self.invariant starts in
    let size = c.size_of-size.ensures ∙ size-read c.self.inside c.args.offset c.deref.result.now c.self.invariant c.deref.ensures.value in
    omega (arith, found.1, size, ap (λ (ws : List ℕ). length ws) c.deref-2.ensures.value)

pub returns-clause-words : goal.returns-clause-words
returns-clause-words c =
    let a = c.self.inside in
    let at = c.args.offset in
    let starts = subst (λ (l : Land). starts_at l at ≡ true) (sym c.self.view_is) c.requires in
    let size = c.size_of-size.ensures ∙ size-read a at c.deref.result.now c.self.invariant c.deref.ensures.value in
    let part = ap (λ n. take (at + n - at) (drop at c.deref-2.result.now)) size ∙ object-read a at c.deref-2.result.now c.self.invariant starts c.deref-2.ensures.value in
    ap (λ (l : Land). object_at l at) (sym c.self.view_is) ∙ (object-there (land_of a) at starts ∙ ap Some (sym part))

pub returns-clause-is : goal.returns-clause-is
returns-clause-is c =
    let a = c.self.inside in
    let at = c.args.offset in
    let starts = subst (λ (l : Land). starts_at l at ≡ true) (sym c.self.view_is) c.requires in
    let size = c.size_of-size.ensures ∙ size-read a at c.deref.result.now c.self.invariant c.deref.ensures.value in
    let part = ap (λ n. take (at + n - at) (drop at c.deref-2.result.now)) size ∙ object-read a at c.deref-2.result.now c.self.invariant starts c.deref-2.ensures.value in
    subst (λ (l : Land). IsObject (length l.words) (take (at + c.size_of-size.result - at) (drop at c.deref-2.result.now))) c.self.view_is
    (subst (IsObject (length (land_of a).words)) (sym part) (IsObject-seen (land_of a) at c.self.invariant.land starts))

pub returns-clause-within : goal.returns-clause-within
returns-clause-within c =
    let a = c.self.inside in
    let at = c.args.offset in
    let starts = subst (λ (l : Land). starts_at l at ≡ true) (sym c.self.view_is) c.requires in
    let size = c.size_of-size.ensures ∙ size-read a at c.deref.result.now c.self.invariant c.deref.ensures.value in
    let part = ap (λ n. take (at + n - at) (drop at c.deref-2.result.now)) size ∙ object-read a at c.deref-2.result.now c.self.invariant starts c.deref-2.ensures.value in
    omega (arith, ap (λ (ws : List ℕ). length ws) part, length-object (land_of a) at c.self.invariant.land starts, object-ends (land_of a) at c.self.invariant.land starts, ap (λ (l : Land). l.used) c.self.view_is)
