use Rattle.std.proofs.Common.{Some, ◌∙◌, ap, arith, length, List, ℕ}
use Rattle.bal_region.specs.Land.{Land, holder_of}
use Rattle.bal_region.proofs.Regions.{holder-first, last-start, size-read}
use Rattle.bal_region.proofs.Seen.{holder-starts}
use Rattle.bal_region.proofs.region.Region.holder_of.Goals as goal

pub returns-in_err-start : goal.returns-in_err-start
returns-in_err-start c =
    let none = holder-first c.self.inside c.self.invariant c.args.offset c.in_err-start.ensures in
    let holder = c.from_residual.ensures ∙ (none ∙ ap (λ (l : Land). holder_of l c.args.offset) c.self.view_is) in
    let found = holder-starts c.args.self.now c.args.offset c.from_residual.result holder in
    record { holder = holder; start = found.0; before = found.1 }

pub overflow_sub-offset : goal.overflow_sub-offset
overflow_sub-offset c = (last-start c.self.inside c.self.invariant c.args.offset c.in_ok-start.start c.in_ok-start.ensures).before

pub size_of-requires-clause-within : goal.size_of-requires-clause-within
size_of-requires-clause-within c =
    let last = last-start c.self.inside c.self.invariant c.args.offset c.in_ok-start.start c.in_ok-start.ensures in
    omega (arith, last.two, last.within, ap (λ (ws : List ℕ). length ws) c.deref.ensures.value)

pub returns-then-from-size_of : goal.returns-then-from-size_of
returns-then-from-size_of c =
    let last = last-start c.self.inside c.self.invariant c.args.offset c.in_ok-start.start c.in_ok-start.ensures in
    let size = c.size_of.ensures ∙ size-read c.self.inside c.in_ok-start.start c.deref.result.now c.self.invariant c.deref.ensures.value in
    record {
      holder = last.beyond (omega (arith, size, c.from.ensures, c.if-from-size_of.true, last.before)) ∙ ap (λ (l : Land). holder_of l c.args.offset) c.self.view_is;
      start = tt;
      before = tt;
    }

pub returns : goal.returns
returns c =
    let last = last-start c.self.inside c.self.invariant c.args.offset c.in_ok-start.start c.in_ok-start.ensures in
    let size = c.size_of.ensures ∙ size-read c.self.inside c.in_ok-start.start c.deref.result.now c.self.invariant c.deref.ensures.value in
    let holder = last.here (omega (arith, size, c.from.ensures, c.if-from-size_of.false, last.before)) ∙ ap (λ (l : Land). holder_of l c.args.offset) c.self.view_is in
    let found = holder-starts c.args.self.now c.args.offset (Some c.in_ok-start.start) holder in
    record { holder = holder; start = found.0; before = found.1 }
