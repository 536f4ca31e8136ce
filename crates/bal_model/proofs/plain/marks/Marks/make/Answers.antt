use Rattle.std.proofs.Common.{arith}
use Rattle.bal_model.proofs.GraphFacts.{kept-count, object-made, thread-there}
use Rattle.bal_model.proofs.plain.marks.Marks.make.Goals as goal

pub returns-clause-room : goal.returns-clause-room
returns-clause-room c = λ x some.
    let s = c.args.state.now in
    let made = object-made s x some in
    let thread = thread-there s x.thread (omega (arith, made.0, made.1)) in
    let many = kept-count c.state.inside s c.state.view_is in
    record {
      thread = omega (arith, thread, many, c.loop-thread.invariant.threads, c.loop-thread-test.false, c.len-thread-end.ensures);
      counted = made.0;
      room = omega (arith, made.1, c.loop-thread.invariant.room x.thread (omega (arith, thread, many, c.loop-thread-test.false, c.len-thread-end.ensures)));
    }
