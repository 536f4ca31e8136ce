use Rattle.std.proofs.Common.{◌≡◌, ◌+◌, ◌^◌, ◌≤◌, length, vec_len}
use Rattle.std.specs.Io.KnownBytes.{Consumes}
use Rattle.bal_source.proofs.whole.read_all.Given as goal

-- the bytes read are those that were taken, and each turn took one or more
abbrev pub invariant-loop : goal.invariant-loop
invariant-loop g l = record {
  buffer : vec_len l.buffer ≡ 2 ^ 16;
  taken : Consumes (g.S.Source.left l.fn.source) (g.S.Source.left l.source) l.bytes.list;
  number : g.S.Source.given l.source ≡ g.S.Source.given l.fn.source + length l.bytes.list;
  most : length l.bytes.list ≤ 2 ^ 26;
  turns : l.counter ≤ length l.bytes.list;
  later : g.S.Source.faults l.fn.source ≤ g.S.Source.faults l.source;
}
