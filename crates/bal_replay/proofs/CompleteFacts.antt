-- Where words and bytes are accepted and nothing fails, each cause of another status is excluded.
use Rattle.std.proofs.Common.{◌≡◌, ◌≤◌, ℕ, List, ◌++◌, length, Option, Some, None, inl, inr, refl, ap, sym, subst, ◌∙◌, arith, append-nil, length-append}
use Rattle.std.specs.Prelude.{◌⊎◌, IsSomeAnd}
use Rattle.std.proofs.lemmas.Option.{same_Some}
use Rattle.std.specs.Io.KnownBytes.{Consumes}
use Rattle.bal_model.specs.declared.config.Config.{Config}
use Rattle.bal_heap.specs.Heap.{Told}
use Rattle.bal_options.proofs.Lemmas.{one-config, within-limits}
use Rattle.bal_rows.proofs.Lemmas.{not-both, one_bad_record}
use Rattle.bal_rows.specs.Trace.{HasBadRecord, IsTrace}
use Rattle.bal_rows.specs.declared.cause.RowCause.{RowCause}
use Rattle.bal_source.specs.Causes.{Rose}
use Rattle.bal_source.specs.Streams.{TakesAll}
use Rattle.bal_replay.specs.Outcome.{Decides, IsAccepted, IsBadInput, IsDone, IsRejected, IsReplay, Reading, Replays, Writing}
use Rattle.bal_replay.specs.Statuses.{fixed_line_of, line_of}
use Rattle.bal_replay.specs.declared.status.Status.{Status}
use Rattle.bal_replay.specs.declared.status.Status.TheVariants as status

-- what is taken of known bytes is no more than they are
taken-within : (left new : Option (List ℕ)) (bytes front : List ℕ) → left ≡ Some bytes → Consumes left new front → length front ≤ length bytes
taken-within None new bytes front is taken = cc is
taken-within (Some xs) None bytes front is taken = absurd taken
taken-within (Some xs) (Some rest) bytes front is taken =
    let whole : bytes ≡ front ++ rest = sym (same_Some xs bytes is) ∙ taken in
    omega (arith, ap length whole, length-append front rest)

-- where all of them were taken, they are what was taken
all-taken : (left new : Option (List ℕ)) (bytes all : List ℕ) → left ≡ Some bytes → TakesAll left new all → all ≡ bytes
all-taken None new bytes all is takes = cc is
all-taken (Some xs) None bytes all is takes = absurd takes.taken
all-taken (Some xs) (Some rest) bytes all is takes =
    sym (sym (same_Some xs bytes is) ∙ takes.taken ∙ ap (λ (r : List ℕ). all ++ r) takes.at_end ∙ append-nil all)

-- so none of their records is bad
no-bad-row : (words : List (List ℕ)) (before after : Reading) (number : ℕ) (why : RowCause) → IsAccepted words before → IsBadInput words before after number why → ⊥
no-bad-row words before after number why accepted input =
    let same : input.config ≡ accepted.config = one-config words input.config accepted.config input.command accepted.command in
    let bytes : input.bad.bytes ≡ accepted.bytes = all-taken before.left after.left accepted.bytes input.bad.bytes accepted.left input.bad.takes.taken in
    let bad : HasBadRecord accepted.config.geometry accepted.bytes number why =
    subst (λ (c : Config). HasBadRecord c.geometry accepted.bytes number why) same (subst (λ (bs : List ℕ). HasBadRecord input.config.geometry bs number why) bytes input.bad.bad) in
    not-both accepted.config.geometry accepted.bytes accepted.rows number why (within-limits words accepted.config accepted.command).geometry accepted.trace bad

-- the run is done, or memory was refused
completes : (words : List (List ℕ)) (before after : Reading) (out out' : Writing) (s : Status) (heap : Option Told)
    → Replays words before after out out' s heap
    → IsAccepted words before → (Rose before.faults after.faults → ⊥) → (Rose out.faults out'.faults → ⊥) → IsDone s
completes words before after out out' status.Ok heap run accepted no-read no-write = inl refl
completes words before after out out' status.Usage heap run accepted no-read no-write =
    absurd (run.usage.0 refl accepted.config accepted.command)
completes words before after out out' status.ReadFault heap run accepted no-read no-write = absurd (no-read (run.read_fault refl).rose)
completes words before after out out' status.TooLong heap run accepted no-read no-write =
    let within = taken-within before.left after.left accepted.bytes run.taken.front accepted.left run.taken.taken in
    absurd (omega (arith, run.too_long.0 refl, run.taken.counted, within, accepted.most))
completes words before after out out' (status.BadRow row cause) heap run accepted no-read no-write =
    absurd (no-bad-row words before after row cause accepted (run.bad_row row cause refl))
completes words before after out out' status.WriteFault heap run accepted no-read no-write = absurd (no-write (run.write_fault refl))
completes words before after out out' status.NoMemory heap run accepted no-read no-write = inr refl

-- what a run with a journal has read: a trace under the configuration of the words
pub record HasRead (words : List (List ℕ)) (before after : Reading) : Type 0 where
  pub told : Told
  pub replay : IsReplay words before after told

-- so none of its records is bad
no-trace : (words : List (List ℕ)) (before after : Reading) (number : ℕ) (why : RowCause) → IsRejected words before number why → HasRead words before after → ⊥
no-trace words before after number why rejected read =
    let replay = read.replay in
    let same : replay.config ≡ rejected.config = one-config words replay.config rejected.config replay.command rejected.command in
    let bytes : replay.replay.bytes ≡ rejected.bytes = all-taken before.left after.left rejected.bytes replay.replay.bytes rejected.left replay.replay.takes.taken in
    let trace : IsTrace rejected.config.geometry rejected.bytes replay.replay.rows =
    subst (λ (c : Config). IsTrace c.geometry rejected.bytes replay.replay.rows) same (subst (λ (bs : List ℕ). IsTrace replay.config.geometry bs replay.replay.rows) bytes replay.replay.trace) in
    not-both rejected.config.geometry rejected.bytes replay.replay.rows number why (within-limits words rejected.config rejected.command).geometry trace rejected.bad

-- and the bad record that is told is this one
told-bad : (words : List (List ℕ)) (before after : Reading) (m n : ℕ) (one other : RowCause) → IsRejected words before m one → IsBadInput words before after n other
    → status.BadRow n other ≡ status.BadRow m one
told-bad words before after m n one other rejected input =
    let same : input.config ≡ rejected.config = one-config words input.config rejected.config input.command rejected.command in
    let bytes : input.bad.bytes ≡ rejected.bytes = all-taken before.left after.left rejected.bytes input.bad.bytes rejected.left input.bad.takes.taken in
    let bad : HasBadRecord rejected.config.geometry rejected.bytes n other =
    subst (λ (c : Config). HasBadRecord c.geometry rejected.bytes n other) same (subst (λ (bs : List ℕ). HasBadRecord input.config.geometry bs n other) bytes input.bad.bad) in
    let shape = (within-limits words rejected.config rejected.command).geometry in
    let is = one_bad_record rejected.config.geometry rejected.bytes n m other one (omega (arith, shape.most_words)) bad rejected.bad in
    ap (λ (k : ℕ). status.BadRow k other) is.0 ∙ ap (λ (c : RowCause). status.BadRow m c) is.1

-- a heap that is there for a reason
has-read : (words : List (List ℕ)) (before after : Reading) (More : Told → Type 0) (heap : Option Told)
    → IsSomeAnd heap (λ told. IsReplay words before after told × More told) → HasRead words before after
has-read words before after More None is = absurd is
has-read words before after More (Some told) is = record { told = told; replay = is.0 }

-- if a record is bad, it is told, or memory was refused
rejects : (words : List (List ℕ)) (before after : Reading) (out out' : Writing) (s : Status) (heap : Option Told)
    → Replays words before after out out' s heap
    → (row : ℕ) (cause : RowCause) → IsRejected words before row cause → (Rose before.faults after.faults → ⊥)
    → (s ≡ status.BadRow row cause) ⊎ (s ≡ status.NoMemory)
rejects words before after out out' status.Ok heap run row cause rejected no-read =
    absurd (no-trace words before after row cause rejected (has-read words before after _ heap (run.replayed refl)))
rejects words before after out out' status.Usage heap run row cause rejected no-read =
    absurd (run.usage.0 refl rejected.config rejected.command)
rejects words before after out out' status.ReadFault heap run row cause rejected no-read = absurd (no-read (run.read_fault refl).rose)
rejects words before after out out' status.TooLong heap run row cause rejected no-read =
    let within = taken-within before.left after.left rejected.bytes run.taken.front rejected.left run.taken.taken in
    absurd (omega (arith, run.too_long.0 refl, run.taken.counted, within, rejected.most))
rejects words before after out out' (status.BadRow n other) heap run row cause rejected no-read =
    inl (told-bad words before after row n cause other rejected (run.bad_row n other refl))
rejects words before after out out' status.WriteFault heap run row cause rejected no-read =
    absurd (no-trace words before after row cause rejected (has-read words before after _ heap (run.cut_short refl)))
rejects words before after out out' status.NoMemory heap run row cause rejected no-read = inr refl

-- so the bytes decide
pub decides : (words : List (List ℕ)) (before after : Reading) (out out' : Writing) (s : Status) (heap : Option Told)
    → Replays words before after out out' s heap → Decides words before after out out' s
decides words before after out out' s heap run = record {
  complete = completes words before after out out' s heap run;
  rejected = rejects words before after out out' s heap run;
}

-- the line of a status that is not a bad row's is always the same
pub fixed-line : (s : Status) → ((row : ℕ) (cause : RowCause) → s ≡ status.BadRow row cause → ⊥) → fixed_line_of s ≡ line_of s
fixed-line status.Ok other = refl
fixed-line status.Usage other = refl
fixed-line status.ReadFault other = refl
fixed-line status.TooLong other = refl
fixed-line (status.BadRow row cause) other = absurd (other row cause refl)
fixed-line status.WriteFault other = refl
fixed-line status.NoMemory other = refl
