-- Bytes on their way to a sink through a buffer.
use Rattle.std.specs.Prelude.{◌≡◌, ℕ, ◌≤◌, List, ◌++◌, Option, Bool, true, false, Result, OnOk}
use Rattle.std.specs.Io.KnownBytes.{Appends}
use Rattle.bal_source.specs.Causes.{Rose, HasCause}
use Rattle.bal_source.specs.Streams.{AppendsFront}
use Rattle.bal_source.specs.declared.buffered.Buffered.{Buffered}

-- a sink with a buffer before it, at some moment
pub record Moment : Type 0 where
  pub held : Option (List ℕ)  -- the bytes that the sink holds, where it tells them
  pub faults : ℕ  -- how many of its calls failed
  pub waiting : List ℕ  -- the bytes that are still to be written
  pub failed : Bool  -- whether a write failed

abbrev pub moment : {K : Type 0} → (K → Option (List ℕ)) → (K → ℕ) → Buffered K → Moment
moment held faults b = record { held = held b.sink.now; faults = faults b.sink.now; waiting = b.waiting.now.list; failed = b.failed }

-- some of these bytes were appended, and the others wait
pub record IsOnItsWay (old new : Option (List ℕ)) (bytes waiting : List ℕ) : Type 0 where
  pub written : List ℕ
  pub appended : Appends old new written
  pub whole : bytes ≡ written ++ waiting

-- the first of these bytes were appended, up to a fault
pub record IsCutShort (old new : Option (List ℕ)) (before now : ℕ) (bytes : List ℕ) : Type 0 where
  pub front : AppendsFront old new bytes
  pub rose : Rose before now

-- between two moments these bytes were given to it
pub record Passes (from now : Moment) (text : List ℕ) : Type 0 where
  pub later : from.faults ≤ now.faults
  pub going : now.failed ≡ false → IsOnItsWay from.held now.held (from.waiting ++ text) now.waiting
  pub broken : now.failed ≡ true → IsCutShort from.held now.held from.faults now.faults (from.waiting ++ text)

-- of what waited at a moment and this text after it, all arrived where the answer is Ok, and a front of it in any case;
-- another answer has a fault of the sink as its cause
pub record Delivers {T E : Type 0} (from : Moment) (held : Option (List ℕ)) (faults : ℕ) (text : List ℕ) (result : Result T E) : Type 0 where
  pub all : OnOk result (Appends from.held held (from.waiting ++ text))
  pub front : AppendsFront from.held held (from.waiting ++ text)
  pub cause : HasCause from.faults faults result
