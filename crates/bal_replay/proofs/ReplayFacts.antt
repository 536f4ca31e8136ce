-- What a run answers, put together from what its parts answer.
use Rattle.std.proofs.Common.{◌≡◌, ◌∙◌, ℕ, List, Option, Some, None, Result, Ok, Err, sym, subst}
use Rattle.std.specs.Prelude.{◌≢◌, IfErr, IsSomeAnd}
use Rattle.std.specs.Io.KnownBytes.{Appends}
use Rattle.bal_heap.specs.Heap.{Told}
use Rattle.bal_model.specs.Text.{journal_text}
use Rattle.bal_source.specs.Causes.{Rose}
use Rattle.bal_source.specs.Streams.{AppendsFront, TakesFront}
use Rattle.bal_replay.specs.Outcome.{GivesTooMuch, IsReplay, Reading, Replays, Writing}
use Rattle.bal_replay.specs.declared.status.Status.{Status}
use Rattle.bal_replay.specs.declared.status.Status.TheVariants as status

-- the heap that is shown is the one that told the run
shown : (words : List (List ℕ)) (before after : Reading) (heap : Option Told) (told : Told) (More : Told → Type 0)
    → IsReplay words before after told → IsSomeAnd heap (λ t. (t ≡ told) × More t) → IsSomeAnd heap (λ t. IsReplay words before after t × More t)
shown words before after None told More run is = absurd is
shown words before after (Some t) told More run is = (subst (IsReplay words before after) (sym is.0) run, is.1)

-- writing ends in three ways alone
no-other : (s t : Status) → (s ≢ status.Ok → s ≢ status.WriteFault → s ≡ status.NoMemory)
    → s ≡ t → (t ≡ status.Ok → ⊥) → (t ≡ status.WriteFault → ⊥) → t ≡ status.NoMemory
no-other s t ends e not-ok not-cut = sym e ∙ ends (λ o. not-ok (sym e ∙ o)) (λ w. not-cut (sym e ∙ w))

-- a run whose journal was written, or was to be written
pub written : (words : List (List ℕ)) (before after : Reading) (out out' : Writing) (s : Status) (heap : Option Told) (told : Told)
    → IsReplay words before after told → TakesFront before.left after.left before.given after.given → (GivesTooMuch before after → ⊥)
    → (s ≡ status.Ok → IsSomeAnd heap (λ t. (t ≡ told) × Appends out.held out'.held (journal_text t.entries)))
    → (s ≡ status.WriteFault → IsSomeAnd heap (λ t. (t ≡ told) × AppendsFront out.held out'.held (journal_text t.entries)))
    → (s ≡ status.WriteFault → Rose out.faults out'.faults)
    → (s ≢ status.Ok → s ≢ status.WriteFault → s ≡ status.NoMemory)
    → Replays words before after out out' s heap
written words before after out out' s heap told run taken within whole front rose ends = record {
  replayed = λ e. shown words before after heap told (λ t. Appends out.held out'.held (journal_text t.entries)) run (whole e);
  cut_short = λ e. shown words before after heap told (λ t. AppendsFront out.held out'.held (journal_text t.entries)) run (front e);
  write_fault = rose;
  usage = (λ e. cc (no-other s status.Usage ends e (λ o. cc o) (λ w. cc w)), λ none. absurd (none run.config run.command));
  read_fault = λ e. cc (no-other s status.ReadFault ends e (λ o. cc o) (λ w. cc w));
  too_long = (λ e. cc (no-other s status.TooLong ends e (λ o. cc o) (λ w. cc w)), λ much. absurd (within much));
  bad_row = λ row cause e. cc (no-other s (status.BadRow row cause) ends e (λ o. cc o) (λ w. cc w));
  taken = taken;
}

-- where words were taken, the system gave some
pub no-refusal : {A E T : Type 0} (words : T) (r : Result A E) (s : E → Status) (P : E → Type 0) → IfErr r (λ e. Ok words ≡ Err (s e)) → IfErr r P
no-refusal words (Ok x) s P h = tt
no-refusal words (Err e) s P h = cc h
