-- Objects are copied first, and marked afterwards.
use Rattle.std.proofs.Common.{◌≡◌, ◌+◌, ◌<◌, ◌≤◌, ℕ, inl, inr, List, [], ◌∷◌, ◌++◌, ◌∙◌, length, Option, Some, None, ap, sym, arith}
use Rattle.std.proofs.lemmas.List.{length-append}
use Rattle.std.proofs.lemmas.Option.{none-some, slice_get_within}
use Rattle.bal_layout.specs.declared.name.Abort.{Abort}
use Rattle.bal_core.specs.declared.event.Decision.TheVariants as decision
use Rattle.bal_core.specs.declared.row.Told.{Told}
use Rattle.bal_core.specs.Steps.{told}
use Rattle.bal_core.proofs.Lemmas.{at-push-cases, copied-marked}
use Rattle.bal_evacuate.specs.Going.{AreSplit}

pub split-raised : (won : List Told) (n : ℕ) (o : Option Abort) (cause : Abort) → AreSplit won n o → AreSplit won n (Some cause)
split-raised won n o cause split =
    record { copies = split.copies; marks = split.marks; few = split.few; calm = λ none. absurd (none-some cause (sym none)) }

pub split-marked : (won : List Told) (n k : ℕ) (o : Option Abort) (cause : Abort) → o ≡ Some cause → AreSplit won n o
    → AreSplit (won ++ told k decision.Marked ∷ []) n o
split-marked won n k o cause is split = record {
  copies = λ i j a at. elim (at-push-cases won (told k decision.Marked) (told j (decision.Copied a)) i at) [
    | inl old ↦ split.copies i j a old
    | inr new ↦ absurd (copied-marked a (ap (λ (t : Told). t.decision) new.1))
  ];
  marks = λ i j at. elim (at-push-cases won (told k decision.Marked) (told j decision.Marked) i at) [
    | inl old ↦ split.marks i j old
    | inr new ↦ let last : i ≡ length won = new.0 in let few : n ≤ length won = split.few in omega (arith, last, few)
  ];
  few = (let few : n ≤ length won = split.few in
      let more : length (won ++ told k decision.Marked ∷ []) ≡ length won + 1 = length-append won (told k decision.Marked ∷ []) in
      omega (arith, few, more));
  calm = λ none. absurd (none-some cause (sym none ∙ is));
}

pub split-copied : (won : List Told) (n k address : ℕ) (o : Option Abort) → o ≡ None → AreSplit won n o
    → AreSplit (won ++ told k (decision.Copied address) ∷ []) (n + 1) o
split-copied won n k address o none split = record {
  copies = λ i j a at. elim (at-push-cases won (told k (decision.Copied address)) (told j (decision.Copied a)) i at) [
    | inl old ↦ let less : i < n = split.copies i j a old in omega (arith, less)
    | inr new ↦ let last : i ≡ length won = new.0 in omega (arith, last, whole)
  ];
  marks = λ i j at. elim (at-push-cases won (told k (decision.Copied address)) (told j decision.Marked) i at) [
    | inl old ↦
        let within : i < length won = slice_get_within won i (told j decision.Marked) old in
        let past : n ≤ i = split.marks i j old in
        absurd (omega (arith, within, past, whole))
    | inr new ↦ absurd (copied-marked address (sym (ap (λ (t : Told). t.decision) new.1)))
  ];
  few = omega (arith, more, whole);
  calm = λ calm. omega (arith, more, whole);
}
  where
    whole : length won ≡ n
    whole = split.calm none

    more : length (won ++ told k (decision.Copied address) ∷ []) ≡ length won + 1
    more = length-append won (told k (decision.Copied address) ∷ [])
