use Rattle.std.proofs.Common.{◌≡◌, ℕ, zero, suc, Bool, List, Option, Some, None, refl, subst, arith}
use Rattle.std.specs.Prelude.{All}
use Rattle.std.proofs.lemmas.List.Elements.{All-nil, All-weaker}
use Rattle.bal_fixup.specs.Mended.{IsReference}
use Rattle.bal_fixup.proofs.what_led_to_objects_may_be_mended.Goals as goal
use Rattle.bal_table.specs.Table.{IsTable, Table, things_of}
use Rattle.bal_table.proofs.Lemmas.{object-within, seen}
use Rattle.bal_words.specs.Moved.{Carried}
use Rattle.bal_words.specs.Paths.{words_in}
use Rattle.bal_words.specs.Shown.{Finds}
use Rattle.bal_words.specs.Things.{Thing, Things}
use Rattle.bal_words.proofs.Lemmas.{there}

-- a heap has fewer words than 32 bits number
word-few : (t : Table) (word : ℕ) → IsTable t → Finds (things_of t) word → IsReference word
word-few t zero table found = omega arith
word-few t (suc a) table found =
    let x = there (things_of t a) found in
    let s = seen t a x.0 table x.1 in
    omega (arith, (object-within t a s.object table s.is).0, table.shape.words_in_all)

words-few : (t : Table) (words : List ℕ) → IsTable t → All (Finds (things_of t)) words → All IsReference words
words-few t words table found = All-weaker (Finds (things_of t)) IsReference (λ word one. word-few t word table one) words found

pub returns-clause-roots : goal.returns-clause-roots
returns-clause-roots c = words-few

pub returns-clause-objects : goal.returns-clause-objects
returns-clause-objects c = λ t middle keeps to table found carried. record { each = λ a. by t middle keeps to table found carried a (middle a) refl }
  where
    by : (t : Table) (middle : Things) (keeps : ℕ → Bool) (to : ℕ → ℕ) → IsTable t → ((a : ℕ) → All (Finds (things_of t)) (words_in (things_of t a)))
        → Carried (things_of t) middle keeps to → (a : ℕ) (o : Option Thing) → middle a ≡ o → All IsReference (words_in o)
    by t middle keeps to table found carried a None is = All-nil IsReference
    by t middle keeps to table found carried a (Some x) is =
        let from = carried.only a x is in
        words-few t x.refs table (subst (λ (o : Option Thing). All (Finds (things_of t)) (words_in o)) from.1 (found from.0))
