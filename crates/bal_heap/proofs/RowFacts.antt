-- What a row that asks for no room does to objects: the plain step, whatever plain state they hold.
use Rattle.std.proofs.Common.{◌≡◌, ◌<◌, ◌≤◌, ◌⊎◌, inl, inr, ℕ, zero, suc, Bool, cond, Option, Some, None, length, refl, ap, sym, subst, ◌∙◌, arith}
use Rattle.std.specs.Prelude.{IsSome, MatchResult, Ok, option_map}
use Rattle.std.specs.Option.{ok_or}
use Rattle.std.proofs.lemmas.Bool.{le-ltb, lt-ltb}
use Rattle.bal_layout.specs.declared.name.Name.{Name}
use Rattle.std.proofs.lemmas.Option.{none-some, same_Some}
use Rattle.bal_layout.specs.References.{target_of}
use Rattle.bal_words.specs.Shown.{Finds, name_behind}
use Rattle.bal_words.specs.Things.{Thing, Things}
use Rattle.bal_words.proofs.Lemmas.{there}
use Rattle.bal_table.specs.Table.{Table, refs_in, things_of, value_found, values_in}
use Rattle.bal_table.proofs.Lemmas.{found-below, missing-past}
use Rattle.bal_rules.specs.Board.{Board}
use Rattle.bal_model.specs.Plain.{State, Step, at_slot, reference_count, register, step, value_count}
use Rattle.bal_model.specs.declared.row.Op.{Op}
use Rattle.bal_model.specs.declared.row.Reply.{Reply}
use Rattle.bal_model.specs.declared.row.Reply.TheVariants as reply
use Rattle.bal_meet.specs.Heap.{spot_at}
use Rattle.bal_meet.proofs.Lemmas.{numbers-decoded, references-decoded, register-decoded}
use Rattle.bal_heap.specs.Objects.{AreOnBoard, Objects, Performs, after_row, heap_of, holder_found, named_place, number_place, slot_holder, word_in}

-- A row in general.

-- a row is performed whose step is known for each board that is met
pub performs-by : (before after : Objects) (t : ℕ) (row : Op) (r : Reply) → after ≡ after_row before t row → after.table.shape ≡ before.table.shape
    → ((d : Board) → AreOnBoard before d → (next : State) × ((step d.plain t row ≡ (r, next)) × AreOnBoard after (record d { plain = next })))
    → Performs before after t row r
performs-by before after t row r words shape by = record {
  words = words;
  shape = shape;
  reply = λ d h. sym (ap (λ (x : Step). x.0) (by d h).1.0);
  meets = λ d h. subst (λ (next : State). AreOnBoard after (record d { plain = next })) (sym (ap (λ (x : Step). x.1) (by d h).1.0)) (by d h).1.1;
}

-- and the board is met that was, where a row changes nothing
pub performs-nothing : (o : Objects) (t : ℕ) (row : Op) (r : Reply) → o ≡ after_row o t row
    → ((d : Board) → AreOnBoard o d → step d.plain t row ≡ (r, d.plain)) → Performs o o t row r
performs-nothing o t row r words is = performs-by o o t row r words refl (λ d h. (d.plain, (is d h, h)))

-- A row that names a slot.

-- its reply is nil where the holder is null
nil-step : (s : State) (holder : Option Name) (count : Name → ℕ) (slot : ℕ) (act : Name → Step) → holder ≡ None → at_slot s holder count slot act ≡ (reply.Nil, s)
nil-step s holder count slot act none = ap (λ (x : Option Name). at_slot s x count slot act) none

-- slot, where the holder has no such slot
slot-step : (s : State) (holder : Option Name) (x : Name) (count : Name → ℕ) (slot : ℕ) (act : Name → Step)
    → holder ≡ Some x → count x ≤ slot → at_slot s holder count slot act ≡ (reply.Slot, s)
slot-step s holder x count slot act some past =
    ap (λ (y : Option Name). at_slot s y count slot act) some ∙ ap (λ (b : Bool). cond b (act x) (reply.Slot, s)) (le-ltb slot (count x) past)

-- else it does there what it does
pub act-step : (s : State) (holder : Option Name) (x : Name) (count : Name → ℕ) (slot : ℕ) (act : Name → Step)
    → holder ≡ Some x → slot < count x → at_slot s holder count slot act ≡ act x
act-step s holder x count slot act some within =
    ap (λ (y : Option Name). at_slot s y count slot act) some ∙ ap (λ (b : Bool). cond b (act x) (reply.Slot, s)) (lt-ltb slot (count x) within)

-- A place that a row names.

-- the place of a slot that the object has to which the word leads
abbrev pub IsNamed : (ℕ → Option ℕ) → ℕ → ℕ → Type 0
IsNamed find word place = (a : ℕ) × (word ≡ suc a) × (find a ≡ Some place)

-- the word is null, or its object has no such slot
abbrev pub IsMissing : (ℕ → Option ℕ) → ℕ → Reply → Type 0
IsMissing find word r = ((word ≡ zero) × (r ≡ reply.Nil)) ⊎ ((a : ℕ) × (word ≡ suc a) × (find a ≡ None) × (r ≡ reply.Slot))

pub place-told : (find : ℕ → Option ℕ) (word : ℕ) → MatchResult (named_place find word) (IsNamed find word) (IsMissing find word)
place-told find zero = inl (refl, refl)
place-told find (suc a) = by (find a) refl
  where
    by : (o : Option ℕ) → find a ≡ o → MatchResult (ok_or o reply.Slot) (IsNamed find (suc a)) (IsMissing find (suc a))
    by None missing = inr (a, refl, missing, refl)
    by (Some p) found = (a, refl, found)

-- an object that has the slot is found, and no other
pub holder-found : (t : Table) (a slot : ℕ) → slot < length (refs_in (things_of t a)) → holder_found t slot a ≡ Some a
holder-found t a slot within = ap (λ b. cond b (Some a) None) (lt-ltb slot (length (refs_in (things_of t a))) within)

pub holder_found-is : (t : Table) (a slot holder : ℕ) → holder_found t slot a ≡ Some holder → (slot < length (refs_in (things_of t a))) × (a ≡ holder)
holder_found-is t a slot holder = found-below slot (length (refs_in (things_of t a))) a holder

pub holder_found-none : (t : Table) (a slot : ℕ) → holder_found t slot a ≡ None → length (refs_in (things_of t a)) ≤ slot
holder_found-none t a slot = missing-past slot (length (refs_in (things_of t a))) a

-- it is named where a register holds the object that has the slot
pub holder-named : (o : Objects) (t holder a slot : ℕ) → word_in o t holder ≡ suc a → slot < length (refs_in (things_of o.table a))
    → slot_holder o t holder slot ≡ Ok a
holder-named o t holder a slot word within =
    ap (named_place (holder_found o.table slot)) word ∙ ap (λ (x : Option ℕ). ok_or x reply.Slot) (holder-found o.table a slot within)

pub number-named : (o : Objects) (t holder a slot place : ℕ) → word_in o t holder ≡ suc a → value_found o.table a slot ≡ Some place
    → number_place o t holder slot ≡ Ok place
number-named o t holder a slot place word found =
    ap (named_place (λ b. value_found o.table b slot)) word ∙ ap (λ (x : Option ℕ). ok_or x reply.Slot) found

-- The holder's register.

-- a word leads to an address just where it is that address's word
pub word-leads : (word a : ℕ) → Some a ≡ target_of word → word ≡ suc a
word-leads zero a is = absurd (none-some a (sym is))
word-leads (suc b) a is = ap suc (same_Some b a (sym is))

-- an object starts where a word leads that isn't null
pub leads-there : (things : Things) (word a : ℕ) → word ≡ suc a → Finds things word → IsSome (things a)
leads-there things word a is finds = subst (Finds things) is finds

-- a thread's register holds the object that starts at an address
abbrev pub IsHeld : Objects → ℕ → ℕ → ℕ → Type 0
IsHeld o t holder a = (word_in o t holder ≡ suc a) × IsSome (things_of o.table a)

module _ (o : Objects) (t holder : ℕ) (thread : t < 32) (number : holder < 32) where
  -- what a register of the plain state holds, by its word
  pub register-is : (d : Board) → AreOnBoard o d → register d.plain t holder ≡ name_behind (things_of o.table) (word_in o t holder)
  register-is d h = (register-decoded (spot_at (heap_of o)) (things_of o.table) o.roots d.plain d.present t holder h.meets.decodes thread number).0

  -- it holds an object
  pub named : (a : ℕ) (x : Thing) → word_in o t holder ≡ suc a → things_of o.table a ≡ Some x
      → (d : Board) → AreOnBoard o d → register d.plain t holder ≡ Some x.name
  named a x word is d h =
      register-is d h ∙ (ap (name_behind (things_of o.table)) word ∙ ap (option_map (λ (y : Thing). y.name)) is)

  -- the object to which its word leads starts there
  pub leads : (d : Board) → AreOnBoard o d → (a : ℕ) → word_in o t holder ≡ suc a → IsHeld o t holder a
  leads d h a word = (
    word,
    leads-there (things_of o.table) (word_in o t holder) a word
        (register-decoded (spot_at (heap_of o)) (things_of o.table) o.roots d.plain d.present t holder h.meets.decodes thread number).1,
  )

  module _ (row : Op) (count : State → Name → ℕ) (slot : ℕ) (act : State → Name → Step)
      (is : (s : State) → step s t row ≡ at_slot s (register s t holder) (count s) slot (act s)) where
    -- nothing is done where it is null
    pub null-step : word_in o t holder ≡ zero → (d : Board) → AreOnBoard o d → step d.plain t row ≡ (reply.Nil, d.plain)
    null-step null d h =
        is d.plain ∙ nil-step d.plain (register d.plain t holder) (count d.plain) slot (act d.plain) (register-is d h ∙ ap (name_behind (things_of o.table)) null)

    -- nor where the object has no such slot
    past-step : (a : ℕ) (x : Thing) → word_in o t holder ≡ suc a → things_of o.table a ≡ Some x
        → (d : Board) → AreOnBoard o d → count d.plain x.name ≤ slot → step d.plain t row ≡ (reply.Slot, d.plain)
    past-step a x word there d h past =
        is d.plain ∙ slot-step d.plain (register d.plain t holder) x.name (count d.plain) slot (act d.plain) (named a x word there d h) past

  module _ (a : ℕ) (held : IsHeld o t holder a) where
    -- the object that starts there
    abbrev pub held_thing : Thing
    held_thing = (there (things_of o.table a) held.1).0

    -- as the table has it
    pub thing-is : things_of o.table a ≡ Some held_thing
    thing-is = (there (things_of o.table a) held.1).1

    -- it has as many references as it has in the plain state
    pub references-are : (d : Board) → AreOnBoard o d → reference_count d.plain held_thing.name ≡ length (refs_in (things_of o.table a))
    references-are d h =
        references-decoded (spot_at (heap_of o)) (things_of o.table) o.roots d.plain d.present a held_thing h.meets.decodes thing-is
        ∙ sym (ap (λ (x : Option Thing). length (refs_in x)) thing-is)

    -- and as many numbers
    pub numbers-are : (d : Board) → AreOnBoard o d → value_count d.plain held_thing.name ≡ length (values_in (things_of o.table a))
    numbers-are d h =
        numbers-decoded (spot_at (heap_of o)) (things_of o.table) o.roots d.plain d.present a held_thing h.meets.decodes thing-is
        ∙ sym (ap (λ (x : Option Thing). length (values_in x)) thing-is)

    -- a row that names a reference does nothing where there is no such one
    pub no_reference-step : (row : Op) (slot : ℕ) (act : State → Name → Step)
        → ((s : State) → step s t row ≡ at_slot s (register s t holder) (reference_count s) slot (act s))
        → length (refs_in (things_of o.table a)) ≤ slot → (d : Board) → AreOnBoard o d → step d.plain t row ≡ (reply.Slot, d.plain)
    no_reference-step row slot act is past d h =
        past-step row reference_count slot act is a held_thing held.0 thing-is d h (omega (arith, past, references-are d h))

    -- and so does one that names a number
    pub no_number-step : (row : Op) (slot : ℕ) (act : State → Name → Step)
        → ((s : State) → step s t row ≡ at_slot s (register s t holder) (value_count s) slot (act s))
        → length (values_in (things_of o.table a)) ≤ slot → (d : Board) → AreOnBoard o d → step d.plain t row ≡ (reply.Slot, d.plain)
    no_number-step row slot act is past d h =
        past-step row value_count slot act is a held_thing held.0 thing-is d h (omega (arith, past, numbers-are d h))
