-- What the words of registers, globals and slots lead to, and what objects hold once a register, a global or a slot is another.
use Rattle.std.proofs.Common.{◌≡◌, ◌<◌, ◌≤◌, ◌^◌, ℕ, zero, suc, Option, Some, length, set, sym, subst, ◌∙◌, arith}
use Rattle.std.specs.Prelude.{IfSome, IsSome}
use Rattle.bal_layout.specs.References.{target_of}
use Rattle.bal_layout.specs.Addresses.{IsAddress}
use Rattle.bal_words.specs.Shown.{Finds, name_behind}
use Rattle.bal_words.specs.Things.{Thing}
use Rattle.bal_words.proofs.Lemmas.{there}
use Rattle.bal_roots.specs.Roots.{global_place, register_place}
use Rattle.bal_table.specs.Changes.{with_word_at}
use Rattle.bal_table.specs.Table.{IsTable, Table, slot_place, things_of, value_place}
use Rattle.bal_table.proofs.Lemmas.{IsTable-written, number-lies, object-within, reference-lies, seen, thing-numbered, thing-referred}
use Rattle.bal_barrier.specs.Coverage.{IsCovered}
use Rattle.bal_barrier.proofs.Lemmas.{covered-number}
use Rattle.bal_cards.specs.Cards.{Cards}
use Rattle.bal_rules.specs.Board.{Board}
use Rattle.bal_model.specs.Plain.{with_global, with_reference, with_register, with_value}
use Rattle.bal_meet.specs.Heap.{spot_at}
use Rattle.bal_meet.proofs.Lemmas.{global-meets, number-meets, reference-meets, register-decoded, register-meets}
use Rattle.bal_heap.specs.Kept.{AreKept}
use Rattle.bal_heap.specs.Objects.{AreOnBoard, Objects, heap_of, word_in}

-- Words.

-- the address of an object is small
pub address-few : (t : Table) (a : ℕ) → IsTable t → IsSome (things_of t a) → a < 2 ^ 24
address-few t a table some =
    let x = there (things_of t a) some in
    let s = seen t a x.0 table x.1 in
    let within : IsAddress t.shape a = (object-within t a s.object table s.is).0 in
    omega (arith, within, table.shape.words_in_all)

-- so is a word that leads to one
pub word-few : (t : Table) (word : ℕ) → IsTable t → Finds (things_of t) word → word ≤ 2 ^ 32
word-few t zero table finds = omega arith
word-few t (suc a) table finds = omega (arith, address-few t a table finds)

-- the word of a register leads to an object, if it isn't null
pub register-finds : (o : Objects) (t r : ℕ) → AreKept o → t < 32 → r < 32 → Finds (things_of o.table) (word_in o t r)
register-finds o t r kept thread number = (register-decoded (spot_at (heap_of o)) (things_of o.table) o.roots kept.board.plain kept.board.present t r kept.on.meets.decodes thread number).1

-- which then starts where the word leads
pub register-starts : (o : Objects) (t r : ℕ) (target : Option ℕ) → AreKept o → t < 32 → r < 32 → target ≡ target_of (word_in o t r) → IfSome target (λ a. IsSome (things_of o.table a))
register-starts o t r target kept thread number is =
    subst (λ (x : Option ℕ). IfSome x (λ a. IsSome (things_of o.table a))) (sym is) (register-finds o t r kept thread number)

-- The board that is met once a word is another.

module _ (o : Objects) (d : Board) (h : AreOnBoard o d) where
  -- a register takes a word
  pub holds-register : (t r word : ℕ) → t < 32 → r < 32 → Finds (things_of o.table) word
      → AreOnBoard (record o { roots = set o.roots (register_place t r) word }) (record d { plain = with_register d.plain t r (name_behind (things_of o.table) word) })
  holds-register t r word thread number finds =
      record { table = h.table; meets = register-meets (heap_of o) d t r word h.meets thread number finds; cards = h.cards; covered = h.covered }

  -- a global takes a word
  pub holds-global : (g word : ℕ) → g < 64 → Finds (things_of o.table) word
      → AreOnBoard (record o { roots = set o.roots (global_place g) word }) (record d { plain = with_global d.plain g (name_behind (things_of o.table) word) })
  holds-global g word number finds =
      record { table = h.table; meets = global-meets (heap_of o) d g word h.meets number finds; cards = h.cards; covered = h.covered }

  -- a reference takes a word
  pub holds-reference : (a slot word : ℕ) (x : Thing) → things_of o.table a ≡ Some x → slot < length x.refs → Finds (things_of o.table) word
      → (cards : Cards) → cards.shape ≡ o.cards.shape → IsCovered (with_word_at o.table (slot_place o.table a slot) word) cards
      → AreOnBoard (record o { table = with_word_at o.table (slot_place o.table a slot) word; cards = cards }) (record d { plain = with_reference d.plain x.name slot (name_behind (things_of o.table) word) })
  holds-reference a slot word x is within finds cards shape covered =
      let lies = reference-lies o.table a slot x h.table is within in
      record {
        table = IsTable-written o.table (slot_place o.table a slot) word h.table lies.0 lies.1;
        meets = reference-meets (heap_of o) d (things_of (with_word_at o.table (slot_place o.table a slot) word)) a slot word x h.meets is finds
            (thing-referred o.table a slot word x h.table is within);
        cards = shape ∙ h.cards;
        covered = covered;
      }

  -- a number is another
  pub holds-number : (a slot number : ℕ) (x : Thing) → things_of o.table a ≡ Some x → slot < length x.values
      → AreOnBoard (record o { table = with_word_at o.table (value_place o.table a slot) number }) (record d { plain = with_value d.plain x.name slot number })
  holds-number a slot number x is within =
      let lies = number-lies o.table a slot x h.table is within in
      record {
        table = IsTable-written o.table (value_place o.table a slot) number h.table lies.0 lies.1;
        meets = number-meets (heap_of o) d (things_of (with_word_at o.table (value_place o.table a slot) number)) a slot number x h.meets is
            (thing-numbered o.table a slot number x h.table is within);
        cards = h.cards;
        covered = covered-number o.table o.cards a slot number x h.table is within h.covered;
      }
