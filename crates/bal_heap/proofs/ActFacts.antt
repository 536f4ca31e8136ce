-- What a row does that finds what it names: a word is read or written, and the plain state's object, register or global with it.
use Rattle.std.proofs.Common.{◌≡◌, ◌<◌, ℕ, suc, Bool, true, false, cond, eqb, inl, inr, Option, None, Some, List, length, get_or, set, refl, ap, sym, subst, ◌∙◌, arith}
use Rattle.std.specs.Prelude.{Err, MatchResult, Ok, Result}
use Rattle.std.proofs.lemmas.Option.{get_or_from_slice_get}
use Rattle.bal_barrier.specs.Coverage.{IsCovered, after_store}
use Rattle.bal_cards.specs.Cards.{Cards, with_dirty}
use Rattle.bal_layout.specs.Addresses.{IsAddress, card_of}
use Rattle.bal_layout.specs.declared.name.Name.{Name}
use Rattle.bal_words.specs.Shown.{Finds, name_behind}
use Rattle.bal_words.specs.Things.{Thing}
use Rattle.bal_roots.specs.Roots.{global_place, register_place}
use Rattle.bal_table.specs.Changes.{MayBeWritten, with_word_at}
use Rattle.bal_table.specs.Table.{Table, refs_in, slot_place, things_of, value_found, value_place, values_in, word_at}
use Rattle.bal_table.proofs.Lemmas.{LiesAt, number-lies, reference-lies, value_found-is, value_found-none}
use Rattle.bal_rules.specs.Board.{Board}
use Rattle.bal_model.specs.Plain.{State, Step, at_slot, global, name_or_null, reference, reference_count, register, step, taking, value, value_count, with_global, with_reference, with_register, with_value}
use Rattle.bal_model.specs.declared.row.Op.{Op}
use Rattle.bal_model.specs.declared.row.Op.TheVariants as op
use Rattle.bal_model.specs.declared.row.Reply.{Reply}
use Rattle.bal_model.specs.declared.row.Reply.TheVariants as reply
use Rattle.bal_meet.specs.Heap.{spot_at}
use Rattle.bal_meet.proofs.Lemmas.{global-decoded, number-decoded, reference-decoded}
use Rattle.bal_heap.specs.Kept.{AreKept}
use Rattle.bal_heap.specs.Objects.{AreOnBoard, Objects, Performs, after_row, heap_of, done_at, holder_found, number_place, slot_holder, with_number, with_reference as with_reference_at, with_root, word_in}
use Rattle.bal_heap.proofs.RootFacts.{holds-global, holds-number, holds-reference, holds-register, register-finds}
use Rattle.bal_heap.proofs.RowFacts.{IsHeld, IsMissing, IsNamed, holder_found-is, holder_found-none, leads, no_number-step, no_reference-step, null-step, place-told, act-step, held_thing, named, numbers-are, performs-by, performs-nothing, references-are, register-is, thing-is}

-- A row that names a slot of an object which a register holds.

module _ (o : Objects) (t holder a slot : ℕ) (thread : t < 32) (number : holder < 32) (held : IsHeld o t holder a) (kept : AreKept o) where
  -- the object
  abbrev x : Thing
  x = held_thing o t holder thread number a held

  -- as the table has it
  is : things_of o.table a ≡ Some x
  is = thing-is o t holder thread number a held

  -- which the plain state's register holds
  register-x : (d : Board) → AreOnBoard o d → register d.plain t holder ≡ Some x.name
  register-x = named o t holder thread number a x held.0 is

  module _ (within : slot < length (refs_in (things_of o.table a))) where
    -- the slot is one of its references
    reference-within : slot < length x.refs
    reference-within = subst (λ (y : Option Thing). slot < length (refs_in y)) is within

    -- the word that is read there
    reference-word : (word : ℕ) → word ≡ word_at o.table (slot_place o.table a slot) → get_or x.refs slot 0 ≡ word
    reference-word word read =
        let lies : LiesAt o.table a slot x.refs (slot_place o.table a slot) = reference-lies o.table a slot x kept.on.table is reference-within in
        get_or_from_slice_get x.refs slot (word_at o.table (slot_place o.table a slot)) 0 lies.2 ∙ sym read

    -- what a row does there is done
    reference-step : (act : State → Name → Step) (d : Board) → AreOnBoard o d
        → at_slot d.plain (register d.plain t holder) (reference_count d.plain) slot (act d.plain) ≡ act d.plain x.name
    reference-step act d h =
        act-step d.plain (register d.plain t holder) x.name (reference_count d.plain) slot (act d.plain) (register-x d h)
        (omega (arith, within, references-are o t holder thread number a held d h))

    -- a reference takes what a register holds
    pub performs-store : (value word : ℕ) (after : Table) (cards : Cards) → value < 32 → word ≡ word_in o t value
        → after ≡ with_word_at o.table (slot_place o.table a slot) word → cards.shape ≡ o.cards.shape → (IsCovered o.table o.cards → IsCovered after cards)
        → record o { table = after; cards = cards } ≡ after_row o t (op.Store holder slot value)
        → Performs o (record o { table = after; cards = cards }) t (op.Store holder slot value) reply.Ok
    performs-store value word after cards small read written shape covers words =
        performs-by o (record o { table = after; cards = cards }) t (op.Store holder slot value) reply.Ok words
        (ap (λ (u : Table). u.shape) written)
        (λ d h.
        let content : register d.plain t value ≡ name_behind (things_of o.table) word =
        register-is o t value thread small d h ∙ ap (name_behind (things_of o.table)) (sym read) in
        let finds : Finds (things_of o.table) word = subst (Finds (things_of o.table)) (sym read) (register-finds o t value kept thread small) in (
          with_reference d.plain x.name slot (name_behind (things_of o.table) word),
          (
            reference-step (λ s y. (reply.Ok, with_reference s y slot (register s t value))) d h
                ∙ ap (λ (c : Option Name). (reply.Ok, with_reference d.plain x.name slot c)) content,
            subst (λ (u : Table). AreOnBoard (record o { table = u; cards = cards }) (record d { plain = (with_reference d.plain x.name slot (name_behind (things_of o.table) word)) })) (sym written)
                (holds-reference o d h a slot word x is reference-within finds cards shape (subst (λ (u : Table). IsCovered u cards) written (covers h.covered))),
          ),
        ))

    -- the word that a row reads there leads to an object, if it isn't null
    pub reference-finds : (word : ℕ) → word ≡ word_at o.table (slot_place o.table a slot) → Finds (things_of o.table) word
    reference-finds word read =
        subst (Finds (things_of o.table)) (reference-word word read)
        (reference-decoded (spot_at (heap_of o)) (things_of o.table) o.roots kept.board.plain kept.board.present a slot x kept.on.meets.decodes is reference-within).1

    -- a register takes a reference
    pub performs-load : (into word : ℕ) (r : Reply) (roots : List ℕ) → into < 32 → word ≡ word_at o.table (slot_place o.table a slot)
        → r ≡ name_or_null (name_behind (things_of o.table) word) → roots ≡ set o.roots (register_place t into) word
        → record o { roots = roots } ≡ after_row o t (op.Load into holder slot) → Performs o (record o { roots = roots }) t (op.Load into holder slot) r
    performs-load into word r roots small read reply written words =
        performs-by o (record o { roots = roots }) t (op.Load into holder slot) r words refl
        (λ d h.
        let decoded = reference-decoded (spot_at (heap_of o)) (things_of o.table) o.roots d.plain d.present a slot x h.meets.decodes is reference-within in
        let content : reference d.plain x.name slot ≡ name_behind (things_of o.table) word =
        decoded.0 ∙ ap (name_behind (things_of o.table)) (reference-word word read) in (
          with_register d.plain t into (name_behind (things_of o.table) word),
          (
            reference-step (λ s y. taking s t into (reference s y slot)) d h
                ∙ (ap (taking d.plain t into) content ∙ ap (λ (q : Reply). (q, with_register d.plain t into (name_behind (things_of o.table) word))) (sym reply)),
            subst (λ (ws : List ℕ). AreOnBoard (record o { roots = ws }) (record d { plain = (with_register d.plain t into (name_behind (things_of o.table) word)) })) (sym written)
                (holds-register o d h t into word thread small (reference-finds word read)),
          ),
        ))

  module _ (within : slot < length (values_in (things_of o.table a))) where
    -- the slot is one of its numbers
    number-within : slot < length x.values
    number-within = subst (λ (y : Option Thing). slot < length (values_in y)) is within

    -- where its number lies, another may be written
    pub number-place : IsAddress o.table.shape (value_place o.table a slot) × MayBeWritten o.table (value_place o.table a slot)
    number-place =
        let lies : LiesAt o.table a slot x.values (value_place o.table a slot) = number-lies o.table a slot x kept.on.table is number-within in
        (lies.0, lies.1)

    -- what a row does there is done
    number-step : (act : State → Name → Step) (d : Board) → AreOnBoard o d
        → at_slot d.plain (register d.plain t holder) (value_count d.plain) slot (act d.plain) ≡ act d.plain x.name
    number-step act d h =
        act-step d.plain (register d.plain t holder) x.name (value_count d.plain) slot (act d.plain) (register-x d h)
        (omega (arith, within, numbers-are o t holder thread number a held d h))

    -- a number becomes another
    pub performs-put : (other : ℕ) (after : Table) → after ≡ with_word_at o.table (value_place o.table a slot) other
        → record o { table = after } ≡ after_row o t (op.Put holder slot other) → Performs o (record o { table = after }) t (op.Put holder slot other) reply.Ok
    performs-put other after written words =
        performs-by o (record o { table = after }) t (op.Put holder slot other) reply.Ok words
        (ap (λ (u : Table). u.shape) written)
        (λ d h. (
          with_value d.plain x.name slot other,
          (
            number-step (λ s y. (reply.Ok, with_value s y slot other)) d h,
            subst (λ (u : Table). AreOnBoard (record o { table = u }) (record d { plain = (with_value d.plain x.name slot other) })) (sym written)
                (holds-number o d h a slot other x is number-within),
          ),
        ))

    -- a number is read
    pub performs-get : (word : ℕ) → word ≡ word_at o.table (value_place o.table a slot) → Performs o o t (op.Get holder slot) (reply.Number word)
    performs-get word read = performs-nothing o t (op.Get holder slot) (reply.Number word) refl (λ d h.
        let lies : LiesAt o.table a slot x.values (value_place o.table a slot) = number-lies o.table a slot x kept.on.table is number-within in
        let content : value d.plain x.name slot ≡ word =
        number-decoded (spot_at (heap_of o)) (things_of o.table) o.roots d.plain d.present a slot x h.meets.decodes is
        ∙ (get_or_from_slice_get x.values slot (word_at o.table (value_place o.table a slot)) 0 lies.2 ∙ sym read) in
        number-step (λ s y. (reply.Number (value s y slot), s)) d h ∙ ap (λ (n : ℕ). (reply.Number n, d.plain)) content)

-- The same by the object or the place that the row names.

-- a store leaves the heap's shape
store-shape : (word card : ℕ) (c : Cards) → (after_store word card c).shape ≡ c.shape
store-shape word card c = by (eqb word 0)
  where
    by : (b : Bool) → (cond b c (with_dirty card c)).shape ≡ c.shape
    by true = refl
    by false = refl

-- what was found in objects is so in the same ones
pub found-there : (find : Objects → Result ℕ Reply) {o now : Objects} {place : ℕ} {found : Result ℕ Reply} → o ≡ now → found ≡ Ok place → found ≡ find now → Ok place ≡ find o
found-there find same there told = sym there ∙ (told ∙ ap find (sym same))

module _ (o : Objects) (t holder slot : ℕ) (thread : t < 32) (number : holder < 32) where
  module _ (kept : AreKept o) (a : ℕ) (found : Ok a ≡ slot_holder o t holder slot) where
    -- the object has the slot
    reference-named : IsNamed (holder_found o.table slot) (word_in o t holder) a
    reference-named = subst (λ x. MatchResult x (IsNamed (holder_found o.table slot) (word_in o t holder)) (IsMissing (holder_found o.table slot) (word_in o t holder)))
        (sym found) (place-told (holder_found o.table slot) (word_in o t holder))

    -- and is the one that the register holds
    named-is : (slot < length (refs_in (things_of o.table reference-named.0))) × (reference-named.0 ≡ a)
    named-is = holder_found-is o.table reference-named.0 slot a reference-named.2

    pub named-within : slot < length (refs_in (things_of o.table a))
    named-within = subst (λ b. slot < length (refs_in (things_of o.table b))) named-is.1 named-is.0

    held : IsHeld o t holder a
    held = leads o t holder thread number kept.board kept.on a (reference-named.1 ∙ ap suc named-is.1)

    -- a word that is read there leads to an object
    pub named-finds : (word : ℕ) → word ≡ word_at o.table (slot_place o.table a slot) → Finds (things_of o.table) word
    named-finds word read = reference-finds o t holder a slot thread number held kept named-within word read

    pub stores : (value word : ℕ) (after : Table) (cards : Cards) → value < 32 → word ≡ word_in o t value
        → after ≡ with_word_at o.table (slot_place o.table a slot) word → cards ≡ after_store word (card_of (slot_place o.table a slot)) o.cards
        → (IsCovered o.table o.cards → IsCovered after cards)
        → Performs o (record o { table = after; cards = cards }) t (op.Store holder slot value) reply.Ok
    stores value word after cards small read written dirty covers =
        performs-store o t holder a slot thread number held kept named-within value word after cards small read written
        (ap (λ (c : Cards). c.shape) dirty ∙ store-shape word (card_of (slot_place o.table a slot)) o.cards) covers
        (ap (λ (u : Table). record o { table = u; cards = cards }) written
        ∙ (ap (λ (c : Cards). record o { table = with_word_at o.table (slot_place o.table a slot) word; cards = c }) dirty
        ∙ (ap (with_reference_at o a slot) read ∙ ap (λ x. done_at o x (λ b. with_reference_at o b slot (word_in o t value))) found)))

    pub loads : (into word : ℕ) (r : Reply) (roots : List ℕ) → into < 32 → word ≡ word_at o.table (slot_place o.table a slot)
        → r ≡ name_or_null (name_behind (things_of o.table) word) → roots ≡ set o.roots (register_place t into) word
        → Performs o (record o { roots = roots }) t (op.Load into holder slot) r
    loads into word r roots small read reply written =
        performs-load o t holder a slot thread number held kept named-within into word r roots small read reply written
        (ap (λ (ws : List ℕ). record o { roots = ws }) (written ∙ ap (set o.roots (register_place t into)) read)
        ∙ ap (λ x. done_at o x (λ b. with_root o (register_place t into) (word_at o.table (slot_place o.table b slot)))) found)

  module _ (kept : AreKept o) (place : ℕ) (found : Ok place ≡ number_place o t holder slot) where
    -- the place is that of a number
    number-named : IsNamed (λ a. value_found o.table a slot) (word_in o t holder) place
    number-named = subst (λ x. MatchResult x (IsNamed (λ a. value_found o.table a slot) (word_in o t holder)) (IsMissing (λ a. value_found o.table a slot) (word_in o t holder)))
        (sym found) (place-told (λ a. value_found o.table a slot) (word_in o t holder))

    abbrev b : ℕ
    b = number-named.0

    owned : IsHeld o t holder b
    owned = leads o t holder thread number kept.board kept.on b number-named.1

    value-is : (slot < length (values_in (things_of o.table b))) × (value_place o.table b slot ≡ place)
    value-is = value_found-is o.table b slot place number-named.2

    pub named-number : IsAddress o.table.shape place × MayBeWritten o.table place
    named-number = subst (λ p. IsAddress o.table.shape p × MayBeWritten o.table p) value-is.1 (number-place o t holder b slot thread number owned kept value-is.0)

    pub puts : (other : ℕ) (after : Table) → after ≡ with_word_at o.table place other
        → Performs o (record o { table = after }) t (op.Put holder slot other) reply.Ok
    puts other after written =
        performs-put o t holder b slot thread number owned kept value-is.0 other after (written ∙ ap (λ p. with_word_at o.table p other) (sym value-is.1))
        (ap (λ (u : Table). record o { table = u }) written ∙ ap (λ x. done_at o x (λ p. with_number o p other)) found)

    pub gets : (word : ℕ) → word ≡ word_at o.table place → Performs o o t (op.Get holder slot) (reply.Number word)
    gets word read = performs-get o t holder b slot thread number owned kept value-is.0 word (read ∙ ap (word_at o.table) (sym value-is.1))

  -- where it names none, the row changes nothing
  module _ (r : Reply) (row : Op) (act : State → Name → Step) where
    pub names-no_reference : Err r ≡ slot_holder o t holder slot
        → ((s : State) → step s t row ≡ at_slot s (register s t holder) (reference_count s) slot (act s)) → (change : ℕ → Objects)
        → after_row o t row ≡ done_at o (slot_holder o t holder slot) change → Performs o o t row r
    names-no_reference missing is change words = performs-nothing o t row r (ap (λ x. done_at o x change) missing ∙ sym words) (λ d h.
        let find : ℕ → Option ℕ = holder_found o.table slot in
        elim (subst (λ x. MatchResult x (IsNamed find (word_in o t holder)) (IsMissing find (word_in o t holder))) (sym missing) (place-told find (word_in o t holder))) [
          | inl null ↦ null-step o t holder thread number row reference_count slot act is null.0 d h ∙ ap (λ (q : Reply). (q, d.plain)) (sym null.1)
          | inr past ↦ no_reference-step o t holder thread number past.0 (leads o t holder thread number d h past.0 past.1) row slot act is
              (holder_found-none o.table past.0 slot past.2) d h ∙ ap (λ (q : Reply). (q, d.plain)) (sym past.3)
        ])

    pub names-no_number : Err r ≡ number_place o t holder slot
        → ((s : State) → step s t row ≡ at_slot s (register s t holder) (value_count s) slot (act s)) → o ≡ after_row o t row → Performs o o t row r
    names-no_number missing is words = performs-nothing o t row r words (λ d h.
        let find : ℕ → Option ℕ = λ a. value_found o.table a slot in
        elim (subst (λ x. MatchResult x (IsNamed find (word_in o t holder)) (IsMissing find (word_in o t holder))) (sym missing) (place-told find (word_in o t holder))) [
          | inl null ↦ null-step o t holder thread number row value_count slot act is null.0 d h ∙ ap (λ (q : Reply). (q, d.plain)) (sym null.1)
          | inr past ↦ no_number-step o t holder thread number past.0 (leads o t holder thread number d h past.0 past.1) row slot act is
              (value_found-none o.table past.0 slot past.2) d h ∙ ap (λ (q : Reply). (q, d.plain)) (sym past.3)
        ])

-- Rows of registers and globals alone.

module _ (o : Objects) (t : ℕ) (thread : t < 32) where
  -- a global takes what a register holds
  pub performs-store_global : (g r word : ℕ) (roots : List ℕ) → g < 64 → r < 32 → AreKept o → word ≡ word_in o t r
      → roots ≡ set o.roots (global_place g) word → Performs o (record o { roots = roots }) t (op.GStore g r) reply.Ok
  performs-store_global g r word roots few small kept read written =
      performs-by o (record o { roots = roots }) t (op.GStore g r) reply.Ok
      (ap (λ (ws : List ℕ). record o { roots = ws }) (written ∙ ap (set o.roots (global_place g)) read)) refl
      (λ d h.
      let content : register d.plain t r ≡ name_behind (things_of o.table) word =
      register-is o t r thread small d h ∙ ap (name_behind (things_of o.table)) (sym read) in
      let finds : Finds (things_of o.table) word = subst (Finds (things_of o.table)) (sym read) (register-finds o t r kept thread small) in (
        with_global d.plain g (name_behind (things_of o.table) word),
        (
          ap (λ (c : Option Name). (reply.Ok, with_global d.plain g c)) content,
          subst (λ (ws : List ℕ). AreOnBoard (record o { roots = ws }) (record d { plain = (with_global d.plain g (name_behind (things_of o.table) word)) })) (sym written)
              (holds-global o d h g word few finds),
        ),
      ))

  -- a register takes what a global holds
  pub performs-load_global : (into g word : ℕ) (r : Reply) (roots : List ℕ) → into < 32 → g < 64 → word ≡ get_or o.roots (global_place g) 0
      → r ≡ name_or_null (name_behind (things_of o.table) word) → roots ≡ set o.roots (register_place t into) word
      → Performs o (record o { roots = roots }) t (op.GLoad into g) r
  performs-load_global into g word r roots small few read reply written =
      performs-by o (record o { roots = roots }) t (op.GLoad into g) r
      (ap (λ (ws : List ℕ). record o { roots = ws }) (written ∙ ap (set o.roots (register_place t into)) read)) refl
      (λ d h.
      let decoded = global-decoded (spot_at (heap_of o)) (things_of o.table) o.roots d.plain d.present g h.meets.decodes few in
      let content : global d.plain g ≡ name_behind (things_of o.table) word = decoded.0 ∙ ap (name_behind (things_of o.table)) (sym read) in
      let finds : Finds (things_of o.table) word = subst (Finds (things_of o.table)) (sym read) decoded.1 in (
        with_register d.plain t into (name_behind (things_of o.table) word),
        (
          ap (taking d.plain t into) content ∙ ap (λ (q : Reply). (q, with_register d.plain t into (name_behind (things_of o.table) word))) (sym reply),
          subst (λ (ws : List ℕ). AreOnBoard (record o { roots = ws }) (record d { plain = (with_register d.plain t into (name_behind (things_of o.table) word)) })) (sym written)
              (holds-register o d h t into word thread small finds),
        ),
      ))

  -- a register becomes null
  pub performs-drop : (r : ℕ) (roots : List ℕ) → r < 32 → roots ≡ set o.roots (register_place t r) 0
      → Performs o (record o { roots = roots }) t (op.Drop r) reply.Ok
  performs-drop r roots small written =
      performs-by o (record o { roots = roots }) t (op.Drop r) reply.Ok (ap (λ (ws : List ℕ). record o { roots = ws }) written) refl
      (λ d h. (
        with_register d.plain t r None,
        (
          refl,
          subst (λ (ws : List ℕ). AreOnBoard (record o { roots = ws }) (record d { plain = (with_register d.plain t r None) })) (sym written) (holds-register o d h t r 0 thread small tt),
        ),
      ))
