-- Changes that keep all references between regions covered.
use Rattle.std.proofs.Common.{◌≡◌, ℕ, ◌+◌, ◌<◌, ◌≤◌, ◌⊎◌, inl, inr, true, false, cond, eqb, List, length, set, Option, Some, None, refl, ap, sym, subst, ◌∙◌, arith, get_or-set_other, get_or-set_same}
use Rattle.std.specs.Prelude.{Bool, ◌||◌}
use Rattle.std.proofs.lemmas.Bool.{cases_lt, eq-eqb, false≢true, ne_eqb}
use Rattle.std.proofs.lemmas.List.{set_past}
use Rattle.std.proofs.lemmas.Option.{none-some}
use Rattle.bal_base.specs.Bits.{is_member}
use Rattle.bal_base.proofs.Lemmas.{member-with}
use Rattle.bal_cards.specs.Cards.{Cards, with_dirty}
use Rattle.bal_layout.specs.Addresses.{address_in, card_of, region_of}
use Rattle.bal_layout.specs.Regions.{free_region, region_at, region_with_object}
use Rattle.bal_layout.specs.References.{word_of}
use Rattle.bal_remember.specs.Remembered.{Remembered, remembers}
use Rattle.bal_layout.specs.Shape.{IsShape, Shape}
use Rattle.bal_layout.specs.declared.region_state.RegionState.{RegionState}
use Rattle.bal_words.specs.Things.{Thing, Updated, blank_thing}
use Rattle.bal_words.proofs.Lemmas.{same-or}
use Rattle.bal_table.specs.Changes.{empty_table, with_new, with_region, with_word_at}
use Rattle.bal_table.specs.Table.{IsPiece, IsTable, Table, land_at, refs_in, slot_place, things_of}
use Rattle.bal_table.proofs.Lemmas.{IsTable-empty, IsTable-written, reference-lies, thing-none, thing-placed, thing-referred}
use Rattle.bal_barrier.specs.Coverage.{Crosses, IsCovered, after_store, remembered_of}
use Rattle.bal_barrier.proofs.References.{crosses, has-null, has-same, has-written, refers}

pub or-cases : (a b : Bool) → (a || b) ≡ true → (a ≡ true) ⊎ (b ≡ true)
or-cases true b h = inl refl
or-cases false b h = inr h

or-left : (a b : Bool) → a ≡ true → (a || b) ≡ true
or-left true b h = refl
or-left false b h = absurd (false≢true h)

pub or-right : (a b : Bool) → b ≡ true → (a || b) ≡ true
or-right true b h = refl
or-right false b h = h

-- a reference that was covered still is, where no card became clean and no region forgot one
pub still : (c d : Cards) (r u : Remembered) (card : ℕ) → (is_member c.list card ≡ true → is_member d.list card ≡ true) → (remembers r card ≡ true → remembers u card ≡ true)
    → (is_member c.list card || remembers r card) ≡ true → (is_member d.list card || remembers u card) ≡ true
still c d r u card dirty known before = elim (or-cases (is_member c.list card) (remembers r card) before) [
  | inl listed ↦ or-left (is_member d.list card) (remembers u card) (dirty listed)
  | inr noted ↦ or-right (is_member d.list card) (remembers u card) (known noted)
]

-- The states of regions.

-- a region's state is another, with the same list
pub lists-stay : (regions : List RegionState) (q : ℕ) (r : RegionState) → r.remembered ≡ (region_at regions q).remembered
    → (k : ℕ) → (region_at (set regions q r) k).remembered ≡ (region_at regions k).remembered
lists-stay regions q r same k = elim (same-or k q) [
  | inr other ↦ ap (λ (s : RegionState). s.remembered) (get_or-set_other regions q k r free_region other)
  | inl here ↦ elim (cases_lt q (length regions)) [
    | inr past ↦ ap (λ (rs : List RegionState). (region_at rs k).remembered) (set_past regions q r past)
    | inl within ↦
        ap (λ j. (region_at (set regions q r) j).remembered) here
        ∙ (ap (λ (s : RegionState). s.remembered) (get_or-set_same regions q r free_region within)
        ∙ (same ∙ ap (λ j. (region_at regions j).remembered) (sym here)))
  ]
]

-- the words stay, and so do the references
pub crosses-states : (t : Table) (regions : List RegionState) (current : Option ℕ) (a i p b : ℕ) → Crosses (record t { regions = regions; current = current }) a i p b → Crosses t a i p b
crosses-states t regions current a i p b x = record {
  slot = record { object = x.slot.object; header = x.slot.header; is = x.slot.is; read = x.slot.read; within = x.slot.within; at = x.slot.at };
  leads = x.leads;
  apart = x.apart;
}

-- no list forgets a card
pub covered-states : (t : Table) (c : Cards) (regions : List RegionState) (current : Option ℕ)
    → ((k card : ℕ) → remembers (region_at t.regions k).remembered card ≡ true → remembers (region_at regions k).remembered card ≡ true)
    → IsCovered t c → IsCovered (record t { regions = regions; current = current }) c
covered-states t c regions current known covered = record {
  each = λ a i p b x. still c c (remembered_of t b) (region_at regions (region_of t.shape b)).remembered (card_of p) (λ h. h) (known (region_of t.shape b) (card_of p))
      (covered.each a i p b (crosses-states t regions current a i p b x));
}

pub covered-region : (t : Table) (c : Cards) (q : ℕ) (r : RegionState) → r.remembered ≡ (region_at t.regions q).remembered → IsCovered t c → IsCovered (with_region t q r) c
covered-region t c q r same covered =
    covered-states t c (set t.regions q r) t.current (λ k card h. ap (λ u. remembers u card) (lists-stay t.regions q r same k) ∙ h) covered

-- Objects.

pub covered-empty : (s : Shape) (c : Cards) → IsShape s → IsCovered (empty_table s) c
covered-empty s c shape = record {
  each = λ a i p b x.
      let r = refers (empty_table s) a i p b (IsTable-empty s shape) x in
      absurd (none-some r.thing (sym (thing-none s a shape) ∙ r.is));
}

pub covered-new : (t : Table) (c : Cards) (q first second words : ℕ) → IsTable t → IsPiece t.shape first second words → q < t.shape.regions
    → (land_at t q).used + words ≤ t.shape.words → IsTable (with_new t q first second words) → IsCovered t c → IsCovered (with_new t q first second words) c
covered-new t c q first second words table piece within fits made covered = record { each = each }
  where
    u : Table
    u = with_new t q first second words

    change : Updated (things_of t) (things_of u) (address_in t.shape q (land_at t q).used)
        (Some (blank_thing piece.header.name piece.header.kind piece.header.refs piece.header.values))
    change = thing-placed t q first second words piece table within fits

    each : (a i p b : ℕ) → Crosses u a i p b → (is_member c.list (card_of p) || remembers (remembered_of u b) (card_of p)) ≡ true
    each a i p b x =
        let r = refers u a i p b made x in
        elim (same-or a (address_in t.shape q (land_at t q).used)) [
          | inl here ↦ absurd (omega (
            arith,
            has-null u a i p (word_of b) piece.header.refs (blank_thing piece.header.name piece.header.kind piece.header.refs piece.header.values)
                (ap (things_of u) here ∙ change.here) refl r,
          ))
          | inr other ↦
              still c c (remembered_of t b) (remembered_of u b) (card_of p) (λ h. h)
              (λ h. ap (λ (m : Remembered). remembers m (card_of p)) (lists-stay t.regions q (region_with_object words (region_at t.regions q)) refl (region_of t.shape b)) ∙ h)
              (covered.each a i p b (crosses t a i p b table (has-same t u a i p (word_of b) (change.elsewhere a other) r) x.apart))
        ]

-- A store.

pub covered-store : (t : Table) (c : Cards) (h n word : ℕ) (x : Thing) → IsTable t → things_of t h ≡ Some x → n < length x.refs
    → IsCovered t c → IsCovered (with_word_at t (slot_place t h n) word) (after_store word (card_of (slot_place t h n)) c)
covered-store t c h n word x table is within covered = record { each = each }
  where
    place : ℕ
    place = slot_place t h n

    u : Table
    u = with_word_at t place word

    d : Cards
    d = after_store word (card_of place) c

    -- no card becomes clean
    dirty : (b : Bool) (card : ℕ) → is_member c.list card ≡ true → is_member (cond b c (with_dirty (card_of place) c)).list card ≡ true
    dirty true card listed = listed
    dirty false card listed = (member-with (card_of place) card c.list).1 (inr listed)

    each : (a i p b : ℕ) → Crosses u a i p b → (is_member d.list (card_of p) || remembers (remembered_of u b) (card_of p)) ≡ true
    each a i p b crossing =
        let lies = reference-lies t h n x table is within in
        let r = refers u a i p b (IsTable-written t place word table lies.0 lies.1) crossing in
        elim (has-written t u h n word x a i p (word_of b) is within (thing-referred t h n word x table is within) r) [
          | inr before ↦
              still c d (remembered_of t b) (remembered_of u b) (card_of p) (dirty (eqb word 0) (card_of p)) (λ known. known)
              (covered.each a i p b (crosses t a i p b table before crossing.apart))
          | inl now ↦
              let some : eqb word 0 ≡ false = ne_eqb word 0 (λ none. omega (arith, none, now.0)) in
              or-left (is_member d.list (card_of p)) (remembers (remembered_of u b) (card_of p))
              (ap (λ e. is_member (cond e c (with_dirty (card_of place) c)).list (card_of p)) some
              ∙ (member-with (card_of place) (card_of p) c.list).1 (inl (ap card_of now.1)))
        ]

-- a slot that an object has is one of a thing's
pub has-slot : (o : Option Thing) (n : ℕ) → n < length (refs_in o) → (x : Thing) × ((o ≡ Some x) × (n < length x.refs))
has-slot None n within = absurd (omega (arith, within))
has-slot (Some x) n within = (x, (refl, within))

-- the table and the cards after the store are these
pub covered-stored : (t u : Table) (c d : Cards) (h n p word : ℕ) → IsTable t → n < length (refs_in (things_of t h)) → p ≡ slot_place t h n
    → u ≡ with_word_at t p word → d ≡ after_store word (card_of p) c → IsCovered t c → IsCovered u d
covered-stored t u c d h n p word table within place stored cards covered =
    let x = has-slot (things_of t h) n within in
    let there : IsCovered (with_word_at t p word) (after_store word (card_of p) c) =
    subst (λ q. IsCovered (with_word_at t q word) (after_store word (card_of q) c)) (sym place) (covered-store t c h n word x.0 table x.1.0 x.1.1 covered) in
    subst (λ v. IsCovered v d) (sym stored) (subst (IsCovered (with_word_at t p word)) (sym cards) there)

-- a reference that is not null makes its card dirty
pub after_store-some : (word card : ℕ) (c : Cards) → (word ≡ 0 → ⊥) → after_store word card c ≡ with_dirty card c
after_store-some word card c some = ap (λ b. cond b c (with_dirty card c)) (ne_eqb word 0 some)

pub after_store-null : (word card : ℕ) (c : Cards) → word ≡ 0 → after_store word card c ≡ c
after_store-null word card c null = ap (λ b. cond b c (with_dirty card c)) (eq-eqb word 0 null)
