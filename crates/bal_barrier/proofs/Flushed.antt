-- A flush keeps all references between regions covered.
use Rattle.std.proofs.Common.{◌≡◌, ℕ, ◌<◌, inl, inr, true, not, cond, List, [], ◌∷◌, ◌++◌, length, Some, None, refl, ap, sym, subst, ◌∙◌, arith, append_assoc}
use Rattle.std.specs.Prelude.{◌||◌, slice_get}
use Rattle.std.specs.List.{All}
use Rattle.std.proofs.lemmas.Bool.{eq-eqb, ne_eqb}
use Rattle.std.proofs.lemmas.Grind.{flat_map-append}
use Rattle.std.proofs.lemmas.List.{append-nil}
use Rattle.std.proofs.lemmas.List.Elements.{All-append, All-contains_itself, All-nil}
use Rattle.std.proofs.lemmas.Option.{none-some, same_Some}
use Rattle.bal_base.specs.Bits.{IsAscending, is_member, without_member}
use Rattle.bal_base.proofs.Lemmas.{among-first, among-later, member-without}
use Rattle.bal_cards.specs.Cards.{Cards, without_list}
use Rattle.bal_layout.specs.Addresses.{card_of, region_of}
use Rattle.bal_layout.specs.declared.region_state.RegionState.{RegionState}
use Rattle.bal_remember.specs.Remembered.{remembers}
use Rattle.bal_words.proofs.Lemmas.{same-or}
use Rattle.bal_table.specs.Slots.{IsSlot, slots_between, slots_on}
use Rattle.bal_table.specs.Table.{IsTable, Table}
use Rattle.bal_table.specs.declared.slots.Slot.{Slot}
use Rattle.bal_table.proofs.Lemmas.{card-contains, card-place}
use Rattle.bal_barrier.specs.Coverage.{AreRemembered, Crosses, IsCovered, remembered_of}
use Rattle.bal_barrier.specs.Flush.{AreNew, IsFlushed, LeadToObjects, noted_places, notes_of, place_of, slots_of, with_notes, with_states}
use Rattle.bal_barrier.specs.declared.note.Note.{Note}
use Rattle.bal_barrier.proofs.Covering.{crosses-states, or-right, still}
use Rattle.bal_barrier.proofs.Fresh.{crossing-remembered, notes-new}
use Rattle.bal_barrier.proofs.Notes.{notes-keep, notes_of-append, notes_of-states, with_notes-append}
use Rattle.bal_barrier.proofs.Order.{ascending-front, notes-ordered}
use Rattle.bal_barrier.proofs.Targets.{crossing-within}

-- each of the slots on a card is one
pub card-slots : (t : Table) (card : ℕ) → IsTable t → All (λ (s : Slot). IsSlot t s.holder s.number (place_of t s)) (slots_on t card)
card-slots t card table = λ k d within. (card-place t card _ table (All-contains_itself (slots_on t card) k d within)).0

-- the references on the card are remembered then, and all others are covered as before
pub covered-flush : (limit : ℕ) (t : Table) (c : Cards) (card : ℕ) → IsTable t → LeadToObjects t → IsCovered t c
    → IsCovered (with_states t (with_notes limit t.regions (notes_of limit t t.regions (slots_on t card)))) (without_list card c)
covered-flush limit t c card table found covered = record { each = each }
  where
    made : List RegionState
    made = with_notes limit t.regions (notes_of limit t t.regions (slots_on t card))

    u : Table
    u = with_states t made

    each : (a i p b : ℕ) → Crosses u a i p b → (is_member (without_member card c.list) (card_of p) || remembers (remembered_of u b) (card_of p)) ≡ true
    each a i p b crossing =
        let x = crosses-states t made t.current a i p b crossing in
        elim (same-or card (card_of p)) [
          | inl here ↦
              let slot : Slot = record { holder = a; number = i } in
              let within : region_of t.shape b < length t.regions = omega (arith, crossing-within t a i p b table found x, table.regions) in
              or-right (is_member (without_member card c.list) (card_of p)) (remembers (remembered_of u b) (card_of p))
              (crossing-remembered limit t t.regions (slots_on t card) a i p b x within ((card-contains t card slot table).1 (p, (x.slot, sym here))))
          | inr other ↦
              still c (without_list card c) (remembered_of t b) (remembered_of u b) (card_of p)
              (λ listed. (member-without card (card_of p) c.list).1 (other, listed))
              (notes-keep limit t.regions (notes_of limit t t.regions (slots_on t card)) (region_of t.shape b) (card_of p))
              (covered.each a i p b x)
        ]

-- A flush, card by card.

-- a list that begins with an item
begins : {X : Type 0} (xs : List X) (x : X) → slice_get xs 0 ≡ Some x → (ys : List X) × (xs ≡ x ∷ ys)
begins [] x is = absurd (none-some x is)
begins (y ∷ ys) x is = (ys, ap (λ z. z ∷ ys) (same_Some y x is))

pub begins-not : {X : Type 0} (xs : List X) → slice_get xs 0 ≡ None → xs ≡ []
begins-not [] is = refl
begins-not (y ∷ ys) is = absurd (none-some y (sym is))

-- without the least of them the others are left, which are greater
without-least : (x : ℕ) (xs : List ℕ) → ((n : ℕ) → is_member xs n ≡ true → x < n) → without_member x xs ≡ xs
without-least x [] less = refl
without-least x (y ∷ ys) less =
    ap (λ b. cond (not b) (y ∷ without_member x ys) (without_member x ys)) (ne_eqb y x (λ e. omega (arith, e, less y (among-first y ys))))
    ∙ ap (λ (l : List ℕ). y ∷ l) (without-least x ys (λ n among. less n (among-later y n ys among)))

without-first : (x : ℕ) (xs : List ℕ) → IsAscending (x ∷ xs) → without_member x (x ∷ xs) ≡ xs
without-first x xs ascend = ap (λ b. cond (not b) (x ∷ without_member x xs) (without_member x xs)) (eq-eqb x x refl) ∙ without-least x xs ascend.0

-- what stays of an ascending list without its first
pub record IsRest (xs ys : List ℕ) (x : ℕ) : Type 0 where
  pub whole : xs ≡ x ∷ ys
  pub without : without_member x xs ≡ ys
  pub after : (n : ℕ) → is_member ys n ≡ true → x < n

pub rest-of : (xs : List ℕ) (x : ℕ) → IsAscending xs → slice_get xs 0 ≡ Some x → (ys : List ℕ) × IsRest xs ys x
rest-of xs x ascend is =
    let cut = begins xs x is in
    let all : IsAscending (x ∷ cut.0) = subst IsAscending cut.1 ascend in
    (cut.0, record { whole = cut.1; without = ap (without_member x) cut.1 ∙ without-first x cut.0 all; after = all.0 })

-- the slots on some cards
pub slots-are : (t : Table) (cards : List ℕ) → IsTable t → All (λ (s : Slot). IsSlot t s.holder s.number (place_of t s)) (slots_of t cards)
slots-are t [] table = All-nil (λ (s : Slot). IsSlot t s.holder s.number (place_of t s))
slots-are t (c ∷ cs) table =
    All-append (λ (s : Slot). IsSlot t s.holder s.number (place_of t s)) (slots_on t c) (slots_of t cs) (card-slots t c table) (slots-are t cs table)

slots-more : (t : Table) (cards : List ℕ) (card : ℕ) → slots_of t (cards ++ card ∷ []) ≡ slots_of t cards ++ slots_on t card
slots-more t cards card =
    flat_map-append (slots_on t) cards (card ∷ []) ∙ ap (λ (l : List Slot). slots_of t cards ++ l) (append-nil (slots_on t card))

slots-states : (t : Table) (regions : List RegionState) (card : ℕ) → slots_on (with_states t regions) card ≡ slots_on t card
unfolding slots_between
slots-states t regions card = refl

-- at first nothing was flushed
pub flushed-none : (limit : ℕ) (t : Table) (c : Cards) (notes : List Note) → IsFlushed limit t t c c notes notes
flushed-none limit t c notes = record {
  front = [];
  rest = c.list;
  made = [];
  dirty = refl;
  clean = refl;
  told = sym (append-nil notes);
  notes = refl;
  remembered = refl;
  new = tt;
  ascending = tt;
}

-- and then one card more
pub flushed-card : (limit : ℕ) (t u v : Table) (c d e : Cards) (before then after : List Note) (card : ℕ) → IsTable t → IsAscending c.list
    → IsFlushed limit t u c d before then → IsAscending d.list → slice_get d.list 0 ≡ Some card
    → after ≡ then ++ notes_of limit u u.regions (slots_on u card) → v ≡ with_states u (with_notes limit u.regions (notes_of limit u u.regions (slots_on u card)))
    → e ≡ without_list card d → IsFlushed limit t v c e before after
flushed-card limit t u v c d e before then after card table ascend f ascends first told now clean =
    let r = rest-of d.list card ascends first in
    let rs = with_notes limit t.regions f.made in
    let made : List Note = notes_of limit t rs (slots_on t card) in
    let same : notes_of limit u u.regions (slots_on u card) ≡ made =
    ap (λ (w : Table). notes_of limit w w.regions (slots_on w card)) f.remembered
    ∙ (ap (notes_of limit (with_states t rs) rs) (slots-states t rs card) ∙ notes_of-states limit t rs rs (slots_on t card)) in
    let front : List ℕ = f.front ++ card ∷ [] in
    let slots : slots_of t front ≡ slots_of t f.front ++ slots_on t card = slots-more t f.front card in
    let all : f.made ++ made ≡ notes_of limit t t.regions (slots_of t front) =
    ap (λ (ms : List Note). ms ++ notes_of limit t (with_notes limit t.regions ms) (slots_on t card)) f.notes
    ∙ (sym (notes_of-append limit t t.regions (slots_of t f.front) (slots_on t card)) ∙ ap (notes_of limit t t.regions) (sym slots)) in
    let list : d.list ≡ f.rest = ap (λ (x : Cards). x.list) f.clean in
    let dirty : c.list ≡ front ++ r.0 = f.dirty ∙ (ap (λ (l : List ℕ). f.front ++ l) (sym list ∙ r.1.whole) ∙ sym (append_assoc f.front (card ∷ []) r.0)) in
    record {
      front = front;
      rest = r.0;
      made = f.made ++ made;
      dirty = dirty;
      clean = clean ∙ (ap (λ (x : Cards). record x { list = without_member card d.list }) f.clean ∙ ap (λ (l : List ℕ). record c { list = l }) r.1.without);
      told = told ∙ (ap (λ (ms : List Note). then ++ ms) same ∙ (ap (λ (l : List Note). l ++ made) f.told ∙ append_assoc before f.made made));
      notes = all;
      remembered = now
          ∙ (ap (λ (ms : List Note). with_states u (with_notes limit u.regions ms)) same
          ∙ (ap (λ (w : Table). with_states w (with_notes limit w.regions made)) f.remembered
          ∙ ap (with_states t) (sym (with_notes-append limit t.regions f.made made))));
      new = subst (AreNew limit t t.regions) (sym all) (notes-new limit t t.regions (slots_of t front) (slots-are t front table));
      ascending = subst (λ (ms : List Note). IsAscending (noted_places t ms)) (sym all)
          (notes-ordered limit t t.regions front table (ascending-front front r.0 (subst IsAscending dirty ascend)));
    }

-- where all were flushed, the regions alone remember all references between them
pub remembered-all : (t : Table) (c : Cards) → c.list ≡ [] → IsCovered t c → AreRemembered t
remembered-all t c none covered = record {
  each = λ a i p b x. ap (λ (l : List ℕ). is_member l (card_of p) || remembers (remembered_of t b) (card_of p)) (sym none) ∙ covered.each a i p b x;
}
