-- The notes that a flush makes in the table are legal notes of a run, and the heap meets the board that they leave.
use Rattle.std.proofs.Common.{◌≡◌, ℕ, zero, suc, ◌<◌, Bool, true, false, cond, eqb, not, IsTrue, List, [], ◌∷◌, get_or, set, map, Option, Some, None, inl, inr, refl, ap, sym, subst, ◌∙◌, arith}
use Rattle.std.specs.Prelude.{IsSome, ◌&&◌, ◌||◌, slice_get, length, nat_lt}
use Rattle.std.specs.List.{AllByRecursion, list_any}
use Rattle.std.proofs.lemmas.Bool.{eq-eqb, eqb-true, false≢true}
use Rattle.std.proofs.lemmas.List.{get_or-set_same, length-set}
use Rattle.std.proofs.lemmas.Option.{get_or_from_slice_get, same_Some}
use Rattle.bal_base.specs.Bits.{is_member, with_member}
use Rattle.bal_base.proofs.Lemmas.{member-with}
use Rattle.bal_layout.specs.Addresses.{card_of, region_of}
use Rattle.bal_layout.specs.References.{word_of}
use Rattle.bal_layout.specs.Regions.{free_region, region_at, region_of_card}
use Rattle.bal_remember.specs.Remembered.{Remembered, cards, overflowed, remembers, with_card}
use Rattle.bal_layout.specs.declared.region_state.RegionState.{RegionState}
use Rattle.bal_layout.specs.declared.name.Name.{Name}
use Rattle.bal_layout.proofs.Lemmas.{card-region}
use Rattle.bal_meet.specs.Heap.{Account, IsNoted, Meets, with_regions}
use Rattle.bal_meet.proofs.Lemmas.{note-legal}
use Rattle.bal_layout.specs.Names.{same_name}
use Rattle.bal_model.proofs.Lemmas.{same_name-eq}
use Rattle.bal_model.specs.declared.config.Config.{Config}
use Rattle.bal_rules.specs.After.{after_all}
use Rattle.bal_rules.specs.Board.{Board}
use Rattle.bal_rules.specs.NoteEvents.{IsNote, Slot, after_note, same_slot}
use Rattle.bal_rules.specs.Path.{Turn, lacks_room}
use Rattle.bal_table.specs.Table.{IsTable, Table, slot_place, things_of}
use Rattle.bal_table.proofs.Lemmas.{Lies, object-region, seen, slot-lies_at, slot-region}
use Rattle.bal_words.specs.Shown.{Finds}
use Rattle.bal_words.specs.Things.{Thing}
use Rattle.bal_heap.specs.Flush.{AreNotes, IsKnown, entry_for, holder_name, slots_noted}
use Rattle.bal_barrier.specs.Flush.{AreNew, IsNew, with_note, with_notes}
use Rattle.bal_barrier.specs.declared.note.Note.{Note}
use Rattle.bal_heap.specs.Objects.{Objects, heap_of}
use Rattle.bal_heap.proofs.NotedRooms.{lacks-noted}

-- the slot of a note
abbrev pub slot_of : Table → Note → Slot
slot_of t n = record { holder = holder_name (things_of t n.holder); number = n.slot }

-- both of two tests
and-both : (a b : Bool) → (a && b) ≡ true → (a ≡ true) × (b ≡ true)
and-both true b h = (refl, h)
and-both false b h = absurd (false≢true h)

-- a list knows of a card that was noted, and forgets none
note-known : (limit card : ℕ) (r : Remembered) → IsTrue (remembers (with_card limit card r) card)
note-known limit card overflowed = refl
note-known limit card (cards cs) = by (is_member cs card) refl (nat_lt (length cs) limit)
  where
    by : (b : Bool) → is_member cs card ≡ b → (room : Bool) → IsTrue (remembers (cond b (cards cs) (cond room (cards (with_member card cs)) overflowed)) card)
    by true is room = is
    by false is true = (member-with card card cs).1 (inl refl)
    by false is false = refl

note-keeps : (limit card other : ℕ) (r : Remembered) → IsTrue (remembers r other) → IsTrue (remembers (with_card limit card r) other)
note-keeps limit card other overflowed known = refl
note-keeps limit card other (cards cs) known = by (is_member cs card) (nat_lt (length cs) limit)
  where
    by : (b room : Bool) → IsTrue (remembers (cond b (cards cs) (cond room (cards (with_member card cs)) overflowed)) other)
    by true room = known
    by false true = (member-with card other cs).1 (inr known)
    by false false = refl

-- a region's list, where one of them takes a card
lists-set : (f : Remembered → Remembered) (P : Remembered → Type 0) (rs : List RegionState) (q p : ℕ) → P (region_at rs p).remembered
    → (q ≡ p → P (f (region_at rs p).remembered)) → P (region_at (set rs q (record (region_at rs q) { remembered = f (region_at rs q).remembered })) p).remembered
lists-set f P [] q p stays changes = stays
lists-set f P (x ∷ xs) zero zero stays changes = changes refl
lists-set f P (x ∷ xs) zero (suc p) stays changes = stays
lists-set f P (x ∷ xs) (suc q) zero stays changes = stays
lists-set f P (x ∷ xs) (suc q) (suc p) stays changes = lists-set f P xs q p stays (λ e. changes (ap suc e))

-- what is known stays known
known-stays : (limit : ℕ) (t : Table) (rs : List RegionState) (n : Note) (s : Slot) → IsKnown t rs s → IsKnown t (with_note limit rs n) s
known-stays limit t rs n s k = record {
  known = λ a target x is named refers.
      let card = card_of (slot_place t a s.number) in
      lists-set (with_card limit n.card) (λ (r : Remembered). IsTrue (remembers r card)) rs n.region (region_of t.shape target)
      (k.known a target x is named refers) (λ e. note-keeps limit n.card card (region_at rs (region_of t.shape target)).remembered (k.known a target x is named refers));
}

module _ (o : Objects) (rs : List RegionState) (b : Board) (n : Note) (table : IsTable o.table) (meets : Meets (with_regions rs (heap_of o)) b) (is : IsNew o.table rs n) where
  lies : Lies o.table n.holder n.slot is.place
  lies = slot-lies_at o.table n.holder n.slot is.place table is.crosses.slot

  named : holder_name (things_of o.table n.holder) ≡ lies.thing.name
  named = ap holder_name lies.is

  refers : slice_get lies.thing.refs n.slot ≡ Some (word_of is.target)
  refers = lies.read ∙ ap Some is.crosses.leads

  -- the slot's card is one of its holder's region
  card-there : region_of_card o.table.shape n.card ≡ region_of o.table.shape n.holder
  card-there = ap (region_of_card o.table.shape) (sym is.on) ∙ (card-region o.table.shape is.place table.shape ∙ slot-region o.table n.holder n.slot is.place table is.crosses.slot)

  pub as-noted : IsNoted (with_regions rs (heap_of o)) n.region n.card n.holder n.slot
  as-noted = record {
    holder = lies.thing;
    starts = lies.is;
    target = is.target;
    refers = refers;
    into = is.into;
    from_outside = λ e. is.crosses.apart (e ∙ sym is.into);
    of_the_slot = eq-eqb (region_of_card o.table.shape n.card) (region_of o.table.shape n.holder) card-there;
    new_card = ap not is.new;
  }

  -- it is known of from then on
  pub known-now : (limit : ℕ) → n.region < length rs → IsKnown o.table (with_note limit rs n) (slot_of o.table n)
  known-now limit within = record {
    known = λ a target x starts same there.
        let at : a ≡ n.holder = meets.decodes.objects.once a n.holder x lies.thing starts lies.is (same ∙ named) in
        let thing : x ≡ lies.thing = same_Some x lies.thing (sym starts ∙ (ap (things_of o.table) at ∙ lies.is)) in
        let word : word_of target ≡ word_of is.target = same_Some (word_of target) (word_of is.target) (sym there ∙ (ap (λ (y : Thing). slice_get y.refs n.slot) thing ∙ refers)) in
        let one : target ≡ is.target = omega (arith, word) in
        let region : region_of o.table.shape target ≡ n.region = ap (region_of o.table.shape) one ∙ is.into in
        let place : card_of (slot_place o.table a n.slot) ≡ n.card = ap (λ k. card_of (slot_place o.table k n.slot)) at ∙ (ap card_of is.crosses.slot.at ∙ is.on) in
        subst (λ p. IsTrue (remembers (region_at (with_note limit rs n) (region_of o.table.shape target)).remembered p)) (sym place)
        (subst (λ q. IsTrue (remembers (region_at (with_note limit rs n) q).remembered n.card)) (sym region)
        (subst (λ (r : RegionState). IsTrue (remembers r.remembered n.card)) (sym (get_or-set_same rs n.region _ free_region within))
        (note-known limit n.card (region_at rs n.region).remembered)));
  }

  -- it leads into one of the heap's regions
  pub within : n.region < o.table.shape.regions
  within =
      let word : get_or lies.thing.refs n.slot 0 ≡ word_of is.target = get_or_from_slice_get lies.thing.refs n.slot (word_of is.target) 0 refers in
      let found : Finds (things_of o.table) (word_of is.target) = subst (Finds (things_of o.table)) word (meets.decodes.objects.found n.holder lies.thing lies.is n.slot 0 lies.within) in
      by (things_of o.table is.target) refl found
    where
      by : (x : Option Thing) → things_of o.table is.target ≡ x → IsSome (things_of o.table is.target) → n.region < o.table.shape.regions
      by None e found = absurd (false≢true (subst (λ (x : Option Thing). IsSome x) e found))
      by (Some x) e found =
          let z = seen o.table is.target x table e in
          subst (λ q. q < o.table.shape.regions) is.into (object-region o.table is.target z.object table z.is)

  -- the heap meets the board with the note
  pub meets-more : (c : Config) → Meets (with_regions (with_note c.cards rs n) (heap_of o)) (after_note c b n.region n.card)
  meets-more c = record {
    decodes = meets.decodes;
    account = ap (λ (a : Account). record a {
      regions = set a.regions n.region (record (region_at a.regions n.region) { remembered = with_card c.cards n.card (region_at a.regions n.region).remembered });
    }) meets.account;
  }

  -- whatever slots were noted before and are known of, it is none of them
  pub once : (s : Slot) → IsKnown o.table rs s → same_slot (slot_of o.table n) s ≡ false
  once s k = by (same_slot (slot_of o.table n) s) refl
    where
      by : (x : Bool) → same_slot (slot_of o.table n) s ≡ x → x ≡ false
      by false e = refl
      by true e =
          let both = and-both (same_name (holder_name (things_of o.table n.holder)) s.holder) (eqb n.slot s.number) e in
          let name : lies.thing.name ≡ s.holder = sym named ∙ same_name-eq (holder_name (things_of o.table n.holder)) s.holder both.0 in
          let number : n.slot ≡ s.number = eqb-true n.slot s.number both.1 in
          let known = k.known n.holder is.target lies.thing lies.is name (ap (slice_get lies.thing.refs) (sym number) ∙ refers) in
          let card : card_of (slot_place o.table n.holder s.number) ≡ n.card = ap (λ i. card_of (slot_place o.table n.holder i)) (sym number) ∙ (ap card_of is.crosses.slot.at ∙ is.on) in
          absurd (false≢true (sym is.new ∙ subst (λ q. IsTrue (remembers (region_at rs q).remembered n.card)) is.into
          (subst (λ p. IsTrue (remembers (region_at rs (region_of o.table.shape is.target)).remembered p)) card known)))

-- none of these is
none-same : (o : Objects) (rs : List RegionState) (b : Board) (n : Note) → IsTable o.table → Meets (with_regions rs (heap_of o)) b → IsNew o.table rs n
    → (noted : List Slot) → AllByRecursion (IsKnown o.table rs) noted → IsTrue (not (list_any (same_slot (slot_of o.table n)) noted))
none-same o rs b n table meets is [] known = refl
none-same o rs b n table meets is (s ∷ ss) known =
    ap (λ x. not (x || list_any (same_slot (slot_of o.table n)) ss)) (once o rs b n table meets is s known.0) ∙ none-same o rs b n table meets is ss known.1

all-stay : (limit : ℕ) (t : Table) (rs : List RegionState) (n : Note) (noted : List Slot) → AllByRecursion (IsKnown t rs) noted → AllByRecursion (IsKnown t (with_note limit rs n)) noted
all-stay limit t rs n [] known = tt
all-stay limit t rs n (s ∷ ss) known = (known-stays limit t rs n s known.0, all-stay limit t rs n ss known.1)

-- All notes of a flush.

-- what is known once they were told
pub record AreTold (c : Config) (turn : Turn) (o : Objects) (rs : List RegionState) (b : Board) (noted : List Slot) (notes : List Note) : Type 0 where
  pub legal : AreNotes c turn noted b (map (entry_for o.table) notes)
  pub meets : Meets (with_regions (with_notes c.cards rs notes) (heap_of o)) (after_all c b (map (entry_for o.table) notes))
  pub known : AllByRecursion (IsKnown o.table (with_notes c.cards rs notes)) (slots_noted (map (entry_for o.table) notes) noted)

pub notes-told : (c : Config) (turn : Turn) (o : Objects) (rs : List RegionState) (b : Board) (noted : List Slot) (notes : List Note)
    → c.geometry ≡ o.table.shape → IsTable o.table → length rs ≡ o.table.shape.regions → IsTrue (lacks_room c turn b)
    → Meets (with_regions rs (heap_of o)) b → AllByRecursion (IsKnown o.table rs) noted → AreNew c.cards o.table rs notes → AreTold c turn o rs b noted notes
notes-told c turn o rs b noted [] shape table count lacks meets known are = record { legal = tt; meets = meets; known = known }
notes-told c turn o rs b noted (n ∷ ns) shape table count lacks meets known are =
    let q = n.region in
    let s = slot_of o.table n in
    let once : IsTrue (not (list_any (same_slot s) noted)) = none-same o rs b n table meets are.0 noted known in
    let named : holder_name (things_of o.table n.holder) ≡ (noted-of).holder.name = ap holder_name (noted-of).starts in
    let legal : IsNote c b noted q n.card s.holder n.slot = subst (λ (x : Name). IsNote c b noted q n.card x n.slot) (sym named)
    (note-legal c (with_regions rs (heap_of o)) b noted q n.card n.holder n.slot noted-of meets shape
    (subst (λ (x : Name). IsTrue (not (list_any (same_slot (record { holder = x; number = n.slot })) noted))) named once)) in
    let next : Meets (with_regions (with_note c.cards rs n) (heap_of o)) (after_note c b q n.card) = meets-more o rs b n table meets are.0 c in
    let rest = notes-told c turn o (with_note c.cards rs n) (after_note c b q n.card) (s ∷ noted) ns shape table (length-set rs q _ ∙ count)
    (lacks-noted c turn b q n.card ∙ lacks) next
    (known-now o rs b n table meets are.0 c.cards inside, all-stay c.cards o.table rs n noted known) are.1 in
    record { legal = ((lacks, legal), rest.legal); meets = rest.meets; known = rest.known }
  where
    noted-of : IsNoted (with_regions rs (heap_of o)) n.region n.card n.holder n.slot
    noted-of = as-noted o rs b n table meets are.0

    inside : n.region < length rs
    inside = subst (λ k. n.region < k) (sym count) (within o rs b n table meets are.0)
