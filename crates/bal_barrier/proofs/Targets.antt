-- Where references lead that do not dangle: into regions of objects.
use Rattle.std.proofs.Common.{◌≡◌, ℕ, zero, suc, ◌+◌, ◌^◌, ◌<◌, ◌≤◌, inl, inr, Bool, true, false, length, List, Option, Some, refl, ap, sym, subst, ◌∙◌, arith}
use Rattle.std.specs.Prelude.{IfSome, IsSome}
use Rattle.std.proofs.lemmas.Option.{IfSome_then, none-some}
use Rattle.std.proofs.lemmas.Nat.{div-add-mod', div_below}
use Rattle.bal_layout.specs.Addresses.{IsAddress, address_in, region_of}
use Rattle.bal_layout.specs.Regions.{is_object, region_at}
use Rattle.bal_layout.specs.References.{target_of}
use Rattle.bal_layout.specs.declared.region_state.RegionState.{RegionState}
use Rattle.bal_layout.specs.Shape.{IsShape, Shape}
use Rattle.bal_words.specs.Shown.{Finds}
use Rattle.bal_words.specs.Things.{Thing, Updated, blank_thing, with_ref}
use Rattle.bal_words.proofs.Lemmas.{same-or, there}
use Rattle.bal_table.specs.Changes.{empty_table, with_new, with_word_at}
use Rattle.bal_table.specs.Slots.{IsSlot}
use Rattle.bal_table.specs.Table.{IsPiece, IsTable, Table, land_at, refs_in, role_at, slot_place, things_of, word_at}
use Rattle.bal_table.proofs.Lemmas.{IsTable-empty, IsTable-written, object-within, reference-lies, seen, slot-thing, thing-none, thing-placed, thing-referred}
use Rattle.bal_barrier.specs.Coverage.{Crosses}
use Rattle.bal_barrier.specs.Flush.{LeadToObjects}
use Rattle.bal_barrier.proofs.Covering.{has-slot}
use Rattle.bal_barrier.proofs.References.{Has, has, has-null, has-same, has-written, is-slot}

-- a slot is one of its object's references
pub slot-within : (t : Table) (a i p : ℕ) → IsTable t → IsSlot t a i p → i < length (refs_in (things_of t a))
slot-within t a i p table slot =
    let x = slot-thing t a i p table slot in
    subst (λ o. i < length (refs_in o)) (sym x.1.0) x.1.1

-- where an object starts, there is a region of objects
pub thing-region : (t : Table) (b : ℕ) → IsTable t → IsSome (things_of t b)
    → IsAddress t.shape b × (region_of t.shape b < t.shape.regions) × (is_object (role_at t (region_of t.shape b)) ≡ true)
thing-region t b table some =
    let x = there (things_of t b) some in
    let s = seen t b x.0 table x.1 in
    let lies = object-within t b s.object table s.is in
    let within : region_of t.shape b < t.shape.regions = div_below b t.shape.words t.shape.regions (omega (arith, table.shape.fewest_words)) lies.0 in
    let used = (table.each (region_of t.shape b) within).used in
    let given : 0 < (region_at t.regions (region_of t.shape b)).used = omega (arith, s.size, lies.1, div-add-mod' b t.shape.words, used) in
    (lies.0, within, by (is_object (role_at t (region_of t.shape b))) (λ none. omega (arith, given, (table.each (region_of t.shape b) within).empty none)))
  where
    by : (o : Bool) → (o ≡ false → ⊥) → o ≡ true
    by true some = refl
    by false some = absurd (some refl)

-- the word of a reference
pub word-small : (t : Table) (w : ℕ) → IsTable t → Finds (things_of t) w → w ≤ 2 ^ 32
word-small t zero table finds = omega arith
word-small t (suc b) table finds = omega (arith, (thing-region t b table finds).0, table.shape.words_in_all)

pub target-region : (t : Table) (w b : ℕ) → IsTable t → Finds (things_of t) w → target_of w ≡ Some b
    → IsAddress t.shape b × (region_of t.shape b < t.shape.regions) × (is_object (role_at t (region_of t.shape b)) ≡ true)
target-region t w b table finds leads = thing-region t b table (subst (λ o. IfSome o (λ a. IsSome (things_of t a))) leads finds)

-- a reference from one region into another leads into one of the regions
pub crossing-within : (t : Table) (a i p b : ℕ) → IsTable t → LeadToObjects t → Crosses t a i p b → region_of t.shape b < t.shape.regions
crossing-within t a i p b table found x = (target-region t (word_at t p) b table (found.each a i p x.slot) (ap target_of x.leads)).1

-- Changes that leave no reference dangling.

-- what is remembered of regions says nothing of references
pub lead-states : (t : Table) (regions : List RegionState) (current : Option ℕ) → LeadToObjects t → LeadToObjects (record t { regions = regions; current = current })
lead-states t regions current found = record {
  each = λ a i p s. found.each a i p (record { object = s.object; header = s.header; is = s.is; read = s.read; within = s.within; at = s.at });
}

pub lead-empty : (s : Shape) → IsShape s → LeadToObjects (empty_table s)
lead-empty s shape = record {
  each = λ a i p slot.
      let h = has (empty_table s) a i p (IsTable-empty s shape) slot in
      absurd (none-some h.thing (sym (thing-none s a shape) ∙ h.is));
}

-- what was found still is
finds-still : (t u : Table) (h : ℕ) (x : Thing) (word : ℕ) → Updated (things_of t) (things_of u) h (Some x) → Finds (things_of t) word → Finds (things_of u) word
finds-still t u h x word change finds = IfSome_then (target_of word) finds (λ b some. elim (same-or b h) [
  | inl here ↦ subst (λ o. IsSome o) (sym (ap (things_of u) here ∙ change.here)) refl
  | inr other ↦ subst (λ o. IsSome o) (sym (change.elsewhere b other)) some
])

-- a word of the table before
found-before : (t : Table) (a i p word : ℕ) → IsTable t → LeadToObjects t → Has t a i p word → Finds (things_of t) word
found-before t a i p word table found h =
    let slot = is-slot t a i p word table h in
    subst (Finds (things_of t)) slot.1 (found.each a i p slot.0)

pub lead-store : (t u : Table) (h n p word : ℕ) → IsTable t → n < length (refs_in (things_of t h)) → p ≡ slot_place t h n → u ≡ with_word_at t p word
    → Finds (things_of t) word → LeadToObjects t → LeadToObjects u
lead-store t u h n p word table within place stored finds found =
    let x = has-slot (things_of t h) n within in
    let lies = reference-lies t h n x.0 table x.1.0 x.1.1 in
    let change = thing-referred t h n word x.0 table x.1.0 x.1.1 in
    let v : Table = with_word_at t (slot_place t h n) word in
    let there : LeadToObjects v = record {
      each = λ a i r slot. elim (has-written t v h n word x.0 a i r (word_at v r) x.1.0 x.1.1 change (has v a i r (IsTable-written t (slot_place t h n) word table lies.0 lies.1) slot)) [
        | inl now ↦ finds-still t v h (with_ref n word x.0) (word_at v r) change (subst (Finds (things_of t)) now.0 finds)
        | inr before ↦ finds-still t v h (with_ref n word x.0) (word_at v r) change (found-before t a i r (word_at v r) table found before)
      ];
    } in
    subst LeadToObjects (sym (stored ∙ ap (λ q. with_word_at t q word) place)) there

pub lead-new : (t : Table) (q first second words : ℕ) → IsTable t → IsPiece t.shape first second words → q < t.shape.regions
    → (land_at t q).used + words ≤ t.shape.words → IsTable (with_new t q first second words) → LeadToObjects t → LeadToObjects (with_new t q first second words)
lead-new t q first second words table piece within fits made found = record { each = each }
  where
    u : Table
    u = with_new t q first second words

    x : Thing
    x = blank_thing piece.header.name piece.header.kind piece.header.refs piece.header.values

    change : Updated (things_of t) (things_of u) (address_in t.shape q (land_at t q).used) (Some x)
    change = thing-placed t q first second words piece table within fits

    each : (a i p : ℕ) → IsSlot u a i p → Finds (things_of u) (word_at u p)
    each a i p slot =
        let h = has u a i p made slot in
        elim (same-or a (address_in t.shape q (land_at t q).used)) [
          | inl here ↦ subst (Finds (things_of u)) (sym (has-null u a i p (word_at u p) piece.header.refs x (ap (things_of u) here ∙ change.here) refl h)) tt
          | inr other ↦
              finds-still t u (address_in t.shape q (land_at t q).used) x (word_at u p) change
              (found-before t a i p (word_at u p) table found (has-same t u a i p (word_at u p) (change.elsewhere a other) h))
        ]
