-- What stays where it is while references are mended.
use Rattle.std.proofs.Common.{◌≡◌, ℕ, ◌<◌, inl, inr, length, length-set, Option, Some, None, refl, ap, sym, subst, ◌∙◌, arith, get_or-set_other, get_or-set_same}
use Rattle.std.specs.Option.{option_map}
use Rattle.std.proofs.lemmas.Nat.{div_below}
use Rattle.bal_fixup.specs.Mended.{HasSameStarts}
use Rattle.bal_layout.specs.Addresses.{offset_of, region_of}
use Rattle.bal_region.specs.Changes.{empty_land, with_word}
use Rattle.bal_region.specs.Land.{Land}
use Rattle.bal_table.specs.Changes.{with_word_at}
use Rattle.bal_table.specs.Slots.{IsSlot}
use Rattle.bal_table.specs.Table.{IsTable, Table, land_at, refs_in, slot_place, things_of}
use Rattle.bal_table.proofs.Lemmas.{IsTable-written, reference-there, slot-thing, thing-referred, thing-slot}
use Rattle.bal_words.specs.Things.{Thing}
use Rattle.bal_words.proofs.Lemmas.{mapped-from, same-or}

-- how many references the object has that starts there, if one does
abbrev slots_at : Table → ℕ → Option ℕ
slots_at t a = option_map (λ (x : Thing). length x.refs) (things_of t a)

-- where each object has as many references as in another table, each has its slots there
slot-there : (t u : Table) (a i p : ℕ) → IsTable t → IsTable u → slots_at u a ≡ slots_at t a → IsSlot t a i p → IsSlot u a i p
slot-there t u a i p before after same s =
    let x = slot-thing t a i p before s in
    let y = mapped-from (λ (z : Thing). length z.refs) (things_of u a) (length x.0.refs)
    (same ∙ ap (λ (o : Option Thing). option_map (λ (z : Thing). length z.refs) o) x.1.0) in
    subst (IsSlot u a i) s.at (thing-slot u a i y.0 after y.1.0 (omega (arith, x.1.1, y.1.1)))

-- nothing is changed
pub same-none : (t : Table) → HasSameStarts t t
same-none t = record { table = refl; starts = λ q. refl; used = λ q. refl; slots = λ a i p. (λ s. s, λ s. s) }

-- one change after another
pub same-then : (t u v : Table) → HasSameStarts t u → HasSameStarts u v → HasSameStarts t v
same-then t u v one two = record {
  table = two.table ∙ ap (λ (w : Table). record w { lands = v.lands }) one.table;
  starts = λ q. two.starts q ∙ one.starts q;
  used = λ q. two.used q ∙ one.used q;
  slots = λ a i p. (λ s. (one.slots a i p).0 ((two.slots a i p).0 s), λ s. (two.slots a i p).1 ((one.slots a i p).1 s));
}

-- a reference is written
module _ (t : Table) (a i word : ℕ) (table : IsTable t) (within : i < length (refs_in (things_of t a))) where
  abbrev place : ℕ
  place = slot_place t a i

  abbrev now : Table
  now = with_word_at t place word

  abbrev r : ℕ
  r = region_of t.shape place

  abbrev l : Land
  l = with_word (land_at t r) (offset_of t.shape place) word

  inside : r < length t.lands
  inside =
      let lies = reference-there t a i table within in
      omega (arith, table.lands, div_below place t.shape.words t.shape.regions (omega (arith, table.shape.fewest_words)) lies.0)

  -- what is no word of a region stays in each
  land-kept : {X : Type 0} (f : Land → X) (q : ℕ) → f l ≡ f (land_at t r) → f (land_at now q) ≡ f (land_at t q)
  land-kept f q same = elim (same-or q r) [
    | inl here ↦ ap (λ n. f (land_at now n)) here ∙ (ap f (get_or-set_same t.lands r l (empty_land 0 0) inside) ∙ (same ∙ ap (λ n. f (land_at t n)) (sym here)))
    | inr other ↦ ap f (get_or-set_other t.lands r q l (empty_land 0 0) other)
  ]

  IsTable-now : IsTable now
  IsTable-now =
      let lies = reference-there t a i table within in
      IsTable-written t place word table lies.0 lies.1

  -- each object has as many references
  slots-kept : (b : ℕ) → slots_at now b ≡ slots_at t b
  slots-kept b = by (things_of t a) refl within
    where
      by : (o : Option Thing) → things_of t a ≡ o → i < length (refs_in o) → slots_at now b ≡ slots_at t b
      by None is less = absurd (omega (arith, less))
      by (Some x) is less =
          let change = thing-referred t a i word x table is less in
          elim (same-or b a) [
            | inl here ↦ ap (slots_at now) here
                ∙ (ap (option_map (λ (y : Thing). length y.refs)) change.here
                ∙ (ap Some (length-set x.refs i word)
                ∙ (sym (ap (option_map (λ (y : Thing). length y.refs)) is) ∙ ap (slots_at t) (sym here))))
            | inr other ↦ ap (option_map (λ (y : Thing). length y.refs)) (change.elsewhere b other)
          ]

  pub same-written : HasSameStarts t now
  same-written = record {
    table = refl;
    starts = λ q. land-kept (λ (m : Land). m.starts) q refl;
    used = λ q. land-kept (λ (m : Land). m.used) q refl;
    slots = λ b j p. (
      slot-there now t b j p IsTable-now table (sym (slots-kept b)),
      slot-there t now b j p table IsTable-now (slots-kept b),
    );
  }
