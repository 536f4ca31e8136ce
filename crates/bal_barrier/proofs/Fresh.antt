-- Each note is true and new when it comes, and no reference is left out.
use Rattle.std.proofs.Common.{◌≡◌, ℕ, zero, suc, ◌<◌, inl, inr, Bool, true, false, cond, eqb, List, [], ◌∷◌, ◌++◌, length, Option, Some, None, refl, ap, sym, subst, ◌∙◌, arith}
use Rattle.std.specs.Prelude.{option_map}
use Rattle.std.specs.List.{All, Contains}
use Rattle.std.proofs.lemmas.Bool.{eq-eqb, false≢true, ne_eqb}
use Rattle.std.proofs.lemmas.List.Elements.{All-head, All-tail, Contains-append_cases, Contains-push_cases}
use Rattle.std.proofs.lemmas.Option.{none-some, same_Some}
use Rattle.bal_layout.specs.Addresses.{card_of, region_of}
use Rattle.bal_layout.specs.References.{target_of, word_of}
use Rattle.bal_layout.specs.Regions.{region_at}
use Rattle.bal_remember.specs.Remembered.{remembers}
use Rattle.bal_layout.specs.declared.region_state.RegionState.{RegionState}
use Rattle.bal_table.specs.Slots.{IsSlot}
use Rattle.bal_table.specs.Table.{Table, word_at}
use Rattle.bal_table.specs.declared.slots.Slot.{Slot}
use Rattle.bal_barrier.specs.Coverage.{Crosses}
use Rattle.bal_barrier.specs.Flush.{AreNew, note_into, note_of, notes_of, other_than, place_of, region_into, with_note, with_notes}
use Rattle.bal_barrier.specs.declared.note.Note.{Note}
use Rattle.bal_barrier.proofs.Notes.{notes-keep, notes-length, own-remembered, with_notes-append}

-- The region into which a slot's reference leads.

-- the word leads to an address there, and the slot's object lies elsewhere
into-other : (home : ℕ) (o : Option ℕ) (q : ℕ) → other_than home o ≡ Some q → (o ≡ Some q) × (home ≡ q → ⊥)
into-other home None q is = absurd (none-some q is)
into-other home (Some r) q is = by (eqb r home) refl is
  where
    by : (b : Bool) → eqb r home ≡ b → cond b None (Some r) ≡ Some q → (◌≡◌ {A = Option ℕ} (Some r) (Some q)) × (home ≡ q → ⊥)
    by true same is = absurd (none-some q is)
    by false apart is = (is, λ e. false≢true (sym apart ∙ eq-eqb r home (same_Some r q is ∙ sym e)))

-- a word that leads somewhere
leads-there : (word : ℕ) (region : ℕ → ℕ) (q : ℕ) → option_map region (target_of word) ≡ Some q → (b : ℕ) × ((word ≡ word_of b) × (region b ≡ q))
leads-there zero region q is = absurd (none-some q is)
leads-there (suc b) region q is = (b, (refl, same_Some (region b) q is))

pub crosses-into : (t : Table) (s : Slot) (q : ℕ) → IsSlot t s.holder s.number (place_of t s) → region_into t s ≡ Some q
    → (b : ℕ) × (Crosses t s.holder s.number (place_of t s) b × (region_of t.shape b ≡ q))
crosses-into t s q slot into =
    let other = into-other (region_of t.shape s.holder) (option_map (region_of t.shape) (target_of (word_at t (place_of t s)))) q into in
    let leads = leads-there (word_at t (place_of t s)) (region_of t.shape) q other.0 in
    (leads.0, (record { slot = slot; leads = leads.1.0; apart = λ e. other.1 (e ∙ leads.1.1) }, leads.1.1))

pub into-crosses : (t : Table) (a i p b : ℕ) (x : Crosses t a i p b) → region_into t (record { holder = a; number = i }) ≡ Some (region_of t.shape b)
into-crosses t a i p b x =
    let q = region_of t.shape b in
    let home = region_of t.shape a in
    ap (λ place. other_than home (option_map (region_of t.shape) (target_of (word_at t place)))) x.slot.at
    ∙ (ap (λ word. other_than home (option_map (region_of t.shape) (target_of word))) x.leads
    ∙ ap (λ c. cond c None (Some q)) (ne_eqb q home (λ e. x.apart (sym e))))

-- Each note is new.

new-append : (limit : ℕ) (t : Table) (regions : List RegionState) (ms ns : List Note) → AreNew limit t regions ms → AreNew limit t (with_notes limit regions ms) ns
    → AreNew limit t regions (ms ++ ns)
new-append limit t regions [] ns first second = second
new-append limit t regions (m ∷ ms) ns first second = (first.0, new-append limit t (with_note limit regions m) ms ns first.1 second)

one-new : (limit : ℕ) (t : Table) (regions : List RegionState) (s : Slot) → IsSlot t s.holder s.number (place_of t s) → AreNew limit t regions (note_of t regions s)
one-new limit t regions s slot = by (region_into t s) refl
  where
    new : (q : ℕ) → region_into t s ≡ Some q → (b : Bool) → remembers (region_at regions q).remembered (card_of (place_of t s)) ≡ b
        → AreNew limit t regions (cond b [] (record { region = q; card = card_of (place_of t s); holder = s.holder; slot = s.number } ∷ []))
    new q into true known = tt
    new q into false fresh =
        let x = crosses-into t s q slot into in
        (record { place = place_of t s; target = x.0; crosses = x.1.0; into = x.1.1; on = refl; new = fresh }, tt)

    by : (o : Option ℕ) → region_into t s ≡ o → AreNew limit t regions (note_into t regions s o)
    by None nowhere = tt
    by (Some q) into = new q into (remembers (region_at regions q).remembered (card_of (place_of t s))) refl

pub notes-new : (limit : ℕ) (t : Table) (regions : List RegionState) (ss : List Slot) → All (λ (s : Slot). IsSlot t s.holder s.number (place_of t s)) ss
    → AreNew limit t regions (notes_of limit t regions ss)
notes-new limit t regions [] each = tt
notes-new limit t regions (s ∷ ss) each =
    let slots = λ (u : Slot). IsSlot t u.holder u.number (place_of t u) in
    let now = note_of t regions s in
    let rest = notes-new limit t (with_notes limit regions now) ss (All-tail slots s ss each) in
    new-append limit t regions now (notes_of limit t (with_notes limit regions now) ss) (one-new limit t regions s (All-head slots s ss each)) rest

-- No reference is left out.

pub crossing-remembered : (limit : ℕ) (t : Table) (regions : List RegionState) (ss : List Slot) (a i p b : ℕ) → Crosses t a i p b → region_of t.shape b < length regions
    → Contains ss (record { holder = a; number = i })
    → remembers (region_at (with_notes limit regions (notes_of limit t regions ss)) (region_of t.shape b)).remembered (card_of p) ≡ true
crossing-remembered limit t regions [] a i p b x within among = absurd (omega (arith, among.1))
crossing-remembered limit t regions (s ∷ ss) a i p b x within among =
    let q = region_of t.shape b in
    let now = note_of t regions s in
    let then = with_notes limit regions now in
    let rest = notes_of limit t then ss in
    let slot : Slot = record { holder = a; number = i } in
    ap (λ (rs : List RegionState). remembers (region_at rs q).remembered (card_of p)) (with_notes-append limit regions now rest)
    ∙ elim (Contains-append_cases (s ∷ []) ss slot among) [
      | inr later ↦ crossing-remembered limit t then ss a i p b x (omega (arith, within, notes-length limit regions now)) later
      | inl first ↦ elim (Contains-push_cases [] s slot first) [
        | inl none ↦ absurd (omega (arith, none.1))
        | inr same ↦
            let into : region_into t s ≡ Some q = ap (region_into t) same ∙ into-crosses t a i p b x in
            let place : place_of t s ≡ p = ap (place_of t) same ∙ x.slot.at in
            let own : remembers (region_at then q).remembered (card_of p) ≡ true =
            subst (λ r. remembers (region_at then q).remembered (card_of r) ≡ true) place (own-remembered limit t regions s q into within) in
            notes-keep limit then rest q (card_of p) own
      ]
    ]
