-- References between regions, as the objects of a table tell them.
use Rattle.std.proofs.Common.{◌≡◌, ℕ, ◌<◌, ◌⊎◌, inl, inr, length, get_or, set, replicate, Some, ap, sym, subst, ◌∙◌, arith, length-set, get_or-set_other, get_or-set_same}
use Rattle.std.specs.Prelude.{slice_get}
use Rattle.std.proofs.lemmas.List.{get_or-replicate, length-replicate}
use Rattle.std.proofs.lemmas.Option.{get_or_from_slice_get, same_Some, slice_get-get_or, slice_get_within}
use Rattle.bal_layout.specs.Addresses.{region_of}
use Rattle.bal_layout.specs.References.{word_of}
use Rattle.bal_words.specs.Things.{Thing, Updated, with_ref}
use Rattle.bal_words.proofs.Lemmas.{same-or}
use Rattle.bal_table.specs.Slots.{IsSlot}
use Rattle.bal_table.specs.Table.{IsTable, Table, slot_place, things_of, word_at}
use Rattle.bal_table.proofs.Lemmas.{slot-lies_at, thing-slot}
use Rattle.bal_barrier.specs.Coverage.{Crosses}

-- a slot of the object that starts at an address has this word
pub record Has (t : Table) (a i p word : ℕ) : Type 0 where
  pub thing : Thing
  pub is : things_of t a ≡ Some thing
  pub reads : slice_get thing.refs i ≡ Some word
  pub at : slot_place t a i ≡ p

pub has : (t : Table) (a i p : ℕ) → IsTable t → IsSlot t a i p → Has t a i p (word_at t p)
has t a i p table slot =
    let lies = slot-lies_at t a i p table slot in
    record { thing = lies.thing; is = lies.is; reads = lies.read; at = slot.at }

pub is-slot : (t : Table) (a i p word : ℕ) → IsTable t → Has t a i p word → IsSlot t a i p × (word_at t p ≡ word)
is-slot t a i p word table r =
    let slot : IsSlot t a i p = subst (IsSlot t a i) r.at (thing-slot t a i r.thing table r.is (slice_get_within r.thing.refs i word r.reads)) in
    let lies = slot-lies_at t a i p table slot in
    let same : r.thing ≡ lies.thing = same_Some r.thing lies.thing (sym r.is ∙ lies.is) in
    (slot, same_Some (word_at t p) word (sym lies.read ∙ (ap (λ (x : Thing). slice_get x.refs i) (sym same) ∙ r.reads)))

pub refers : (t : Table) (a i p b : ℕ) → IsTable t → Crosses t a i p b → Has t a i p (word_of b)
refers t a i p b table x = subst (Has t a i p) x.leads (has t a i p table x.slot)

pub crosses : (t : Table) (a i p b : ℕ) → IsTable t → Has t a i p (word_of b) → (region_of t.shape a ≡ region_of t.shape b → ⊥) → Crosses t a i p b
crosses t a i p b table r apart =
    let slot = is-slot t a i p (word_of b) table r in
    record { slot = slot.0; leads = slot.1; apart = apart }

-- the same object has the same references
pub has-same : (t u : Table) (a i p word : ℕ) → things_of u a ≡ things_of t a → Has u a i p word → Has t a i p word
has-same t u a i p word same r = record { thing = r.thing; is = sym same ∙ r.is; reads = r.reads; at = r.at }

-- those of a new object are null
pub has-null : (t : Table) (a i p word n : ℕ) (x : Thing) → things_of t a ≡ Some x → x.refs ≡ replicate n 0 → Has t a i p word → word ≡ 0
has-null t a i p word n x is null r =
    let same : r.thing ≡ x = same_Some r.thing x (sym r.is ∙ is) in
    let reads : slice_get (replicate n 0) i ≡ Some word = ap (λ l. slice_get l i) (sym null) ∙ (ap (λ (y : Thing). slice_get y.refs i) (sym same) ∙ r.reads) in
    let within : i < n = omega (arith, slice_get_within (replicate n 0) i word reads, length-replicate {A = ℕ} n 0) in
    sym (get_or_from_slice_get (replicate n 0) i word 0 reads) ∙ get_or-replicate n i 0 0 within

-- once a reference is another, the other slots have their words
pub has-written : (t u : Table) (h n word : ℕ) (x : Thing) (a i p other : ℕ) → things_of t h ≡ Some x → n < length x.refs
    → Updated (things_of t) (things_of u) h (Some (with_ref n word x)) → Has u a i p other
    → ((word ≡ other) × (slot_place t h n ≡ p)) ⊎ Has t a i p other
has-written t u h n word x a i p other is within change r = elim (same-or a h) [
  | inr apart ↦ inr (has-same t u a i p other (change.elsewhere a apart) r)
  | inl here ↦
      let same : r.thing ≡ with_ref n word x = same_Some r.thing (with_ref n word x) (sym r.is ∙ (ap (things_of u) here ∙ change.here)) in
      let reads : slice_get (set x.refs n word) i ≡ Some other = ap (λ (y : Thing). slice_get y.refs i) (sym same) ∙ r.reads in
      let inside : i < length x.refs = omega (arith, slice_get_within (set x.refs n word) i other reads, length-set x.refs n word) in
      let read : get_or (set x.refs n word) i 0 ≡ other = get_or_from_slice_get (set x.refs n word) i other 0 reads in
      elim (same-or i n) [
        | inl slot ↦
            let first : get_or (set x.refs n word) n 0 ≡ other = ap (λ k. get_or (set x.refs n word) k 0) (sym slot) ∙ read in
            inl (sym (get_or-set_same x.refs n word 0 within) ∙ first, omega (arith, here, slot, r.at))
        | inr slot ↦ inr (record {
          thing = x;
          is = ap (things_of t) here ∙ is;
          reads = slice_get-get_or x.refs i 0 inside ∙ ap Some (sym (get_or-set_other x.refs n i word 0 slot) ∙ read);
          at = r.at;
        })
      ]
]
