-- The references of one object, mended one after the other.
use Rattle.std.proofs.Common.{◌≡◌, ℕ, ◌+◌, ◌<◌, ◌≤◌, List, length, get_or, Option, Some, None, refl, ap, sym, subst, ◌∙◌, arith}
use Rattle.std.specs.Option.{option_map}
use Rattle.std.proofs.lemmas.Option.{get_or_from_slice_get}
use Rattle.bal_fixup.specs.Mended.{mended_thing}
use Rattle.bal_fixup.specs.Mending.{front_mended, word_mended}
use Rattle.bal_fixup.proofs.Words.{front-all, front-long, front-more, front-word, word-kept}
use Rattle.bal_table.specs.Changes.{with_word_at}
use Rattle.bal_table.specs.Table.{IsTable, Table, refs_in, slot_place, things_of, word_at}
use Rattle.bal_table.proofs.Lemmas.{reference-there, thing-referred}
use Rattle.bal_words.specs.Moved.{word_to}
use Rattle.bal_words.specs.Things.{Thing, Things, Updated, with_ref, with_refs}

-- One of them.

module _ (t : Table) (a i : ℕ) (to : ℕ → ℕ) (table : IsTable t) (within : i < length (refs_in (things_of t a))) where
  -- it is the word in its place
  pub slot-word : (place : ℕ) → place ≡ slot_place t a i → word_at t place ≡ get_or (refs_in (things_of t a)) i 0
  slot-word place at =
      ap (word_at t) at ∙ sym (get_or_from_slice_get (refs_in (things_of t a)) i (word_at t (slot_place t a i)) 0 (reference-there t a i table within).2)

  -- if it is written where it lies, the object has it mended
  pub slot-set : (word : ℕ) → word ≡ word_to to (get_or (refs_in (things_of t a)) i 0)
      → Updated (things_of t) (things_of (with_word_at t (slot_place t a i) word)) a (option_map (with_refs (word_mended to i)) (things_of t a))
  slot-set word is = by (things_of t a) refl within is
    where
      by : (o : Option Thing) → things_of t a ≡ o → i < length (refs_in o) → word ≡ word_to to (get_or (refs_in o) i 0)
          → Updated (things_of t) (things_of (with_word_at t (slot_place t a i) word)) a (option_map (with_refs (word_mended to i)) o)
      by None known less now = absurd (omega (arith, less))
      by (Some x) known less now =
          subst (λ w. Updated (things_of t) (things_of (with_word_at t (slot_place t a i) word)) a (Some (with_ref i w x))) now (thing-referred t a i word x table known less)

-- and if it is to stay, the object has it mended as it is
pub slot-kept : (things : Things) (a i : ℕ) (to : ℕ → ℕ) → get_or (refs_in (things a)) i 0 ≡ word_to to (get_or (refs_in (things a)) i 0)
    → Updated things things a (option_map (with_refs (word_mended to i)) (things a))
slot-kept things a i to is = record { here = by (things a) is; elsewhere = λ other apart. refl }
  where
    by : (o : Option Thing) → get_or (refs_in o) i 0 ≡ word_to to (get_or (refs_in o) i 0) → o ≡ option_map (with_refs (word_mended to i)) o
    by None stays = refl
    by (Some x) stays = ap (λ (l : List ℕ). Some (record x { refs = l })) (word-kept to x.refs i stays)

-- The first of them, up to one.

pub front-none : (things : Things) (a : ℕ) (to : ℕ → ℕ) → Updated things things a (option_map (with_refs (front_mended to 0)) (things a))
front-none things a to = record { here = by (things a); elsewhere = λ other apart. refl }
  where
    by : (o : Option Thing) → o ≡ option_map (with_refs (front_mended to 0)) o
    by None = refl
    by (Some x) = refl

module _ (before now : Things) (a k : ℕ) (to : ℕ → ℕ) (x : Thing) (is : before a ≡ Some x) (front : Updated before now a (option_map (with_refs (front_mended to k)) (before a))) where
  now-is : now a ≡ Some (with_refs (front_mended to k) x)
  now-is = front.here ∙ ap (option_map (with_refs (front_mended to k))) is

  -- if all are among the first, the object is mended
  pub front-done : length x.refs ≤ k → Updated before now a (mended_thing to (before a))
  front-done all = record {
    here = now-is ∙ (ap (λ (l : List ℕ). Some (record x { refs = l })) (front-all to x.refs k all) ∙ sym (ap (mended_thing to) is));
    elsewhere = front.elsewhere;
  }

  module _ (within : k < length x.refs) where
    -- the object has the next one
    pub next-slot : k < length (refs_in (now a))
    next-slot = omega (arith, ap (λ (o : Option Thing). length (refs_in o)) now-is, front-long to x.refs k within, within)

    -- that is as it was
    pub next-word : get_or (refs_in (now a)) k 0 ≡ get_or x.refs k 0
    next-word = ap (λ (o : Option Thing). get_or (refs_in o) k 0) now-is ∙ front-word to x.refs k within

    -- once it is mended, one more is
    pub front-next : (after : Things) → Updated now after a (option_map (with_refs (word_mended to k)) (now a))
        → Updated before after a (option_map (with_refs (front_mended to (k + 1))) (before a))
    front-next after next = record {
      here = next.here
          ∙ (ap (option_map (with_refs (word_mended to k))) now-is
          ∙ (ap (λ (l : List ℕ). Some (record x { refs = l })) (front-more to x.refs k within)
          ∙ sym (ap (option_map (with_refs (front_mended to (k + 1)))) is)));
      elsewhere = λ other apart. next.elsewhere other apart ∙ front.elsewhere other apart;
    }
