-- A card that is noted: the note is legal.
use Rattle.std.proofs.Common.{◌≡◌, ℕ, not, IsTrue, List, eqb, get_or, Option, Some, None, option_map, refl, ap, sym, subst, ◌∙◌}
use Rattle.std.proofs.lemmas.Bool.{eq-eqb, false≢true, ne_eqb}
use Rattle.std.proofs.lemmas.Option.{get_or_from_slice_get, slice_get_within}
use Rattle.std.specs.Prelude.{IsSome}
use Rattle.std.specs.List.{list_any}
use Rattle.bal_layout.specs.Addresses.{region_of}
use Rattle.bal_layout.specs.References.{word_of}
use Rattle.bal_layout.specs.Regions.{region_at}
use Rattle.bal_layout.specs.Shape.{Shape}
use Rattle.bal_layout.specs.declared.name.Name.{Name}
use Rattle.bal_meet.specs.Decode.{placed_at}
use Rattle.bal_meet.specs.Heap.{Account, Heap, IsNoted, Meets, spot_at}
use Rattle.bal_meet.proofs.Reading.{reference-decoded}
use Rattle.bal_model.specs.Plain.{reference}
use Rattle.bal_model.specs.declared.config.Config.{Config}
use Rattle.bal_remember.specs.Remembered.{remembers}
use Rattle.bal_rules.specs.Board.{Board, Placed, place_of}
use Rattle.bal_rules.specs.Choice.{lies_at}
use Rattle.bal_rules.specs.NoteEvents.{IsNote, Slot, is_card_in, is_card_of, lies_outside, refers_into, same_slot}
use Rattle.bal_words.specs.Shown.{Finds, name_behind}
use Rattle.bal_words.specs.Things.{Thing}

-- the object to which a slot's word leads is present in the region of its address
leads-into : (h : Heap) (b : Board) (q card a i : ℕ) (n : IsNoted h q card a i) → Meets h b
    → IsTrue (refers_into b q (reference b.plain n.holder.name i))
leads-into h b q card a i n m =
    let read : get_or n.holder.refs i 0 ≡ word_of n.target = get_or_from_slice_get n.holder.refs i (word_of n.target) 0 n.refers in
    let decoded = reference-decoded (spot_at h) h.things h.roots b.plain b.present a i n.holder m.decodes n.starts
    (slice_get_within n.holder.refs i (word_of n.target) n.refers) in
    let found : Finds h.things (word_of n.target) = subst (Finds h.things) read decoded.1 in
    by (h.things n.target) refl found (decoded.0 ∙ ap (name_behind h.things) read)
  where
    by : (o : Option Thing) → h.things n.target ≡ o → IsSome (h.things n.target)
        → reference b.plain n.holder.name i ≡ name_behind h.things (word_of n.target) → IsTrue (refers_into b q (reference b.plain n.holder.name i))
    by None e found is = absurd (false≢true (subst (λ (o : Option Thing). IsSome o) e found))
    by (Some y) e found is =
        let named : reference b.plain n.holder.name i ≡ Some y.name = is ∙ ap (option_map (λ (x : Thing). x.name)) e in
        let placed : place_of b.present y.name ≡ Some (placed_at y.name (spot_at h n.target)) = m.decodes.places n.target y e in
        subst (λ (o : Option Name). IsTrue (refers_into b q o)) (sym named)
        (subst (λ (o : Option Placed). IsTrue (lies_at o q)) (sym placed) (subst (λ k. IsTrue (eqb k q)) (sym n.into) (eq-eqb q q refl)))

pub note-legal : (c : Config) (h : Heap) (b : Board) (noted : List Slot) (q card a i : ℕ) (n : IsNoted h q card a i) → Meets h b
    → c.geometry ≡ h.shape → IsTrue (not (list_any (same_slot (record { holder = n.holder.name; number = i })) noted))
    → IsNote c b noted q card n.holder.name i
note-legal c h b noted q card a i n m geometry once = record {
  from_outside = subst (λ (o : Option Placed). IsTrue (lies_outside o q)) (sym placed) (ap not (ne_eqb (region_of h.shape a) q n.from_outside));
  refers = leads-into h b q card a i n m;
  new_card = subst (λ (x : Account). IsTrue (not (remembers (region_at x.regions q).remembered card))) m.account n.new_card;
  of_the_slot = subst (λ (o : Option Placed). IsTrue (is_card_of c.geometry o i card)) (sym placed)
      (subst (λ (s : Shape). IsTrue (is_card_in s (region_of h.shape a) (h.leaves a) i card)) (sym geometry) n.of_the_slot);
  once = once;
}
  where
    placed : place_of b.present n.holder.name ≡ Some (placed_at n.holder.name (spot_at h a))
    placed = m.decodes.places a n.holder n.starts
