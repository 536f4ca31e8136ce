-- What is mended place by place, and what is mended region by region, is all there is to mend.
use Rattle.std.proofs.Common.{◌≡◌, ◌<◌, ℕ, zero, suc, ◌+◌, Bool, true, false, cond, List, [], ◌∷◌, Option, None, Some, get_or, set, length, map, inl, inr, refl, ap, sym, subst, ◌∙◌, arith, eq-eqb}
use Rattle.std.specs.Prelude.{◌||◌, option_map}
use Rattle.std.proofs.lemmas.Bool.{ne_eqb, true≢false}
use Rattle.std.proofs.lemmas.Option.{get_or_from_slice_get, same_Some}
use Rattle.bal_base.specs.Bits.{IsAscending}
use Rattle.bal_base.proofs.Lemmas.{among-first}
use Rattle.bal_fixup.specs.Mended.{mended_thing}
use Rattle.bal_fixup.specs.Mending.{MendedWhere}
use Rattle.bal_fixup.specs.Placed.{ArePlacesOutside, AreSlots, lies_among, with_mended, with_mended_at}
use Rattle.bal_fixup.proofs.Placing.{same-mended, slots-left, table-mended}
use Rattle.bal_layout.specs.Addresses.{region_of}
use Rattle.bal_layout.specs.Regions.{is_in}
use Rattle.bal_table.specs.Changes.{with_word_at}
use Rattle.bal_table.specs.Slots.{IsSlot}
use Rattle.bal_table.specs.Table.{IsTable, Table, slot_place, things_of, word_at}
use Rattle.bal_table.proofs.Lemmas.{Lies, slot-lies_at, slot-region, thing-referred, thing-slot}
use Rattle.bal_words.specs.Moved.{Fixed, word_to}
use Rattle.bal_words.specs.Things.{Thing, Updated, with_ref, with_refs}
use Rattle.bal_words.proofs.Lemmas.{same-or}

-- The references of one object. The first of them lies at a place, and each other one word further on.

abbrev pub mend-in : (ℕ → ℕ) → List ℕ → ℕ → List ℕ → List ℕ
mend-in to ps p [] = []
mend-in to ps p (w ∷ ws) = cond (is_in p ps) (word_to to w) w ∷ mend-in to ps (p + 1) ws

mend-none : (to : ℕ → ℕ) (p : ℕ) (ws : List ℕ) → mend-in to [] p ws ≡ ws
mend-none to p [] = refl
mend-none to p (w ∷ ws) = ap (λ (l : List ℕ). w ∷ l) (mend-none to (p + 1) ws)

-- a place that is none of theirs makes no difference
mend-beside : (to : ℕ → ℕ) (q : ℕ) (ps : List ℕ) (p : ℕ) (ws : List ℕ) → ((i : ℕ) → i < length ws → p + i ≡ q → ⊥) → mend-in to (q ∷ ps) p ws ≡ mend-in to ps p ws
mend-beside to q ps p [] other = refl
mend-beside to q ps p (w ∷ ws) other =
    ap (λ b. cond (b || is_in p ps) (word_to to w) w ∷ mend-in to (q ∷ ps) (p + 1) ws) (ne_eqb q p (λ e. other 0 (omega arith) (omega (arith, e))))
    ∙ ap (λ (l : List ℕ). cond (is_in p ps) (word_to to w) w ∷ l) (mend-beside to q ps (p + 1) ws (λ i less e. other (i + 1) (omega (arith, less)) (omega (arith, e))))

-- one of theirs is mended, and then the others are
mend-one : (to : ℕ → ℕ) (ps : List ℕ) (p : ℕ) (ws : List ℕ) (j : ℕ) → j < length ws → is_in (p + j) ps ≡ false
    → mend-in to ps p (set ws j (word_to to (get_or ws j 0))) ≡ mend-in to ((p + j) ∷ ps) p ws
mend-one to ps p [] j less out = absurd (omega (arith, less))
mend-one to ps p (w ∷ ws) zero less out =
    let e : p + 0 ≡ p = omega arith in
    ap (λ b. cond b (word_to to (word_to to w)) (word_to to w) ∷ mend-in to ps (p + 1) ws) (subst (λ k. is_in k ps ≡ false) e out)
    ∙ (ap (λ (l : List ℕ). word_to to w ∷ l) (sym (mend-beside to (p + 0) ps (p + 1) ws (λ i less same. omega (arith, same))))
    ∙ ap (λ b. cond (b || is_in p ps) (word_to to w) w ∷ mend-in to ((p + 0) ∷ ps) (p + 1) ws) (sym (eq-eqb (p + 0) p e)))
mend-one to ps p (w ∷ ws) (suc j) less out =
    let e : p + suc j ≡ (p + 1) + j = omega arith in
    ap (λ (l : List ℕ). cond (is_in p ps) (word_to to w) w ∷ l)
    (mend-one to ps (p + 1) ws j (omega (arith, less)) (subst (λ k. is_in k ps ≡ false) e out)
    ∙ ap (λ k. mend-in to (k ∷ ps) (p + 1) ws) (sym e))
    ∙ ap (λ b. cond (b || is_in p ps) (word_to to w) w ∷ mend-in to ((p + suc j) ∷ ps) (p + 1) ws) (sym (ne_eqb (p + suc j) p (λ same. omega (arith, same))))

-- none lies at such a place
mend-out : (to : ℕ → ℕ) (ps : List ℕ) (p : ℕ) (ws : List ℕ) → ((i : ℕ) → i < length ws → is_in (p + i) ps ≡ false) → mend-in to ps p ws ≡ ws
mend-out to ps p [] out = refl
mend-out to ps p (w ∷ ws) out =
    ap (λ b. cond b (word_to to w) w ∷ mend-in to ps (p + 1) ws) (subst (λ k. is_in k ps ≡ false) (omega arith) (out 0 (omega arith)))
    ∙ ap (λ (l : List ℕ). w ∷ l) (mend-out to ps (p + 1) ws (λ i less. subst (λ k. is_in k ps ≡ false) (omega arith) (out (suc i) (omega (arith, less)))))

-- and all are mended, if those that are not at such a place lead where they led
mend-all : (to : ℕ → ℕ) (ps : List ℕ) (p : ℕ) (ws : List ℕ)
    → ((i : ℕ) → i < length ws → is_in (p + i) ps ≡ false → word_to to (get_or ws i 0) ≡ get_or ws i 0) → mend-in to ps p ws ≡ map (word_to to) ws
mend-all to ps p [] stay = refl
mend-all to ps p (w ∷ ws) stay =
    by (is_in p ps) refl
    ∙ ap (λ (l : List ℕ). word_to to w ∷ l)
    (mend-all to ps (p + 1) ws (λ i less out. stay (suc i) (omega (arith, less)) (subst (λ k. is_in k ps ≡ false) (omega arith) out)))
  where
    by : (b : Bool) → is_in p ps ≡ b → cond b (word_to to w) w ∷ mend-in to ps (p + 1) ws ≡ word_to to w ∷ mend-in to ps (p + 1) ws
    by true is = refl
    by false is = ap (λ n. n ∷ mend-in to ps (p + 1) ws) (sym (stay 0 (omega arith) (subst (λ k. is_in k ps ≡ false) (omega arith) is)))

-- All objects of a table.

-- a place is no later one of an ascending list
not-later : (p : ℕ) (ps : List ℕ) → IsAscending (p ∷ ps) → is_in p ps ≡ false
not-later p ps up = by (is_in p ps) refl
  where
    by : (b : Bool) → is_in p ps ≡ b → b ≡ false
    by true is = absurd (let less : p < p = up.0 p is in omega (arith, less))
    by false is = refl

module _ (to : ℕ → ℕ) where
  -- of an object that is known
  references : (o : Option Thing) (f g : List ℕ → List ℕ) → ((x : Thing) → o ≡ Some x → f x.refs ≡ g x.refs) → option_map (with_refs f) o ≡ option_map (with_refs g) o
  references None f g same = refl
  references (Some x) f g same = ap (λ (l : List ℕ). Some (record x { refs = l })) (same x refl)

  pub things-placed : (t : Table) (ps : List ℕ) → IsTable t → AreSlots t ps → IsAscending ps
      → (a : ℕ) → things_of (with_mended to ps t) a ≡ option_map (with_refs (mend-in to ps (a + 2))) (things_of t a)
  things-placed t [] table slots up a = sym (references (things_of t a) (mend-in to [] (a + 2)) (λ l. l) (λ x is. mend-none to (a + 2) x.refs) ∙ by (things_of t a))
    where
      by : (o : Option Thing) → option_map (with_refs (λ l. l)) o ≡ o
      by None = refl
      by (Some x) = refl
  things-placed t (p ∷ ps) table slots up a =
      things-placed now ps (table-mended to t p table slot) (slots-left t now p ps (same-mended to t p table slot) slots) up.1 a
      ∙ elim (same-or a b) [
        | inl here ↦
            ap (λ c. option_map (with_refs (mend-in to ps (a + 2))) (things_of now c)) here
            ∙ (ap (option_map (with_refs (mend-in to ps (a + 2)))) change.here
            ∙ (ap (λ (l : List ℕ). Some (record lies.thing { refs = l })) (written here)
            ∙ (ap (option_map (with_refs (mend-in to (p ∷ ps) (a + 2)))) (sym lies.is)
            ∙ ap (λ c. option_map (with_refs (mend-in to (p ∷ ps) (a + 2))) (things_of t c)) (sym here))))
        | inr other ↦
            ap (option_map (with_refs (mend-in to ps (a + 2)))) (change.elsewhere a other)
            ∙ references (things_of t a) (mend-in to ps (a + 2)) (mend-in to (p ∷ ps) (a + 2))
            (λ x is. sym (mend-beside to p ps (a + 2) x.refs (λ i less e. other (holder x i is less e))))
      ]
    where
      slot : (b : ℕ) × (j : ℕ) × IsSlot t b j p
      slot = slots p (among-first p ps)

      b : ℕ
      b = slot.0

      j : ℕ
      j = slot.1

      lies : Lies t b j p
      lies = slot-lies_at t b j p table slot.2

      now : Table
      now = with_mended_at to t p

      word : ℕ
      word = word_to to (word_at t p)

      change : Updated (things_of t) (things_of now) b (Some (with_ref j word lies.thing))
      change = subst (λ q. Updated (things_of t) (things_of (with_word_at t q word)) b (Some (with_ref j word lies.thing))) slot.2.at
          (thing-referred t b j word lies.thing table lies.is lies.within)

      -- the object whose slot it is
      written : a ≡ b → mend-in to ps (a + 2) (set lies.thing.refs j word) ≡ mend-in to (p ∷ ps) (a + 2) lies.thing.refs
      written here =
          let place : (a + 2) + j ≡ p = omega (arith, here, slot.2.at) in
          let read : word_at t p ≡ get_or lies.thing.refs j 0 = sym (get_or_from_slice_get lies.thing.refs j (word_at t p) 0 lies.read) in
          ap (λ w. mend-in to ps (a + 2) (set lies.thing.refs j (word_to to w))) read
          ∙ (mend-one to ps (a + 2) lies.thing.refs j lies.within (subst (λ k. is_in k ps ≡ false) (sym place) (not-later p ps up))
          ∙ ap (λ k. mend-in to (k ∷ ps) (a + 2) lies.thing.refs) place)

      -- no other object has it
      holder : (x : Thing) (i : ℕ) → things_of t a ≡ Some x → i < length x.refs → (a + 2) + i ≡ p → a ≡ b
      holder x i is less e =
          let own = thing-slot t a i x table is less in
          let at : slot_place t a i ≡ p = omega (arith, e) in
          same_Some a b (sym (slot-lies_at t a i p table (subst (IsSlot t a i) at own)).held ∙ lies.held)

  -- A table whose places outside of some regions are mended, and then these regions.
  module _ (t u v : Table) (regions places : List ℕ) (table : IsTable t) (outside : ArePlacesOutside t regions places to) (placed : u ≡ with_mended to places t)
      (mended : MendedWhere (things_of u) (things_of v) (lies_among t.shape regions) to) where
    now-placed : (a : ℕ) → things_of u a ≡ option_map (with_refs (mend-in to places (a + 2))) (things_of t a)
    now-placed a = ap (λ (w : Table). things_of w a) placed ∙ things-placed t places table outside.slots outside.ascending a

    -- the place of a reference
    place-of : (a i : ℕ) → slot_place t a i ≡ (a + 2) + i
    place-of a i = omega arith

    -- an object in the regions has no such place
    inside : (a : ℕ) → lies_among t.shape regions a ≡ true → things_of u a ≡ things_of t a
    inside a among =
        now-placed a
        ∙ (references (things_of t a) (mend-in to places (a + 2)) (λ l. l) (λ x is. mend-out to places (a + 2) x.refs (λ i less. none x i is less (is_in ((a + 2) + i) places) refl))
        ∙ by (things_of t a))
      where
        by : (o : Option Thing) → option_map (with_refs (λ l. l)) o ≡ o
        by None = refl
        by (Some x) = refl

        none : (x : Thing) (i : ℕ) → things_of t a ≡ Some x → i < length x.refs → (b : Bool) → is_in ((a + 2) + i) places ≡ b → b ≡ false
        none x i is less false out = refl
        none x i is less true held =
            let region = slot-region t a i (slot_place t a i) table (thing-slot t a i x table is less) in
            let at : region_of t.shape ((a + 2) + i) ≡ region_of t.shape a = ap (region_of t.shape) (sym (place-of a i)) ∙ region in
            absurd (true≢false (sym among ∙ (ap (λ r. is_in r regions) (sym at) ∙ outside.outside ((a + 2) + i) held)))

    -- of one outside all references are mended at once
    beside : (a : ℕ) → lies_among t.shape regions a ≡ false → things_of u a ≡ mended_thing to (things_of t a)
    beside a other =
        now-placed a
        ∙ references (things_of t a) (mend-in to places (a + 2)) (map (word_to to))
        (λ x is. mend-all to places (a + 2) x.refs (λ i less out. stays x i is less out))
      where
        stays : (x : Thing) (i : ℕ) → things_of t a ≡ Some x → i < length x.refs → is_in ((a + 2) + i) places ≡ false → word_to to (get_or x.refs i 0) ≡ get_or x.refs i 0
        stays x i is less out =
            let slot = thing-slot t a i x table is less in
            let lies = slot-lies_at t a i (slot_place t a i) table slot in
            let same : lies.thing ≡ x = same_Some lies.thing x (sym lies.is ∙ is) in
            let read : get_or x.refs i 0 ≡ word_at t (slot_place t a i) =
            ap (λ (y : Thing). get_or y.refs i 0) (sym same) ∙ get_or_from_slice_get lies.thing.refs i (word_at t (slot_place t a i)) 0 lies.read in
            subst (λ w. word_to to w ≡ w) (sym read)
            (outside.others a i (slot_place t a i) slot other (subst (λ p. is_in p places ≡ false) (sym (place-of a i)) out))

    pub all-fixed : Fixed (things_of t) (things_of v) to
    all-fixed = record { each = λ a. mended.each a ∙ by a (lies_among t.shape regions a) refl }
      where
        by : (a : ℕ) (b : Bool) → lies_among t.shape regions a ≡ b → cond (lies_among t.shape regions a) (mended_thing to (things_of u a)) (things_of u a) ≡ mended_thing to (things_of t a)
        by a true among =
            ap (λ b. cond b (mended_thing to (things_of u a)) (things_of u a)) among ∙ ap (mended_thing to) (inside a among)
        by a false other =
            ap (λ b. cond b (mended_thing to (things_of u a)) (things_of u a)) other ∙ beside a other
