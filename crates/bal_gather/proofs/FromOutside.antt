-- What is gathered, if the regions remember all references from other regions.
use Rattle.std.proofs.Common.{◌≡◌, ℕ, zero, suc, ◌+◌, ◌*◌, ◌/◌, ◌<◌, ◌⊎◌, inl, inr, Bool, true, false, cond, List, [], ◌++◌, length, Option, Some, None, refl, ap, sym, subst, ◌∙◌, arith}
use Rattle.std.specs.Prelude.{◌↔◌, Contains, IsTrue, is_some}
use Rattle.std.specs.List.{filter_map}
use Rattle.std.proofs.lemmas.Bool.{false≢true}
use Rattle.std.proofs.lemmas.List.Elements.{Contains-append_cases, Contains-append_left, Contains-append_right}
use Rattle.std.proofs.lemmas.Option.{none-some, same_Some}
use Rattle.std.proofs.Math.Nat.{mul-le-mul_left, mul-le-mul_right}
use Rattle.bal_barrier.specs.Coverage.{AreRemembered}
use Rattle.bal_layout.specs.Addresses.{card_of, cards_of, region_of}
use Rattle.bal_layout.specs.References.{word_of}
use Rattle.bal_layout.specs.Regions.{is_in, region_of_card}
use Rattle.bal_layout.specs.Shape.{IsShape, Shape}
use Rattle.bal_layout.proofs.Lemmas.{card-region}
use Rattle.bal_remember.specs.Remembered.{Remembered, cards, is_overflowed, listed, overflowed, remembers}
use Rattle.bal_table.specs.Slots.{IsSlot, slots_on}
use Rattle.bal_table.specs.Table.{IsTable, remembered_at, slot_place, word_at}
use Rattle.bal_table.specs.declared.slots.Slot.{Slot}
use Rattle.bal_table.proofs.Lemmas.{card-contains, card-place, object-region, slot-region}
use Rattle.bal_gather.specs.Gathered.{IsGathered, IsHeld, IsListed, LeadsFromOutside, NoneOverflowed, held_by, place_leading, reference_in, references_on, references_on_all}
use Rattle.bal_gather.specs.Lent.{Lent, is_chosen, slots_outside}
use Rattle.bal_gather.specs.Numbers.{is_start, number_of, starts_below}
use Rattle.bal_gather.specs.Objects.{number_behind}
use Rattle.bal_gather.specs.declared.outside.Reference.{Reference}
use Rattle.bal_gather.proofs.Listed.{number-place}
use Rattle.bal_gather.proofs.Numbering.{number-outside}
use Rattle.bal_gather.proofs.Parts.{contains-member, given, given-by, joined, joined-by, mapped, mapped-by}

-- Cards.

-- a card lies in the region of each of its words
card-first : (s : Shape) (p : ℕ) → IsShape s → region_of s (64 * card_of p) ≡ region_of s p
card-first s p is =
    let again : card_of (64 * card_of p) ≡ card_of p = omega arith in
    sym (card-region s (64 * card_of p) is) ∙ (ap (region_of_card s) again ∙ card-region s p is)

-- a list that has not overflowed has each card that it remembers
listed-by_remembers : (r : Remembered) (card : ℕ) → remembers r card ≡ true → is_overflowed r ≡ false → is_in card (listed r) ≡ true
listed-by_remembers (cards cs) card known none = known
listed-by_remembers overflowed card known none = absurd (false≢true (sym none))

-- and the heap has it, if it has that region
card-within : (s : Shape) (p : ℕ) → IsShape s → region_of s p < s.regions → card_of p < cards_of s
card-within s p is less =
    let m = s.words / 64 in
    let c = card_of p in
    let some : 0 < m = omega (arith, is.fewest_words) in
    let region : c / m ≡ region_of s p = card-region s p is in
    let below : c < (c / m + 1) * m = omega (arith, some) in
    let rows = mul-le-mul_right {m = c / m + 1} {n = s.regions} m (omega (arith, region, less)) in
    let whole = mul-le-mul_left {m = m * 64} {n = s.words} s.regions (omega arith) in
    omega (arith, below, rows, whole)

-- Numbers.

number-chosen : (l : Lent) (a k : ℕ) → number_of l a ≡ Some k → is_chosen l a ≡ true
number-chosen l a k is = by (is_chosen l a) refl
  where
    by : (b : Bool) → is_chosen l a ≡ b → is_chosen l a ≡ true
    by true chosen = chosen
    by false outside = absurd (none-some k (sym (number-outside l a outside) ∙ is))

-- an object is the only one with its number
word-of : (l : Lent) (word a k : ℕ) → IsTable l.table → number_behind l word ≡ Some k → number_of l a ≡ Some k → word ≡ word_of a
word-of l zero a k table told is = absurd (none-some k told)
word-of l (suc b) a k table told is = ap suc (same_Some b a (sym ((number-place l b k table).0 told) ∙ (number-place l a k table).0 is))

-- References on cards.

pub record IsFrom (l : Lent) (r : Reference) : Type 0 where
  pub holder : ℕ
  pub number : ℕ
  pub slot : IsSlot l.table holder number r.place
  pub word : word_at l.table r.place ≡ r.word
  pub outside : is_chosen l holder ≡ false

module _ (l : Lent) (table : IsTable l.table) where
  -- each is one of an object outside
  on-card : (card : ℕ) (r : Reference) → Contains (references_on l card) r → IsFrom l r
  on-card card r among = by (is_chosen l (64 * card)) refl (mapped-by (reference_in l.table) (slots_outside l card) r among)
    where
      from : is_chosen l (64 * card) ≡ false → (s : Slot) → Contains (slots_on l.table card) s → reference_in l.table s ≡ r → IsFrom l r
      from outside s slot is =
          let lies = card-place l.table card s table slot in
          let place = slot_place l.table s.holder s.number in
          let home : region_of l.table.shape (64 * card) ≡ region_of l.table.shape s.holder
          = ap (λ c. region_of l.table.shape (64 * c)) (sym lies.1)
          ∙ (card-first l.table.shape place table.shape ∙ slot-region l.table s.holder s.number place table lies.0) in
          subst (IsFrom l) is (record {
            holder = s.holder;
            number = s.number;
            slot = lies.0;
            word = refl;
            outside = ap (λ q. is_in q l.regions) (sym home) ∙ outside;
          })

      by : (b : Bool) → is_chosen l (64 * card) ≡ b
          → (s : Slot) × Contains (cond (is_chosen l (64 * card)) [] (slots_on l.table card)) s × (reference_in l.table s ≡ r) → IsFrom l r
      by false outside (s, slot, is) = from outside s (subst (λ b. Contains (cond b [] (slots_on l.table card)) s) outside slot) is
      by true chosen (s, slot, is) = none (subst (λ b. Contains (cond b [] (slots_on l.table card)) s) chosen slot)
        where
          none : Contains {X = Slot} [] s → IsFrom l r
          none (k, within, at) = absurd (omega (arith, within))

  -- and each such reference is there that leads to an object of a chosen region, if its card is remembered
  module _ (remembered : AreRemembered l.table) (none : NoneOverflowed l) (place a k : ℕ) (leads : LeadsFromOutside l place a) (numbered : number_of l a ≡ Some k) where
    chosen : is_chosen l a ≡ true
    chosen = number-chosen l a k numbered

    is-listed : IsListed l (card_of place)
    is-listed = record {
      region = region_of l.table.shape a;
      chosen = chosen;
      listed = listed-by_remembers (remembered_at l.table (region_of l.table.shape a)) (card_of place)
          (remembered.each leads.holder leads.number place a (record {
            slot = leads.slot;
            leads = leads.leads;
            apart = λ same. false≢true (sym leads.outside ∙ (ap (λ q. is_in q l.regions) same ∙ chosen));
          }))
          (none (region_of l.table.shape a) chosen);
      within = card-within l.table.shape place table.shape
          (subst (λ q. q < l.table.shape.regions) (sym (slot-region l.table leads.holder leads.number place table leads.slot))
          (object-region l.table leads.holder leads.slot.object table leads.slot.is));
    }

    home : is_chosen l (64 * card_of place) ≡ false
    home = ap (λ q. is_in q l.regions)
        (card-first l.table.shape place table.shape ∙ slot-region l.table leads.holder leads.number place table leads.slot) ∙ leads.outside

    read-there : Contains (references_on l (card_of place)) (record { place = place; word = word_of a })
    read-there =
        let s : Slot = record { holder = leads.holder; number = leads.number } in
        let among : Contains (slots_on l.table (card_of place)) s = (card-contains l.table (card_of place) s table).1 (place, (leads.slot, refl)) in
        let outside : Contains (slots_outside l (card_of place)) s
        = subst (λ b. Contains (cond b [] (slots_on l.table (card_of place))) s) (sym home) among in
        let at : slot_place l.table leads.holder leads.number ≡ place = leads.slot.at in
        let is : reference_in l.table s ≡ record { place = place; word = word_of a }
        = ap (λ p. record { place = p; word = word_at l.table p }) at ∙ ap (λ w. record { place = place; word = w }) leads.leads in
        subst (λ (r : Reference). Contains (references_on l (card_of place)) r) is (mapped (reference_in l.table) (slots_outside l (card_of place)) s outside)

-- What is gathered.

module _ (l : Lent) (roots so places : List ℕ) (a k : ℕ) (table : IsTable l.table) (remembered : AreRemembered l.table) (none : NoneOverflowed l)
    (g : IsGathered l roots so places) (numbered : number_of l a ≡ Some k) where
  abbrev rs : List Reference
  rs = references_on_all l g.cards

  abbrev by-number : Reference → Option ℕ
  by-number r = number_behind l r.word

  there : Contains (filter_map (number_behind l) roots) k ⊎ Contains (held_by l rs) k → IsHeld l roots a
  there (inl root) =
      let found = given-by (number_behind l) roots k root in
      inl (subst (Contains roots) (word-of l found.0 a k table found.2 numbered) found.1)
  there (inr other) =
      let found = given-by by-number rs k other in
      let r = found.0 in
      let card = joined-by (references_on l) g.cards r found.1 in
      let from = on-card l table card.0 r card.2 in
      inr (
        r.place,
        record {
          holder = from.holder;
          number = from.number;
          slot = from.slot;
          leads = from.word ∙ word-of l r.word a k table found.2 numbered;
          outside = from.outside;
        },
      )

  back : IsHeld l roots a → Contains (filter_map (number_behind l) roots ++ held_by l rs) k
  back (inl root) = Contains-append_left (filter_map (number_behind l) roots) (held_by l rs) k (given (number_behind l) roots (word_of a) k root numbered)
  back (inr (place, leads)) =
      let card = contains-member g.cards (card_of place) ((g.listed (card_of place)).1 (is-listed l table remembered none place a k leads numbered)) in
      let r : Reference = record { place = place; word = word_of a } in
      let among = joined (references_on l) g.cards (card_of place) r card (read-there l table remembered none place a k leads numbered) in
      Contains-append_right (filter_map (number_behind l) roots) (held_by l rs) k (given by-number rs r k among numbered)

  pub held-are : Contains so k ↔ IsHeld l roots a
  held-are = (
    λ among. there (Contains-append_cases (filter_map (number_behind l) roots) (held_by l rs) k (subst (λ (xs : List ℕ). Contains xs k) g.are_held among)),
    λ held. subst (λ (xs : List ℕ). Contains xs k) (sym g.are_held) (back held),
  )

-- Where the references lie.

-- one that has a place has a number
place-of : (l : Lent) (r : Reference) (p : ℕ) → place_leading l r ≡ Some p → (k : ℕ) × (number_behind l r.word ≡ Some k) × (r.place ≡ p)
place-of l r p is = by (number_behind l r.word) refl is
  where
    by : (o : Option ℕ) → number_behind l r.word ≡ o → cond (is_some o) (Some r.place) None ≡ Some p → (k : ℕ) × (number_behind l r.word ≡ Some k) × (r.place ≡ p)
    by None told is = absurd (none-some p is)
    by (Some k) told is = (k, told, same_Some r.place p is)

-- and leads to an object
behind-some : (l : Lent) (word k : ℕ) → number_behind l word ≡ Some k → (a : ℕ) × (word ≡ word_of a) × (number_of l a ≡ Some k)
behind-some l zero k is = absurd (none-some k is)
behind-some l (suc a) k is = (a, refl, is)

start-of : (l : Lent) (a k : ℕ) → number_of l a ≡ Some k → is_start l a ≡ true
start-of l a k is = by (is_start l a) refl is
  where
    by : (b : Bool) → is_start l a ≡ b → cond b (Some (length (starts_below l a))) None ≡ Some k → is_start l a ≡ true
    by true start is = start
    by false start is = absurd (none-some k is)

module _ (l : Lent) (roots so places : List ℕ) (p : ℕ) (table : IsTable l.table) (remembered : AreRemembered l.table) (none : NoneOverflowed l)
    (g : IsGathered l roots so places) where
  leading : Contains places p → (a : ℕ) × LeadsFromOutside l p a × IsTrue (is_start l a)
  leading among =
      let found = given-by (place_leading l) (references_on_all l g.cards) p (subst (λ (xs : List ℕ). Contains xs p) g.are_places among) in
      let r = found.0 in
      let told = place-of l r p found.2 in
      let card = joined-by (references_on l) g.cards r found.1 in
      let from = on-card l table card.0 r card.2 in
      let to = behind-some l r.word told.0 told.1 in (
        to.0,
        subst (λ q. LeadsFromOutside l q to.0) told.2
            (record { holder = from.holder; number = from.number; slot = from.slot; leads = from.word ∙ to.1; outside = from.outside }),
        start-of l to.0 told.0 to.2,
      )

  led : (a : ℕ) → LeadsFromOutside l p a → IsTrue (is_start l a) → Contains places p
  led a leads start =
      let k = length (starts_below l a) in
      let numbered : number_of l a ≡ Some k = ap (λ b. cond b (Some k) None) start in
      let r : Reference = record { place = p; word = word_of a } in
      let card = contains-member g.cards (card_of p) ((g.listed (card_of p)).1 (is-listed l table remembered none p a k leads numbered)) in
      let among = joined (references_on l) g.cards (card_of p) r card (read-there l table remembered none p a k leads numbered) in
      subst (λ (xs : List ℕ). Contains xs p) (sym g.are_places)
      (given (place_leading l) (references_on_all l g.cards) r p among (ap (λ (o : Option ℕ). cond (is_some o) (Some p) None) numbered))

  pub places-are : Contains places p ↔ ((a : ℕ) × LeadsFromOutside l p a × IsTrue (is_start l a))
  places-are = (leading, λ led-from. led led-from.0 led-from.1 led-from.2)
