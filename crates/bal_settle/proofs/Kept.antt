-- The objects of a table once the chosen regions were settled.
use Rattle.std.proofs.Common.{◌≡◌, ℕ, ◌<◌, ◌≤◌, inl, inr, Bool, true, false, cond, eqb, List, [], ◌∷◌, length, map, Option, None, get_or, refl, ap, sym, ◌∙◌, arith, get_or-set_same}
use Rattle.std.specs.Prelude.{◌↔◌, ◌&&◌, nat_eq, option_and_then}
use Rattle.std.specs.List.{range_with_len}
use Rattle.std.proofs.lemmas.Bool.{cases_lt, eq-eqb, eqb-true, false≢true}
use Rattle.std.proofs.lemmas.List.{get_or_past}
use Rattle.std.proofs.lemmas.List.FromFn.{get_or-map-range_with_len, length-map-range_with_len}
use Rattle.bal_layout.specs.Addresses.{offset_of, region_of}
use Rattle.bal_layout.specs.Regions.{is_in}
use Rattle.bal_region.specs.Changes.{empty_land}
use Rattle.bal_region.specs.Land.{Land, object_at}
use Rattle.bal_sweep.specs.Sweep.{left_at}
use Rattle.bal_sweep.proofs.Lemmas.{in-filter, left-object, swept-inside}
use Rattle.bal_table.proofs.Lemmas.{address-is, object-region, slot-region}
use Rattle.bal_table.specs.Slots.{IsSlot}
use Rattle.bal_table.specs.Table.{IsTable, Table, land_at, objects_of, thing_in, things_of, word_at}
use Rattle.bal_words.specs.Things.{Thing}
use Rattle.bal_settle.specs.Settled.{MaySettle, is_lost, land_settled, marked_in, settled}

-- a region of a marked object is not lost
not-lost : (xs : List ℕ) (a : ℕ) → nat_eq (length xs) 0 ≡ true → is_in a xs ≡ false
not-lost [] a none = refl
not-lost (x ∷ xs) a none = absurd (omega (arith, eqb-true (length (x ∷ xs)) 0 none))

module _ (t : Table) (chosen marked : List ℕ) (table : IsTable t) (may : MaySettle t chosen marked) (a : ℕ) where
  abbrev q : ℕ
  q = region_of t.shape a

  abbrev at : Land → Option Thing
  at l = option_and_then thing_in (object_at l (offset_of t.shape a))

  lost-none : is_lost t.shape marked q ≡ true → is_in a marked ≡ false
  lost-none lost = by (is_in a marked) refl
    where
      by : (b : Bool) → is_in a marked ≡ b → b ≡ false
      by false is = refl
      by true is = sym (ap (λ b. b && true) (eq-eqb q q refl)) ∙ (ap (λ b. eqb q q && b) (sym is)
          ∙ (sym (in-filter (λ b. eqb (region_of t.shape b) q) marked a) ∙ not-lost (marked_in t.shape q marked) a lost))

  left-things : q < t.shape.regions → at (left_at marked t q) ≡ cond (is_in a marked) (things_of t a) None
  left-things within =
      ap at (sym (get_or-set_same t.lands q (left_at marked t q) (empty_land 0 0) (omega (arith, within, table.lands))))
      ∙ swept-inside t q marked table within a refl

  by-land : q < t.shape.regions → (b c : Bool) → is_lost t.shape marked q ≡ c
      → at (cond b (cond c (empty_land q t.shape.words) (left_at marked t q)) (land_at t q)) ≡ cond b (cond (is_in a marked) (things_of t a) None) (things_of t a)
  by-land within false c lost = refl
  by-land within true true lost = ap (λ b. cond b (things_of t a) None) (sym (lost-none lost))
  by-land within true false lost = left-things within

  outside : t.shape.regions ≤ q → is_in q chosen ≡ false
  outside past = by (is_in q chosen) refl
    where
      by : (b : Bool) → is_in q chosen ≡ b → b ≡ false
      by false is = refl
      by true is = absurd (omega (arith, past, (may.regions q is).0))

  pub things-kept : things_of (settled chosen marked t) a ≡ cond (is_in q chosen) (cond (is_in a marked) (things_of t a) None) (things_of t a)
  things-kept = elim (cases_lt q t.shape.regions) [
    | inl within ↦
        ap at (get_or-map-range_with_len (land_settled chosen marked t) 0 (length t.regions) q q (empty_land 0 0) (omega (arith, within, table.regions)) (omega arith))
        ∙ by-land within (is_in q chosen) (is_lost t.shape marked q) refl
    | inr past ↦
        ap at (get_or_past (map (land_settled chosen marked t) (range_with_len 0 (length t.regions))) q (empty_land 0 0)
        (omega (arith, past, table.regions, length-map-range_with_len (land_settled chosen marked t) 0 (length t.regions))))
        ∙ (ap at (sym (get_or_past t.lands q (empty_land 0 0) (omega (arith, past, table.lands))))
        ∙ ap (λ b. cond b (cond (is_in a marked) (things_of t a) None) (things_of t a)) (sym (outside past)))
  ]

pub things-settled : (t : Table) (chosen marked : List ℕ) → IsTable t → MaySettle t chosen marked → (a : ℕ)
    → things_of (settled chosen marked t) a ≡ cond (is_in (region_of t.shape a) chosen) (cond (is_in a marked) (things_of t a) None) (things_of t a)
things-settled t chosen marked table may a = things-kept t chosen marked table may a

-- a region that is not freed has given out as many words as before
pub used-settled : (t : Table) (chosen marked : List ℕ) → IsTable t → (q : ℕ) → q < t.shape.regions → (is_in q chosen ≡ true → is_lost t.shape marked q ≡ false)
    → (land_at (settled chosen marked t) q).used ≡ (land_at t q).used
used-settled t chosen marked table q within kept =
    ap (λ (l : Land). l.used) (get_or-map-range_with_len (land_settled chosen marked t) 0 (length t.regions) q q (empty_land 0 0) (omega (arith, within, table.regions)) (omega arith))
    ∙ by (is_in q chosen) refl (is_lost t.shape marked q) refl
  where
    by : (b : Bool) → is_in q chosen ≡ b → (c : Bool) → is_lost t.shape marked q ≡ c
        → (cond b (cond c (empty_land q t.shape.words) (left_at marked t q)) (land_at t q)).used ≡ (land_at t q).used
    by false out c lost = refl
    by true among false lost = refl
    by true among true lost = absurd (false≢true (sym (kept among) ∙ lost))

-- the words of an object that stays are as before
objects-stay : (t : Table) (chosen marked : List ℕ) → IsTable t → MaySettle t chosen marked → (a : ℕ) → region_of t.shape a < t.shape.regions
    → (is_in (region_of t.shape a) chosen ≡ true → is_in a marked ≡ true) → objects_of (settled chosen marked t) a ≡ objects_of t a
objects-stay t chosen marked table may a within stays =
    ap (λ (l : Land). object_at l (offset_of t.shape a))
    (get_or-map-range_with_len (land_settled chosen marked t) 0 (length t.regions) (region_of t.shape a) (region_of t.shape a) (empty_land 0 0) (omega (arith, within, table.regions)) (omega arith))
    ∙ by (is_in (region_of t.shape a) chosen) refl (is_lost t.shape marked (region_of t.shape a)) refl
  where
    by : (b : Bool) → is_in (region_of t.shape a) chosen ≡ b → (c : Bool) → is_lost t.shape marked (region_of t.shape a) ≡ c
        → object_at (cond b (cond c (empty_land (region_of t.shape a) t.shape.words) (left_at marked t (region_of t.shape a))) (land_at t (region_of t.shape a))) (offset_of t.shape a) ≡ objects_of t a
    by false out c lost = refl
    by true among true lost = absurd (false≢true (sym (lost-none t chosen marked table may a lost) ∙ stays among))
    by true among false lost =
        left-object marked t table (region_of t.shape a) (offset_of t.shape a)
        ∙ ap (λ b. cond b (objects_of t a) None) (ap (λ b. is_in b marked) (address-is t.shape a) ∙ stays among)

-- and so are its slots
pub slots-settled : (t : Table) (chosen marked : List ℕ) → IsTable t → MaySettle t chosen marked → (a i p : ℕ) → region_of t.shape a < t.shape.regions
    → (is_in (region_of t.shape a) chosen ≡ true → is_in a marked ≡ true) → IsSlot (settled chosen marked t) a i p ↔ IsSlot t a i p
slots-settled t chosen marked table may a i p within stays =
    let same = objects-stay t chosen marked table may a within stays in (
      λ s. record { object = s.object; header = s.header; is = sym same ∙ s.is; read = s.read; within = s.within; at = s.at },
      λ s. record { object = s.object; header = s.header; is = same ∙ s.is; read = s.read; within = s.within; at = s.at },
    )

-- and so are the words in these
pub words-settled : (t : Table) (chosen marked : List ℕ) → IsTable t → MaySettle t chosen marked → (a i p : ℕ) → IsSlot t a i p
    → (is_in (region_of t.shape a) chosen ≡ true → is_in a marked ≡ true) → word_at (settled chosen marked t) p ≡ word_at t p
words-settled t chosen marked table may a i p slot stays =
    ap (λ r. get_or (land_at (settled chosen marked t) r).words (offset_of t.shape p) 0) home
    ∙ (ap (λ (l : Land). get_or l.words (offset_of t.shape p) 0)
    (get_or-map-range_with_len (land_settled chosen marked t) 0 (length t.regions) q q (empty_land 0 0) (omega (arith, within, table.regions)) (omega arith))
    ∙ (by (is_in q chosen) refl (is_lost t.shape marked q) refl ∙ ap (λ r. get_or (land_at t r).words (offset_of t.shape p) 0) (sym home)))
  where
    q : ℕ
    q = region_of t.shape a

    home : region_of t.shape p ≡ q
    home = slot-region t a i p table slot

    within : q < t.shape.regions
    within = object-region t a slot.object table slot.is

    by : (b : Bool) → is_in q chosen ≡ b → (c : Bool) → is_lost t.shape marked q ≡ c
        → get_or (cond b (cond c (empty_land q t.shape.words) (left_at marked t q)) (land_at t q)).words (offset_of t.shape p) 0 ≡ get_or (land_at t q).words (offset_of t.shape p) 0
    by false out c lost = refl
    by true among true lost = absurd (false≢true (sym (lost-none t chosen marked table may a lost) ∙ stays among))
    by true among false lost = refl
