-- A worker's regions stay what they are under each change.
use Rattle.std.proofs.Common.{◌≡◌, ℕ, suc, ◌+◌, ◌-◌, ◌<◌, ◌≤◌, inl, inr, Bool, true, false, cond, leb, not, List, [], ◌∷◌, ◌++◌, length, map, get_or, Option, Some, None, refl, ap, sym, subst, ◌∙◌, arith}
use Rattle.std.proofs.lemmas.Bool.{cases_lt, eq-eqb, le-leb, false≢true, leb-false}
use Rattle.std.proofs.lemmas.List.{get_or_append_left, get_or-append_right, get_or-map, get_or-set_other, get_or-set_same, length-append, map-append, length-map, length-set}
use Rattle.std.proofs.lemmas.Option.{none-some}
use Rattle.bal_layout.specs.Shape.{Shape, largest_of}
use Rattle.bal_region.specs.Changes.{empty_land, with_object}
use Rattle.bal_region.specs.Land.{IsObject, Land}
use Rattle.bal_region.proofs.Lemmas.{IsLand-placed, length-overwrite}
use Rattle.bal_dest.specs.Buffers.{ArePackedTight, Buffers, IsBuffers, IsDestination, MayReserve, age_at, destination_at, fits_at, land_at, no_buffers, open_place, last_place, placed_in, wants_region, with_region}
use Rattle.bal_dest.specs.declared.buffers.Destination.{Destination}
use Rattle.bal_dest.specs.declared.buffers.Reservation.{Reservation}
use Rattle.std.proofs.Math.Seq.{map-set_same}
use Rattle.bal_dest.proofs.Gaps.{no_gaps-placed}
use Rattle.bal_dest.proofs.Places.{last-added, last-none, last-some, same-or}

-- what is past the end
abbrev none : Destination
none = record { age = 0; region = empty_land 0 0 }

-- An open region.

-- the ages, by place
age-there : (b : Buffers) (i : ℕ) → i < length b.regions → get_or (map (λ (d : Destination). d.age) b.regions) i 0 ≡ age_at b i
age-there b i less = get_or-map (λ (d : Destination). d.age) b.regions i none 0 less

ages-long : (b : Buffers) → length (map (λ (d : Destination). d.age) b.regions) ≡ length b.regions
ages-long b = length-map b.regions (λ (d : Destination). d.age)

-- an open region is the last one of its age
pub open-last : (b : Buffers) (age p : ℕ) → open_place b age ≡ Some p → (p < length b.regions) × (age_at b p ≡ age) × ((i : ℕ) → i < length b.regions → age_at b i ≡ age → i ≤ p)
open-last b age p e =
    let last = last-some age (map (λ (d : Destination). d.age) b.regions) p e in
    let within : p < length b.regions = omega (arith, last.0, ages-long b) in (
      within,
      sym (age-there b p within) ∙ last.1,
      λ i less is. last.2 i (omega (arith, less, ages-long b)) (age-there b i less ∙ is),
    )

-- where an age has no open region, it has none
pub open-none : (b : Buffers) (age i : ℕ) → open_place b age ≡ None → i < length b.regions → age_at b i ≡ age → ⊥
open-none b age i e less is =
    last-none age (map (λ (d : Destination). d.age) b.regions) e i (omega (arith, less, ages-long b)) (age-there b i less ∙ is)

-- an age that wants a region for a largest object has full regions alone
pub all-full : (b : Buffers) (age : ℕ) → ArePackedTight b → wants_region b age (largest_of b.shape) ≡ true → (i : ℕ) → i < length b.regions → age_at b i ≡ age
    → b.shape.words < (land_at b i).used + largest_of b.shape
all-full b age tight wanted i less is = by (open_place b age) refl wanted
  where
    full : (p : ℕ) → leb ((land_at b p).used + largest_of b.shape) b.shape.words ≡ false → b.shape.words < (land_at b p).used + largest_of b.shape
    full p e = leb-false ((land_at b p).used + largest_of b.shape) b.shape.words e

    off : (x : Bool) → not x ≡ true → x ≡ false
    off true e = absurd (false≢true e)
    off false e = refl

    by : (o : Option ℕ) → open_place b age ≡ o → not (fits_at b (largest_of b.shape) o) ≡ true → b.shape.words < (land_at b i).used + largest_of b.shape
    by None e wanted = absurd (last-none age (map (λ (d : Destination). d.age) b.regions) e i (omega (arith, less, ages-long b)) (age-there b i less ∙ is))
    by (Some p) e wanted =
        let last = open-last b age p e in
        elim (cases_lt i p) [
          | inl before ↦ tight i p before last.0 (is ∙ sym last.1)
          | inr not_before ↦
              let same : i ≡ p = omega (arith, not_before, last.2 i less is) in
              subst (λ k. b.shape.words < (land_at b k).used + largest_of b.shape) (sym same) (full p (off (leb ((land_at b p).used + largest_of b.shape) b.shape.words) wanted))
        ]

-- No region.

pub IsBuffers-none : (s : Shape) (room : ℕ) → IsBuffers (no_buffers s room)
IsBuffers-none s room = record {
  each = λ place less. absurd (omega (arith, less));
  tight = λ i j before less same. absurd (omega (arith, less));
  reserved = λ r e. absurd (none-some r e);
}

-- A region is added.

module _ (b : Buffers) (age : ℕ) (l : Land) where
  abbrev added : List Destination
  added = b.regions ++ record { age = age; region = l } ∷ []

  added-long : length added ≡ length b.regions + 1
  added-long = length-append b.regions (record { age = age; region = l } ∷ [])

  -- the others stay
  pub before-added : (i : ℕ) → i < length b.regions → destination_at added i ≡ destination_at b.regions i
  before-added i less = get_or_append_left b.regions (record { age = age; region = l } ∷ []) none i less

  -- and it is the last
  pub last-of-added : (i : ℕ) → i ≡ length b.regions → destination_at added i ≡ record { age = age; region = l }
  last-of-added i same =
      get_or-append_right b.regions (record { age = age; region = l } ∷ []) (length b.regions) i none refl (omega (arith, same))
      ∙ ap (λ k. get_or (record { age = age; region = l } ∷ []) k none) front
    where
      front : i - length b.regions ≡ 0
      front = omega (arith, same)

  -- it is the open one, and has room for as many words as a region has
  pub open-added : open_place (with_region b age l) age ≡ Some (length b.regions)
  open-added =
      ap (last_place age) (map-append (λ (d : Destination). d.age) b.regions (record { age = age; region = l } ∷ []))
      ∙ (last-added age (map (λ (d : Destination). d.age) b.regions) age
      ∙ (ap (λ here. cond here (Some (length (map (λ (d : Destination). d.age) b.regions))) (open_place b age)) (eq-eqb age age refl)
      ∙ ap (λ n. Some n) (ages-long b)))

  pub room-added : l.used ≡ 0 → (words : ℕ) → words ≤ b.shape.words → wants_region (with_region b age l) age words ≡ false
  room-added none words few =
      ap (λ o. not (fits_at (with_region b age l) words o)) open-added
      ∙ ap not (le-leb ((land_at (with_region b age l) (length b.regions)).used + words) b.shape.words
      (omega (arith, few, none, ap (λ (d : Destination). d.region.used) (last-of-added (length b.regions) refl))))

  pub IsBuffers-added : IsBuffers b → IsDestination b.shape (record { age = age; region = l }) → wants_region b age (largest_of b.shape) ≡ true → IsBuffers (with_region b age l)
  IsBuffers-added is fresh wanted = record { each = each; tight = tight; reserved = reserved }
    where
      each : (place : ℕ) → place < length added → IsDestination b.shape (destination_at added place)
      each place less = elim (cases_lt place (length b.regions)) [
        | inl old ↦ subst (IsDestination b.shape) (sym (before-added place old)) (is.each place old)
        | inr new ↦ subst (IsDestination b.shape) (sym (last-of-added place (omega (arith, new, less, added-long)))) fresh
      ]

      tight : (i j : ℕ) → i < j → j < length added → (destination_at added i).age ≡ (destination_at added j).age
          → b.shape.words < (destination_at added i).region.used + largest_of b.shape
      tight i j before less same =
          let old : i < length b.regions = omega (arith, before, less, added-long) in
          let stays = before-added i old in
          let age_stays : (destination_at b.regions i).age ≡ (destination_at added j).age = ap (λ (d : Destination). d.age) (sym stays) ∙ same in
          let full : b.shape.words < (land_at b i).used + largest_of b.shape = elim (cases_lt j (length b.regions)) [
            | inl inside ↦ is.tight i j before inside (age_stays ∙ ap (λ (d : Destination). d.age) (before-added j inside))
            | inr last ↦ all-full b age is.tight wanted i old
                (age_stays ∙ ap (λ (d : Destination). d.age) (last-of-added j (omega (arith, last, less, added-long))))
          ] in
          subst (λ (d : Destination). b.shape.words < d.region.used + largest_of b.shape) (sym stays) full

      reserved : (r : Reservation) → b.reserved ≡ Some r → MayReserve (with_region b age l) r
      reserved r e =
          let may = is.reserved r e in (
            omega (arith, may.0, added-long),
            subst (λ (d : Destination). d.region.used + r.words ≤ b.shape.words) (sym (before-added r.place may.0)) may.1,
          )

-- An object is placed where words were reserved for it.

module _ (b : Buffers) (p : ℕ) (object : List ℕ) where
  abbrev there : Destination
  there = destination_at b.regions p

  abbrev filled : List Destination
  filled = placed_in b.regions p object

  -- that region has it
  pub filled-there : p < length b.regions → destination_at filled p ≡ record there { region = with_object there.region object }
  filled-there less = get_or-set_same b.regions p (record there { region = with_object there.region object }) none less

  -- and the others stay
  pub filled-other : (i : ℕ) → (i ≡ p → ⊥) → destination_at filled i ≡ destination_at b.regions i
  filled-other i other = get_or-set_other b.regions p i (record there { region = with_object there.region object }) none other

  filled-long : length filled ≡ length b.regions
  filled-long = length-set b.regions p (record there { region = with_object there.region object })

  -- no region has another age, and none is less full
  pub age-kept : (i : ℕ) → p < length b.regions → (destination_at filled i).age ≡ age_at b i
  age-kept i less = elim (same-or i p) [
    | inl same ↦ ap (λ k. (destination_at filled k).age) same ∙ (ap (λ (d : Destination). d.age) (filled-there less) ∙ ap (λ k. age_at b k) (sym same))
    | inr other ↦ ap (λ (d : Destination). d.age) (filled-other i other)
  ]

  used-grown : (i : ℕ) → p < length b.regions → (land_at b i).used ≤ (destination_at filled i).region.used
  used-grown i less = elim (same-or i p) [
    | inl same ↦
        subst (λ k. (land_at b k).used ≤ (destination_at filled k).region.used) (sym same)
        (subst (λ (d : Destination). there.region.used ≤ d.region.used) (sym (filled-there less)) (omega arith))
    | inr other ↦ subst (λ (d : Destination). (land_at b i).used ≤ d.region.used) (sym (filled-other i other)) (omega arith)
  ]

  pub IsBuffers-filled : IsBuffers b → p < length b.regions → there.region.used + length object ≤ b.shape.words → IsObject b.shape.words object
      → IsBuffers (record b { regions = filled; reserved = None })
  IsBuffers-filled is less fits object_is = record { each = each; tight = tight; reserved = λ r e. absurd (none-some r e) }
    where
      old : IsDestination b.shape there
      old = is.each p less

      more : IsDestination b.shape (record there { region = with_object there.region object })
      more =
          let within : there.region.used + length object ≤ length there.region.words = omega (arith, fits, old.words) in
          let is_object = subst (λ n. IsObject n object) (sym old.words) object_is in
          record {
            age = old.age;
            number = old.number;
            words = length-overwrite there.region.words there.region.used object within ∙ old.words;
            land = IsLand-placed there.region object old.land is_object within;
            no_gaps = no_gaps-placed there.region object old.land is_object within old.no_gaps;
          }

      each : (i : ℕ) → i < length filled → IsDestination b.shape (destination_at filled i)
      each i inside = elim (same-or i p) [
        | inl same ↦
            subst (λ k. IsDestination b.shape (destination_at filled k)) (sym same) (subst (IsDestination b.shape) (sym (filled-there less)) more)
        | inr other ↦ subst (IsDestination b.shape) (sym (filled-other i other)) (is.each i (omega (arith, inside, filled-long)))
      ]

      tight : (i j : ℕ) → i < j → j < length filled → (destination_at filled i).age ≡ (destination_at filled j).age
          → b.shape.words < (destination_at filled i).region.used + largest_of b.shape
      tight i j before inside same =
          let full = is.tight i j before (omega (arith, inside, filled-long)) (sym (age-kept i less) ∙ (same ∙ age-kept j less)) in
          omega (arith, full, used-grown i less)

  -- so each age keeps its open region
  pub open-filled : (age : ℕ) → p < length b.regions → open_place (record b { regions = filled; reserved = None }) age ≡ open_place b age
  open-filled age less =
      ap (last_place age) (map-set_same (λ (d : Destination). d.age) b.regions p (record there { region = with_object there.region object }) none refl)

-- The first region leaves.

pub IsBuffers-left : (b : Buffers) (d : Destination) (rest : List Destination) → IsBuffers b → b.regions ≡ d ∷ rest → b.reserved ≡ None
    → IsBuffers (record b { regions = rest })
IsBuffers-left b d rest is e idle =
    let all : IsBuffers (record b { regions = d ∷ rest }) = subst (λ (ds : List Destination). IsBuffers (record b { regions = ds })) e is in
    record {
      each = λ place less. all.each (suc place) (omega (arith, less));
      tight = λ i j before less same. all.tight (suc i) (suc j) (omega (arith, before)) (omega (arith, less)) same;
      reserved = λ r some. absurd (none-some r (sym idle ∙ some));
    }
