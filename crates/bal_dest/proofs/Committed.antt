-- What a commit does to objects.
use Rattle.std.proofs.Common.{◌≡◌, ℕ, ◌+◌, ◌<◌, ◌≤◌, List, length, Option, Some, None, refl, ap, sym, subst, ◌∙◌, arith}
use Rattle.bal_region.specs.Changes.{with_object}
use Rattle.bal_region.specs.Land.{IsObject, Land, object_at}
use Rattle.bal_region.proofs.Lemmas.{none-at_used, object-placed}
use Rattle.bal_dest.specs.Buffers.{Buffers, IsBuffers, IsDestination, age_at, destination_at, land_at, placed_by, with_copy}
use Rattle.bal_dest.specs.declared.buffers.Destination.{Destination}
use Rattle.bal_dest.specs.declared.buffers.Reservation.{Reservation}
use Rattle.bal_dest.proofs.Packed.{age-kept, filled-other, filled-there}

module _ (b : Buffers) (r : Reservation) (e : b.reserved ≡ Some r) where
  -- the regions after it
  opened : (object : List ℕ) (place : ℕ) → destination_at (with_copy b object).regions place ≡ destination_at (placed_by b.regions (Some r) object) place
  opened object place = ap (λ (o : Option Reservation). destination_at (placed_by b.regions o object) place) e

  pub other-place : (object : List ℕ) (place : ℕ) → (place ≡ r.place → ⊥) → land_at (with_copy b object) place ≡ land_at b place
  other-place object place other = ap (λ (d : Destination). d.region) (opened object place ∙ filled-other b r.place object place other)

  module _ (is : IsBuffers b) where
    inside : r.place < length b.regions
    inside = (is.reserved r e).0

    there : IsDestination b.shape (destination_at b.regions r.place)
    there = is.each r.place inside

    pub free-before : object_at (land_at b r.place) (land_at b r.place).used ≡ None
    free-before = none-at_used (land_at b r.place) there.land

    pub land-after : (object : List ℕ) → land_at (with_copy b object) r.place ≡ with_object (land_at b r.place) object
    land-after object = ap (λ (d : Destination). d.region) (opened object r.place ∙ filled-there b r.place object inside)

    pub used-after : (object : List ℕ) → (land_at (with_copy b object) r.place).used ≡ (land_at b r.place).used + length object
    used-after object = ap (λ (l : Land). l.used) (land-after object)

    pub age-after : (object : List ℕ) (place : ℕ) → age_at (with_copy b object) place ≡ age_at b place
    age-after object place = ap (λ (d : Destination). d.age) (opened object place) ∙ age-kept b r.place object place inside

    module _ (object : List ℕ) (words : r.words ≡ length object) (object_is : IsObject b.shape.words object) where
      is_object : IsObject (length (land_at b r.place).words) object
      is_object = subst (λ n. IsObject n object) (sym there.words) object_is

      fits : (land_at b r.place).used + length object ≤ length (land_at b r.place).words
      fits = omega (arith, (is.reserved r e).1, words, there.words)

      pub placed-after : object_at (land_at (with_copy b object) r.place) (land_at b r.place).used ≡ Some object
      placed-after =
          ap (λ (l : Land). object_at l (land_at b r.place).used) (land-after object) ∙ (object-placed (land_at b r.place) object there.land is_object fits).here

      pub stays-after : (offset : ℕ) → (offset ≡ (land_at b r.place).used → ⊥) → object_at (land_at (with_copy b object) r.place) offset ≡ object_at (land_at b r.place) offset
      stays-after offset other =
          ap (λ (l : Land). object_at l offset) (land-after object) ∙ (object-placed (land_at b r.place) object there.land is_object fits).elsewhere offset other

-- nothing is reserved: nothing is committed
pub age-always : (b : Buffers) (object : List ℕ) (place : ℕ) → IsBuffers b → age_at (with_copy b object) place ≡ age_at b place
age-always b object place is = by b.reserved refl
  where
    by : (o : Option Reservation) → b.reserved ≡ o → age_at (with_copy b object) place ≡ age_at b place
    by None e = ap (λ (p : Option Reservation). (destination_at (placed_by b.regions p object) place).age) e
    by (Some r) e = age-after b r e is object place
