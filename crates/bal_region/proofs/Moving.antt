-- What is known of a region by the way in which it is kept, once one of its objects is moved or it is cut short.
use Rattle.std.proofs.Common.{◌≡◌, ℕ, ◌+◌, ◌<◌, ◌≤◌, ◌-◌, ◌^◌, List, length, take, drop, Some, refl, ap, sym, subst, ◌∙◌, arith}
use Rattle.std.specs.Prelude.{vec_capacity}
use Rattle.std.proofs.Math.Seq.{paste}
use Rattle.bal_base.specs.Bits.{IsLastTo, with_member, without_member}
use Rattle.bal_base.specs.Filling.{padded}
use Rattle.bal_base.proofs.Lemmas.{part-padded}
use Rattle.bal_region.specs.Changes.{MaySlide, cut_short, end_of, overwrite, with_slid}
use Rattle.bal_region.specs.Land.{IsLand, Land, header_at, object_in, size_at, size_by}
use Rattle.bal_region.specs.Region.{IsRegion, land_of}
use Rattle.bal_region.specs.declared.region.Region.TheInside.{Inside}
use Rattle.bal_region.proofs.Ends.{IsLand-cut, cut-less, end-found}
use Rattle.bal_region.proofs.Lists.{copied-overwrite, length-overwrite}
use Rattle.bal_region.proofs.Padded.{padded-overwrite}
use Rattle.bal_region.proofs.Regions.{IsRegion-kept, land-is, object-within, size-read}
use Rattle.bal_region.proofs.Seen.{length-object}
use Rattle.bal_region.proofs.Slid.{IsLand-slid}
use Rattle.bal_region.proofs.SlidStarts.{starts-slid}

-- An object is moved down.
module _ (a : Inside) (r : IsRegion a) (from to : ℕ) (may : MaySlide (land_of a) from to) where
  abbrev object : List ℕ
  object = object_in (land_of a).words from

  -- both places lie among the words that were written
  fits : to + length object ≤ length a.words.items
  fits = omega (arith, may.down, length-object (land_of a) from r.land may.start, (object-within a from r may.start).1)

  -- the words that are copied are the object's
  pub words-slid : (size : ℕ) (words : List ℕ) → size ≡ size_at (land_of a).words from
      → words ≡ paste a.words.items to (drop from a.words.items) (from + size - from) → words ≡ overwrite a.words.items to (object_in (land_of a).words from)
  words-slid size words is copied =
      let within = (object-within a from r may.start).1 in
      copied
      ∙ (copied-overwrite a.words.items from size to (omega (arith, is, within))
      ∙ ap (overwrite a.words.items to) (ap (λ n. take n (drop from a.words.items)) is ∙ sym (part-padded a.room a.words.items from (size_at (land_of a).words from) within)))

  -- a place for the new start
  pub room-slid : to < a.starts.room
  room-slid = omega (arith, may.down, r.starts, r.within, object-within a from r may.start)

  pub land-slid : (words starts : List ℕ) → words ≡ overwrite a.words.items to (object_in (land_of a).words from)
      → starts ≡ with_member to (without_member from a.starts.members)
      → record { number = a.number; words = padded a.room words; starts = starts; used = a.used } ≡ with_slid (land_of a) from to
  land-slid words starts written moved =
      land-is (record { number = a.number; words = padded a.room words; starts = starts; used = a.used }) (with_slid (land_of a) from to) refl
      (ap (padded a.room) written ∙ padded-overwrite a.room a.words.items to object fits)
      (moved ∙ starts-slid from to (land_of a).words may.down 0 a.starts.members a.used r.land.laid may.start may.clear) refl

  pub IsRegion-slid : (b : Inside) → land_of b ≡ with_slid (land_of a) from to → b.room ≡ a.room → b.used ≡ a.used → vec_capacity a.words ≤ vec_capacity b.words
      → a.starts.room ≤ b.starts.room → b.words.items ≡ overwrite a.words.items to (object_in (land_of a).words from) → IsRegion b
  IsRegion-slid b land room used words starts written =
      let long = ap (λ (ws : List ℕ). length ws) written ∙ length-overwrite a.words.items to object fits in
      IsRegion-kept a b r (subst IsLand (sym land) (IsLand-slid (land_of a) from to r.land may)) room (omega (arith, used, long, r.written)) (omega (arith, long, r.within)) words starts

-- It is cut short.
module _ (a : Inside) (r : IsRegion a) where
  -- the last object ends among the words that were written
  pub last-within : (start : ℕ) → IsLastTo a.starts.members a.used (Some start)
      → (2 ≤ size_at (land_of a).words start) × (start + size_at (land_of a).words start ≤ length a.words.items) × (length a.words.items < 2 ^ 32)
  last-within start last = let found = object-within a start r last.0 in (found.0, found.1, omega (arith, r.within, r.few))

  -- and what is given out ends there
  pub used-cut : (start size used : ℕ) (seen : List ℕ) → IsLastTo a.starts.members a.used (Some start) → seen ≡ a.words.items → size ≡ size_by a.room (header_at seen start)
      → used ≡ start + size → used ≡ end_of (land_of a).words 0 a.starts.members
  used-cut start size used seen last same sized is =
      is ∙ (ap (λ n. start + n) (sized ∙ size-read a start seen r same) ∙ end-found (land_of a) r.land start last)

  pub land-cut : (used : ℕ) → used ≡ end_of (land_of a).words 0 a.starts.members
      → record { number = a.number; words = padded a.room a.words.items; starts = a.starts.members; used = used } ≡ cut_short (land_of a)
  land-cut used is = ap (λ n. record { number = a.number; words = padded a.room a.words.items; starts = a.starts.members; used = n }) is

  pub IsRegion-cut : (b : Inside) → land_of b ≡ cut_short (land_of a) → b.room ≡ a.room → b.words.items ≡ a.words.items → vec_capacity a.words ≤ vec_capacity b.words
      → a.starts.room ≤ b.starts.room → IsRegion b
  IsRegion-cut b land room items words starts =
      let long = ap (λ (ws : List ℕ). length ws) items in
      let used = ap (λ (l : Land). l.used) land in
      IsRegion-kept a b r (subst IsLand (sym land) (IsLand-cut (land_of a) r.land)) room
      (omega (arith, used, long, r.written, cut-less (land_of a) r.land)) (omega (arith, long, r.within)) words starts
