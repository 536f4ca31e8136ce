-- What is known of a region by the way in which it is kept.
use Rattle.std.proofs.Common.{◌≡◌, ℕ, suc, ◌+◌, ◌-◌, ◌<◌, ◌≤◌, inl, inr, Bool, true, false, eqb, List, [], ◌∷◌, ◌++◌, length, take, drop, set, get_or, replicate, Some, None, refl, ap, sym, subst, ◌∙◌, arith, length-set}
use Rattle.std.specs.Prelude.{vec_capacity}
use Rattle.std.specs.List.{find, list_any}
use Rattle.std.proofs.lemmas.Bool.{cases_lt, cases_order, eq-eqb, false≢true}
use Rattle.std.proofs.lemmas.List.Folds.{list_any_at}
use Rattle.bal_region.specs.Changes.{empty_land, overwrite, with_object, with_word}
use Rattle.bal_region.specs.Land.{IsBehindHeaders, IsLand, IsObject, Land, covers, header_at, holder_of, object_in, size_at, size_by, starts_at}
use Rattle.bal_base.specs.Bits.{IsLastTo, is_member, with_member}
use Rattle.bal_base.proofs.Lemmas.{grown-within, length-grown, length-padded, padded-grown, padded-set, part-padded, with-last}
use Rattle.bal_base.specs.Filling.{grown, padded}
use Rattle.bal_region.specs.Region.{IsRegion, land_of}
use Rattle.bal_region.specs.declared.region.Region.TheInside.{Inside}
use Rattle.bal_region.proofs.Changed.{IsLand-placed, IsLand-written}
use Rattle.bal_region.proofs.Lists.{length-overwrite}
use Rattle.bal_region.proofs.Padded.{padded-overwrite, size-padded}
use Rattle.bal_region.proofs.Finds.{covers-not_before, covers-not_behind, find-none, holder-here}
use Rattle.bal_region.proofs.Lands.{among-cases, laid-apart, laid-each, size-two}

-- regions are one by their fields
pub land-is : (l m : Land) → l.number ≡ m.number → l.words ≡ m.words → l.starts ≡ m.starts → l.used ≡ m.used → l ≡ m
land-is l m number words starts used =
    ap (λ n. record { number = n; words = l.words; starts = l.starts; used = l.used }) number
    ∙ (ap (λ ws. record { number = m.number; words = ws; starts = l.starts; used = l.used }) words
    ∙ (ap (λ ss. record { number = m.number; words = m.words; starts = ss; used = l.used }) starts
    ∙ ap (λ n. record { number = m.number; words = m.words; starts = m.starts; used = n }) used))

-- it has as many words as it has room for
pub region-long : (a : Inside) → IsRegion a → length (land_of a).words ≡ a.room
region-long a r = length-padded a.room a.words.items r.within

-- an empty region has zeros alone
pub land-empty : (number room : ℕ) (words starts : List ℕ) (used : ℕ) → words ≡ [] → starts ≡ [] → used ≡ 0
    → record { number = number; words = padded room words; starts = starts; used = used } ≡ empty_land number room
unfolding grown
land-empty number room words starts used no_word no_start none =
    let all : room - 0 ≡ room = omega arith in
    land-is (record { number = number; words = padded room words; starts = starts; used = used }) (empty_land number room) refl
    (ap (padded room) no_word ∙ ap (λ n. replicate n 0) all) no_start none

-- one start more has its place, after all others
pub room-left : (a : Inside) (size : ℕ) → IsRegion a → 2 ≤ size → a.used + size ≤ length (land_of a).words → a.used < a.starts.room
room-left a size r two fits = omega (arith, r.starts, two, fits, region-long a r)

starts-before : (a : Inside) → IsRegion a → (s : ℕ) → is_member a.starts.members s ≡ true → s < a.used
starts-before a r s among =
    let each = laid-each (land_of a).words 0 a.starts.members a.used s r.land.laid among in
    omega (arith, each.2, size-two (land_of a).words s each.1)

pub starts-more : (a : Inside) (starts : List ℕ) → IsRegion a → starts ≡ with_member a.used a.starts.members → starts ≡ a.starts.members ++ a.used ∷ []
starts-more a starts r is = is ∙ with-last a.used a.starts.members (starts-before a r)

-- a region with as much room
pub IsRegion-kept : (a b : Inside) → IsRegion a → IsLand (land_of b) → b.room ≡ a.room → b.used ≤ length b.words.items → length b.words.items ≤ a.room
    → vec_capacity a.words ≤ vec_capacity b.words → a.starts.room ≤ b.starts.room → IsRegion b
IsRegion-kept a b r land room written within words starts = record {
  land = land;
  few = omega (arith, r.few, room);
  written = written;
  within = omega (arith, within, room);
  words = omega (arith, r.words, room, words);
  starts = omega (arith, r.starts, room, starts);
}

module _ (a : Inside) (r : IsRegion a) where
  -- an object is placed in words that reach to its end
  pub land-placed : (object words starts : List ℕ) (used : ℕ) → a.used + length object ≤ length (land_of a).words
      → words ≡ overwrite (padded (a.used + length object) a.words.items) a.used object → starts ≡ a.starts.members ++ a.used ∷ [] → used ≡ a.used + length object
      → record { number = a.number; words = padded a.room words; starts = starts; used = used } ≡ with_object (land_of a) object
  land-placed object words starts used fits written begun given =
      let end = a.used + length object in
      land-is (record { number = a.number; words = padded a.room words; starts = starts; used = used }) (with_object (land_of a) object) refl
      (ap (padded a.room) written
      ∙ (padded-overwrite a.room (padded end a.words.items) a.used object (length-grown end a.words.items).0
      ∙ ap (λ ws. overwrite ws a.used object) (padded-grown a.room end a.words.items (omega (arith, fits, region-long a r))))) begun given

  -- a word is set in words that reach to it
  pub land-written : (offset word : ℕ) (words : List ℕ) → offset < length (land_of a).words → words ≡ set (padded (offset + 1) a.words.items) offset word
      → record { number = a.number; words = padded a.room words; starts = a.starts.members; used = a.used } ≡ with_word (land_of a) offset word
  land-written offset word words fits written =
      let long = (length-grown (offset + 1) a.words.items).0 in
      land-is (record { number = a.number; words = padded a.room words; starts = a.starts.members; used = a.used }) (with_word (land_of a) offset word) refl
      (ap (padded a.room) written
      ∙ (padded-set a.room (padded (offset + 1) a.words.items) offset word (omega (arith, long))
      ∙ ap (λ ws. set ws offset word) (padded-grown a.room (offset + 1) a.words.items (omega (arith, fits, region-long a r))))) refl refl

  -- words that were grown to an end in the region lie in it
  grown-lies : (b : Inside) (end : ℕ) → end ≤ length (land_of a).words → length b.words.items ≡ length (padded end a.words.items)
      → (length b.words.items ≤ a.room) × (end ≤ length b.words.items) × (a.used ≤ length b.words.items)
  grown-lies b end fits long =
      let grown = length-grown end a.words.items in (
        omega (arith, long, grown-within a.room end a.words.items (omega (arith, fits, region-long a r)) r.within),
        omega (arith, long, grown.0),
        omega (arith, long, grown.1, r.written),
      )

  module _ (b : Inside) (number : b.number ≡ a.number) (room : b.room ≡ a.room) (words_kept : vec_capacity a.words ≤ vec_capacity b.words)
      (starts_kept : a.starts.room ≤ b.starts.room) where
    same : land_of b ≡ record { number = a.number; words = padded a.room b.words.items; starts = b.starts.members; used = b.used }
    same = land-is (land_of b) (record { number = a.number; words = padded a.room b.words.items; starts = b.starts.members; used = b.used })
        number (ap (λ n. padded n b.words.items) room) refl refl

    pub IsRegion-placed : (object : List ℕ) → IsObject (length (land_of a).words) object → a.used + length object ≤ length (land_of a).words
        → b.words.items ≡ overwrite (padded (a.used + length object) a.words.items) a.used object → b.starts.members ≡ a.starts.members ++ a.used ∷ []
        → b.used ≡ a.used + length object → IsRegion b
    IsRegion-placed object is fits words starts used =
        let end = a.used + length object in
        let land = same ∙ land-placed object b.words.items b.starts.members b.used fits words starts used in
        let lies = grown-lies b end fits
        (ap (λ (ws : List ℕ). length ws) words ∙ length-overwrite (padded end a.words.items) a.used object (length-grown end a.words.items).0) in
        IsRegion-kept a b r (subst IsLand (sym land) (IsLand-placed (land_of a) object r.land is fits)) room (omega (arith, used, lies.1)) lies.0 words_kept starts_kept

    pub IsRegion-written : (offset word : ℕ) → IsBehindHeaders (land_of a) offset → offset < length (land_of a).words
        → b.words.items ≡ set (padded (offset + 1) a.words.items) offset word → b.starts.members ≡ a.starts.members → b.used ≡ a.used → IsRegion b
    IsRegion-written offset word behind fits words starts used =
        let land = same
        ∙ (land-is (record { number = a.number; words = padded a.room b.words.items; starts = b.starts.members; used = b.used })
        (record { number = a.number; words = padded a.room b.words.items; starts = a.starts.members; used = a.used }) refl refl starts used
        ∙ land-written offset word b.words.items fits words) in
        let lies = grown-lies b (offset + 1) (omega (arith, fits))
        (ap (λ (ws : List ℕ). length ws) words ∙ length-set (padded (offset + 1) a.words.items) offset word) in
        IsRegion-kept a b r (subst IsLand (sym land) (IsLand-written (land_of a) offset word r.land behind)) room (omega (arith, used, lies.2)) lies.0 words_kept starts_kept

-- the size that is read of an object
pub size-read : (a : Inside) (at : ℕ) (seen : List ℕ) → IsRegion a → seen ≡ a.words.items → size_by a.room (header_at seen at) ≡ size_at (land_of a).words at
size-read a at seen r same = ap (λ ws. size_by a.room (header_at ws at)) same ∙ size-padded a.room a.words.items at r.within

-- an object that starts there lies among the words that were written
pub object-within : (a : Inside) (at : ℕ) → IsRegion a → starts_at (land_of a) at ≡ true
    → (2 ≤ size_at (land_of a).words at) × (at + size_at (land_of a).words at ≤ length a.words.items)
object-within a at r starts =
    let each = laid-each (land_of a).words 0 a.starts.members a.used at r.land.laid starts in
    (size-two (land_of a).words at each.1, omega (arith, each.2, r.written))

-- and its words are read there
pub object-read : (a : Inside) (at : ℕ) (seen : List ℕ) → IsRegion a → starts_at (land_of a) at ≡ true → seen ≡ a.words.items
    → take (at + size_at (land_of a).words at - at) (drop at seen) ≡ object_in (land_of a).words at
object-read a at seen r starts same =
    let size = size_at (land_of a).words at in
    let long : at + size - at ≡ size = omega arith in
    ap (λ n. take n (drop at seen)) long
    ∙ (ap (λ (ws : List ℕ). take size (drop at ws)) same ∙ sym (part-padded a.room a.words.items at size (object-within a at r starts).1))

-- a start is somewhere in the list
pub among-at : (at : ℕ) (ss : List ℕ) → list_any (λ t. eqb t at) ss ≡ true → (k : ℕ) × ((k < length ss) × (get_or ss k 0 ≡ at))
among-at at [] h = absurd (false≢true h)
among-at at (s ∷ ss) h = elim (among-cases s at ss h) [
  | inl here ↦ (0, (omega arith, here))
  | inr later ↦ let found = among-at at ss later in (suc found.0, (omega (arith, found.1.0), found.1.1))
]

-- nothing passes where none of the list does
none-passes : (p : ℕ → Bool) (ss : List ℕ) → ((s : ℕ) → list_any (λ t. eqb t s) ss ≡ true → p s ≡ false) → find p ss ≡ None
none-passes p ss each = find-none p ss (λ k less. each (get_or ss k 0) (list_any_at (λ t. eqb t (get_or ss k 0)) ss k 0 less (eq-eqb (get_or ss k 0) (get_or ss k 0) refl)))

-- what is known of the last start that is not after an offset
pub record IsLast (a : Inside) (offset start : ℕ) : Type 0 where
  pub before : start ≤ offset
  pub two : 2 ≤ size_at (land_of a).words start
  pub within : start + size_at (land_of a).words start ≤ length a.words.items
  pub beyond : start + size_at (land_of a).words start ≤ offset → None ≡ holder_of (land_of a) offset
  pub here : offset < start + size_at (land_of a).words start → Some start ≡ holder_of (land_of a) offset

module _ (a : Inside) (r : IsRegion a) (offset : ℕ) where
  -- no object that starts after an offset has a word there
  pub holder-first : IsLastTo a.starts.members offset None → None ≡ holder_of (land_of a) offset
  holder-first last = sym (none-passes (λ s. covers (land_of a) s offset) a.starts.members (λ s among. covers-not_before (land_of a) s offset (last s among)))

  pub last-start : (start : ℕ) → IsLastTo a.starts.members offset (Some start) → IsLast a offset start
  last-start start last =
      let found = object-within a start r last.0 in
      record { before = last.1; two = found.0; within = found.1; beyond = beyond; here = here }
    where
      beyond : start + size_at (land_of a).words start ≤ offset → None ≡ holder_of (land_of a) offset
      beyond ends = sym (none-passes (λ s. covers (land_of a) s offset) a.starts.members (λ s among. elim (cases_order s start) [
        | inl same ↦ covers-not_behind (land_of a) s offset (subst (λ t. t + size_at (land_of a).words t ≤ offset) (sym same) ends)
        | inr other ↦ elim other [
          | inl less ↦ covers-not_behind (land_of a) s offset
              (omega (arith, ends, laid-apart (land_of a).words 0 a.starts.members a.used s start r.land.laid among last.0 less))
          | inr more ↦ elim (cases_lt offset s) [
            | inl far ↦ covers-not_before (land_of a) s offset far
            | inr near ↦ absurd (omega (arith, more, last.2 s among near))
          ]
        ]
      ]))

      here : offset < start + size_at (land_of a).words start → Some start ≡ holder_of (land_of a) offset
      here to =
          let found = among-at start a.starts.members last.0 in
          let place : get_or a.starts.members found.0 0 ≡ start = found.1.1 in
          sym (holder-here (land_of a) r.land found.0 offset found.1.0 (omega (arith, place, last.1))
          (subst (λ t. offset < t + size_at (land_of a).words t) (sym place) to) ∙ ap Some place)
