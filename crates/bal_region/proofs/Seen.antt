-- A region's objects, as their words and offsets say.
use Rattle.std.proofs.Common.{◌≡◌, ℕ, ◌+◌, ◌<◌, ◌≤◌, ◌⊎◌, inl, inr, Bool, true, false, cond, eqb, List, [], ◌∷◌, length, take, drop, set, get_or, Option, Some, None, refl, ap, sym, subst, ◌∙◌, arith, length-take, length-drop, length-set, get_or-set_other}
use Rattle.std.specs.Prelude.{◌↔◌, IfSome, IsSome, IsTrue, nat_le, slice_set}
use Rattle.std.specs.List.{find, list_any}
use Rattle.std.proofs.Math.Seq.{take-set-lt}
use Rattle.std.proofs.lemmas.Bool.{cases_order, false≢true}
use Rattle.std.proofs.lemmas.Bool.Decides.{nat_tests}
use Rattle.std.proofs.lemmas.List.{drop-set-add, get_or-drop, get_or-take}
use Rattle.std.proofs.lemmas.Option.{none-some, same_Some}
use Rattle.bal_base.specs.Bits.{IsNextFrom}
use Rattle.bal_layout.specs.declared.header.Header.{Header}
use Rattle.bal_layout.specs.Header.{header_of, size_in}
use Rattle.bal_words.specs.Pieces.{header_in}
use Rattle.bal_words.specs.Things.{Updated}
use Rattle.bal_region.specs.Changes.{blank_words, with_word}
use Rattle.bal_region.specs.Land.{IsBehindHeaders, IsLand, IsObject, Laid, Land, covers, first_from, header_at, holder_of, object_at, object_in, size_at, size_by, starts_at}
use Rattle.bal_region.proofs.Changed.{object-unwritten}
use Rattle.bal_region.proofs.Finds.{covers-inside, covers-not_before, covers-not_behind, holder-here, le-from}
use Rattle.bal_region.proofs.Lands.{among-cases, among-first, among-later, header-same, laid-apart, laid-each, size-same, size-two, size_by-two}
use Rattle.bal_region.proofs.Lists.{length-blank}
use Rattle.bal_region.proofs.Regions.{among-at}

-- where an object is seen, one starts, and it has those words
pub object-starts : (l : Land) (at : ℕ) (object : List ℕ) → object_at l at ≡ Some object → (starts_at l at ≡ true) × (object_in l.words at ≡ object)
object-starts l at object is = by (starts_at l at) refl is
  where
    by : (b : Bool) → starts_at l at ≡ b → cond b (Some (object_in l.words at)) None ≡ Some object → (starts_at l at ≡ true) × (object_in l.words at ≡ object)
    by true starts is = (starts, same_Some (object_in l.words at) object is)
    by false starts is = absurd (none-some object is)

-- and where one starts, it is seen
pub object-there : (l : Land) (at : ℕ) → starts_at l at ≡ true → object_at l at ≡ Some (object_in l.words at)
object-there l at starts = ap (λ b. cond b (Some (object_in l.words at)) None) starts

-- a part begins with the header that stands there
pub header-seen : (words : List ℕ) (at size : ℕ) → 2 ≤ size → header_in (take size (drop at words)) ≡ header_at words at
header-seen words at size two =
    let here : at + 0 ≡ at = omega arith in
    let first = get_or-take size (drop at words) 0 0 (omega (arith, two)) ∙ (get_or-drop at words 0 0 ∙ ap (λ i. get_or words i 0) here) in
    let second = get_or-take size (drop at words) 1 0 (omega (arith, two)) ∙ get_or-drop at words 1 0 in
    ap (λ w. header_of w (get_or (take size (drop at words)) 1 0)) first ∙ ap (header_of (get_or words at 0)) second

module _ (l : Land) (at : ℕ) (land : IsLand l) where
  pub length-object : starts_at l at ≡ true → length (object_in l.words at) ≡ size_at l.words at
  length-object starts =
      let each = laid-each l.words 0 l.starts l.used at land.laid starts in
      omega (arith, each.2, land.within, length-take (size_at l.words at) (drop at l.words), length-drop at l.words)

  pub object-ends : starts_at l at ≡ true → at + size_at l.words at ≤ l.used
  object-ends starts = (laid-each l.words 0 l.starts l.used at land.laid starts).2

  pub IsObject-seen : starts_at l at ≡ true → IsObject (length l.words) (object_in l.words at)
  unfolding size_at
  IsObject-seen starts =
      let each = laid-each l.words 0 l.starts l.used at land.laid starts in
      let header = header-seen l.words at (size_at l.words at) (size-two l.words at each.1) in
      record {
        header = subst IsSome (sym header) each.1;
        size = ap (size_by (length l.words)) header ∙ sym (length-object starts);
      }

  pub object-seen : (object : List ℕ) → object_at l at ≡ Some object → IsTrue (starts_at l at) × IsObject (length l.words) object × (at + length object ≤ l.used)
  object-seen object is =
      let seen = object-starts l at object is in
      let each = laid-each l.words 0 l.starts l.used at land.laid seen.0 in
      let long = length-object seen.0 in
      (seen.0, subst (IsObject (length l.words)) seen.1 (IsObject-seen seen.0), subst (λ (o : List ℕ). at + length o ≤ l.used) seen.1 (omega (arith, each.2, long)))

  -- an object's size is the number of its words
  pub size-seen : (object : List ℕ) → object_at l at ≡ Some object → size_at l.words at ≡ length object
  size-seen object is =
      let seen = object-starts l at object is in
      sym (length-object seen.0) ∙ ap (λ (o : List ℕ). length o) seen.1

pub objects-apart : (l : Land) (a b : ℕ) (object other : List ℕ) → IsLand l → object_at l a ≡ Some object → object_at l b ≡ Some other → a < b → a + length object ≤ b
objects-apart l a b object other land one two less =
    omega (arith, size-seen l a land object one, laid-apart l.words 0 l.starts l.used a b land.laid (object-starts l a object one).0 (object-starts l b other two).0 less)

-- what is found is in the list and passes the test
pub find-some : (p : ℕ → Bool) (xs : List ℕ) (s : ℕ) → find p xs ≡ Some s → (list_any (λ t. eqb t s) xs ≡ true) × (p s ≡ true)
find-some p [] s is = absurd (none-some s is)
find-some p (x ∷ xs) s is = by (λ later. find-some p xs s later) (p x) refl is
  where
    by : (find p xs ≡ Some s → (list_any (λ t. eqb t s) xs ≡ true) × (p s ≡ true)) → (b : Bool) → p x ≡ b → cond b (Some x) (find p xs) ≡ Some s
        → (list_any (λ t. eqb t s) (x ∷ xs) ≡ true) × (p s ≡ true)
    by rest true passes is =
        let same = same_Some x s is in
        (subst (λ y. list_any (λ t. eqb t y) (x ∷ xs) ≡ true) same (among-first x xs), subst (λ y. p y ≡ true) same passes)
    by rest false fails is = let later = rest is in (among-later x s xs later.0, later.1)

-- where nothing is found, nothing in the list passes
pub find-none_each : (p : ℕ → Bool) (xs : List ℕ) (s : ℕ) → find p xs ≡ None → list_any (λ t. eqb t s) xs ≡ true → p s ≡ false
find-none_each p [] s none among = absurd (false≢true among)
find-none_each p (x ∷ xs) s none among = by (λ rest later. find-none_each p xs s rest later) (p x) refl none
  where
    by : (find p xs ≡ None → list_any (λ t. eqb t s) xs ≡ true → p s ≡ false) → (b : Bool) → p x ≡ b → cond b (Some x) (find p xs) ≡ None → p s ≡ false
    by rest true passes none = absurd (none-some x (sym none))
    by rest false fails none = elim (among-cases x s xs among) [ inl here ↦ subst (λ y. p y ≡ false) here fails | inr later ↦ rest none later ]

covers-bounds : (l : Land) (s offset : ℕ) → covers l s offset ≡ true → (s ≤ offset) × (offset < s + size_at l.words s)
covers-bounds l s offset holds = (grind (arith, nat_tests), grind (arith, nat_tests))

-- the holder of an offset has a word there
abbrev pub Holds : Land → ℕ → ℕ → Type 0
Holds l s offset = (object : List ℕ) × ((object_at l s ≡ Some object) × (s ≤ offset) × (offset < s + length object))

pub holder-is : (l : Land) (s offset : ℕ) → IsLand l → (holder_of l offset ≡ Some s) ↔ Holds l s offset
holder-is l s offset land = (there, back)
  where
    there : holder_of l offset ≡ Some s → Holds l s offset
    there is =
        let found = find-some (λ t. covers l t offset) l.starts s is in
        let bounds = covers-bounds l s offset found.1 in
        let long = length-object l s land found.0 in
        (object_in l.words s, (object-there l s found.0, bounds.0, omega (arith, bounds.1, long)))

    back : Holds l s offset → holder_of l offset ≡ Some s
    back (object, (is, from, to)) =
        let found = among-at s l.starts (object-starts l s object is).0 in
        let size = size-seen l s land object is in
        let end : offset < get_or l.starts found.0 0 + size_at l.words (get_or l.starts found.0 0) =
        subst (λ t. offset < t + size_at l.words t) (sym found.1.1) (omega (arith, to, size)) in
        holder-here l land found.0 offset found.1.0 (omega (arith, found.1.1, from)) end ∙ ap Some found.1.1

pub holder-none_each : (l : Land) (s offset : ℕ) (object : List ℕ) → IsLand l → holder_of l offset ≡ None → object_at l s ≡ Some object → (offset < s) ⊎ (s + length object ≤ offset)
holder-none_each l s offset object land none is = elim (cases_order offset s) [
  | inl same ↦ inr (by (omega (arith, same)))
  | inr other ↦ elim other [ inl less ↦ inl less | inr more ↦ inr (by (omega (arith, more))) ]
]
  where
    apart : covers l s offset ≡ false
    apart = find-none_each (λ t. covers l t offset) l.starts s none (object-starts l s object is).0

    by : s ≤ offset → s + length object ≤ offset
    by from = elim (cases_order offset (s + length object)) [
      | inl same ↦ omega (arith, same)
      | inr other ↦ elim other [
        | inl less ↦ absurd (false≢true (sym apart ∙ covers-inside l s offset from (omega (arith, less, size-seen l s land object is))))
        | inr more ↦ omega (arith, more)
      ]
    ]

-- the first start from an offset on is the least
find-least : (words : List ℕ) (from : ℕ) (ss : List ℕ) (end offset s t : ℕ) → Laid words from ss end → find (λ u. nat_le offset u) ss ≡ Some s
    → list_any (λ u. eqb u t) ss ≡ true → offset ≤ t → s ≤ t
find-least words from [] end offset s t laid is among le = absurd (none-some s is)
find-least words from (x ∷ xs) end offset s t laid is among le =
    by (λ rest later. find-least words (x + size_at words x) xs end offset s t laid.2 rest later le) (nat_le offset x) refl is (among-cases x t xs among)
  where
    by : (find (λ u. nat_le offset u) xs ≡ Some s → list_any (λ u. eqb u t) xs ≡ true → s ≤ t) → (b : Bool) → nat_le offset x ≡ b
        → cond b (Some x) (find (λ u. nat_le offset u) xs) ≡ Some s → (x ≡ t) ⊎ (list_any (λ u. eqb u t) xs ≡ true) → s ≤ t
    by rest true passes is (inl here) = omega (arith, same_Some x s is, here)
    by rest true passes is (inr later) = omega (arith, same_Some x s is, (laid-each words (x + size_at words x) xs end t laid.2 later).0)
    by rest false fails is (inl here) = absurd (grind (arith, nat_tests, here, fails, le))
    by rest false fails is (inr later) = rest is later

abbrev pub IsFirst : Land → ℕ → ℕ → Type 0
IsFirst l offset s = IsTrue (starts_at l s) × (offset ≤ s) × ((t : ℕ) → IsTrue (starts_at l t) → offset ≤ t → s ≤ t)

lt-from : (a b : ℕ) → nat_le a b ≡ false → b < a
lt-from a b h = grind (arith, nat_tests)

pub first-is : (l : Land) (offset s : ℕ) → IsLand l → (first_from l offset ≡ Some s) ↔ IsFirst l offset s
first-is l offset s land = (there s, back)
  where
    there : (u : ℕ) → first_from l offset ≡ Some u → IsFirst l offset u
    there u is =
        let found = find-some (λ t. nat_le offset t) l.starts u is in
        (found.0, le-from offset u found.1, λ t starts le. find-least l.words 0 l.starts l.used offset u t land.laid is starts le)

    by : (o : Option ℕ) → first_from l offset ≡ o → IsFirst l offset s → first_from l offset ≡ Some s
    by None none first = absurd (omega (arith, first.1, lt-from offset s (find-none_each (λ t. nat_le offset t) l.starts s none first.0)))
    by (Some u) is first =
        let other = there u is in
        is ∙ ap Some (omega (arith, first.2 u other.0 other.1, other.2 s first.0 first.1))

    back : IsFirst l offset s → first_from l offset ≡ Some s
    back first = by (first_from l offset) refl first

-- so the least member from there on is found
pub first-next : (l : Land) (offset : ℕ) (o : Option ℕ) → IsLand l → IsNextFrom l.starts offset o → o ≡ first_from l offset
first-next l offset (Some s) land next = sym ((first-is l offset s land).1 next)
first-next l offset None land next = by (first_from l offset) refl
  where
    by : (o : Option ℕ) → first_from l offset ≡ o → None ≡ first_from l offset
    by None none = sym none
    by (Some s) is =
        let first = (first-is l offset s land).0 is in
        absurd (omega (arith, first.1, next s first.0))

pub first-none : (l : Land) (offset s : ℕ) → first_from l offset ≡ None → IsTrue (starts_at l s) → s < offset
first-none l offset s none starts = lt-from offset s (find-none_each (λ t. nat_le offset t) l.starts s none starts)

-- a new object's words
pub size-header : (room : ℕ) (h : Header) → 2 ≤ size_in room h
size-header room h = size_by-two room (Some h) refl

pub IsObject-blank : (room first second words : ℕ) (h : Header) → header_of first second ≡ Some h → size_in room h ≡ words → IsObject room (blank_words first second words)
IsObject-blank room first second words h is size =
    let two : 2 ≤ words = omega (arith, size-header room h, size) in
    record {
      header = subst IsSome (sym is) refl;
      size = ap (size_by room) is ∙ (size ∙ sym (length-blank first second words two));
    }

-- A word is written in an object.

module _ (l : Land) (s k : ℕ) (object : List ℕ) (land : IsLand l) (is : object_at l s ≡ Some object) (two : 2 ≤ k) (within : k < length object) where
  starts : starts_at l s ≡ true
  starts = (object-starts l s object is).0

  size : size_at l.words s ≡ length object
  size = size-seen l s land object is

  -- each other object ends before this one or starts after it
  beside : (t : ℕ) → starts_at l t ≡ true → (t ≡ s → ⊥) → (t + size_at l.words t ≤ s) ⊎ (s + length object ≤ t)
  beside t among apart = elim (cases_order t s) [
    | inl same ↦ absurd (apart same)
    | inr other ↦ elim other [
      | inl less ↦ inl (laid-apart l.words 0 l.starts l.used t s land.laid among starts less)
      | inr more ↦ inr (omega (arith, size, laid-apart l.words 0 l.starts l.used s t land.laid starts among more))
    ]
  ]

  pub IsBehindHeaders-inside : IsBehindHeaders l (s + k)
  IsBehindHeaders-inside t among = (λ e. by t among (omega (arith, e)) (omega (arith, e)), λ e. by t among (omega (arith, e)) (omega (arith, e)))
    where
      by : (t : ℕ) → starts_at l t ≡ true → t ≤ s + k → s + k ≤ t + 1 → ⊥
      by t among low high = elim (cases_order t s) [
        | inl same ↦ omega (arith, same, high, two)
        | inr other ↦ elim other [
          | inl less ↦ omega (arith, less, high, two)
          | inr more ↦ omega (arith, low, within, size, laid-apart l.words 0 l.starts l.used s t land.laid starts among more)
        ]
      ]

  pub object-written : (word : ℕ) → Updated (object_at l) (object_at (with_word l (s + k) word)) s (Some (slice_set object k word))
  object-written word = record { here = here; elsewhere = elsewhere }
    where
      behind : header_at (set l.words (s + k) word) s ≡ header_at l.words s
      behind = header-same (set l.words (s + k) word) l.words s
          (get_or-set_other l.words (s + k) s word 0 (λ e. omega (arith, e, two)))
          (get_or-set_other l.words (s + k) (s + 1) word 0 (λ e. omega (arith, e, two)))

      here : object_at (with_word l (s + k) word) s ≡ Some (set object k word)
      here = ap (λ b. cond b (Some (object_in (set l.words (s + k) word) s)) None) starts
          ∙ ap Some (ap (λ n. take n (drop s (set l.words (s + k) word))) (size-same (set l.words (s + k) word) l.words s (length-set l.words (s + k) word) behind)
          ∙ (ap (take (size_at l.words s)) (drop-set-add s l.words k word)
          ∙ (take-set-lt (size_at l.words s) (drop s l.words) k word (omega (arith, within, size))
          ∙ ap (λ (o : List ℕ). set o k word) (object-starts l s object is).1)))

      elsewhere : (other : ℕ) → (other ≡ s → ⊥) → object_at (with_word l (s + k) word) other ≡ object_at l other
      elsewhere other apart = object-unwritten l (s + k) word land other
          (λ among. elim (beside other among apart) [
            | inl before ↦ covers-not_behind l other (s + k) (omega (arith, before))
            | inr after ↦ covers-not_before l other (s + k) (omega (arith, after, within))
          ])

pub object-outside : (l : Land) (offset word at : ℕ) → IsLand l → holder_of l offset ≡ None → object_at (with_word l offset word) at ≡ object_at l at
object-outside l offset word at land none = object-unwritten l offset word land at (λ starts. find-none_each (λ t. covers l t offset) l.starts at none starts)

pub IsBehindHeaders-free : (l : Land) (offset : ℕ) → IsLand l → holder_of l offset ≡ None → IsBehindHeaders l offset
IsBehindHeaders-free l offset land none s among =
    let each = laid-each l.words 0 l.starts l.used s land.laid among in
    let two = size-two l.words s each.1 in
    let apart : covers l s offset ≡ false = find-none_each (λ t. covers l t offset) l.starts s none among in (
      λ e. false≢true (sym apart ∙ covers-inside l s offset (omega (arith, e)) (omega (arith, e, two))),
      λ e. false≢true (sym apart ∙ covers-inside l s offset (omega (arith, e)) (omega (arith, e, two))),
    )

-- whatever is found is a start on the side of the offset on which it was looked for
pub first-starts : (l : Land) (offset : ℕ) (r : Option ℕ) → r ≡ first_from l offset → IfSome r (λ s. IsTrue (starts_at l s)) × IfSome r (λ s. offset ≤ s)
first-starts l offset None is = (tt, tt)
first-starts l offset (Some s) is =
    let found = find-some (λ t. nat_le offset t) l.starts s (sym is) in
    (found.0, le-from offset s found.1)

pub holder-starts : (l : Land) (offset : ℕ) (r : Option ℕ) → r ≡ holder_of l offset → IfSome r (λ s. IsTrue (starts_at l s)) × IfSome r (λ s. s ≤ offset)
holder-starts l offset None is = (tt, tt)
holder-starts l offset (Some s) is =
    let found = find-some (λ t. covers l t offset) l.starts s (sym is) in
    (found.0, (covers-bounds l s offset found.1).0)
