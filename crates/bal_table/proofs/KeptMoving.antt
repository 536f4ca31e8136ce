-- How it is kept where moved objects went, at each of the changes.
use Rattle.std.proofs.Common.{◌≡◌, ℕ, zero, suc, ◌+◌, ◌^◌, ◌<◌, ◌≤◌, ◌⊎◌, inl, inr, true, false, List, [], ◌∷◌, ◌++◌, length, length-set, set, get_or, replicate, ext_get_or, Option, None, Some, refl, ap, sym, subst, ◌∙◌, arith}
use Rattle.std.proofs.lemmas.Bool.{cases_eq, cases_lt, false≢true}
use Rattle.std.proofs.lemmas.Cmp.{nat_eq_equiv}
use Rattle.std.proofs.lemmas.List.{get_or-set_other, get_or-set_same, get_or_past, get_or_read, length-replicate}
use Rattle.std.proofs.lemmas.Map.Keys.{IsDistinct-push}
use Rattle.std.proofs.lemmas.Map.Steps.{length-le_from_distinct_below}
use Rattle.std.specs.Prelude.{IfSome, is_some, nat_eq, vec_capacity}
use Rattle.std.specs.List.{IsDistinct}
use Rattle.bal_base.specs.Items.{Seq}
use Rattle.bal_base.specs.Filling.{padded}
use Rattle.bal_base.proofs.Lemmas.{get_or-padded, grown-within, length-grown, length-padded, padded-grown, padded-set}
use Rattle.bal_layout.specs.References.{target_of, word_of}
use Rattle.bal_layout.specs.Regions.{is_in}
use Rattle.bal_table.specs.Moves.{Forwarding, IsForwarding, moved, no_moves, with_move}
use Rattle.bal_table.specs.KeptMoves.{IsKept, forwarding_of}
use Rattle.bal_table.specs.declared.moves.Moves.TheInside.{Inside}
use Rattle.bal_table.proofs.Marking.{in-end, in-end-other, in-other, one-more}
use Rattle.bal_table.proofs.Forwarded.{IsForwarding-more, IsForwarding-none, leads-somewhere, moved-none, moved-others, moved-own, zeros-read}

-- The words.

-- one for each address
pub long : (a : Inside) → IsKept a → length (forwarding_of a).words ≡ a.words
long a kept = length-padded a.words a.table.items kept.within

-- each is read where it was written, or was not
pub read-moved : (a : Inside) (n : ℕ) → target_of (get_or a.table.items n 0) ≡ moved (forwarding_of a) n
read-moved a n = ap target_of (sym (get_or-padded a.words a.table.items n))

pub read-past : (a : Inside) (n : ℕ) → length a.table.items ≤ n → None ≡ moved (forwarding_of a) n
read-past a n past = ap target_of (sym (get_or_past a.table.items n 0 past)) ∙ read-moved a n

-- and is the word of an address, or null
pub word-small : (a : Inside) → IsKept a → (n : ℕ) → get_or a.table.items n 0 ≤ 2 ^ 32
word-small a kept n = by (get_or a.table.items n 0) refl
  where
    by : (word : ℕ) → get_or a.table.items n 0 ≡ word → word ≤ 2 ^ 32
    by zero is = omega arith
    by (suc to) is =
        let few = kept.forwarding.few in
        omega (arith, few, kept.forwarding.within n to (sym (read-moved a n) ∙ ap target_of is))

-- so an object that moved went to an address
pub went-within : (m : Forwarding) (n : ℕ) (to : Option ℕ) → IsForwarding m → to ≡ moved m n → IfSome to (λ t. t < length m.words)
went-within m n None is e = tt
went-within m n (Some t) is e = is.within n t (sym e)

-- a word is written where all before it were
words-set : (room : ℕ) (words : List ℕ) (at word : ℕ) → at < room → padded room (set (padded (at + 1) words) at word) ≡ set (padded room words) at word
words-set room words at word within =
    padded-set room (padded (at + 1) words) at word (omega (arith, (length-grown (at + 1) words).0))
    ∙ ap (λ (ws : List ℕ). set ws at word) (padded-grown room (at + 1) words (omega (arith, within)))

pub word-set : (words grown : List ℕ) (at word to : ℕ) → grown ≡ padded (at + 1) words → word ≡ word_of to → set grown at word ≡ set (padded (at + 1) words) at (word_of to)
word-set words grown at word to grew is = ap (λ (ws : List ℕ). set ws at word) grew ∙ ap (set (padded (at + 1) words) at) is

-- and what stood there is read then
pub word-read : (words grown : List ℕ) (at word : ℕ) → grown ≡ padded (at + 1) words → word ≡ get_or grown at word → word ≡ get_or words at 0
word-read words grown at word grew is =
    get_or_read grown at word (omega (arith, (length-grown (at + 1) words).0, ap (λ (ws : List ℕ). length ws) grew)) is 0
    ∙ (ap (λ (ws : List ℕ). get_or ws at 0) grew ∙ get_or-padded (at + 1) words at)

-- words of which each is null
pub words-null : (room : ℕ) (words : List ℕ) → length words ≤ room → ((n : ℕ) → get_or words n 0 ≡ 0) → padded room words ≡ replicate room 0
words-null room words within null =
    ext_get_or 0 (padded room words) (replicate room 0) (length-padded room words within ∙ sym (length-replicate {A = ℕ} room 0))
    (λ i _. get_or-padded room words i ∙ (null i ∙ sym (zeros-read room i)))

pub address-there : (a : Inside) → IsKept a → (m : Forwarding) (n : ℕ) → forwarding_of a ≡ m → n < length m.words → n < a.words
address-there a kept m n is within = omega (arith, within, ap (λ (f : Forwarding). length f.words) is, long a kept)

-- The addresses from which objects moved.

-- each is one of the heap
from-within : (a : Inside) → IsKept a → (n : ℕ) → is_in n a.moved.list ≡ true → n < a.words
from-within a kept n among = elim (cases_lt n (length a.table.items)) [
  | inl inside ↦ let within = kept.within in omega (arith, inside, within)
  | inr past ↦ absurd (false≢true (ap is_some (read-past a n past) ∙ (sym (kept.each n) ∙ among)))
]

-- each has a word that was written
pub from-written : (a : Inside) → IsKept a → (n : ℕ) → is_in n a.moved.list ≡ true → n < length a.table.items
from-written a kept n among = elim (cases_lt n (length a.table.items)) [
  | inl inside ↦ inside
  | inr past ↦ absurd (false≢true (ap is_some (read-past a n past) ∙ (sym (kept.each n) ∙ among)))
]

-- and where none is, the word is null
pub null-beside : (a : Inside) → IsKept a → (n : ℕ) → is_in n a.moved.list ≡ false → get_or a.table.items n 0 ≡ 0
null-beside a kept n none = by (get_or a.table.items n 0) refl
  where
    by : (word : ℕ) → get_or a.table.items n 0 ≡ word → word ≡ 0
    by zero is = refl
    by (suc to) is = absurd (false≢true (sym none ∙ (kept.each n ∙ ap is_some (sym (read-moved a n) ∙ ap target_of is))))

-- so there is room for one that is not among them
pub room-left : (a : Inside) → IsKept a → (at : ℕ) → at < a.words → is_in at a.moved.list ≡ false → 1 ≤ a.moved.spare
room-left a kept at within new =
    let all = a.moved.list ++ at ∷ [] in
    let apart = IsDistinct-push nat_eq_equiv a.moved.list at kept.apart (in-other at a.moved.list ∙ new) in
    let few = length-le_from_distinct_below all a.words apart (λ q among. by q ((in-end a.moved.list at q).0 (sym (in-other q all) ∙ among))) in
    let room = kept.room in
    omega (arith, few, room, one-more a.moved.list at)
  where
    by : (q : ℕ) → (q ≡ at) ⊎ (is_in q a.moved.list ≡ true) → q < a.words
    by q (inl same) = omega (arith, same, within)
    by q (inr among) = from-within a kept q among

-- whether one is among them is seen from its word
pub known-by : (a : Inside) → IsKept a → (n word : ℕ) → word ≡ get_or a.table.items n 0 → (word ≡ 0 → ⊥) → is_in n a.moved.list ≡ true
known-by a kept n word is some = kept.each n ∙ (ap is_some (sym (read-moved a n) ∙ ap target_of (sym is)) ∙ leads-somewhere word some)

pub new-by : (a : Inside) → IsKept a → (n word : ℕ) → word ≡ get_or a.table.items n 0 → word ≡ 0 → is_in n a.moved.list ≡ false
new-by a kept n word is null = kept.each n ∙ ap is_some (sym (read-moved a n) ∙ ap target_of (sym is ∙ null))

-- One is taken off, and its word is null then.

pub null-still : (words before after : List ℕ) (a : ℕ) → before ≡ after ++ a ∷ [] → a < length words → ((n : ℕ) → is_in n before ≡ false → get_or words n 0 ≡ 0)
    → (n : ℕ) → is_in n after ≡ false → get_or (set words a 0) n 0 ≡ 0
null-still words before after a is inside null n none = elim (cases_eq a n) [
  | inl here ↦ subst (λ k. get_or (set words a 0) k 0 ≡ 0) here (get_or-set_same words a 0 0 inside)
  | inr other ↦ get_or-set_other words a n 0 0 (λ e. other (sym e)) ∙ null n (ap (is_in n) is ∙ (in-end-other after a n other ∙ none))
]

pub last-among : (before after : List ℕ) (a : ℕ) → before ≡ after ++ a ∷ [] → is_in a before ≡ true
last-among before after a is = ap (is_in a) is ∙ (in-end after a a).1 (inl refl)

pub rest-among : (before after : List ℕ) (a n : ℕ) → before ≡ after ++ a ∷ [] → is_in n after ≡ true → is_in n before ≡ true
rest-among before after a n is among = ap (is_in n) is ∙ (in-end after a n).1 (inr among)

-- Nothing has moved.

pub IsKept-none : (b : Inside) → b.words < 2 ^ 32 → forwarding_of b ≡ no_moves b.words → length b.table.items ≤ b.words → b.words ≤ vec_capacity b.table
    → b.moved.list ≡ [] → b.words ≤ b.moved.spare → IsKept b
unfolding IsDistinct
IsKept-none b few none within words empty room = record {
  forwarding = subst IsForwarding (sym none) (IsForwarding-none b.words few);
  within = within;
  words = words;
  each = λ n. ap (is_in n) empty ∙ sym (ap is_some (ap (λ (m : Forwarding). moved m n) none ∙ moved-none b.words n));
  apart = subst (IsDistinct nat_eq) (sym empty) tt;
  room = omega (arith, room);
}

-- One more has moved.

-- at this address there is another word
pub forwarding-more : (a : Inside) (at to : ℕ) → at < a.words → (items : List ℕ) → items ≡ set (padded (at + 1) a.table.items) at (word_of to)
    → record { words = padded a.words items } ≡ with_move (forwarding_of a) at to
forwarding-more a at to from items table = ap (λ (ws : List ℕ). record { words = ws }) (ap (padded a.words) table ∙ words-set a.words a.table.items at (word_of to) from)

module _ (a : Inside) (kept : IsKept a) (at to : ℕ) (from : at < a.words) (within : to < a.words) (b : Inside) (words : b.words ≡ a.words)
    (table : b.table.items ≡ set (padded (at + 1) a.table.items) at (word_of to)) (capacity : vec_capacity a.table ≤ vec_capacity b.table) where
  same : forwarding_of b ≡ with_move (forwarding_of a) at to
  same = ap (λ n. record { words = padded n b.table.items }) words ∙ forwarding-more a at to from b.table.items table

  own : moved (forwarding_of b) at ≡ Some to
  own = ap (λ (m : Forwarding). moved m at) same ∙ moved-own (forwarding_of a) at to (omega (arith, from, long a kept))

  others : (n : ℕ) → (at ≡ n → ⊥) → moved (forwarding_of b) n ≡ moved (forwarding_of a) n
  others n other = ap (λ (m : Forwarding). moved m n) same ∙ moved-others (forwarding_of a) at to n other

  -- whichever addresses are listed then
  kept-with : ((n : ℕ) → is_in n b.moved.list ≡ is_some (moved (forwarding_of b) n)) → IsDistinct nat_eq b.moved.list → a.words ≤ length b.moved.list + b.moved.spare → IsKept b
  kept-with each apart room = record {
    forwarding = subst IsForwarding (sym same)
        (IsForwarding-more (forwarding_of a) at to kept.forwarding (omega (arith, from, long a kept)) (omega (arith, within, long a kept)));
    within = omega (
      arith,
      words,
      ap (λ (ws : List ℕ). length ws) table,
      length-set (padded (at + 1) a.table.items) at (word_of to),
      grown-within a.words (at + 1) a.table.items (omega (arith, from)) kept.within,
    );
    words = let old = kept.words in omega (arith, words, old, capacity);
    each = each;
    apart = apart;
    room = omega (arith, words, room);
  }

  pub IsKept-again : b.moved ≡ a.moved → is_in at a.moved.list ≡ true → IsKept b
  IsKept-again list known = kept-with
      (λ n. ap (λ (s : Seq ℕ). is_in n s.list) list ∙ elim (cases_eq at n) [
        | inl here ↦ subst (λ k. is_in k a.moved.list ≡ is_some (moved (forwarding_of b) k)) here (known ∙ sym (ap is_some own))
        | inr other ↦ kept.each n ∙ ap is_some (sym (others n other))
      ])
      (subst (λ (s : Seq ℕ). IsDistinct nat_eq s.list) (sym list) kept.apart) (subst (λ (s : Seq ℕ). a.words ≤ length s.list + s.spare) (sym list) kept.room)

  pub IsKept-more : b.moved.list ≡ a.moved.list ++ at ∷ [] → b.moved.spare + 1 ≡ a.moved.spare → is_in at a.moved.list ≡ false → IsKept b
  IsKept-more list spare new = kept-with
      (λ n. ap (is_in n) list ∙ elim (cases_eq at n) [
        | inl here ↦ subst (λ k. is_in k (a.moved.list ++ at ∷ []) ≡ is_some (moved (forwarding_of b) k)) here
            ((in-end a.moved.list at at).1 (inl refl) ∙ sym (ap is_some own))
        | inr other ↦ in-end-other a.moved.list at n other ∙ (kept.each n ∙ ap is_some (sym (others n other)))
      ])
      (subst (IsDistinct nat_eq) (sym list) (IsDistinct-push nat_eq_equiv a.moved.list at kept.apart (in-other at a.moved.list ∙ new)))
      (let room = kept.room in omega (arith, room, spare, ap (λ (l : List ℕ). length l) list, one-more a.moved.list at))
