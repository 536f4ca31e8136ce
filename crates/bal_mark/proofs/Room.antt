-- The marks of a table have room for each of its objects.
use Rattle.std.proofs.Common.{◌≡◌, ℕ, zero, suc, ◌+◌, ◌*◌, ◌<◌, ◌≤◌, ◌^◌, ◌⊎◌, inl, inr, Bool, true, false, IsTrue, List, [], ◌∷◌, ◌/◌, length, Some, refl, ap, sym, subst, ◌∙◌, arith, eqb}
use Rattle.std.specs.List.{IsDistinct}
use Rattle.std.specs.Prelude.{All, IfSome, IsSome}
use Rattle.std.proofs.Math.Nat.{mul-le-mul_right}
use Rattle.std.proofs.lemmas.Bool.{false≢true}
use Rattle.std.proofs.lemmas.List.Elements.{All-head, All-tail}
use Rattle.bal_layout.specs.References.{target_of}
use Rattle.bal_layout.specs.Regions.{is_in}
use Rattle.bal_words.specs.Shown.{Finds}
use Rattle.bal_words.proofs.Lemmas.{there}
use Rattle.bal_table.specs.Table.{IsTable, Table, things_of}
use Rattle.bal_table.proofs.Lemmas.{IsMarked-more, address-new, apart, in-marked, object-region, object-within, queue-first, seen}
use Rattle.bal_mark.specs.Marking.{AreMarksOf, MayBeMarked, with_all_led, with_led}
use Rattle.bal_table.specs.Marks.{IsMarked, IsNext, Marked, no_marks, queue}
use Rattle.bal_mark.proofs.Apart.{fewer}

-- An object has two words of the heap at least, of which no other has one.

two-words : (t : Table) (a : ℕ) → IsTable t → IsSome (things_of t a) → a + 2 ≤ t.shape.regions * t.shape.words
two-words t a table some =
    let x = there (things_of t a) some in
    let s = seen t a x.0 table x.1 in
    let within = object-region t a s.object table s.is in
    let region = table.each _ within in
    omega (arith, s.size, (object-within t a s.object table s.is).1, region.land.within, region.words, mul-le-mul_right t.shape.words within)

two-apart : (t : Table) (a b : ℕ) → IsTable t → IsSome (things_of t a) → IsSome (things_of t b) → a < b → a + 2 ≤ b
two-apart t a b table here there' before =
    let x = there (things_of t a) here in
    let y = there (things_of t b) there' in
    let s = seen t a x.0 table x.1 in
    let r = seen t b y.0 table y.1 in
    omega (arith, s.size, apart t a b s.object r.object table s.is r.is before)

-- What a word leads to may be marked.

pub word-limit : (t : Table) (word : ℕ) → IsTable t → Finds (things_of t) word → word ≤ 2 ^ 32
word-limit t zero table found = omega arith
word-limit t (suc a) table found = omega (arith, two-words t a table found, table.shape.words_in_all)

pub may-mark : (t : Table) (m : Marked) (word : ℕ) → AreMarksOf t m → Finds (things_of t) word → IfSome (target_of word) (MayBeMarked m)
may-mark t m zero marks found = tt
may-mark t m (suc a) marks found = record {
  within = omega (arith, two-words t a marks.table found, marks.words);
  room = by (is_in a m.order) refl;
}
  where
    by : (c : Bool) → is_in a m.order ≡ c → IsTrue (is_in a m.order) ⊎ (length m.order < m.words / 2)
    by true among = inl among
    by false none =
        let new = IsMarked-more m a marks.marked (omega (arith, two-words t a marks.table found, marks.words)) in
        inr (subst (λ n. length m.order < n / 2) (sym marks.words)
        (fewer (λ b. IsSome (things_of t b)) (t.shape.regions * t.shape.words) (λ b some. two-words t b marks.table some)
        (λ b d one other. two-apart t b d marks.table one other) m.order a marks.starts
        (subst (IsDistinct eqb) (address-new m.order a none) new.apart) found))

-- and then the marks are the table's

pub led-marks : (t : Table) (m : Marked) (word : ℕ) → AreMarksOf t m → Finds (things_of t) word → AreMarksOf t (with_led m word)
led-marks t m zero marks found = marks
led-marks t m (suc a) marks found = record {
  table = marks.table;
  marked = IsMarked-more m a marks.marked (omega (arith, two-words t a marks.table found, marks.words));
  words = marks.words;
  starts = λ b among. elim ((in-marked m.order a b).0 among) [ inl same ↦ subst (λ d. IsSome (things_of t d)) (sym same) found | inr before ↦ marks.starts b before ];
}

pub all-led-marks : (t : Table) (words : List ℕ) (m : Marked) → AreMarksOf t m → All (Finds (things_of t)) words → AreMarksOf t (with_all_led m words)
all-led-marks t [] m marks found = marks
all-led-marks t (word ∷ words) m marks found =
    all-led-marks t words (with_led m word) (led-marks t m word marks (All-head (Finds (things_of t)) word words found)) (All-tail (Finds (things_of t)) word words found)

-- no marks are any table's
pub no-marks : (t : Table) (words : ℕ) → IsTable t → words ≡ t.shape.regions * t.shape.words → AreMarksOf t (no_marks words)
unfolding IsDistinct
no-marks t words table same = record {
  table = table;
  marked = record { apart = tt; taken = omega arith; within = λ a none. absurd (false≢true none); few = omega (arith, same, table.shape.words_in_all) };
  words = same;
  starts = λ a none. absurd (false≢true none);
}

-- one address less waits
pub next-marks : (t : Table) (m now : Marked) (a : ℕ) → AreMarksOf t m → IsNext m (Some a) now → IsMarked now → AreMarksOf t now × IsSome (things_of t a)
next-marks t m now a marks next limits = (
  record {
    table = marks.table;
    marked = limits;
    words = ap (λ (k : Marked). k.words) next.1 ∙ marks.words;
    starts = λ b among. marks.starts b (subst (λ (l : List ℕ). IsTrue (is_in b l)) (ap (λ (k : Marked). k.order) next.1) among);
  },
  marks.starts a (queue-first m a (queue now) next.0).2,
)
