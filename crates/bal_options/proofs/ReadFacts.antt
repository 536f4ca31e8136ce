-- The reading of the options, one after the other.
use Rattle.std.proofs.Common.{Global, map, length, ◌≡◌, ◌<◌, ◌^◌, ◌∷◌, ◌++◌, Bool, true, false, ℕ, List, [], Option, None, Some, refl, ap, append_assoc, sym, ◌∙◌}
use Rattle.std.specs.Prelude.{String, ◌==◌, is_some, flat_map, string_bytes}
use Rattle.std.specs.List.{AllByRecursion}
use Rattle.std.proofs.lemmas.Grind.{flat_map-append}
use Rattle.std.proofs.lemmas.List.{append-nil}
use Rattle.bal_options.specs.CommandLine.{AreDistinct, Given, number_given, words_of}
use Rattle.bal_options.specs.Numbers.{IsReadAs, number_in, with_number}
use Rattle.bal_options.specs.declared.numbers.Numbers.{Numbers}
use Rattle.bal_options.specs.declared.setting.Setting.{Setting}
use Rattle.bal_options.proofs.GivenFacts.{distinct-clash, distinct-more, numbers-more}
use Rattle.bal_options.proofs.WordFacts.{words_injective}

abbrev pub AreSmall : List Given → Type 0
AreSmall gs = AllByRecursion (λ g. g.number < 2 ^ 64) gs

small-append : (gs : List Given) (g : Given) → AreSmall gs → g.number < 2 ^ 64 → AreSmall (gs ++ g ∷ [])
small-append [] g small one = (one, tt)
small-append (h ∷ gs) g small one = (small.0, small-append gs g small.1 one)

-- an option has a word at least
pub words-some : (g : Given) (rest : List (List ℕ)) → words_of g ++ rest ≡ [] → ⊥
words-some g rest e = by g.setting g.number g.in_one_word e
  where
    by : (s : Setting) (n : ℕ) (b : Bool) → words_of (record { setting = s; number = n; in_one_word = b }) ++ rest ≡ [] → ⊥
    by s n true e = cc
    by s n false e = cc

-- what the words after some options are, where the words are those of other options: the first of these are the same
pub split-front : (before gs : List Given) (left : List (List ℕ)) → AreSmall before → AreSmall gs
    → flat_map words_of gs ≡ flat_map words_of before ++ left → (more : List Given) × (gs ≡ before ++ more) × (left ≡ flat_map words_of more)
split-front [] gs left small little e = (gs, refl, sym e)
split-front (h ∷ before) [] left small little e =
    absurd (words-some h (flat_map words_of before ++ left) (sym (append_assoc (words_of h) (flat_map words_of before) left) ∙ sym e))
split-front (h ∷ before) (g ∷ gs) left small little e =
    let (same, rest) = words_injective g h (flat_map words_of gs) (flat_map words_of before ++ left) little.0 small.0 (e ∙ append_assoc (words_of h) (flat_map words_of before) left) in
    let (more, front, behind) = split-front before gs left small.1 little.1 rest in
    (more, cc, behind)

-- the words are some options, and after them those that are left
pub record IsReadSoFar (words left : List (List ℕ)) (given : Setting → Option ℕ) : Type 0 where
  pub before : List Given
  pub spelled : words ≡ flat_map words_of before ++ left
  pub once : AreDistinct before
  pub small : AreSmall before
  pub numbers : (s : Setting) → given s ≡ number_given before s

pub read-more : (words left rest : List (List ℕ)) (numbers : Numbers) (g : Given) → IsReadSoFar words left (number_in numbers)
    → left ≡ words_of g ++ rest → g.number < 2 ^ 64 → number_in numbers g.setting ≡ None
    → IsReadSoFar words rest (number_in (with_number numbers g.setting g.number))
read-more words left rest numbers g read e small none = record {
  before = read.before ++ g ∷ [];
  spelled = rw (flat_map-append words_of read.before (g ∷ []), append-nil (words_of g), append_assoc (flat_map words_of read.before) (words_of g) rest, ← e) read.spelled;
  once = distinct-more read.before g read.once (sym (read.numbers g.setting) ∙ none);
  small = small-append read.before g read.small small;
  numbers = numbers-more numbers read.before g read.numbers none;
}

-- the option that comes next, where the words are options
record IsNext (words left : List (List ℕ)) (given other : Setting → Option ℕ) (read : IsReadSoFar words left given) (is : IsReadAs words other) : Type 0 where
  next : Given
  more : List Given
  givens : is.givens ≡ read.before ++ next ∷ more
  left_is : left ≡ words_of next ++ flat_map words_of more
  small : next.number < 2 ^ 64

small-behind : (gs : List Given) (g : Given) (more : List Given) → AreSmall (gs ++ g ∷ more) → g.number < 2 ^ 64
small-behind [] g more small = small.0
small-behind (h ∷ gs) g more small = small-behind gs g more small.1

next-of : (words left : List (List ℕ)) (given other : Setting → Option ℕ) (read : IsReadSoFar words left given) (is : IsReadAs words other)
    → (left ≡ [] → ⊥) → IsNext words left given other read is
next-of words left given other read is some =
    let (more, givens, left_is) = split-front read.before is.givens left read.small is.small (sym is.spelled ∙ read.spelled) in
    by more givens left_is
  where
    by : (more : List Given) → is.givens ≡ read.before ++ more → left ≡ flat_map words_of more → IsNext words left given other read is
    by [] e left_is = absurd (some left_is)
    by (g ∷ more) e left_is = record { next = g; more = more; givens = e; left_is = left_is; small = small-behind read.before g more (rw e at is.small) }

-- words that are left and begin with no option make the words no options
pub read-stuck : (words left : List (List ℕ)) (given other : Setting → Option ℕ) → IsReadSoFar words left given → (left ≡ [] → ⊥)
    → ((g : Given) (rest : List (List ℕ)) → g.number < 2 ^ 64 → left ≡ words_of g ++ rest → ⊥) → IsReadAs words other → ⊥
read-stuck words left given other read some stuck is =
    let next = next-of words left given other read is some in
    stuck next.next (flat_map words_of next.more) next.small next.left_is

-- and so does one that is given a number already
pub read-twice : (words left : List (List ℕ)) (given other : Setting → Option ℕ) (g : Given) (rest : List (List ℕ)) → IsReadSoFar words left given
    → (left ≡ [] → ⊥) → left ≡ words_of g ++ rest → g.number < 2 ^ 64 → (given g.setting ≡ None → ⊥) → IsReadAs words other → ⊥
read-twice words left given other g rest read some e small twice is =
    let next = next-of words left given other read is some in
    let (same, behind) = words_injective next.next g (flat_map words_of next.more) rest next.small small (sym next.left_is ∙ e) in
    let none = λ (free : number_given read.before next.next.setting ≡ None).
    twice (sym (ap (λ (h : Given). given h.setting) same) ∙ read.numbers next.next.setting ∙ free) in
    distinct-clash read.before next.more next.next none (rw next.givens at is.once)

-- What the tests of the loop say.

pub some-left : (words : List (String Global)) (t : Bool) → t ≡ (length words == 0) → t ≡ false → map string_bytes words ≡ [] → ⊥
some-left [] t e false_is none = let clash : true ≡ false = sym e ∙ false_is in cc
some-left (w ∷ words) t e false_is none = cc

pub free-where : (o : Option ℕ) (t : Bool) → t ≡ is_some o → t ≡ false → o ≡ None
free-where None t e false_is = refl
free-where (Some n) t e false_is = let clash : true ≡ false = sym e ∙ false_is in cc

pub taken-where : (o : Option ℕ) (t : Bool) → t ≡ is_some o → t ≡ true → o ≡ None → ⊥
taken-where None t e true_is none = let clash : false ≡ true = sym e ∙ true_is in cc
taken-where (Some n) t e true_is none = cc
