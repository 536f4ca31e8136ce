-- What the words of an option are read as: a word is cut at its first `=`.
use Rattle.std.proofs.Common.{Global, map, take, drop, take_all, ◌≤◌, ◌-◌, ◌≡◌, ◌<◌, ◌^◌, ◌∷◌, ◌++◌, Bool, true, false, ℕ, List, [], Option, None, Some, length, get_or, suc, one-add, add-one, refl, ap, append_assoc, sym, ◌∙◌, arith}
use Rattle.std.specs.Prelude.{String, MatchOption, string_bytes, ◌==◌, if◌then◌else◌, codes}
use Rattle.std.specs.List.{after_first, before_first, position_or_len}
use Rattle.std.specs.Fmt.{decimal}
use Rattle.std.proofs.lemmas.Fmt.{decimal_injective}
use Rattle.std.proofs.lemmas.Bool.{eqb-true}
use Rattle.std.proofs.lemmas.List.Sums.{passes_at_first, split_at_first}
use Rattle.bal_options.proofs.SettingFacts.{name_injective}
use Rattle.bal_options.specs.CommandLine.{Given, words_of}
use Rattle.bal_options.specs.Settings.{name_of}
use Rattle.bal_options.specs.declared.setting.Setting.{Setting}
use Rattle.bal_options.specs.declared.words.Read.{Read}
use Rattle.bal_options.specs.declared.setting.Setting.TheVariants as setting

-- what stands before a word's first `=`, and what stands after it, where there is one
abbrev pub cut : List ℕ → List ℕ × Option (List ℕ)
cut [] = ([], None)
cut (b ∷ bs) = if b == 61 then ([], Some bs) else (b ∷ (cut bs).0, (cut bs).1)

pub cut-some : (bs : List ℕ) → position_or_len (λ b. b == 61) bs < length bs
    → cut bs ≡ (before_first (λ b. b == 61) bs, Some (after_first (λ b. b == 61) bs))
cut-some [] e = absurd (omega arith)
cut-some (b ∷ bs) e = step (b == 61) refl (cut-some bs) e
  where
    step : (t : Bool) → (b == 61) ≡ t → (position_or_len (λ b. b == 61) bs < length bs → cut bs ≡ (before_first (λ b. b == 61) bs, Some (after_first (λ b. b == 61) bs)))
        → position_or_len (λ b. b == 61) (b ∷ bs) < length (b ∷ bs)
        → cut (b ∷ bs) ≡ (before_first (λ b. b == 61) (b ∷ bs), Some (after_first (λ b. b == 61) (b ∷ bs)))
    step true t more e = rw t
    step false t more e = let m = more (omega (arith, rw t at e)) in rw (t, m, one-add (position_or_len (λ b. b == 61) bs), add-one (suc (position_or_len (λ b. b == 61) bs)), add-one (position_or_len (λ b. b == 61) bs))

-- the name of an option has none
cut-name : (s : Setting) → cut (name_of s) ≡ (name_of s, None)
cut-name setting.Regions = refl
cut-name setting.Words = refl
cut-name setting.Eden = refl
cut-name setting.Older = refl
cut-name setting.Cards = refl
cut-name setting.Workers = refl
cut-name setting.MarkEvery = refl
cut-name setting.MarkStep = refl
cut-name setting.AbortAfter = refl

cut-one : (s : Setting) (value : List ℕ) → cut (name_of s ++ codes "=" ++ value) ≡ (name_of s, Some value)
cut-one setting.Regions value = refl
cut-one setting.Words value = refl
cut-one setting.Eden value = refl
cut-one setting.Older value = refl
cut-one setting.Cards value = refl
cut-one setting.Workers value = refl
cut-one setting.MarkEvery value = refl
cut-one setting.MarkStep value = refl
cut-one setting.AbortAfter value = refl

-- the option at the front of some words: its name, its number as it is spelled, and the words after it
pub record Front : Type 0 where
  pub in_one_word : Bool
  pub name : List ℕ
  pub value : List ℕ
  pub rest : List (List ℕ)

abbrev pub as_front : Bool → List ℕ → List ℕ → List (List ℕ) → Front
as_front in_one_word name value rest = record { in_one_word = in_one_word; name = name; value = value; rest = rest }

abbrev pub front_by : List ℕ × Option (List ℕ) → List (List ℕ) → Option Front
front_by (name, Some value) rest = Some (as_front true name value rest)
front_by (name, None) [] = None
front_by (name, None) (value ∷ rest) = Some (as_front false name value rest)

abbrev pub front : List (List ℕ) → Option Front
front [] = None
front (w ∷ ws) = front_by (cut w) ws

front-words_of : (g : Given) (rest : List (List ℕ)) → front (words_of g ++ rest)
    ≡ Some (as_front g.in_one_word (name_of g.setting) (decimal g.number) rest)
front-words_of g rest = by g.setting g.number g.in_one_word
  where
    by : (s : Setting) (n : ℕ) (b : Bool) → front (words_of (record { setting = s; number = n; in_one_word = b }) ++ rest)
        ≡ Some (as_front b (name_of s) (decimal n) rest)
    by s n true = ap (λ c. front_by c rest) (cut-one s (decimal n))
    by s n false = ap (λ c. front_by c (decimal n ∷ rest)) (cut-name s)

given-by : (g h : Given) → g.setting ≡ h.setting → g.number ≡ h.number → g.in_one_word ≡ h.in_one_word → g ≡ h
given-by g h a b c = λ i. record { setting = a i; number = b i; in_one_word = c i }

-- the words of an option with more after it are those of no other, and of no others after it
pub words_injective : (g h : Given) (rest tail : List (List ℕ)) → g.number < 2 ^ 64 → h.number < 2 ^ 64
    → words_of g ++ rest ≡ words_of h ++ tail → (g ≡ h) × (rest ≡ tail)
words_injective g h rest tail small little e =
    let same : Some (as_front g.in_one_word (name_of g.setting) (decimal g.number) rest)
    ≡ Some (as_front h.in_one_word (name_of h.setting) (decimal h.number) tail)
    = sym (front-words_of g rest) ∙ ap front e ∙ front-words_of h tail in
    let fronts : as_front g.in_one_word (name_of g.setting) (decimal g.number) rest
    ≡ as_front h.in_one_word (name_of h.setting) (decimal h.number) tail = cc in
    let way = ap (λ (f : Front). f.in_one_word) fronts in
    let name = ap (λ (f : Front). f.name) fronts in
    let value = ap (λ (f : Front). f.value) fronts in
    let behind = ap (λ (f : Front). f.rest) fronts in
    let setting = name_injective g.setting h.setting name in
    let number = decimal_injective g.number h.number small little value in
    (given-by g h setting number way, behind)

-- the words begin with an option of this name and this number as it is spelled
pub record IsFront (words : List (List ℕ)) (name value : List ℕ) (rest : List (List ℕ)) : Type 0 where
  pub in_one_word : Bool
  pub read : front words ≡ Some (as_front in_one_word name value rest)
  pub whole : words ≡ (if in_one_word then (name ++ codes "=" ++ value) ∷ [] else name ∷ value ∷ []) ++ rest

-- then the option that is given there, if it is one, has this name and this number
pub front-given : (words : List (List ℕ)) (name value : List ℕ) (rest : List (List ℕ)) (g : Given) (tail : List (List ℕ)) → IsFront words name value rest
    → words ≡ words_of g ++ tail → (name ≡ name_of g.setting) × (value ≡ decimal g.number)
front-given words name value rest g tail is e =
    let same : Some (as_front is.in_one_word name value rest)
    ≡ Some (as_front g.in_one_word (name_of g.setting) (decimal g.number) tail)
    = sym is.read ∙ ap front e ∙ front-words_of g tail in
    let fronts : as_front is.in_one_word name value rest ≡ as_front g.in_one_word (name_of g.setting) (decimal g.number) tail = cc in
    (ap (λ (f : Front). f.name) fronts, ap (λ (f : Front). f.value) fronts)

-- a word that has a `=` is an option of one word
pub front-one : (words : List (List ℕ)) (word : List ℕ) (rest : List (List ℕ)) (name value : List ℕ) → words ≡ word ∷ rest
    → (position_or_len (λ b. b == 61) word < length word) × (name ≡ before_first (λ b. b == 61) word) × (value ≡ after_first (λ b. b == 61) word)
    → IsFront words name value rest
front-one words word rest name value e split =
    let is : IsFront (word ∷ rest) (before_first (λ b. b == 61) word) (after_first (λ b. b == 61) word) rest = record {
      in_one_word = true;
      read = ap (λ c. front_by c rest) (cut-some word split.0);
      whole = ap (λ w. w ∷ rest) (rw append_assoc whole);
    } in
    rw (e, split.1, split.2) is
  where
    whole : word ≡ before_first (λ b. b == 61) word ++ 61 ∷ after_first (λ b. b == 61) word
    whole = rw (eqb-true (get_or word (position_or_len (λ b. b == 61) word) 0) 61 (passes_at_first (λ b. b == 61) word 0 split.0)) at (split_at_first (λ b. b == 61) word 0 split.0)

-- so a reading of the name and the number is one of the words
pub read-front : (words : List (List ℕ)) (name value : List ℕ) (rest : List (String Global)) → IsFront words name value (map string_bytes rest)
    → (r : Option Read) → MatchOption r ((s : Setting) (n : ℕ) → n < 2 ^ 64 → name ≡ name_of s → value ≡ decimal n → ⊥)
    (λ read. (read.number < 2 ^ 64) × (name ≡ name_of read.setting) × (value ≡ decimal read.number) × (read.rest.now ≡ rest))
    → MatchOption r ((g : Given) (tail : List (List ℕ)) → g.number < 2 ^ 64 → words ≡ words_of g ++ tail → ⊥)
    (λ read. (read.number < 2 ^ 64) × ((in_one_word : Bool) × (words ≡ words_of (record { setting = read.setting; number = read.number; in_one_word = in_one_word }) ++ map string_bytes read.rest.now)))
read-front words name value rest is None none = λ g tail small e.
    let found = front-given words name value (map string_bytes rest) g tail is e in none g.setting g.number small found.0 found.1
read-front words name value rest is (Some read) found =
    let behind = ap (map string_bytes) found.3 in
    (found.0, (is.in_one_word, is.whole ∙ cc))

-- the first of some words, and those after it
pub first-word : {X : Type 0} (words : List X) (x : X) → 1 ≤ length words → x ≡ get_or words 0 x → words ≡ x ∷ take (length words - 1) (drop 1 words)
first-word [] x some e = absurd (omega arith)
first-word (w ∷ words) x some e = ap (λ t. t ∷ words) (sym e) ∙ ap (λ t. x ∷ t) (sym (take_all (length (w ∷ words) - 1) words (omega arith)))
