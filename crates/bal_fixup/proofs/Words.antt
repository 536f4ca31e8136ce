-- Words that are mended one after the other.
use Rattle.std.proofs.Common.{◌≡◌, ℕ, ◌+◌, ◌-◌, ◌<◌, ◌≤◌, List, ◌++◌, length, get_or, set, take, drop, map, take_all, Option, Some, None, refl, ap, sym, ◌∙◌, arith}
use Rattle.std.specs.Prelude.{unwrap_or}
use Rattle.std.proofs.lemmas.List.{append-nil, drop_all, get_or-append_right, get_or-drop, get_or_default, length-append, length-drop, length-map, length-take-le, set-get_or}
use Rattle.std.proofs.lemmas.List.Edits.{map_over_more}
use Rattle.bal_fixup.specs.Mending.{front_mended, word_mended}
use Rattle.bal_words.specs.Moved.{word_to}

-- One of a list.

-- it is written
pub word-set : (to : ℕ → ℕ) (words : List ℕ) (i word : ℕ) → word ≡ word_to to (get_or words i 0) → set words i word ≡ word_mended to i words
word-set to words i word is = ap (set words i) is

-- or it stays
pub word-kept : (to : ℕ → ℕ) (words : List ℕ) (i : ℕ) → get_or words i 0 ≡ word_to to (get_or words i 0) → words ≡ word_mended to i words
word-kept to words i is = sym (ap (set words i) (sym is) ∙ set-get_or words i 0)

-- which of both is told by an answer that has another word, or none
pub word-answer : (to : ℕ → ℕ) (read word now : ℕ) (answer : Option ℕ) → unwrap_or answer read ≡ word_to to read → read ≡ now → answer ≡ Some word → word ≡ word_to to now
word-answer to read word now answer mended same is = sym (ap (λ (o : Option ℕ). unwrap_or o read) is) ∙ (mended ∙ ap (word_to to) same)

pub no-answer : (to : ℕ → ℕ) (read now : ℕ) (answer : Option ℕ) → unwrap_or answer read ≡ word_to to read → read ≡ now → answer ≡ None → now ≡ word_to to now
no-answer to read now answer mended same is = sym same ∙ (sym (ap (λ (o : Option ℕ). unwrap_or o read) is) ∙ (mended ∙ ap (word_to to) same))

-- The first of a list, up to one.

module _ (to : ℕ → ℕ) (words : List ℕ) (k : ℕ) (within : k < length words) where
  length-front : length (map (word_to to) (take k words)) ≡ k
  length-front = length-map (take k words) (word_to to) ∙ length-take-le k words (omega (arith, within))

  -- that one is as it was
  pub front-word : get_or (front_mended to k words) k 0 ≡ get_or words k 0
  front-word =
      get_or-append_right (map (word_to to) (take k words)) (drop k words) k k 0 length-front (omega arith)
      ∙ (get_or-drop k words (k - k) 0 ∙ ap (λ n. get_or words n 0) (omega arith))

  -- there are as many words
  pub front-long : length (front_mended to k words) ≡ length words
  front-long = omega (arith, length-append (map (word_to to) (take k words)) (drop k words), length-front, length-drop k words, within)

  -- and then it is mended too
  pub front-more : word_mended to k (front_mended to k words) ≡ front_mended to (k + 1) words
  front-more =
      map_over_more (word_to to) words (front_mended to k words) k (get_or (front_mended to k words) k 0) within refl
      (get_or_default (front_mended to k words) k 0 (get_or (front_mended to k words) k 0) (omega (arith, front-long, within)))

-- all of them
pub front-all : (to : ℕ → ℕ) (words : List ℕ) (k : ℕ) → length words ≤ k → front_mended to k words ≡ map (word_to to) words
front-all to words k all =
    ap (λ (l : List ℕ). map (word_to to) (take k words) ++ l) (drop_all k words all)
    ∙ (append-nil (map (word_to to) (take k words)) ∙ ap (map (word_to to)) (take_all k words all))
