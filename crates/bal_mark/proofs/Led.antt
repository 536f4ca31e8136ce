-- What is marked once that is to which some words lead.
use Rattle.std.proofs.Common.{◌≡◌, ℕ, zero, suc, ◌⊎◌, inl, inr, IsTrue, List, [], ◌∷◌, ◌++◌, refl, ap, sym, ◌∙◌, arith, append_assoc, eqb, eq-eqb, eqb-true}
use Rattle.std.specs.Prelude.{◌↔◌}
use Rattle.std.proofs.lemmas.Bool.{false≢true, or_cases, or_left, or_right}
use Rattle.std.proofs.lemmas.List.{append-nil}
use Rattle.bal_layout.specs.Regions.{is_in}
use Rattle.bal_mark.specs.Marking.{with_all_led, with_led}
use Rattle.bal_table.specs.Marks.{Marked, with_address}
use Rattle.bal_table.proofs.Lemmas.{in-marked, marked-after}

-- By one word.

pub in-led : (m : Marked) (word b : ℕ) → IsTrue (is_in b (with_led m word).order) ↔ ((word ≡ suc b) ⊎ IsTrue (is_in b m.order))
in-led m zero b = (inr, back)
  where
    back : (zero ≡ suc b) ⊎ IsTrue (is_in b m.order) → IsTrue (is_in b m.order)
    back (inl null) = absurd (omega (arith, null))
    back (inr before) = before
in-led m (suc a) b = (to, back)
  where
    to : IsTrue (is_in b (with_address m.order a)) → (suc a ≡ suc b) ⊎ IsTrue (is_in b m.order)
    to among = elim ((in-marked m.order a b).0 among) [ inl same ↦ inl (ap suc (sym same)) | inr before ↦ inr before ]

    back : (suc a ≡ suc b) ⊎ IsTrue (is_in b m.order) → IsTrue (is_in b (with_address m.order a))
    back (inl same) = (in-marked m.order a b).1 (inl (omega (arith, same)))
    back (inr before) = (in-marked m.order a b).1 (inr before)

-- what was marked stays in its place
pub led-after : (m : Marked) (word : ℕ) → (more : List ℕ) × ((with_led m word).order ≡ m.order ++ more)
led-after m zero = ([], sym (append-nil m.order))
led-after m (suc a) = marked-after m.order a

pub led-taken : (m : Marked) (word : ℕ) → (with_led m word).taken ≡ m.taken
led-taken m zero = refl
led-taken m (suc a) = refl

pub led-words : (m : Marked) (word : ℕ) → (with_led m word).words ≡ m.words
led-words m zero = refl
led-words m (suc a) = refl

-- By some words.

pub in-all-led : (words : List ℕ) (m : Marked) (b : ℕ) → IsTrue (is_in b (with_all_led m words).order) ↔ (IsTrue (is_in (suc b) words) ⊎ IsTrue (is_in b m.order))
in-all-led [] m b = (inr, back)
  where
    back : IsTrue (is_in (suc b) []) ⊎ IsTrue (is_in b m.order) → IsTrue (is_in b m.order)
    back (inl none) = absurd (false≢true none)
    back (inr before) = before
in-all-led (word ∷ words) m b = (to (in-all-led words (with_led m word) b).0, back (in-all-led words (with_led m word) b).1)
  where
    to : (IsTrue (is_in b (with_all_led (with_led m word) words).order) → IsTrue (is_in (suc b) words) ⊎ IsTrue (is_in b (with_led m word).order))
        → IsTrue (is_in b (with_all_led (with_led m word) words).order) → IsTrue (is_in (suc b) (word ∷ words)) ⊎ IsTrue (is_in b m.order)
    to rest among = elim (rest among) [
      | inl later ↦ inl (or_right (eqb word (suc b)) (is_in (suc b) words) later)
      | inr here ↦ elim ((in-led m word b).0 here) [
        | inl same ↦ inl (or_left (eqb word (suc b)) (is_in (suc b) words) (eq-eqb word (suc b) same))
        | inr before ↦ inr before
      ]
    ]

    back : (IsTrue (is_in (suc b) words) ⊎ IsTrue (is_in b (with_led m word).order) → IsTrue (is_in b (with_all_led (with_led m word) words).order))
        → IsTrue (is_in (suc b) (word ∷ words)) ⊎ IsTrue (is_in b m.order) → IsTrue (is_in b (with_all_led (with_led m word) words).order)
    back rest (inl among) = rest (elim (or_cases (eqb word (suc b)) (is_in (suc b) words) among) [
      | inl here ↦ inr ((in-led m word b).1 (inl (eqb-true word (suc b) here)))
      | inr later ↦ inl later
    ])
    back rest (inr before) = rest (inr ((in-led m word b).1 (inr before)))

pub all-led-after : (words : List ℕ) (m : Marked) → (more : List ℕ) × ((with_all_led m words).order ≡ m.order ++ more)
all-led-after [] m = ([], sym (append-nil m.order))
all-led-after (word ∷ words) m =
    let here = led-after m word in
    let later = all-led-after words (with_led m word) in
    (here.0 ++ later.0, later.1 ∙ (ap (λ (l : List ℕ). l ++ later.0) here.1 ∙ append_assoc m.order here.0 later.0))

pub all-led-taken : (words : List ℕ) (m : Marked) → (with_all_led m words).taken ≡ m.taken
all-led-taken [] m = refl
all-led-taken (word ∷ words) m = all-led-taken words (with_led m word) ∙ led-taken m word

pub all-led-words : (words : List ℕ) (m : Marked) → (with_all_led m words).words ≡ m.words
all-led-words [] m = refl
all-led-words (word ∷ words) m = all-led-words words (with_led m word) ∙ led-words m word
