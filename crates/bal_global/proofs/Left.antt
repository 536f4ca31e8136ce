-- What is left once just some objects are kept, each where it was and as it was.
use Rattle.std.proofs.Common.{◌≡◌, ℕ, zero, suc, Bool, true, false, cond, List, [], ◌∷◌, map, get_or, Option, Some, None, refl, ap, sym, ◌∙◌}
use Rattle.std.specs.Option.{option_map}
use Rattle.std.specs.Prelude.{All, is_some}
use Rattle.std.proofs.lemmas.Bool.{cond-true}
use Rattle.std.proofs.lemmas.Option.{none-some}
use Rattle.bal_layout.specs.Graph.{Graph}
use Rattle.bal_layout.specs.Regions.{is_in}
use Rattle.bal_words.specs.Moved.{Carried, Closed, Fixed, Kept, LeadsToKept, word_to}
use Rattle.bal_words.specs.Shown.{Finds, Shows}
use Rattle.bal_words.specs.Things.{Thing, Things, with_refs}
use Rattle.bal_words.proofs.Lemmas.{shows-moved, there}

-- what is there under a test
pub under : {A : Type 0} (b : Bool) (o : Option A) (x : A) → cond b o None ≡ Some x → (b ≡ true) × (o ≡ Some x)
under true o x is = (refl, is)
under false o x is = absurd (none-some x is)

-- a word that leads to where it led
word-same : (word : ℕ) → word_to (λ a. a) word ≡ word
word-same zero = refl
word-same (suc a) = refl

words-same : (words : List ℕ) → map (word_to (λ a. a)) words ≡ words
words-same [] = refl
words-same (w ∷ words) = ap (λ v. v ∷ map (word_to (λ a. a)) words) (word-same w) ∙ ap (λ (l : List ℕ). w ∷ l) (words-same words)

-- where nothing moved, nothing has to be mended
fixed-same : (things : Things) → Fixed things things (λ a. a)
fixed-same things = record { each = λ a. by (things a) }
  where
    by : (o : Option Thing) → o ≡ option_map (with_refs (map (word_to (λ a. a)))) o
    by None = refl
    by (Some x) = ap (λ (l : List ℕ). Some (record x { refs = l })) (sym (words-same x.refs))

module _ (before after : Things) (marked : List ℕ) (left : (a : ℕ) → after a ≡ cond (is_in a marked) (before a) None) where
  abbrev keeps : ℕ → Bool
  keeps a = is_in a marked

  -- what is left was there, and is kept
  pub was : (a : ℕ) (x : Thing) → after a ≡ Some x → (is_in a marked ≡ true) × (before a ≡ Some x)
  was a x is = under (is_in a marked) (before a) x (sym (left a) ∙ is)

  pub is-left : (a : ℕ) (x : Thing) → before a ≡ Some x → is_in a marked ≡ true → after a ≡ Some x
  is-left a x is kept = left a ∙ (cond-true (is_in a marked) (before a) None kept ∙ is)

  carried-left : Carried before after keeps (λ a. a)
  carried-left = record {
    carried = λ a x is kept. is-left a x is kept;
    only = λ b x is. let old = was b x is in (b, old.1, old.0, refl);
  }

  -- and what is left may be moved
  pub carried-on : (middle : Things) (to : ℕ → ℕ) → Carried after middle (λ a. true) to → Carried before middle keeps to
  carried-on middle to c = record {
    carried = λ a x is kept. c.carried a x (is-left a x is kept) refl;
    only = λ b x is. let from = c.only b x is in let old = was from.0 x from.1 in (from.0, old.1, old.0, from.3);
  }

  pub shows-left : (g h : Graph) → Shows before g → Closed before keeps → Kept before keeps g h → Shows after h
  shows-left g h s c k = shows-moved before after after g h keeps (λ a. a) s carried-left (fixed-same after) c k

  -- words that lead to what is kept find it
  pub found-left : (words : List ℕ) → All (Finds before) words → All (LeadsToKept keeps) words → All (Finds after) words
  found-left words found lead k d less = by (get_or words k d) (found k d less) (lead k d less)
    where
      by : (w : ℕ) → Finds before w → LeadsToKept keeps w → Finds after w
      by zero finds kept = tt
      by (suc b) finds kept = let x = there (before b) finds in ap is_some (is-left b x.0 x.1 kept)
