-- Marking from the roots on comes to just what paths end at.
use Rattle.std.proofs.Common.{◌≡◌, ℕ, suc, ◌+◌, ◌<◌, ◌⊎◌, inl, inr, IsTrue, List, [], ◌∷◌, ◌++◌, length, take, Some, ap, sym, subst, ◌∙◌, arith, eqb, take_all}
use Rattle.std.specs.Prelude.{◌↔◌, ◌||◌, slice_get}
use Rattle.std.proofs.lemmas.Bool.{eqb-true, false≢true, or_cases}
use Rattle.std.proofs.lemmas.List.{take-append-le}
use Rattle.std.proofs.lemmas.List.Folds.{list_any_more}
use Rattle.std.proofs.lemmas.Option.{get_or_from_slice_get}
use Rattle.bal_layout.specs.Regions.{is_in}
use Rattle.bal_words.specs.Paths.{EndsPath, IsPath, words_in}
use Rattle.bal_words.specs.Things.{Things}
use Rattle.bal_mark.specs.Closing.{IsClosing}
use Rattle.bal_mark.specs.Marking.{with_all_led}
use Rattle.bal_table.specs.Marks.{IsNext, Marked, no_marks, queue}
use Rattle.bal_table.proofs.Lemmas.{queue-first}
use Rattle.bal_mark.proofs.Led.{all-led-after, all-led-taken, in-all-led}

module _ (things : Things) (roots : List ℕ) where
  -- a path does not leave what is closed
  path-marked : (m : Marked) → IsClosing things roots m → m.taken ≡ length m.order → (before : List ℕ) (a : ℕ) → IsPath things roots (a ∷ before) → IsTrue (is_in a m.order)
  path-marked m c all [] a held = c.rooted a held
  path-marked m c all (b ∷ before) a led =
      let from : IsTrue (is_in b (take m.taken m.order)) = subst (λ (l : List ℕ). IsTrue (is_in b l)) (sym (take_all m.taken m.order (omega (arith, all)))) (path-marked m c all before b led.1) in
      c.closed b a from led.0

  -- once all left the queue, just what paths end at is marked
  pub closed-reached : (m : Marked) → IsClosing things roots m → m.taken ≡ length m.order → (a : ℕ) → IsTrue (is_in a m.order) ↔ EndsPath things roots a
  closed-reached m c all a = (c.only a, λ path. path-marked m c all path.0 a path.1)

  -- what the roots hold is marked
  pub closing-begun : (words : ℕ) → IsClosing things roots (with_all_led (no_marks words) roots)
  closing-begun words = record {
    only = λ a among. ([], elim ((in-all-led roots (no_marks words) a).0 among) [ inl held ↦ held | inr none ↦ absurd (false≢true none) ]);
    rooted = λ a held. (in-all-led roots (no_marks words) a).1 (inl held);
    closed = λ a b taken led. absurd (false≢true (subst (λ n. IsTrue (is_in a (take n (with_all_led (no_marks words) roots).order))) (all-led-taken roots (no_marks words)) taken));
  }

  -- the first of the queue leaves it, and what it refers to is marked
  module _ (m now : Marked) (a : ℕ) (c : IsClosing things roots m) (next : IsNext m (Some a) now) where
    abbrev after : Marked
    after = with_all_led now (words_in (things a))

    -- it was marked
    first : (slice_get m.order m.taken ≡ Some a) × (m.taken < length m.order) × IsTrue (is_in a m.order)
    first = queue-first m a (queue now) next.0

    same : now.order ≡ m.order
    same = ap (λ (k : Marked). k.order) next.1

    -- what was marked stays marked
    stays : (b : ℕ) → IsTrue (is_in b m.order) → IsTrue (is_in b after.order)
    stays b among = (in-all-led (words_in (things a)) now b).1 (inr (subst (λ (l : List ℕ). IsTrue (is_in b l)) (sym same) among))

    -- what was taken before, and this one
    taken-cases : (b : ℕ) → IsTrue (is_in b (take after.taken after.order))
        → (a ≡ b) ⊎ IsTrue (is_in b (take m.taken m.order))
    taken-cases b among =
        let more = all-led-after (words_in (things a)) now in
        let count : after.taken ≡ m.taken + 1 = all-led-taken (words_in (things a)) now ∙ ap (λ (k : Marked). k.taken) next.1 in
        let list : take after.taken after.order ≡ take (m.taken + 1) m.order =
        ap (λ n. take n after.order) count
        ∙ (ap (take (m.taken + 1)) (more.1 ∙ ap (λ (l : List ℕ). l ++ more.0) same)
        ∙ take-append-le (m.taken + 1) m.order more.0 (omega (arith, first.1))) in
        let both : is_in b (take (m.taken + 1) m.order) ≡ (is_in b (take m.taken m.order) || eqb a b) =
        list_any_more (λ n. eqb n b) m.order m.taken 0 first.1
        ∙ ap (λ n. is_in b (take m.taken m.order) || eqb n b) (get_or_from_slice_get m.order m.taken a 0 first.0) in
        elim (or_cases (is_in b (take m.taken m.order)) (eqb a b) (sym both ∙ subst (λ (l : List ℕ). IsTrue (is_in b l)) list among)) [
          | inl before ↦ inr before
          | inr last ↦ inl (eqb-true a b last)
        ]

    pub closing-next : IsClosing things roots (with_all_led now (words_in (things a)))
    closing-next = record {
      only = λ b among. elim ((in-all-led (words_in (things a)) now b).0 among) [
        | inl led ↦ let path = c.only a first.2 in (a ∷ path.0, (led, path.1))
        | inr before ↦ c.only b (subst (λ (l : List ℕ). IsTrue (is_in b l)) same before)
      ];
      rooted = λ b held. stays b (c.rooted b held);
      closed = λ d b taken led. elim (taken-cases d taken) [
        | inl here ↦ (in-all-led (words_in (things a)) now b).1 (inl (subst (λ k. IsTrue (is_in (suc b) (words_in (things k)))) (sym here) led))
        | inr before ↦ stays b (c.closed d b before led)
      ];
    }
