-- Marked objects that lie in one region, in front of the others.
use Rattle.std.proofs.Common.{◌≡◌, ℕ, zero, suc, div-mul-le_self, le_trans, ◌/◌, ◌<◌, ◌≤◌, Bool, true, false, eqb, List, [], ◌∷◌, ◌++◌, length, drop, get_or, take, refl, ap, sym, ◌∙◌, arith}
use Rattle.std.specs.List.{filter}
use Rattle.std.proofs.Math.Nat.{div-zero}
use Rattle.std.proofs.lemmas.Nat.{le-div}
use Rattle.std.proofs.lemmas.Bool.{eq-eqb, ne_eqb}
use Rattle.std.proofs.lemmas.List.{append-nil, take-append-drop}
use Rattle.std.proofs.lemmas.List.Elements.{filter-append}
use Rattle.bal_base.proofs.Lemmas.{among-first, among-later}
use Rattle.bal_base.specs.Bits.{IsAscending}
use Rattle.bal_layout.specs.Addresses.{region_of}
use Rattle.bal_layout.specs.Regions.{is_in}
use Rattle.bal_layout.specs.Shape.{Shape}
use Rattle.bal_sweep.proofs.Lemmas.{filter-keeps}
use Rattle.bal_settle.proofs.Ascending.{least-left}
use Rattle.bal_settle.specs.Settled.{marked_in}
use Rattle.bal_settle.specs.Settling.{AreFirst}

-- none passes
pub filter-none : (p : ℕ → Bool) (xs : List ℕ) → ((a : ℕ) → is_in a xs ≡ true → p a ≡ false) → filter p xs ≡ []
filter-none p [] none = refl
filter-none p (x ∷ xs) none = rw (none x (among-first x xs)) (filter-none p xs (λ a among. none a (among-later x a xs among)))

module _ (s : Shape) (q : ℕ) (marked : List ℕ) (k : ℕ) (first : AreFirst s q marked k) where
  parts : (p : ℕ) → marked_in s p marked ≡ marked_in s p (take k marked) ++ marked_in s p (drop k marked)
  parts p = ap (marked_in s p) (sym (take-append-drop k marked)) ∙ filter-append (λ a. eqb (region_of s a) p) (take k marked) (drop k marked)

  -- those in front are the region's
  pub part-front : marked_in s q marked ≡ take k marked
  part-front =
      parts q
      ∙ (ap (λ (l : List ℕ). marked_in s q (take k marked) ++ l) (filter-none (λ a. eqb (region_of s a) q) (drop k marked) (λ a among. ne_eqb (region_of s a) q (first.behind a among)))
      ∙ (append-nil (marked_in s q (take k marked))
      ∙ filter-keeps (λ a. eqb (region_of s a) q) (take k marked) (λ a among. eq-eqb (region_of s a) q (first.front a among))))

  -- and those behind are all of the other regions
  pub part-behind : (p : ℕ) → (p ≡ q → ⊥) → marked_in s p (drop k marked) ≡ marked_in s p marked
  part-behind p other = sym (parts p
      ∙ ap (λ (l : List ℕ). l ++ marked_in s p (drop k marked))
      (filter-none (λ a. eqb (region_of s a) p) (take k marked) (λ a among. ne_eqb (region_of s a) p (λ e. other (sym e ∙ first.front a among)))))

-- a later address lies in no lower region
div-le : (a b k : ℕ) → a ≤ b → a / k ≤ b / k
div-le a b zero less = omega (arith, div-zero a, div-zero b)
div-le a b (suc k) less = le-div (a / suc k) b (suc k) (omega arith) (le_trans (div-mul-le_self a (suc k)) less)

-- where the next address is another region's, the part in front ends
pub first-ends : (s : Shape) (q : ℕ) (marked : List ℕ) (k : ℕ) → IsAscending marked → k < length marked → q ≤ region_of s (get_or marked k 0)
    → (region_of s (get_or marked k 0) ≡ q → ⊥) → ((a : ℕ) → is_in a (take k marked) ≡ true → region_of s a ≡ q) → AreFirst s q marked k
first-ends s q marked k up within from other front = record {
  within = omega (arith, within);
  front = front;
  behind = λ a among e.
      let later : region_of s (get_or marked k 0) ≤ region_of s a = div-le (get_or marked k 0) a s.words (least-left marked k a up within among) in
      other (omega (arith, later, from, e));
}
