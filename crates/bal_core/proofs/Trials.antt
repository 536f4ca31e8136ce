-- An evacuation of the trials' objects may begin.
use Rattle.std.proofs.Common.{◌≡◌, ◌<◌, ◌≤◌, ℕ, zero, suc, List, [], ◌∷◌, replicate, Option, Some, refl, subst, sym, ◌∙◌, arith}
use Rattle.std.specs.Prelude.{IfSome}
use Rattle.std.proofs.lemmas.List.{length-replicate}
use Rattle.std.proofs.lemmas.Option.{none-some, same_Some}
use Rattle.bal_layout.specs.Header.{IsHeader, IsHeaderOf}
use Rattle.bal_layout.specs.Shape.{Shape}
use Rattle.bal_core.specs.World.{At, Graph, slots_in}
use Rattle.bal_core.specs.Start.{IsGraph, IsObject, MayStart}
use Rattle.bal_core.specs.Trials.{trial_header, words_of_trial}

-- where all items are equal, each item is theirs
each : {X : Type 0} (n : ℕ) (x y : X) (k : ℕ) → At (replicate n x) k y → x ≡ y
each zero x y k at = absurd (none-some y at)
each (suc n) x y zero at = same_Some x y at
each (suc n) x y (suc k) at = each n x y k at

-- and where each object has one slot
one : (x : Option ℕ) (i k : ℕ) → At (x ∷ []) i (Some k) → x ≡ Some k
one x zero k at = same_Some x (Some k) at
one x (suc i) k at = absurd (none-some (Some k) at)

held : (n : ℕ) (x : Option ℕ) (j i k : ℕ) → At (slots_in (replicate n (x ∷ [])) j) i (Some k) → x ≡ Some k
held zero x j i k at = absurd (none-some (Some k) at)
held (suc n) x zero i k at = one x i k at
held (suc n) x (suc j) i k at = held n x j i k at

abbrev pub small : Shape
small = record { regions = 6; words = 256 }

abbrev pub graph_of : ℕ → List ℕ → Option ℕ → Graph
graph_of n words x = record { ages = replicate n 0; words = replicate n words; targets = replicate n (x ∷ []) }

object : IsObject small words_of_trial
object = record { header = trial_header; is = is; size = refl; smallest = omega arith; largest = omega arith }
  where
    limits : IsHeader trial_header
    limits = record { refs = omega arith; values = omega arith; thread = omega arith; first_ordinal = omega arith; last_ordinal = omega arith }

    is : IsHeaderOf trial_header 4294967553 1
    is = record { limits = limits; first_is = refl; second_is = refl }

graph : (n : ℕ) (x : Option ℕ) → IfSome x (λ k. k < n) → IsGraph small (graph_of n words_of_trial x)
graph n x within = record {
  words = length-replicate n words_of_trial ∙ sym (length-replicate n 0);
  targets = length-replicate n (x ∷ []) ∙ sym (length-replicate n 0);
  oldest = λ k age at. subst (λ a. a ≤ 24) (each n 0 age k at) (omega arith);
  objects = λ k words at. subst (IsObject small) (each n words_of_trial words k at) object;
  slots = λ j i k at. subst (λ m. k < m) (sym (length-replicate n 0)) (subst (λ y. IfSome y (λ m. m < n)) (held n x j i k at) within);
}

pub may-start : (n : ℕ) (x : Option ℕ) (pool : List ℕ) → 0 < n → IfSome x (λ k. k < n) → ((i q : ℕ) → At pool i q → q < 6)
    → ((i j q : ℕ) → At pool i q → At pool j q → i ≡ j)
    → MayStart small (graph_of n words_of_trial x) (0 ∷ []) pool 2
may-start n x pool some within regions distinct = record {
  graph = graph n x within;
  held = λ i k at. subst (λ m. k < m) (sym (length-replicate n 0)) (by i k at);
  regions = regions;
  distinct = distinct;
  one = omega arith;
  most = omega arith;
}
  where
    by : (i k : ℕ) → At (0 ∷ []) i k → k < n
    by zero k at = subst (λ m. m < n) (same_Some 0 k at) some
    by (suc i) k at = absurd (none-some k at)
