-- How pieces of a text follow each other.
use Rattle.std.proofs.Common.{ℕ, List, ◌++◌, append_assoc, subst}
use Rattle.bal_base.specs.Text.{Writes}

module _ {T : Type 0} (tells : T → T → List ℕ → Type 0) where
  -- some bytes and then others
  pub writes-then : (a b c : T) (v w : List ℕ) → Writes tells a b v → Writes tells b c w → Writes tells a c (v ++ w)
  writes-then a b c v w first second = λ from text told. subst (tells from c) (append_assoc text v w) (second from (text ++ v) (first from text told))
