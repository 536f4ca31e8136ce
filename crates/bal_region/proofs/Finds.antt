-- Objects found in the list of their starts.
use Rattle.std.proofs.Common.{◌≡◌, ℕ, zero, suc, ◌+◌, ◌<◌, ◌≤◌, Bool, true, false, List, [], ◌∷◌, length, get_or, Option, Some, None, refl, ap, sym, ◌∙◌, arith}
use Rattle.std.specs.Prelude.{◌&&◌, nat_le, nat_lt, slice_get}
use Rattle.std.specs.List.{find}
use Rattle.std.proofs.lemmas.Bool.Decides.{nat_tests}
use Rattle.std.proofs.lemmas.Option.{slice_get-get_or, slice_get_past}
use Rattle.std.specs.Slice.{IsItemAt}
use Rattle.std.specs.Option.{option_copied}
use denote.Ref.{Bor}
use Rattle.bal_region.specs.Land.{IsLand, Land, covers, holder_of, size_at}
use Rattle.bal_region.proofs.Lands.{laid-before}

pub find-none : (p : ℕ → Bool) (xs : List ℕ) → ((k : ℕ) → k < length xs → p (get_or xs k 0) ≡ false) → find p xs ≡ None
find-none p [] none = refl
find-none p (x ∷ xs) none = rw (none 0 (omega arith)) (find-none p xs (λ k less. none (suc k) (omega arith)))

pub find-here : (p : ℕ → Bool) (xs : List ℕ) (i : ℕ) → i < length xs → ((k : ℕ) → k < i → p (get_or xs k 0) ≡ false) → p (get_or xs i 0) ≡ true
    → find p xs ≡ Some (get_or xs i 0)
find-here p [] i within before here = absurd (omega arith)
find-here p (x ∷ xs) zero within before here = rw here refl
find-here p (x ∷ xs) (suc i) within before here =
    rw (before 0 (omega arith)) (find-here p xs i (omega arith) (λ k less. before (suc k) (omega arith)) here)

pub le-true : (a b : ℕ) → a ≤ b → nat_le a b ≡ true
le-true a b h = grind (arith, nat_tests)

pub le-false : (a b : ℕ) → b < a → nat_le a b ≡ false
le-false a b h = grind (arith, nat_tests)

pub le-from : (a b : ℕ) → nat_le a b ≡ true → a ≤ b
le-from a b h = grind (arith, nat_tests)

lt-true : (a b : ℕ) → a < b → nat_lt a b ≡ true
lt-true a b h = grind (arith, nat_tests)

lt-false : (a b : ℕ) → b ≤ a → nat_lt a b ≡ false
lt-false a b h = grind (arith, nat_tests)

and-false : (a : Bool) → (a && false) ≡ false
and-false true = refl
and-false false = refl

pub covers-inside : (l : Land) (s offset : ℕ) → s ≤ offset → offset < s + size_at l.words s → covers l s offset ≡ true
covers-inside l s offset from to = ap (λ b. b && nat_lt offset (s + size_at l.words s)) (le-true s offset from) ∙ lt-true offset (s + size_at l.words s) to

pub covers-not_before : (l : Land) (s offset : ℕ) → offset < s → covers l s offset ≡ false
covers-not_before l s offset less = ap (λ b. b && nat_lt offset (s + size_at l.words s)) (le-false s offset less)

pub covers-not_behind : (l : Land) (s offset : ℕ) → s + size_at l.words s ≤ offset → covers l s offset ≡ false
covers-not_behind l s offset ends = ap (λ b. nat_le s offset && b) (lt-false offset (s + size_at l.words s) ends) ∙ and-false (nat_le s offset)

module _ (l : Land) (land : IsLand l) (i offset : ℕ) (within : i < length l.starts) (from : get_or l.starts i 0 ≤ offset) where
  objects-before : (k : ℕ) → k < i → covers l (get_or l.starts k 0) offset ≡ false
  objects-before k less = covers-not_behind l (get_or l.starts k 0) offset (omega (arith, from, laid-before l.words 0 l.starts l.used k i 0 land.laid less within))

  pub holder-here : offset < get_or l.starts i 0 + size_at l.words (get_or l.starts i 0) → holder_of l offset ≡ Some (get_or l.starts i 0)
  holder-here to = find-here (λ s. covers l s offset) l.starts i within objects-before (covers-inside l (get_or l.starts i 0) offset from to)

-- what `get` answers
pub item-read : (xs : List ℕ) (i : ℕ) (r : Option (Bor ℕ)) → IsItemAt xs i r → option_copied r ≡ slice_get xs i
item-read xs i None item = sym (slice_get_past xs i item.3)
item-read xs i (Some x) item = ap Some item.1 ∙ sym (slice_get-get_or xs i x.now item.3.0)
