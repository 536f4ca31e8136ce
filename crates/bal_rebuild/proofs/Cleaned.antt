-- Members that are taken away from the least on.
use Rattle.std.proofs.Common.{◌≡◌, ℕ, ◌<◌, ◌≤◌, Bool, true, false, not, cond, eqb, List, [], ◌∷◌, length, None, refl, ap, sym, ◌∙◌, arith}
use Rattle.std.specs.Prelude.{◌||◌, IsTrue}
use Rattle.std.proofs.lemmas.Bool.{false≢true}
use Rattle.bal_base.specs.Bits.{IsNextFrom, is_member, without_member}
use Rattle.bal_base.proofs.Lemmas.{among-first}
use Rattle.bal_cards.specs.Cards.{Cards, without_list}

-- a set has as many members less as there were of it
without-most : (n : ℕ) (ms : List ℕ) → length (without_member n ms) ≤ length ms
without-most n [] = omega arith
without-most n (m ∷ ms) = by (without-most n ms) (eqb m n)
  where
    by : length (without_member n ms) ≤ length ms → (b : Bool) → length (cond (not b) (m ∷ without_member n ms) (without_member n ms)) ≤ length (m ∷ ms)
    by rest true = omega (arith, rest)
    by rest false = omega (arith, rest)

pub without-fewer : (n : ℕ) (ms : List ℕ) → IsTrue (is_member ms n) → length (without_member n ms) < length ms
without-fewer n [] among = absurd (false≢true among)
without-fewer n (m ∷ ms) among = by (λ later. without-fewer n ms later) (eqb m n) among
  where
    by : (IsTrue (is_member ms n) → length (without_member n ms) < length ms)
        → (b : Bool) → IsTrue (b || is_member ms n) → length (cond (not b) (m ∷ without_member n ms) (without_member n ms)) < length (m ∷ ms)
    by rest true here = omega (arith, without-most n ms)
    by rest false later = omega (arith, rest later)

-- where no member is below a number, and none from there on, there is none
pub none-left : (from : ℕ) (ms : List ℕ) → ((n : ℕ) → IsTrue (is_member ms n) → from ≤ n) → IsNextFrom ms from None → ms ≡ []
none-left from [] above none = refl
none-left from (m ∷ ms) above none =
    let among = among-first m ms in
    absurd (omega (arith, above m among, none m among))

-- the rest stays as it was
pub rest-without : (c d e : Cards) (card : ℕ) → d ≡ record c { list = d.list } → e ≡ without_list card d → e ≡ record c { list = e.list }
rest-without c d e card rest cleaned =
    cleaned
    ∙ (ap (λ (x : Cards). record x { list = without_member card d.list }) rest
    ∙ ap (λ (l : List ℕ). record c { list = l }) (sym (ap (λ (x : Cards). x.list) cleaned)))
