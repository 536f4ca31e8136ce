use Rattle.std.proofs.Common.{◌≡◌, ℕ, Bool, true, false, not, IsTrue, List, [], ◌∷◌, Option, Some, None, refl, subst, sym, arith}
use Rattle.std.specs.Prelude.{◌↔◌, is_none, is_some}
use Rattle.std.proofs.lemmas.Bool.{false≢true}
use Rattle.bal_base.specs.Bits.{IsNextFrom, is_member}
use Rattle.bal_base.proofs.Lemmas.{among-first}
use Rattle.bal_heap.specs.Objects.{Objects}
use Rattle.bal_heap.proofs.objects.Objects.is_clean.Goals as goal

-- a set has no member exactly if none is found from 0 on
none-found : (list : List ℕ) (next : Option ℕ) → IsNextFrom list 0 next → IsTrue (is_none next) ↔ (list ≡ [])
none-found [] None h = (λ _. refl, λ _. refl)
none-found (m ∷ ms) None h = (λ _. absurd (omega (arith, h m (among-first m ms))), λ _. refl)
none-found list (Some s) h = (λ none. absurd (false≢true none), λ none. absurd (false≢true (subst (λ (l : List ℕ). IsTrue (is_member l s)) none h.0)))

none-is : (b : Bool) (next : Option ℕ) → not b ≡ is_some next → b ≡ is_none next
none-is true None h = refl
none-is true (Some s) h = absurd (false≢true h)
none-is false None h = absurd (false≢true (sym h))
none-is false (Some s) h = refl

pub returns : goal.returns
returns c = subst (λ b. IsTrue b ↔ (c.args.self.now.cards.list ≡ [])) (sym (none-is c.is_none.result c.next_list.result (sym c.is_none.ensures)))
    (subst (λ (o : Objects). IsTrue (is_none c.next_list.result) ↔ (o.cards.list ≡ [])) c.self.view_is
    (none-found c.self.inside.cards.list c.next_list.result c.next_list.ensures.next))
