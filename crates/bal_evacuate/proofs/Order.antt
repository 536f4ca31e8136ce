-- Objects are decided breadth first.
use Rattle.std.proofs.Common.{◌≡◌, ◌+◌, ◌<◌, ◌≤◌, ◌==◌, ℕ, zero, suc, inl, inr, true, false, List, [], ◌∷◌, ◌++◌, length, take, get_or, Option, Some, None, refl, ap, sym, subst, ◌∙◌, arith}
use Rattle.std.specs.Prelude.{if◌then◌else◌}
use Rattle.std.specs.List.{list_any}
use Rattle.std.specs.Option.{option_to_list}
use Rattle.std.proofs.lemmas.Bool.{cases_Bool, eq-eqb, eqb-true}
use Rattle.std.proofs.lemmas.List.{append_assoc, append-nil, map-append, take_all, take_more, take_more_same}
use Rattle.std.proofs.lemmas.Option.{get_or_from_slice_get, none-some, same_Some, slice_get-get_or, slice_get_within}
use Rattle.bal_core.specs.declared.event.Decision.{Decision}
use Rattle.bal_core.specs.declared.event.Decision.TheVariants as decision
use Rattle.bal_core.specs.declared.row.Told.{Told}
use Rattle.bal_core.specs.Steps.{told}
use Rattle.bal_core.specs.World.{At, Graph, row_of, slots_in}
use Rattle.bal_core.proofs.Lemmas.{any-at}
use Rattle.bal_evacuate.specs.Course.{Course, decision_of, state_of}
use Rattle.bal_evacuate.specs.Going.{Goes, HasDecided, IsUnderWay}
use Rattle.bal_evacuate.specs.Order.{firsts, held, held_by, objects_of, with_first}
use Rattle.bal_evacuate.specs.Plan.{Plan, world_for}
use Rattle.bal_evacuate.proofs.Drawn.{any-from}
use Rattle.bal_evacuate.proofs.Lists.{at-mapped}
use Rattle.bal_evacuate.proofs.Walk.{some-is}

-- Lists.

pub firsts-append : (seen xs ys : List ℕ) → firsts seen (xs ++ ys) ≡ firsts (firsts seen xs) ys
unfolding firsts
firsts-append seen [] ys = refl
firsts-append seen (x ∷ xs) ys = firsts-append (with_first seen x) xs ys

pub firsts-one : (seen : List ℕ) (k : ℕ) → firsts seen (k ∷ []) ≡ with_first seen k
unfolding firsts
firsts-one seen k = refl

pub firsts-none : (seen : List ℕ) → firsts seen [] ≡ seen
unfolding firsts
firsts-none seen = refl

held-append : (xs ys : List (Option ℕ)) → held (xs ++ ys) ≡ held xs ++ held ys
unfolding held
held-append [] ys = refl
held-append (x ∷ xs) ys = ap (λ l. option_to_list x ++ l) (held-append xs ys) ∙ sym (append_assoc (option_to_list x) (held xs) (held ys))

held-some : (k : ℕ) → held (Some k ∷ []) ≡ k ∷ []
unfolding held
held-some k = refl

held-none : held (None ∷ []) ≡ []
unfolding held
held-none = refl

held-nothing : held [] ≡ []
unfolding held
held-nothing = refl

held_by-append : (g : Graph) (xs ys : List Told) → held_by g (xs ++ ys) ≡ held_by g xs ++ held_by g ys
unfolding held_by
held_by-append g [] ys = refl
held_by-append g (x ∷ xs) ys =
    ap (λ l. held (slots_in g.targets x.object) ++ l) (held_by-append g xs ys)
    ∙ sym (append_assoc (held (slots_in g.targets x.object)) (held_by g xs) (held_by g ys))

held_by-one : (g : Graph) (t : Told) → held_by g (t ∷ []) ≡ held (slots_in g.targets t.object) ++ []
unfolding held_by
held_by-one g t = refl

held_by-none : (g : Graph) → held_by g [] ≡ []
unfolding held_by
held_by-none g = refl

-- One object.

among-won : (p : Plan) (c : Course) (k : ℕ) → IsUnderWay p c → HasDecided c k → list_any (λ j. j == k) (objects_of c.won) ≡ true
among-won p c k u has =
    let d : (x : Decision) × (decision_of c k ≡ Some x) = some-is (decision_of c k) has in
    let won = u.core.won.won k d.0 d.1 in
    any-from (λ j. j == k) (objects_of c.won) won.1 k
    (at-mapped (λ (t : Told). t.object) c.won won.1 (told k d.0) (only won.0 won.1 (told k d.0) won.2)) (eq-eqb k k refl)
  where
    only : (n i : ℕ) (t : Told) → At (row_of (state_of (world_for p) c) n).won i t → At c.won i t
    only zero i t at = at
    only (suc n) i t at = absurd (none-some t at)

not-among : (p : Plan) (c : Course) (k : ℕ) → IsUnderWay p c → decision_of c k ≡ None → list_any (λ j. j == k) (objects_of c.won) ≡ false
not-among p c k u unset = elim (cases_Bool (list_any (λ j. j == k) (objects_of c.won))) [
  | inl any ↦
      let at = any-at (λ j. j == k) (objects_of c.won) any in
      let here = back c.won at.0 at.1 at.2 in
      let held : decision_of c at.1 ≡ Some here.0 = u.core.won.held 0 at.0 at.1 here.0 here.1 in
      absurd (none-some here.0 (sym unset ∙ subst (λ j. decision_of c j ≡ Some here.0) (eqb-true at.1 k at.3) held))
  | inr none ↦ none
]
  where
    back : (won : List Told) (i j : ℕ) → At (objects_of won) i j → (d : Decision) × At won i (told j d)
    back [] i j at = absurd (none-some j at)
    back (t ∷ won) zero j at = (t.decision, ap (λ x. Some (told x t.decision)) (same_Some t.object j at))
    back (t ∷ won) (suc i) j at = back won i j at

pub order-same : (p : Plan) (c : Course) (k : ℕ) → IsUnderWay p c → HasDecided c k → objects_of c.won ≡ with_first (objects_of c.won) k
order-same p c k u has = sym (ap (λ b. if b then objects_of c.won else objects_of c.won ++ k ∷ []) (among-won p c k u has))

pub order-more : (p : Plan) (c f : Course) (k : ℕ) (d : Decision) → IsUnderWay p c → decision_of c k ≡ None → f.won ≡ c.won ++ told k d ∷ []
    → objects_of f.won ≡ with_first (objects_of c.won) k
order-more p c f k d u unset more =
    ap objects_of more ∙ map-append (λ (t : Told). t.object) c.won (told k d ∷ [])
    ∙ sym (ap (λ b. if b then objects_of c.won else objects_of c.won ++ k ∷ []) (not-among p c k u unset))

-- Loops.

pub roots-order : (seen : List ℕ) (roots : List ℕ) (place : ℕ) (n m : List Told) → place < length roots
    → objects_of n ≡ firsts seen (take place roots) → objects_of m ≡ with_first (objects_of n) (get_or roots place 0)
    → objects_of m ≡ firsts seen (take (place + 1) roots)
roots-order seen roots place n m less before now =
    now ∙ ap (λ s. with_first s (get_or roots place 0)) before ∙ sym (firsts-one (firsts seen (take place roots)) (get_or roots place 0))
    ∙ sym (firsts-append seen (take place roots) (get_or roots place 0 ∷ [])) ∙ ap (firsts seen) (sym (take_more roots place 0 less))

-- the next slot
slot-held : (slots : List (Option ℕ)) (slot : ℕ) (o : Option ℕ) → At slots slot o → held (take (slot + 1) slots) ≡ held (take slot slots) ++ held (o ∷ [])
slot-held slots slot o at =
    ap held (take_more slots slot o (slice_get_within slots slot o at)) ∙ held-append (take slot slots) (get_or slots slot o ∷ [])
    ∙ ap (λ x. held (take slot slots) ++ held (x ∷ [])) (get_or_from_slice_get slots slot o o at)

pub slots-some : (seen : List ℕ) (slots : List (Option ℕ)) (slot k : ℕ) (n m : List Told) → At slots slot (Some k)
    → objects_of n ≡ firsts seen (held (take slot slots)) → objects_of m ≡ with_first (objects_of n) k
    → objects_of m ≡ firsts seen (held (take (slot + 1) slots))
slots-some seen slots slot k n m at before now =
    now ∙ ap (λ s. with_first s k) before ∙ sym (firsts-one (firsts seen (held (take slot slots))) k)
    ∙ sym (firsts-append seen (held (take slot slots)) (k ∷ []))
    ∙ sym (ap (firsts seen) (slot-held slots slot (Some k) at ∙ ap (λ l. held (take slot slots) ++ l) (held-some k)))

pub slots-none : (seen : List ℕ) (slots : List (Option ℕ)) (slot : ℕ) (n : List Told) → At slots slot None
    → objects_of n ≡ firsts seen (held (take slot slots)) → objects_of n ≡ firsts seen (held (take (slot + 1) slots))
slots-none seen slots slot n at before =
    before ∙ sym (ap (firsts seen) (slot-held slots slot None at ∙ ap (λ l. held (take slot slots) ++ l) held-none)
    ∙ firsts-append seen (held (take slot slots)) [] ∙ firsts-none (firsts seen (held (take slot slots))))

pub slots-whole : (seen : List ℕ) (slots : List (Option ℕ)) (slot : ℕ) (n : List Told) → length slots ≤ slot
    → objects_of n ≡ firsts seen (held (take slot slots)) → objects_of n ≡ firsts seen (held slots)
slots-whole seen slots slot n past before = before ∙ ap (λ l. firsts seen (held l)) (take_all slot slots past)

-- a list that grew has the same front
front-same : (xs ys : List Told) → ((i : ℕ) (t : Told) → At xs i t → At ys i t) → (n : ℕ) → n ≤ length xs → take n ys ≡ take n xs
front-same xs ys grows zero few = refl
front-same xs ys grows (suc n) few =
    let d : Told = told 0 decision.Marked in
    let plus : n + 1 ≡ suc n = omega arith in
    let less : n < length xs = omega (arith, few) in
    let here : At ys n (get_or xs n d) = grows n (get_or xs n d) (slice_get-get_or xs n d less) in
    subst (λ m. take m ys ≡ take m xs) plus
    (take_more_same ys xs n d (slice_get_within ys n (get_or xs n d) here) less (front-same xs ys grows n (omega (arith, few)))
    (get_or_from_slice_get ys n (get_or xs n d) d here))

-- the next object was scanned
pub scan-order : (p : Plan) (g : Graph) (seen : List ℕ) (n m : Course) (place k : ℕ) (d : Decision) → Goes p n m → At n.won place (told k d)
    → objects_of n.won ≡ firsts seen (held_by g (take place n.won))
    → objects_of m.won ≡ firsts (objects_of n.won) (held (slots_in g.targets k))
    → objects_of m.won ≡ firsts seen (held_by g (take (place + 1) m.won))
scan-order p g seen n m place k d goes at before now =
    let less : place < length n.won = slice_get_within n.won place (told k d) at in
    let front : take (place + 1) m.won ≡ take place n.won ++ told k d ∷ []
    = front-same n.won m.won goes.grows (place + 1) (omega (arith, less)) ∙ take_more n.won place (told k d) less
    ∙ ap (λ t. take place n.won ++ t ∷ []) (get_or_from_slice_get n.won place (told k d) (told k d) at) in
    let more : held_by g (take (place + 1) m.won) ≡ held_by g (take place n.won) ++ (held (slots_in g.targets k) ++ [])
    = ap (held_by g) front ∙ held_by-append g (take place n.won) (told k d ∷ []) ∙ ap (λ l. held_by g (take place n.won) ++ l) (held_by-one g (told k d)) in
    now ∙ ap (λ s. firsts s (held (slots_in g.targets k))) before
    ∙ sym (firsts-append seen (held_by g (take place n.won)) (held (slots_in g.targets k)))
    ∙ sym (ap (firsts seen) (more ∙ ap (λ l. held_by g (take place n.won) ++ l) (append-nil (held (slots_in g.targets k)))))

pub scan-whole : (g : Graph) (seen : List ℕ) (won : List Told) (place : ℕ) → length won ≤ place
    → objects_of won ≡ firsts seen (held_by g (take place won)) → objects_of won ≡ firsts seen (held_by g won)
scan-whole g seen won place past before = before ∙ ap (λ l. firsts seen (held_by g l)) (take_all place won past)

-- Nothing was done yet.

pub roots-first : (c : List Told) (roots : List ℕ) → objects_of c ≡ firsts (objects_of c) (take 0 roots)
roots-first c roots = sym (firsts-none (objects_of c))

pub slots-first : (c : List Told) (slots : List (Option ℕ)) → objects_of c ≡ firsts (objects_of c) (held (take 0 slots))
slots-first c slots = sym (ap (firsts (objects_of c)) held-nothing ∙ firsts-none (objects_of c))

pub scan-first : (g : Graph) (c : List Told) → objects_of c ≡ firsts (objects_of c) (held_by g (take 0 c))
scan-first g c = sym (ap (firsts (objects_of c)) (held_by-none g) ∙ firsts-none (objects_of c))

-- all of it
pub order-whole : (p : Plan) (g : Graph) (roots : List ℕ) (c m n : Course) → p.graph ≡ g → p.roots ≡ roots → c.won ≡ []
    → objects_of m.won ≡ firsts (objects_of c.won) roots → objects_of n.won ≡ firsts (objects_of m.won) (held_by g n.won)
    → objects_of n.won ≡ firsts [] (p.roots ++ held_by p.graph n.won)
order-whole p g roots c m n graph_is roots_are none rooted scanned =
    scanned ∙ ap (λ s. firsts s (held_by g n.won)) (rooted ∙ ap (λ w. firsts (objects_of w) roots) none) ∙ sym (firsts-append [] roots (held_by g n.won))
    ∙ ap (λ l. firsts [] (l ++ held_by g n.won)) (sym roots_are) ∙ ap (λ x. firsts [] (p.roots ++ held_by x n.won)) (sym graph_is)
