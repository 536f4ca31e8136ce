-- What marking an object, or taking its mark away, makes of the marks.
use Rattle.std.proofs.Common.{◌≡◌, ◌-◌, ◌<◌, inl, inr, ℕ, zero, suc, Bool, true, false, not, ◌&&◌, ◌||◌, IsTrue, List, [], ◌∷◌, refl, ap, sym, ◌∙◌, arith, eqb, eq-eqb, eqb-true, get_or, length}
use Rattle.std.specs.Vec.{with_item}
use Rattle.std.proofs.lemmas.Bool.{and_parts, and_from, or_cases, or_left, or_right, false≢true, ne_eqb, eqb-false}
use Rattle.std.proofs.lemmas.List.{get_or_default, get_or-set_other}
use Rattle.std.proofs.lemmas.Grind.{get_or-set_at}
use Rattle.bal_base.specs.Bits.{Members, is_member, with_member, without_member}
use Rattle.bal_base.proofs.Lemmas.{member-with, member-without}
use Rattle.bal_layout.specs.declared.name.Name.{Name}
use Rattle.bal_layout.specs.Names.{same_name}
use Rattle.bal_model.specs.Marks.{has_ordinal, is_marked, marks_by}
use Rattle.bal_model.specs.declared.plain.marks.Marks.{Marks}

-- tests that pass together are the same
pub same-truth : (a b : Bool) → (IsTrue a → IsTrue b) → (IsTrue b → IsTrue a) → a ≡ b
same-truth true true f g = refl
same-truth true false f g = absurd (false≢true (f refl))
same-truth false true f g = absurd (false≢true (g refl))
same-truth false false f g = refl

not-from : (b : Bool) → b ≡ false → IsTrue (not b)
not-from b e = ap not e

from-not : (b : Bool) → IsTrue (not b) → b ≡ false
from-not true h = absurd (false≢true h)
from-not false h = refl

-- The marks of one thread.

with-ordinal : (ms : List ℕ) (o k : ℕ) → 0 < o → has_ordinal (with_member (o - 1) ms) k ≡ (has_ordinal ms k || eqb k o)
with-ordinal ms o zero h = sym (ne_eqb 0 o (λ e. omega arith))
with-ordinal ms o (suc i) h = same-truth (is_member (with_member (o - 1) ms) i) (is_member ms i || eqb (suc i) o) to from
  where
    to : IsTrue (is_member (with_member (o - 1) ms) i) → IsTrue (is_member ms i || eqb (suc i) o)
    to p = elim ((member-with (o - 1) i ms).0 p) [
      | inl e ↦ or_right (is_member ms i) (eqb (suc i) o) (eq-eqb (suc i) o (omega (arith, e)))
      | inr q ↦ or_left (is_member ms i) (eqb (suc i) o) q
    ]

    from : IsTrue (is_member ms i || eqb (suc i) o) → IsTrue (is_member (with_member (o - 1) ms) i)
    from p = (member-with (o - 1) i ms).1 (elim (or_cases (is_member ms i) (eqb (suc i) o) p) [
      | inl q ↦ inr q
      | inr e ↦ inl (omega (arith, eqb-true (suc i) o e))
    ])

without-ordinal : (ms : List ℕ) (o k : ℕ) → 0 < o → has_ordinal (without_member (o - 1) ms) k ≡ (has_ordinal ms k && not (eqb k o))
without-ordinal ms o zero h = refl
without-ordinal ms o (suc i) h = same-truth (is_member (without_member (o - 1) ms) i) (is_member ms i && not (eqb (suc i) o)) to from
  where
    to : IsTrue (is_member (without_member (o - 1) ms) i) → IsTrue (is_member ms i && not (eqb (suc i) o))
    to p =
        let parts = (member-without (o - 1) i ms).0 p in
        and_from (is_member ms i) (not (eqb (suc i) o)) parts.1 (not-from (eqb (suc i) o) (ne_eqb (suc i) o (λ e. parts.0 (omega (arith, e)))))

    from : IsTrue (is_member ms i && not (eqb (suc i) o)) → IsTrue (is_member (without_member (o - 1) ms) i)
    from p =
        let parts = and_parts (is_member ms i) (not (eqb (suc i) o)) p in
        (member-without (o - 1) i ms).1 ((λ e. eqb-false (suc i) o (from-not (eqb (suc i) o) parts.1) (omega (arith, e))), parts.0)

-- The marks of all threads, where those of one thread were changed.

module _ (m : Marks) (x : Name) (b : Members) (within : x.thread < length m.threads.items) (counted : 0 < x.ordinal) where
  abbrev changed : Marks
  changed = record { threads = with_item m.threads x.thread b }

  here : (y : Name) → y.thread ≡ x.thread → is_marked changed y ≡ has_ordinal b.members y.ordinal
  here y e = ap (λ (ms : Members). has_ordinal ms.members y.ordinal) (get_or-set_at m.threads.items x.thread y.thread b _ e within)

  elsewhere : (y : Name) → (y.thread ≡ x.thread → ⊥) → is_marked changed y ≡ is_marked m y
  elsewhere y e = ap (λ (ms : Members). has_ordinal ms.members y.ordinal) (get_or-set_other m.threads.items x.thread y.thread b _ e)

  -- what it was, as marks read it
  was : (old : Members) → old ≡ get_or m.threads.items x.thread old → old ≡ marks_by m x.thread
  was old at = at ∙ get_or_default m.threads.items x.thread old _ within

  pub marked-with : (old : Members) → old ≡ get_or m.threads.items x.thread old → b.members ≡ with_member (x.ordinal - 1) old.members
      → (y : Name) → is_marked changed y ≡ (is_marked m y || same_name y x)
  marked-with old at new y = by (eqb y.thread x.thread) refl
    where
      by : (c : Bool) → eqb y.thread x.thread ≡ c → is_marked changed y ≡ (is_marked m y || (c && eqb y.ordinal x.ordinal))
      by true e =
          let same = eqb-true y.thread x.thread e in
          here y same ∙ (ap (λ (ms : List ℕ). has_ordinal ms y.ordinal) (new ∙ ap (λ (o : Members). with_member (x.ordinal - 1) o.members) (was old at)) ∙ (with-ordinal (marks_by m x.thread).members x.ordinal y.ordinal counted
          ∙ ap (λ (t : ℕ). has_ordinal (marks_by m t).members y.ordinal || eqb y.ordinal x.ordinal) (sym same)))
      by false e = elsewhere y (eqb-false y.thread x.thread e) ∙ or-none (is_marked m y)
        where
          or-none : (a : Bool) → a ≡ (a || false)
          or-none true = refl
          or-none false = refl

  pub marked-without : (old : Members) → old ≡ get_or m.threads.items x.thread old → b.members ≡ without_member (x.ordinal - 1) old.members
      → (y : Name) → is_marked changed y ≡ (is_marked m y && not (same_name y x))
  marked-without old at new y = by (eqb y.thread x.thread) refl
    where
      by : (c : Bool) → eqb y.thread x.thread ≡ c → is_marked changed y ≡ (is_marked m y && not (c && eqb y.ordinal x.ordinal))
      by true e =
          let same = eqb-true y.thread x.thread e in
          here y same ∙ (ap (λ (ms : List ℕ). has_ordinal ms y.ordinal) (new ∙ ap (λ (o : Members). without_member (x.ordinal - 1) o.members) (was old at)) ∙ (without-ordinal (marks_by m x.thread).members x.ordinal y.ordinal counted
          ∙ ap (λ (t : ℕ). has_ordinal (marks_by m t).members y.ordinal && not (eqb y.ordinal x.ordinal)) (sym same)))
      by false e = elsewhere y (eqb-false y.thread x.thread e) ∙ and-all (is_marked m y)
        where
          and-all : (a : Bool) → a ≡ (a && true)
          and-all true = refl
          and-all false = refl

-- what is marked stands in the list of its thread
pub marked-there : (m : Marks) (x : Name) → IsTrue (is_marked m x) → (x.thread < length m.threads.items) × (0 < x.ordinal)
marked-there m x h = by-list m.threads.items x.thread x.ordinal h
  where
    none : (o : ℕ) → has_ordinal [] o ≡ false
    none zero = refl
    none (suc o) = refl

    by-list : (ts : List Members) (t o : ℕ) → IsTrue (has_ordinal (get_or ts t (record { members = []; room = 0 })).members o) → (t < length ts) × (0 < o)
    by-list [] t o h = absurd (false≢true (sym (none o) ∙ h))
    by-list (b ∷ ts) zero zero h = absurd (false≢true h)
    by-list (b ∷ ts) zero (suc o) h = (omega arith, omega arith)
    by-list (b ∷ ts) (suc t) o h = let rest = by-list ts t o h in (omega (arith, rest.0), rest.1)
