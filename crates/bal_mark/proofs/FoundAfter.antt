-- References are found in an empty table, and after an object is placed and after one of its references is written.
use Rattle.std.proofs.Common.{◌≡◌, ℕ, inl, inr, List, Option, Some, None, refl, ap, sym, subst, ◌∙◌}
use Rattle.std.specs.Prelude.{All, MatchOption}
use Rattle.std.proofs.lemmas.List.Elements.{All-nil}
use Rattle.bal_layout.specs.Shape.{IsShape, Shape}
use Rattle.bal_layout.specs.declared.region_state.Role.{Role}
use Rattle.bal_roots.specs.Roots.{null_roots, root_count}
use Rattle.bal_table.specs.Changes.{empty_table, with_role}
use Rattle.bal_table.specs.Table.{Table, things_of}
use Rattle.bal_table.proofs.Lemmas.{thing-none}
use Rattle.bal_words.specs.Paths.{words_in}
use Rattle.bal_words.specs.Shown.{Finds}
use Rattle.bal_words.specs.Things.{Thing, Things, Updated}
use Rattle.bal_words.proofs.Lemmas.{roots-null, roots-placed, roots-written, updated-cases}
use Rattle.bal_mark.specs.Found.{AreFound}

-- nothing starts, whatever a region is used for
pub found-empty : (s : Shape) (t now : Table) (role : Role) (q : Option ℕ) (roots : List ℕ) → IsShape s → t ≡ empty_table s
    → MatchOption q (now ≡ t) (λ r. now ≡ with_role t r role) → roots ≡ null_roots → AreFound (things_of now) roots
found-empty s t now role q roots shape is opened null =
    subst (AreFound (things_of now)) (sym null)
    (record {
      objects = λ a. subst (λ (o : Option Thing). All (Finds (things_of now)) (words_in o)) (sym (none a)) (All-nil (Finds (things_of now)));
      held = (roots-null (things_of now) root_count).found;
    })
  where
    here : (a : ℕ) → things_of t a ≡ None
    here a = ap (λ (u : Table). things_of u a) is ∙ thing-none s a shape

    by : (p : Option ℕ) → MatchOption p (now ≡ t) (λ r. now ≡ with_role t r role) → (a : ℕ) → things_of now a ≡ None
    by None same a = ap (λ (u : Table). things_of u a) same ∙ here a
    by (Some r) same a = ap (λ (u : Table). things_of u a) same ∙ here a

    none : (a : ℕ) → things_of now a ≡ None
    none = by q opened

-- words that were found are found still
abbrev Stay : Things → Things → Type 0
Stay before after = (words : List ℕ) → All (Finds before) words → All (Finds after) words

pub found-updated : (before after : Things) (roots : List ℕ) (a : ℕ) (y : Thing) → AreFound before roots → Stay before after
    → Updated before after a (Some y) → All (Finds before) y.refs → AreFound after roots
found-updated before after roots a y found stay u refs = record {
  objects = λ b. elim (updated-cases u b) [
    | inl here ↦ subst (λ (o : Option Thing). All (Finds after) (words_in o)) (sym here.1) (stay y.refs refs)
    | inr other ↦ subst (λ (o : Option Thing). All (Finds after) (words_in o)) (sym other.1) (stay (words_in (before b)) (found.objects b))
  ];
  held = stay roots found.held;
}

pub stay-placed : (before after : Things) (a : ℕ) (y : Thing) → before a ≡ None → Updated before after a (Some y) → Stay before after
stay-placed before after a y free u words found = (roots-placed before after words _ a y (record { each = refl; found = found }) free u).found

pub stay-written : (before after : Things) (a : ℕ) (x y : Thing) → before a ≡ Some x → y.name ≡ x.name → Updated before after a (Some y) → Stay before after
stay-written before after a x y is name u words found = (roots-written before after words _ a x y (record { each = refl; found = found }) is name u).found
