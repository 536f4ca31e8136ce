-- References are null or lead to an address in an empty table, after an object is placed and after one of its references is
-- written.
use Rattle.std.proofs.Common.{◌≡◌, ℕ, inl, inr, Option, Some, None, ap, sym, subst, ◌∙◌}
use Rattle.std.specs.Prelude.{All, MatchOption}
use Rattle.std.proofs.lemmas.List.Elements.{All-nil}
use Rattle.bal_fixup.specs.Mended.{AreReferences, IsReference}
use Rattle.bal_layout.specs.Shape.{IsShape, Shape}
use Rattle.bal_layout.specs.declared.region_state.Role.{Role}
use Rattle.bal_table.specs.Changes.{empty_table, with_role}
use Rattle.bal_table.specs.Table.{Table, things_of}
use Rattle.bal_table.proofs.Lemmas.{thing-none}
use Rattle.bal_words.specs.Paths.{words_in}
use Rattle.bal_words.specs.Things.{Thing, Things, Updated}
use Rattle.bal_words.proofs.Lemmas.{updated-cases}

pub references-empty : (s : Shape) (t : Table) → IsShape s → t ≡ empty_table s → AreReferences (things_of t)
references-empty s t shape is = record {
  each = λ a. subst (λ (o : Option Thing). All IsReference (words_in o)) (sym (ap (λ (u : Table). things_of u a) is ∙ thing-none s a shape)) (All-nil IsReference);
}

-- whatever a region is used for
pub references-opened : (t now : Table) (q : Option ℕ) (role : Role) → MatchOption q (now ≡ t) (λ r. now ≡ with_role t r role)
    → AreReferences (things_of t) → AreReferences (things_of now)
references-opened t now None role same all = subst (λ (u : Table). AreReferences (things_of u)) (sym same) all
references-opened t now (Some r) role same all = subst (λ (u : Table). AreReferences (things_of u)) (sym same) (record { each = all.each })

pub references-updated : (before after : Things) (a : ℕ) (y : Thing) → AreReferences before → Updated before after a (Some y) → All IsReference y.refs
    → AreReferences after
references-updated before after a y all u refs = record {
  each = λ b. elim (updated-cases u b) [
    | inl here ↦ subst (λ (o : Option Thing). All IsReference (words_in o)) (sym here.1) refs
    | inr other ↦ subst (λ (o : Option Thing). All IsReference (words_in o)) (sym other.1) (all.each b)
  ];
}
