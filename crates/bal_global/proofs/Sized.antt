-- The words that an object takes, by the table and by the plain state.
use Rattle.std.proofs.Common.{◌≡◌, ℕ, ◌+◌, ◌≤◌, Bool, cond, length, drop, Some, refl, ap, subst, sym, ◌∙◌, arith, length-take, length-drop}
use Rattle.std.specs.Prelude.{slice_index}
use Rattle.std.proofs.lemmas.Bool.{le-leb}
use Rattle.std.proofs.lemmas.List.{length-map}
use Rattle.bal_layout.specs.Header.{IsHeaderOf, MayHaveValues, header_of, size_in, size_of_parts}
use Rattle.bal_layout.specs.Shape.{Shape, largest_of}
use Rattle.bal_layout.specs.Sizes.{leaves_for}
use Rattle.bal_layout.specs.declared.geometry.Want.{Want}
use Rattle.bal_layout.specs.declared.header.Header.{Header}
use Rattle.bal_layout.specs.declared.name.Kind.{Kind}
use Rattle.bal_layout.specs.declared.name.Kind.TheVariants.{Plain, Array, Spine}
use Rattle.bal_model.specs.Sizes.{size_of, size_of_kind}
use Rattle.bal_plan.specs.Plan.{words_at, words_of_thing}
use Rattle.bal_table.specs.Table.{IsTable, Table, things_of}
use Rattle.bal_table.proofs.Lemmas.{seen, seen-refs}
use Rattle.bal_words.specs.Shown.{kind_seen, name_behind, object_of}
use Rattle.bal_words.specs.Things.{Thing, Things}

-- of each kind: an object that is no spine lies in one piece
kind-sized : (s : Shape) (kind : Kind) (refs values : ℕ) → (kind ≡ Spine → ⊥) → MayHaveValues kind values → size_of_parts s.words kind refs values ≤ largest_of s
    → (size_of_kind s (kind_seen kind) refs values).words ≡ size_of_parts s.words kind refs values
kind-sized s Plain refs values whole may fits = refl
kind-sized s Array refs values whole may fits =
    ap (λ (b : Bool). (cond {A = Want} b (record { words = 2 + refs; leaves = 0 }) (record { words = 2 + leaves_for s refs; leaves = leaves_for s refs })).words)
    (le-leb (2 + refs) (largest_of s) (omega (arith, fits, may)))
    ∙ omega (arith, may)
kind-sized s Spine refs values whole may fits = absurd (whole refl)

-- an object of a table is as large as the plain state says
pub words-are : ((h : Header) (first second : ℕ) → header_of first second ≡ Some h → IsHeaderOf h first second)
    → (t : Table) (a : ℕ) (x : Thing) (things : Things) → IsTable t → things_of t a ≡ Some x
    → (size_of t.shape (object_of things x)).words ≡ words_at t a
words-are once t a x things table is =
    let s = seen t a x table is in
    let h = s.header in
    let values : length x.values ≡ h.values = sym (ap (λ (y : Thing). length y.values) s.thing)
    ∙ omega (arith, length-take h.values (drop (2 + h.refs) s.object), length-drop (2 + h.refs) s.object, s.size) in
    let kind : h.kind ≡ x.kind = ap (λ (y : Thing). y.kind) s.thing in
    let parts : size_in t.shape.words h ≡ size_of_parts t.shape.words x.kind (length x.refs) (length x.values) =
    ap (λ k. size_of_parts t.shape.words k h.refs h.values) kind
    ∙ (ap (λ n. size_of_parts t.shape.words x.kind n h.values) (sym (seen-refs t a x s))
    ∙ ap (size_of_parts t.shape.words x.kind (length x.refs)) (sym values)) in
    let may : MayHaveValues x.kind (length x.values) =
    subst (MayHaveValues x.kind) (sym values)
    (subst (λ k. MayHaveValues k h.values) kind (once h (slice_index s.object 0) (slice_index s.object 1) s.read).limits.values) in
    ap (λ n. (size_of_kind t.shape (kind_seen x.kind) n (length x.values)).words) (length-map x.refs (name_behind things))
    ∙ (kind-sized t.shape x.kind (length x.refs) (length x.values) (λ e. s.whole (kind ∙ e)) may (subst (λ n. n ≤ largest_of t.shape) parts s.may.small)
    ∙ sym (ap (words_of_thing t.shape.words) is))
