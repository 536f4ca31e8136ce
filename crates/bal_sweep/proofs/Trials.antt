-- Heaps on which a sweep is tried, as they are made, swept and marked.
use Rattle.std.proofs.Common.{◌≡◌, ℕ, ◌+◌, ◌<◌, ◌≤◌, ◌⊎◌, inl, inr, Option, Some, None, ap, sym, subst, ◌∙◌, arith}
use Rattle.std.specs.Prelude.{MatchOption}
use Rattle.std.proofs.lemmas.Option.{none-some, same_Some}
use Rattle.bal_layout.specs.Addresses.{address_in}
use Rattle.bal_layout.specs.Shape.{IsShape, Shape}
use Rattle.bal_layout.specs.declared.region_state.Role.{Role}
use Rattle.bal_layout.specs.declared.name.Name.{Name}
use Rattle.bal_table.specs.Changes.{empty_table, with_new, with_role}
use Rattle.bal_table.specs.Table.{IsPiece, IsTable, Table, land_at, things_of}
use Rattle.bal_table.proofs.Lemmas.{thing-none, thing-placed}
use Rattle.bal_words.specs.Things.{Thing, Updated, blank_thing}
use Rattle.bal_words.proofs.Lemmas.{same-or}
use Rattle.bal_sweep.specs.Dead.{AreNamedApart}
use Rattle.bal_sweep.specs.Trials.{IsTrial}

pub trial-empty : (s : Shape) → IsShape s → IsTrial (empty_table s)
trial-empty s shape a x is = absurd (none-some x (sym (thing-none s a shape) ∙ is))

pub trial-taken : (t u : Table) (o : Option ℕ) (role : Role) → MatchOption o (u ≡ t) (λ q. u ≡ with_role t q role) → IsTrial t → IsTrial u
trial-taken t u None role is trial = subst IsTrial (sym is) trial
trial-taken t u (Some q) role is trial = subst IsTrial (sym is) trial

-- where the next object is placed
abbrev pub next_place : Table → ℕ → ℕ
next_place t q = address_in t.shape q (land_at t q).used

pub trial-new : (t : Table) (q first second words : ℕ) (p : IsPiece t.shape first second words) → IsTable t → q < t.shape.regions
    → (land_at t q).used + words ≤ t.shape.words → p.header.name.ordinal + next_place t q ≡ 1024 → IsTrial t → IsTrial (with_new t q first second words)
trial-new t q first second words p table within fits name trial a x is = named (same-or a (next_place t q))
  where
    update : Updated (things_of t) (things_of (with_new t q first second words)) (next_place t q) (Some (blank_thing p.header.name p.header.kind p.header.refs p.header.values))
    update = thing-placed t q first second words p table within fits

    named : (a ≡ next_place t q) ⊎ (a ≡ next_place t q → ⊥) → x.name.ordinal + a ≡ 1024
    named (inl here) =
        let x-is = same_Some (blank_thing p.header.name p.header.kind p.header.refs p.header.values) x (sym update.here ∙ (ap (things_of (with_new t q first second words)) (sym here) ∙ is)) in
        omega (arith, here, name, ap (λ (y : Thing). y.name.ordinal) x-is)
    named (inr other) = trial a x (sym (update.elsewhere a other) ∙ is)

-- no two objects have one name
pub trial-apart : (t : Table) → IsTrial t → AreNamedApart (things_of t)
trial-apart t trial a b x y one two same = omega (arith, trial a x one, trial b y two, ap (λ (n : Name). n.ordinal) same)
