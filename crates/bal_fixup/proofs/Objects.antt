-- Objects that are mended, one after the other.
use Rattle.std.proofs.Common.{◌≡◌, ℕ, inl, inr, Bool, true, false, cond, Option, Some, None, refl, ap, sym, ◌∙◌, eqb, eq-eqb}
use Rattle.std.specs.Prelude.{◌&&◌, ◌||◌}
use Rattle.std.proofs.lemmas.Bool.{ne_eqb, true≢false}
use Rattle.bal_fixup.specs.Mended.{mended_thing}
use Rattle.bal_fixup.specs.Mending.{MendedWhere}
use Rattle.bal_words.specs.Moved.{Fixed}
use Rattle.bal_words.specs.Things.{Thing, Things, Updated}
use Rattle.bal_words.proofs.Lemmas.{same-or}

-- one place more is done, or some
abbrev pub Adds : Bool → Bool → Bool → Type 0
Adds before more now = (now ≡ (before || more)) × ((before && more) ≡ false)

-- where nothing starts, nothing is mended
none-stays : (to : ℕ → ℕ) (b : Bool) → cond b (mended_thing to None) None ≡ None
none-stays to true = refl
none-stays to false = refl

-- what is mended at one time or at another is mended once
twice : (to : ℕ → ℕ) (o : Option Thing) (d e f : Bool) → ((x : Thing) → o ≡ Some x → Adds d e f)
    → cond e (mended_thing to (cond d (mended_thing to o) o)) (cond d (mended_thing to o) o) ≡ cond f (mended_thing to o) o
twice to None d e f adds =
    ap (λ (o : Option Thing). cond e (mended_thing to o) o) (none-stays to d) ∙ (none-stays to e ∙ sym (none-stays to f))
twice to (Some x) true true f adds = absurd (true≢false (adds x refl).1)
twice to (Some x) true false f adds = sym (ap (λ b. cond b (mended_thing to (Some x)) (Some x)) (adds x refl).0)
twice to (Some x) false true f adds = sym (ap (λ b. cond b (mended_thing to (Some x)) (Some x)) (adds x refl).0)
twice to (Some x) false false f adds = sym (ap (λ b. cond b (mended_thing to (Some x)) (Some x)) (adds x refl).0)

once : (to : ℕ → ℕ) (o : Option Thing) (d f : Bool) → ((x : Thing) → o ≡ Some x → f ≡ d) → cond d (mended_thing to o) o ≡ cond f (mended_thing to o) o
once to None d f same = none-stays to d ∙ sym (none-stays to f)
once to (Some x) d f same = sym (ap (λ b. cond b (mended_thing to (Some x)) (Some x)) (same x refl))

-- no object is mended
pub mended-none : (things : Things) (done : ℕ → Bool) (to : ℕ → ℕ) → ((a : ℕ) → done a ≡ false) → MendedWhere things things done to
mended-none things done to none = record { each = λ a. sym (ap (λ b. cond b (mended_thing to (things a)) (things a)) (none a)) }

-- one is
pub mended-one : (before after : Things) (one : ℕ) (to : ℕ → ℕ) → Updated before after one (mended_thing to (before one))
    → MendedWhere before after (λ a. eqb a one) to
mended-one before after one to change = record {
  each = λ a. elim (same-or a one) [
    | inl same ↦ ap after same
        ∙ (change.here
        ∙ (ap (λ b. mended_thing to (before b)) (sym same)
        ∙ sym (ap (λ b. cond b (mended_thing to (before a)) (before a)) (eq-eqb a one same))))
    | inr other ↦ change.elsewhere a other ∙ sym (ap (λ b. cond b (mended_thing to (before a)) (before a)) (ne_eqb a one other))
  ];
}

module _ (before now : Things) (done : ℕ → Bool) (to : ℕ → ℕ) (mended : MendedWhere before now done to) where
  -- the others are as they were
  pub mended-left : (a : ℕ) → done a ≡ false → now a ≡ before a
  mended-left a left = mended.each a ∙ ap (λ b. cond b (mended_thing to (before a)) (before a)) left

  -- and then some more are mended
  pub mended-more : (after : Things) (more all : ℕ → Bool) → MendedWhere now after more to
      → ((a : ℕ) (x : Thing) → before a ≡ Some x → Adds (done a) (more a) (all a)) → MendedWhere before after all to
  mended-more after more all next adds = record {
    each = λ a. next.each a
        ∙ (ap (λ (o : Option Thing). cond (more a) (mended_thing to o) o) (mended.each a) ∙ twice to (before a) (done a) (more a) (all a) (adds a));
  }

  -- where nothing starts makes no difference
  pub mended-same : (all : ℕ → Bool) → ((a : ℕ) (x : Thing) → before a ≡ Some x → all a ≡ done a) → MendedWhere before now all to
  mended-same all same = record { each = λ a. mended.each a ∙ once to (before a) (done a) (all a) (same a) }

  -- all are mended
  pub mended-all : ((a : ℕ) (x : Thing) → before a ≡ Some x → done a ≡ true) → Fixed before now to
  mended-all all = record { each = λ a. mended.each a ∙ once to (before a) (done a) true (λ x is. sym (all a x is)) }
