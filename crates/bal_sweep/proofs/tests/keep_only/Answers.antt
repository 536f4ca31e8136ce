use Rattle.std.proofs.Common.{◌≡◌, ◌∙◌, ℕ, [], ◌∷◌, ap, inl, inr, subst, sym, true}
use Rattle.std.specs.Prelude.{IsSome}
use Rattle.std.proofs.lemmas.Bool.{false≢true}
use Rattle.bal_base.proofs.Lemmas.{among-cases}
use Rattle.bal_layout.specs.Addresses.{region_of}
use Rattle.bal_layout.specs.Regions.{is_in}
use Rattle.bal_layout.specs.Shape.{Shape}
use Rattle.bal_table.specs.Table.{things_of}
use Rattle.bal_sweep.proofs.tests.keep_only.Goals as goal

only : (m a : ℕ) → is_in a (m ∷ []) ≡ true → m ≡ a
only m a among = elim (among-cases m a [] among) [ inl same ↦ same | inr none ↦ absurd (false≢true none) ]

pub keep_marked-requires-clause-marked : goal.keep_marked-requires-clause-marked
keep_marked-requires-clause-marked c = record {
  ascending = (λ n among. absurd (false≢true among), tt);
  objects = λ a among. subst (λ n. IsSome (things_of c.args.table.now n)) (only c.in-Some.start a among) c.in-Some.ensures.start;
  region = λ a among.
      subst (λ n. region_of c.args.table.now.shape n ≡ c.args.region) (only c.in-Some.start a among)
      (ap (λ (s : Shape). region_of s c.in-Some.start) (sym c.geometry-geometry.ensures.shape) ∙ (sym c.region_of.ensures.region ∙ c.if-region_of-region.true));
}
