use Rattle.std.proofs.Common.{◌≡◌, ◌⊎◌, ℕ, inl, inr, List, Some, ap, sym, subst, ◌∙◌}
use Rattle.std.specs.Prelude.{◌↔◌, IsTrue}
use Rattle.std.proofs.lemmas.Option.{same_Some}
use Rattle.bal_base.specs.Bits.{is_member, with_member}
use Rattle.bal_base.proofs.Lemmas.{member-with}
use Rattle.bal_core.specs.declared.event.Decision.{Decision}
use Rattle.bal_layout.specs.Addresses.{region_of}
use Rattle.bal_partial.specs.Evacuating.{region_of_copy}
use Rattle.bal_partial.proofs.telling.insert_copy.Goals as goal

-- one more is a member
one-more : (r s q : ℕ) (old now : List ℕ) → r ≡ s → now ≡ with_member r old
    → IsTrue (is_member now q) ↔ ((Some s ≡ Some q) ⊎ IsTrue (is_member old q))
one-more r s q old now same is = (
  λ among. there ((member-with r q old).0 (subst (λ (ms : List ℕ). IsTrue (is_member ms q)) is among)),
  λ either. subst (λ (ms : List ℕ). IsTrue (is_member ms q)) (sym is) ((member-with r q old).1 (back either)),
)
  where
    there : (r ≡ q) ⊎ IsTrue (is_member old q) → (Some s ≡ Some q) ⊎ IsTrue (is_member old q)
    there (inl here) = inl (ap Some (sym same ∙ here))
    there (inr among) = inr among

    back : (Some s ≡ Some q) ⊎ IsTrue (is_member old q) → (r ≡ q) ⊎ IsTrue (is_member old q)
    back (inl here) = inl (same ∙ same_Some s q here)
    back (inr among) = inr among

pub returns-in-Copied-clause-members : goal.returns-in-Copied-clause-members
returns-in-Copied-clause-members c = λ q.
    let s = c.args.geometry.now in
    let here = one-more c.region_of.result (region_of s c.in-Copied.address) q c.args.members.now.members c.insert.new.self.members c.region_of.ensures.region c.insert.ensures.members in
    subst (λ (d : Decision). IsTrue (is_member c.insert.new.self.members q) ↔ ((region_of_copy s d ≡ Some q) ⊎ IsTrue (is_member c.args.members.now.members q)))
    (sym c.in-Copied.is) here
