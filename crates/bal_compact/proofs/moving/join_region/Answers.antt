use Rattle.std.proofs.Common.{◌≡◌, ◌∙◌, inl, inr, max, Some, ap, arith, subst, sym}
use Rattle.std.specs.Prelude.{MatchOption}
use Rattle.bal_compact.proofs.LowestFree.{lowest-is}
use Rattle.bal_compact.proofs.moving.join_region.Goals as goal
use Rattle.bal_layout.specs.Regions.{age_of, is_free}
use Rattle.bal_layout.specs.declared.region_state.Role.TheVariants.{Free, Object}
use Rattle.bal_table.specs.Changes.{with_role}
use Rattle.bal_table.specs.Table.{IsRole, role_at}

pub returns-in-Free : goal.returns-in-Free
returns-in-Free c =
    let t = c.args.table.now in
    let q = c.args.region in
    let table = c.geometry.ensures.limits in
    let role : role_at t q ≡ Free = elim c.in-Free.is [
      | inl free ↦ sym c.role.ensures ∙ free
      | inr leaf ↦ absurd (subst IsRole (sym c.role.ensures ∙ leaf) (table.each q c.requires.within).role)
    ] in
    let first : c.take_free.result ≡ Some q =
    c.take_free.ensures.lowest ∙ lowest-is t.regions q (omega (arith, c.requires.within, table.regions)) c.requires.lowest (ap is_free role) in
    let old : c.args.age ≡ max (age_of (role_at t q)) c.args.age = omega (arith, ap age_of role) in
    subst (λ o. MatchOption o (c.take_free.new.self ≡ t) (λ p. c.take_free.new.self ≡ with_role t p (Object c.args.age))) first c.take_free.ensures.table
    ∙ ap (λ n. with_role t q (Object n)) old
