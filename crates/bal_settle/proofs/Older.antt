-- Regions that are made older, one after the other.
use Rattle.std.proofs.Common.{◌≡◌, ℕ, ◌+◌, ◌<◌, ◌≤◌, ◌⊎◌, inl, inr, true, false, cond, length, map, set, Option, refl, ap, sym, subst, ◌∙◌, arith, get_or-set_other, get_or-set_same, length-set}
use Rattle.std.proofs.lemmas.Bool.{false≢true}
use Rattle.std.proofs.lemmas.List.{get_or-map, get_or_default, length-map, same_lists}
use Rattle.bal_layout.specs.Regions.{free_region, is_eden, is_object, region_at}
use Rattle.bal_layout.specs.declared.region_state.RegionState.{RegionState}
use Rattle.bal_layout.specs.declared.region_state.Role.{Role}
use Rattle.bal_layout.specs.declared.region_state.Role.TheVariants.{Free, Leaf, Object}
use Rattle.bal_table.specs.Changes.{with_role}
use Rattle.bal_table.specs.Table.{Table, role_at}
use Rattle.bal_words.proofs.Lemmas.{same-or}
use Rattle.bal_settle.specs.Settling.{IsOlderTo, state_older, with_eden_older}

-- what is eden has objects
pub eden-objects : (role : Role) → is_eden role ≡ true → is_object role ≡ true
eden-objects Free is = absurd (false≢true is)
eden-objects (Object age) is = refl
eden-objects Leaf is = absurd (false≢true is)

pub older-none : (t : Table) → IsOlderTo t t 0
older-none t = record {
  shape = refl;
  lands = refl;
  current = refl;
  count = refl;
  below = λ q less. absurd (omega (arith, less));
  behind = λ q from. refl;
}

module _ (t u : Table) (k : ℕ) (i : IsOlderTo t u k) where
  here : region_at u.regions k ≡ region_at t.regions k
  here = i.behind k (omega arith)

  pub older-role : role_at u k ≡ role_at t k
  older-role = ap (λ (r : RegionState). r.role) here

  -- it is not eden
  pub older-stays : is_eden (role_at u k) ≡ false → IsOlderTo t u (k + 1)
  older-stays not = record {
    shape = i.shape;
    lands = i.lands;
    current = i.current;
    count = i.count;
    below = λ q less. by q less (same-or q k);
    behind = λ q from. i.behind q (omega (arith, from));
  }
    where
      by : (q : ℕ) → q < k + 1 → (q ≡ k) ⊎ (q ≡ k → ⊥) → region_at u.regions q ≡ state_older (region_at t.regions q)
      by q less (inl same) = subst (λ p. region_at u.regions p ≡ state_older (region_at t.regions p)) (sym same)
          (here ∙ ap (λ b. cond b (record (region_at t.regions k) { role = Object 1 }) (region_at t.regions k)) (sym (sym (ap is_eden older-role) ∙ not)))
      by q less (inr other) = i.below q (omega (arith, less, other))

  -- it is
  pub older-next : is_eden (role_at u k) ≡ true → k < length u.regions → IsOlderTo t (with_role u k (Object 1)) (k + 1)
  older-next is within = record {
    shape = i.shape;
    lands = i.lands;
    current = i.current;
    count = length-set u.regions k now ∙ i.count;
    below = λ q less. by q less (same-or q k);
    behind = λ q from. get_or-set_other u.regions k q now free_region (omega (arith, from)) ∙ i.behind q (omega (arith, from));
  }
    where
      now : RegionState
      now = record (region_at u.regions k) { role = Object 1 }

      by : (q : ℕ) → q < k + 1 → (q ≡ k) ⊎ (q ≡ k → ⊥) → region_at (set u.regions k now) q ≡ state_older (region_at t.regions q)
      by q less (inl same) = subst (λ p. region_at (set u.regions k now) p ≡ state_older (region_at t.regions p)) (sym same)
          (get_or-set_same u.regions k now free_region within
          ∙ (ap (λ (r : RegionState). record r { role = Object 1 }) here
          ∙ ap (λ b. cond b (record (region_at t.regions k) { role = Object 1 }) (region_at t.regions k)) (sym (sym (ap is_eden older-role) ∙ is))))
      by q less (inr other) = get_or-set_other u.regions k q now free_region other ∙ i.below q (omega (arith, less, other))

-- all are
pub older-all : (t u : Table) (k : ℕ) → IsOlderTo t u k → length t.regions ≤ k → u ≡ with_eden_older t
older-all t u k i all =
    ap (λ s. record u { shape = s }) i.shape
    ∙ (ap (λ ls. record { shape = t.shape; lands = ls; regions = u.regions; current = u.current }) i.lands
    ∙ (ap (λ rs. record { shape = t.shape; lands = t.lands; regions = rs; current = u.current }) regions
    ∙ ap (λ (o : Option ℕ). record { shape = t.shape; lands = t.lands; regions = map state_older t.regions; current = o }) i.current))
  where
    regions : u.regions ≡ map state_older t.regions
    regions = same_lists u.regions (map state_older t.regions) (i.count ∙ sym (length-map t.regions state_older))
        (λ q d less.
        let within : q < length t.regions = omega (arith, less, i.count) in
        get_or_default u.regions q d free_region less ∙ (i.below q (omega (arith, within, all)) ∙ sym (get_or-map state_older t.regions q free_region d within)))
