-- The regions that an evacuation puts back are those of its pool.
use Rattle.std.proofs.Common.{◌≡◌, ◌+◌, ◌<◌, ℕ, suc, false, List, [], ◌∷◌, drop, length, Some, refl, ap, sym, subst, ◌∙◌, arith}
use Rattle.std.specs.List.{AllByRecursion}
use Rattle.std.proofs.lemmas.Option.{get_or_from_slice_get, none-some, same_Some, slice_get_within}
use Rattle.bal_core.specs.World.{At}
use Rattle.bal_dest.specs.declared.buffers.Destination.{Destination}
use Rattle.bal_evacuate.specs.Course.{Course}
use Rattle.bal_evacuate.specs.Plan as plan
use Rattle.bal_evacuate.specs.Plan.{Plan}
use Rattle.bal_evacuate.proofs.Lemmas.{drawn-at}
use Rattle.bal_layout.specs.Regions.{free_regions, is_free, is_in}
use Rattle.bal_layout.specs.declared.region_state.RegionState.{RegionState}
use Rattle.bal_region.specs.Land.{Land}
use Rattle.bal_table.specs.Table.{Table}
use Rattle.bal_table.proofs.Lemmas.{free-numbered}
use Rattle.bal_copyfwd.specs.Filled.{AreApart, Back, all_back, numbers_of}
use Rattle.bal_copyfwd.specs.Returned.{IsEvacuationOf, backs_of}
use Rattle.bal_copyfwd.proofs.Returned.{not-first}
use Rattle.bal_copyfwd.proofs.Unsplit.{Once, numbers-back, numbers-once}

-- what is drawn first and what is left of a pool is the pool
front : (ds : List Destination) (pool : List Land) → ((j : ℕ) (d : Destination) → At ds j d → At (plan.numbers_of pool) j d.region.number)
    → numbers_of (all_back ds (drop (length ds) pool)) ≡ numbers_of (all_back [] pool)
front [] pool drawn = refl
front (d ∷ ds) [] drawn = absurd (none-some d.region.number (drawn 0 d refl))
front (d ∷ ds) (y ∷ pool) drawn =
    ap (λ n. n ∷ numbers_of (all_back ds (drop (length ds) pool))) (sym (same_Some y.number d.region.number (drawn 0 d refl)))
    ∙ ap (λ (ns : List ℕ). y.number ∷ ns) (front ds pool (λ j x at. drawn (suc j) x at))

others-once : (n : ℕ) (bs : List Back) → is_in n (numbers_of bs) ≡ false → AllByRecursion (λ (b : Back). b.land.number ≡ n → ⊥) bs
others-once n [] out = tt
others-once n (b ∷ bs) out = let r = not-first b.land.number n (numbers_of bs) out in (r.0, others-once n bs r.1)

apart-once : (bs : List Back) → Once (numbers_of bs) → AreApart bs
apart-once [] once = tt
apart-once (b ∷ bs) once = (others-once b.land.number bs once.0, apart-once bs once.1)

module _ (t : Table) (chosen : List ℕ) (p : Plan) (c : Course) (e : IsEvacuationOf t chosen p c) where
  drawn : (j : ℕ) (d : Destination) → At c.buffers.regions j d → At (plan.numbers_of p.pool) j d.region.number
  drawn j d at =
      let less : j < length c.buffers.regions = slice_get_within c.buffers.regions j d at in
      let zero_on : 0 + j ≡ j = omega arith in
      let r = e.copied.evacuated.regions.drawn 0 j _ (drawn-at 0 c.buffers.regions j less) in
      subst (λ n. At (plan.numbers_of p.pool) n d.region.number) zero_on
      (r.1 ∙ ap (λ (x : Destination). Some x.region.number) (get_or_from_slice_get c.buffers.regions j d _ at))

  pub numbers-out : numbers_of (backs_of c) ≡ free_regions t.regions
  numbers-out =
      ap (λ (ls : List Land). numbers_of (all_back c.buffers.regions ls)) e.spares
      ∙ (front c.buffers.regions p.pool drawn
      ∙ (ap (λ (ls : List Land). numbers_of (all_back [] ls)) e.pool ∙ numbers-back t e.table (free_regions t.regions) (free-numbered t e.table)))

  pub all-apart : AreApart (backs_of c)
  all-apart = apart-once (backs_of c) (subst Once (sym numbers-out) (numbers-once 0 (λ (r : RegionState). is_free r.role) t.regions))
