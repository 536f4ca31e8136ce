-- A table is one again, once the regions that were out are put back.
use Rattle.std.proofs.Common.{◌≡◌, ℕ, List, [], ◌∷◌, drop, eqb, length, map, not, refl, ap, sym, subst, ◌∙◌}
use Rattle.std.specs.Prelude.{IsTrue}
use Rattle.std.specs.List.{AllByRecursion, filter}
use Rattle.std.proofs.lemmas.Bool.{eq-eqb, ne_eqb}
use Rattle.bal_base.proofs.Lemmas.{among-first}
use Rattle.bal_copyfwd.specs.Filled.{Back, MayFill, numbers_of, with_all_filled}
use Rattle.bal_copyfwd.specs.Returned.{IsEvacuationOf, backs_of, refilled, split_of}
use Rattle.bal_dest.specs.declared.buffers.Destination.{Destination}
use Rattle.bal_evacuate.proofs.Lemmas.{copies-land}
use Rattle.bal_evacuate.specs.Course.{Course}
use Rattle.bal_evacuate.specs.Plan.{Plan}
use Rattle.bal_layout.specs.Regions.{free_regions, is_in}
use Rattle.bal_layout.specs.declared.region_state.Role.{Role}
use Rattle.bal_region.specs.Land.{IsLand, Land}
use Rattle.bal_table.proofs.Lemmas.{free-numbered}
use Rattle.bal_table.specs.Occupied.{IsOccupied, MayPutBack, Occupied, with_put_back}
use Rattle.bal_table.specs.Table.{IsTable, Table, land_at}
use Rattle.bal_partial.proofs.Standing.{as_spare, behind, both, every, mapped, of-those, with_copies}

-- a number that is not among others is not taken out of them
filter-others : (n : ℕ) (bs : List Back) → AllByRecursion (λ (c : Back). c.land.number ≡ n → ⊥) bs
    → filter (λ q. not (eqb q n)) (numbers_of bs) ≡ numbers_of bs
filter-others n [] apart = refl
filter-others n (b ∷ bs) apart = rw (ne_eqb b.land.number n apart.0) (ap (λ (ns : List ℕ). b.land.number ∷ ns) (filter-others n bs apart.1))

filter-first : (n : ℕ) (ns : List ℕ) → filter (λ q. not (eqb q n)) (n ∷ ns) ≡ filter (λ q. not (eqb q n)) ns
filter-first n ns = rw (eq-eqb n n refl) refl

module _ (o : Occupied) (b : Back) (bs : List Back) (may : MayFill o (b ∷ bs)) where
  may-first : MayPutBack o b.land b.role
  may-first = record {
    out = subst (λ ns. IsTrue (is_in b.land.number ns)) may.out (among-first b.land.number (numbers_of bs));
    words = may.each.0.words;
    may = may.each.0.role;
    free = λ none. record { number = refl; words = may.each.0.words; starts = (may.each.0.free none).0; used = (may.each.0.free none).1 };
    pieces = may.each.0.pieces;
  }

  may-rest : MayFill (with_put_back o b.land b.role) bs
  may-rest = record {
    out = sym (ap (filter (λ q. not (eqb q b.land.number))) (sym may.out) ∙ (filter-first b.land.number (numbers_of bs) ∙ filter-others b.land.number bs may.apart.0));
    apart = may.apart.1;
    each = may.each.1;
  }

-- putting one back leaves the table occupied as it should be
abbrev PutsBack : Type 0
PutsBack = (o : Occupied) (l : Land) (role : Role) → IsOccupied o → IsLand l → MayPutBack o l role → IsOccupied (with_put_back o l role)

all-back : PutsBack → (o : Occupied) (bs : List Back) → IsOccupied o → MayFill o bs → AllByRecursion (λ (b : Back). IsLand b.land) bs → IsTable (with_all_filled bs o.table)
unfolding with_all_filled
all-back puts o [] is may lands = is.table
all-back puts o (b ∷ bs) is may lands =
    all-back puts (with_put_back o b.land b.role) bs (puts o b.land b.role is lands.0 (may-first o b bs may)) (may-rest o b bs may) lands.1

module _ (t : Table) (chosen : List ℕ) (p : Plan) (c : Course) (e : IsEvacuationOf t chosen p c) where
  abbrev HasLand : Back → Type 0
  HasLand b = IsLand b.land

  each-land : AllByRecursion HasLand (backs_of c)
  each-land =
      both HasLand (map with_copies c.buffers.regions) (map as_spare c.spares)
      (mapped with_copies HasLand c.buffers.regions
      (every (λ (d : Destination). IsLand d.region) c.buffers.regions (λ j d at. (copies-land p c e.copied j d at).0)))
      (mapped as_spare HasLand c.spares
      (subst (AllByRecursion IsLand) (sym (e.spares ∙ ap (drop (length c.buffers.regions)) e.pool))
      (behind IsLand (length c.buffers.regions) (map (land_at t) (free_regions t.regions))
      (of-those IsLand t (free_regions t.regions) (λ q among. (e.table.each q (free-numbered t e.table q among).0).land)))))

  pub refilled-table : PutsBack → IsOccupied (split_of t) → MayFill (split_of t) (backs_of c) → IsTable (refilled t c)
  refilled-table puts occupied may = all-back puts (split_of t) (backs_of c) occupied may each-land
