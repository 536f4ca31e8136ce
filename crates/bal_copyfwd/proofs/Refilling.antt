-- What is left to be put back.
use Rattle.std.proofs.Common.{◌≡◌, ℕ, List, [], ◌∷◌, ◌++◌, eqb, map, not, refl, ap, sym, subst, ◌∙◌}
use Rattle.std.specs.Prelude.{IsTrue}
use Rattle.std.specs.List.{AllByRecursion, filter}
use Rattle.std.proofs.lemmas.Bool.{eq-eqb, ne_eqb}
use Rattle.bal_base.proofs.Lemmas.{among-first}
use Rattle.bal_dest.specs.declared.buffers.Destination.{Destination}
use Rattle.bal_layout.specs.Regions.{is_in}
use Rattle.bal_layout.specs.declared.region_state.Role.TheVariants.{Free, Object}
use Rattle.bal_region.specs.Land.{Land}
use Rattle.bal_table.specs.Occupied.{MayPutBack, Occupied, with_filled, with_put_back}
use Rattle.bal_table.specs.Table.{Table}
use Rattle.bal_copyfwd.specs.Filled.{Back, MayFill, all_back, numbers_of, with_all_filled}

-- a number that is not among others is not taken out of them
filter-others : (n : ℕ) (bs : List Back) → AllByRecursion (λ (c : Back). c.land.number ≡ n → ⊥) bs
    → filter (λ q. not (eqb q n)) (numbers_of bs) ≡ numbers_of bs
filter-others n [] apart = refl
filter-others n (b ∷ bs) apart = rw (ne_eqb b.land.number n apart.0) (ap (λ (ns : List ℕ). b.land.number ∷ ns) (filter-others n bs apart.1))

-- it is taken out where it is the first
filter-first : (n : ℕ) (ns : List ℕ) → filter (λ q. not (eqb q n)) (n ∷ ns) ≡ filter (λ q. not (eqb q n)) ns
filter-first n ns = rw (eq-eqb n n refl) refl

module _ (o : Occupied) (b : Back) (bs : List Back) (may : MayFill o (b ∷ bs)) where
  -- the first one may be put back
  pub may-first : MayPutBack o b.land b.role
  may-first = record {
    out = subst (λ ns. IsTrue (is_in b.land.number ns)) may.out (among-first b.land.number (numbers_of bs));
    words = may.each.0.words;
    may = may.each.0.role;
    free = λ none. record { number = refl; words = may.each.0.words; starts = (may.each.0.free none).0; used = (may.each.0.free none).1 };
    pieces = may.each.0.pieces;
  }

  -- and then the others may
  pub may-rest : MayFill (with_put_back o b.land b.role) bs
  may-rest = record {
    out = sym (ap (filter (λ q. not (eqb q b.land.number))) (sym may.out) ∙ (filter-first b.land.number (numbers_of bs) ∙ filter-others b.land.number bs may.apart.0));
    apart = may.apart.1;
    each = may.each.1;
  }

-- putting one back and then the others is putting all back
pub filled-first : (b : Back) (bs : List Back) (t : Table) → with_all_filled bs (with_filled t b.land b.role) ≡ with_all_filled (b ∷ bs) t
unfolding with_all_filled
filled-first b bs t = refl

pub filled-none : (t : Table) → with_all_filled [] t ≡ t
unfolding with_all_filled
filled-none t = refl

-- and those of one list and then of another one
pub filled-both : (first bs : List Back) (t : Table) → with_all_filled (first ++ bs) t ≡ with_all_filled bs (with_all_filled first t)
unfolding with_all_filled
filled-both [] bs t = refl
filled-both (a ∷ first) bs t = filled-both first bs (with_filled t a.land a.role)

-- Where the next one is not drawn, or has copies.

abbrev spare : Land → Back
spare l = record { land = l; role = Free }

abbrev copies : ℕ → Land → Back
copies age l = record { land = l; role = Object age }

pub next-spare : (o : Occupied) (ls rest : List Land) (l : Land) → MayFill o (all_back [] ls) → ls ≡ l ∷ rest → MayFill o (spare l ∷ all_back [] rest)
next-spare o ls rest l may is = subst (λ (xs : List Land). MayFill o (all_back [] xs)) is may

pub next-copies : (o : Occupied) (ds rest : List Destination) (age : ℕ) (l : Land) (ls : List Land) → MayFill o (all_back ds ls)
    → ds ≡ record { age = age; region = l } ∷ rest → MayFill o (copies age l ∷ all_back rest ls)
next-copies o ds rest age l ls may is = subst (λ (xs : List Destination). MayFill o (all_back xs ls)) is may

-- One more is put back.
module _ (o now : Occupied) where
  pub after-spare : (ls rest : List Land) (l : Land) → MayFill o (all_back [] ls) → ls ≡ l ∷ rest → now ≡ with_put_back o l Free
      → MayFill now (all_back [] rest) × (with_all_filled (all_back [] rest) now.table ≡ with_all_filled (all_back [] ls) o.table)
  after-spare ls rest l may is put = (
    subst (λ (p : Occupied). MayFill p (all_back [] rest)) (sym put) (may-rest o (spare l) (all_back [] rest) (next-spare o ls rest l may is)),
    ap (λ (p : Occupied). with_all_filled (all_back [] rest) p.table) put
        ∙ (filled-first (spare l) (all_back [] rest) o.table ∙ ap (λ (xs : List Land). with_all_filled (all_back [] xs) o.table) (sym is)),
  )

  pub after-copies : (ds rest : List Destination) (age : ℕ) (l : Land) (ls : List Land) → MayFill o (all_back ds ls)
      → ds ≡ record { age = age; region = l } ∷ rest → now ≡ with_put_back o l (Object age)
      → MayFill now (all_back rest ls) × (with_all_filled (all_back rest []) now.table ≡ with_all_filled (all_back ds []) o.table)
  after-copies ds rest age l ls may is put = (
    subst (λ (p : Occupied). MayFill p (all_back rest ls)) (sym put) (may-rest o (copies age l) (all_back rest ls) (next-copies o ds rest age l ls may is)),
    ap (λ (p : Occupied). with_all_filled (all_back rest []) p.table) put
        ∙ (filled-first (copies age l) (all_back rest []) o.table ∙ ap (λ (xs : List Destination). with_all_filled (all_back xs []) o.table) (sym is)),
  )

-- Nothing is left.
module _ (o : Occupied) where
  pub none-out : (ls : List Land) → MayFill o (all_back [] ls) → ls ≡ [] → o.out ≡ []
  none-out ls may none = sym may.out ∙ ap (λ (xs : List Land). numbers_of (all_back [] xs)) none

  pub none-spare : (ls : List Land) → ls ≡ [] → o.table ≡ with_all_filled (all_back [] ls) o.table
  none-spare ls none = sym (ap (λ (xs : List Land). with_all_filled (all_back [] xs) o.table) none ∙ filled-none o.table)

  pub none-copies : (ds : List Destination) → ds ≡ [] → o.table ≡ with_all_filled (all_back ds []) o.table
  none-copies ds none = sym (ap (λ (xs : List Destination). with_all_filled (all_back xs []) o.table) none ∙ filled-none o.table)

-- those with copies and then the others is all
pub filled-parts : (ds : List Destination) (ls : List Land) (t : Table)
    → with_all_filled (all_back [] ls) (with_all_filled (all_back ds []) t) ≡ with_all_filled (all_back ds ls) t
filled-parts ds ls t =
    let first : List Back = map (λ (d : Destination). copies d.age d.region) ds in
    ap (with_all_filled (all_back [] ls)) (filled-both first [] t ∙ filled-none (with_all_filled first t)) ∙ sym (filled-both first (all_back [] ls) t)
