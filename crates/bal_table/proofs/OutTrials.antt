-- Two regions that are out.
use Rattle.std.proofs.Common.{◌≡◌, ℕ, ◌+◌, ◌≤◌, true, eqb, not, cond, List, [], ◌∷◌, ◌++◌, length, map, get_or, refl, ap, sym, subst, ◌∙◌, arith}
use Rattle.std.specs.List.{filter}
use Rattle.std.proofs.lemmas.Bool.{eq-eqb, false≢true, ne_eqb}
use Rattle.bal_layout.specs.Regions.{free_region, free_regions, is_in, region_with_object}
use Rattle.bal_region.specs.Changes.{blank_words, empty_land, with_object}
use Rattle.bal_region.specs.Land.{IsLand, Land}
use Rattle.bal_base.proofs.Lemmas.{among-first, among-later}
use Rattle.bal_table.specs.Occupied.{IsVacant, MayPutBack, Occupied, vacated, with_put_back}
use Rattle.bal_table.specs.Table.{IsPiece, IsRegion, IsTable, MayStart, Table, land_at}
use Rattle.bal_table.specs.Trials.{AreOut}
use Rattle.bal_table.proofs.Pieces.{IsObject-piece, length-piece}
use Rattle.bal_table.proofs.Tables.{IsRegion-placed}
use Rattle.bal_table.proofs.Vacant.{free-numbered, vacant}
use Rattle.std.proofs.lemmas.Option.{same_Some}
use Rattle.bal_layout.specs.declared.region_state.Role.{Role}
use Rattle.bal_layout.specs.declared.region_state.Role.TheVariants.{Free, Object}

none : Land
none = empty_land 0 0

-- the only free regions of a table
pub two-out : (t : Table) (o : Occupied) (items rest left : List Land) (low high : Land) → IsTable t → o ≡ record { table = vacated t; out = free_regions t.regions }
    → items ≡ map (land_at t) (free_regions t.regions) → items ≡ rest ++ high ∷ [] → rest ≡ left ++ low ∷ [] → left ≡ [] → (low.number ≡ high.number → ⊥) → AreOut o low high
two-out t o items rest left low high table is are last before none_left apart =
    subst (λ (p : Occupied). AreOut p low high) (sym is) (by (free_regions t.regions) (λ q among. let free = free-numbered t table q among in vacant t table q free.0 free.1) both)
  where
    both : map (land_at t) (free_regions t.regions) ≡ low ∷ high ∷ []
    both = sym are ∙ (last ∙ (ap (λ (ls : List Land). ls ++ high ∷ []) before ∙ ap (λ (ls : List Land). (ls ++ low ∷ []) ++ high ∷ []) none_left))

    by : (ns : List ℕ) → ((q : ℕ) → is_in q ns ≡ true → IsVacant t q (land_at t q)) → map (land_at t) ns ≡ low ∷ high ∷ []
        → AreOut (record { table = vacated t; out = ns }) low high
    by [] each e = absurd (omega (arith, ap (λ (ls : List Land). length ls) e))
    by (a ∷ []) each e = absurd (omega (arith, ap (λ (ls : List Land). length ls) e))
    by (a ∷ b ∷ c ∷ ns) each e = absurd (omega (arith, ap (λ (ls : List Land). length ls) e))
    by (a ∷ b ∷ []) each e =
        let one : land_at t a ≡ low = ap (λ ls. get_or ls 0 none) e in
        let two : land_at t b ≡ high = ap (λ ls. get_or ls 1 none) e in
        let first = subst (IsVacant t a) one (each a (among-first a (b ∷ []))) in
        let second = subst (IsVacant t b) two (each b (among-later a b (b ∷ []) (among-first b []))) in
        record {
          out = ap (λ n. n ∷ b ∷ []) (sym first.number) ∙ ap (λ n. low.number ∷ n ∷ []) (sym second.number);
          apart = apart;
          first = record { number = refl; words = first.words; starts = first.starts; used = first.used };
          second = record { number = refl; words = second.words; starts = second.starts; used = second.used };
        }

-- A region is put back in the place of the lower one.
module _ (o : Occupied) (low high l : Land) (role : Role) (are : AreOut o low high) (same : l.number ≡ low.number) where
  -- the other one is left
  pub one-left : (with_put_back o l role).out ≡ high.number ∷ []
  one-left =
      ap (λ (ns : List ℕ). filter (λ q. not (eqb q l.number)) ns) are.out
      ∙ (ap (λ n. filter (λ q. not (eqb q n)) (low.number ∷ high.number ∷ [])) same
      ∙ (ap (λ b. cond (not b) (low.number ∷ cond (not (eqb high.number low.number)) (high.number ∷ []) []) (cond (not (eqb high.number low.number)) (high.number ∷ []) [])) (eq-eqb low.number low.number refl)
      ∙ ap (λ b. cond (not b) (high.number ∷ []) []) (ne_eqb high.number low.number (λ e. are.apart (sym e)))))

  pub other-may : MayPutBack (with_put_back o l role) high Free
  other-may = record {
    out = subst (λ (ns : List ℕ). is_in high.number ns ≡ true) (sym one-left) (among-first high.number []);
    words = are.second.words;
    may = tt;
    free = λ _. record { number = refl; words = are.second.words; starts = are.second.starts; used = are.second.used };
    pieces = λ at h starts _. absurd (false≢true (ap (λ ss. is_in at ss) (sym are.second.starts) ∙ starts));
  }

  -- and then none
  pub none-left : (p : Occupied) → p ≡ with_put_back o l role → (with_put_back p high Free).out ≡ []
  none-left p is =
      ap (λ (k : Occupied). (with_put_back k high Free).out) is
      ∙ (ap (λ (ns : List ℕ). filter (λ q. not (eqb q high.number)) ns) one-left
      ∙ ap (λ b. cond (not b) (high.number ∷ []) []) (eq-eqb high.number high.number refl))

-- a piece may be placed in a region that is out
pub filled-may : (o : Occupied) (l : Land) (first second words : ℕ) → is_in l.number o.out ≡ true → IsVacant o.table l.number l → IsLand l
    → IsPiece o.table.shape first second words → l.used + words ≤ length l.words → MayPutBack o (with_object l (blank_words first second words)) (Object 1)
filled-may o l first second words out vacant land piece fits = record {
  out = out;
  words = placed.words;
  may = omega arith;
  free = λ none. absurd (false≢true (sym none));
  pieces = placed.pieces;
}
  where
    region : IsRegion o.table.shape l.number (record free_region { role = Object 1 }) l
    region = record {
      land = land;
      number = refl;
      words = vacant.words;
      role = omega arith;
      used = sym vacant.used;
      estimate = omega arith;
      empty = λ none. refl;
      free = λ free. absurd (false≢true free);
      pieces = λ at h starts _. absurd (false≢true (ap (λ ss. is_in at ss) (sym vacant.starts) ∙ starts));
    }

    placed : IsRegion o.table.shape l.number (region_with_object (length (blank_words first second words)) (record free_region { role = Object 1 })) (with_object l (blank_words first second words))
    placed = IsRegion-placed o.table.shape l.number (record free_region { role = Object 1 }) l region (blank_words first second words)
        (IsObject-piece o.table.shape first second words piece o.table.shape.words refl)
        (λ h is. subst (MayStart o.table.shape) (same_Some piece.header h (sym piece.read ∙ is)) piece.may) refl
        (omega (arith, fits, vacant.words, length-piece o.table.shape first second words piece))
