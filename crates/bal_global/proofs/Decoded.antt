-- What a board that is met says of the objects and of the regions of a table.
use Rattle.std.proofs.Common.{◌≡◌, ℕ, true, IsTrue, List, [], ◌∷◌, ◌++◌, filter, length, Some, None, refl, ap, ap₂, sym, ◌∙◌}
use Rattle.std.specs.List.{AllByRecursion}
use Rattle.std.specs.Prelude.{IsSome}
use Rattle.std.proofs.lemmas.Bool.{cond-true}
use Rattle.std.proofs.lemmas.List.FromFn.{fill_by_all}
use Rattle.std.proofs.lemmas.Option.{same_Some}
use Rattle.bal_layout.specs.Names.{is_among}
use Rattle.bal_layout.specs.Regions.{free_region, freed, region_at, without_cards_of}
use Rattle.bal_layout.specs.Shape.{Shape}
use Rattle.bal_layout.specs.declared.name.Name.{Name}
use Rattle.bal_layout.specs.declared.region_state.RegionState.{RegionState}
use Rattle.bal_meet.specs.Decode.{placed_at}
use Rattle.bal_meet.specs.Heap.{Account, Meets, spot_at}
use Rattle.bal_model.specs.Plain.{object}
use Rattle.bal_model.specs.declared.config.Config.{Config}
use Rattle.bal_remember.specs.Remembered.{Remembered, cards, overflowed}
use Rattle.bal_rules.specs.Board.{Board, Placed, leaves_of, names_placed, place_of, placed_among, without_names}
use Rattle.bal_rules.proofs.Lemmas.{all-among, each-both, each-filter, each-goes, each-map}
use Rattle.bal_table.specs.Table.{Table, things_of}
use Rattle.bal_words.specs.Shown.{object_of}
use Rattle.bal_words.specs.Things.{Thing}
use Rattle.bal_words.proofs.Lemmas.{there}
use Rattle.bal_global.specs.Global.{heap_by}
use Rattle.bal_global.proofs.Left.{under}
use Rattle.bal_global.proofs.Placed.{placed-among, placed-found}

-- No region is freed.

cards-same : (cs : List ℕ) → filter (λ (card : ℕ). true) cs ≡ cs
cards-same [] = refl
cards-same (card ∷ cs) = ap (λ (l : List ℕ). card ∷ l) (cards-same cs)

remembered-same : (s : Shape) (r : Remembered) → r ≡ without_cards_of s [] r
remembered-same s (cards cs) = ap cards (sym (cards-same cs))
remembered-same s overflowed = refl

pub freed-none : (s : Shape) (regions : List RegionState) → freed s [] regions ≡ regions
freed-none s regions =
    sym (fill_by_all (λ q. record (region_at regions q) { remembered = without_cards_of s [] (region_at regions q).remembered }) regions (length regions) free_region refl
    (λ q less. ap (λ (r : Remembered). record (region_at regions q) { remembered = r }) (remembered-same s (region_at regions q).remembered)))

-- nor has an object leaves
none-leaves : (ps : List Placed) → AllByRecursion (λ (p : Placed). p.leaves ≡ []) ps → leaves_of ps ≡ []
none-leaves [] each = refl
none-leaves (p ∷ ps) each = ap₂ (λ (xs ys : List ℕ). xs ++ ys) each.0 (none-leaves ps each.1)

module _ (t : Table) (roots made : List ℕ) (b : Board) (m : Meets (heap_by t roots made) b) where
  pub shown-object : (a : ℕ) (x : Thing) → things_of t a ≡ Some x
      → (is_among x.name (names_placed b.present) ≡ true) × (object b.plain x.name ≡ Some (object_of (things_of t) x))
  shown-object a x is = under (is_among x.name (names_placed b.present)) (object b.plain x.name) (object_of (things_of t) x) (m.decodes.objects.each a x is)

  -- what is present starts somewhere
  pub present-object : (n : Name) → IsTrue (is_among n (names_placed b.present)) → (a : ℕ) × ((x : Thing) × (things_of t a ≡ Some x) × (x.name ≡ n))
  present-object n among =
      let some : IsSome (object b.plain n) = all-among (λ (k : Name). IsSome (object b.plain k)) (names_placed b.present) n
      (each-map (λ (p : Placed). IsSome (object b.plain p.name)) (λ (k : Name). IsSome (object b.plain k)) (λ (p : Placed). p.name) (λ p h. h) b.present m.decodes.made) among in
      let o = there (object b.plain n) some in
      m.decodes.objects.every n o.0 (cond-true (is_among n (names_placed b.present)) (object b.plain n) None among ∙ o.1)

  -- and lies where it starts
  pub record IsPlacedAt (p : Placed) : Type 0 where
    pub address : ℕ
    pub thing : Thing
    pub starts : things_of t address ≡ Some thing
    pub is : p ≡ placed_at thing.name (spot_at (heap_by t roots made) address)

  placed-is : (p : Placed) → (place_of b.present p.name ≡ Some p) × IsTrue (is_among p.name (names_placed b.present)) → IsPlacedAt p
  placed-is p h =
      let o = present-object p.name h.1 in
      record {
        address = o.0;
        thing = o.1.0;
        starts = o.1.1;
        is = same_Some p (placed_at o.1.0.name (spot_at (heap_by t roots made) o.0))
            (sym h.0 ∙ (ap (place_of b.present) (sym o.1.2) ∙ m.decodes.places o.0 o.1.0 o.1.1));
      }

  pub each-placed : AllByRecursion IsPlacedAt b.present
  each-placed = each-goes (λ (p : Placed). (place_of b.present p.name ≡ Some p) × IsTrue (is_among p.name (names_placed b.present))) IsPlacedAt placed-is b.present
      (each-both (λ (p : Placed). place_of b.present p.name ≡ Some p) (λ (p : Placed). IsTrue (is_among p.name (names_placed b.present))) b.present
      (placed-found b.present m.decodes.ascending) (placed-among b.present))

  -- the regions are those of the table, whichever objects are gone
  pub regions-same : b.regions ≡ t.regions
  regions-same = sym (ap (λ (a : Account). a.regions) m.account)

  pub regions-without : (c : Config) (dead : List Name) → (without_names c dead b).regions ≡ t.regions
  regions-without c dead =
      ap (λ (qs : List ℕ). freed c.geometry qs b.regions)
      (none-leaves (placed_among dead b.present)
      (each-filter (λ (p : Placed). p.leaves ≡ []) (λ p. is_among p.name dead) b.present
      (each-goes IsPlacedAt (λ (p : Placed). p.leaves ≡ []) (λ p at. ap (λ (q : Placed). q.leaves) at.is) b.present each-placed)))
      ∙ (freed-none c.geometry b.regions ∙ regions-same)
