-- What mending makes of the heap, step by step.
use Rattle.std.proofs.Common.{◌≡◌, ℕ, List, [], ◌∷◌, refl, ap, sym, subst, ◌∙◌}
use Rattle.bal_cards.specs.Cards.{Cards}
use Rattle.bal_copyfwd.specs.Filled.{Back, with_all_filled}
use Rattle.bal_copyfwd.specs.Returned.{backs_of, refilled}
use Rattle.bal_fixup.specs.Dirtied.{BecameDirty, HasReferenceIn, with_dirty_places}
use Rattle.bal_fixup.specs.Mended.{HasSameStarts}
use Rattle.bal_fixup.specs.Mending.{MendedWhere}
use Rattle.bal_fixup.specs.Placed.{lies_among, with_mended, with_mended_at}
use Rattle.bal_layout.specs.Addresses.{card_of}
use Rattle.bal_layout.specs.Shape.{Shape}
use Rattle.bal_cards.specs.Cards.{with_dirty}
use Rattle.bal_partial.specs.Collection.{Collection, marked_of}
use Rattle.bal_partial.specs.Mended.{IsMended, places_mended, settled_of}
use Rattle.bal_partial.specs.Mending.{MayMend}
use Rattle.bal_settle.specs.Settled.{MaySettle, lost_regions, settled}
use Rattle.bal_sweep.specs.Sweep.{without_regions}
use Rattle.bal_table.specs.Moves.{Forwarding, moved_to}
use Rattle.bal_table.specs.Occupied.{vacated, with_filled}
use Rattle.bal_table.specs.Table.{IsTable, Table, things_of}

-- Only lands change while places are mended, and only lists of cards while they become dirty.

pub mended-shape : (to : ℕ → ℕ) (places : List ℕ) (t : Table) → (with_mended to places t).shape ≡ t.shape
mended-shape to [] t = refl
mended-shape to (p ∷ ps) t = mended-shape to ps (with_mended_at to t p)

pub mended-regions : (to : ℕ → ℕ) (places : List ℕ) (t : Table) → (with_mended to places t).regions ≡ t.regions
mended-regions to [] t = refl
mended-regions to (p ∷ ps) t = mended-regions to ps (with_mended_at to t p)

pub mended-current : (to : ℕ → ℕ) (places : List ℕ) (t : Table) → (with_mended to places t).current ≡ t.current
mended-current to [] t = refl
mended-current to (p ∷ ps) t = mended-current to ps (with_mended_at to t p)

pub dirty-shape : (places : List ℕ) (c : Cards) → (with_dirty_places places c).shape ≡ c.shape
dirty-shape [] c = refl
dirty-shape (p ∷ ps) c = dirty-shape ps (with_dirty (card_of p) c)

filled-shape : (bs : List Back) (t : Table) → (with_all_filled bs t).shape ≡ t.shape
unfolding with_all_filled
filled-shape [] t = refl
filled-shape (b ∷ bs) t = filled-shape bs (with_filled t b.land b.role)

pub refilled-shape : (x : Collection) → (refilled x.table x.course).shape ≡ x.table.shape
refilled-shape x = filled-shape (backs_of x.course) (vacated x.table)

-- The lists are those of the collection.
module _ (x : Collection) (u : Table) (roots : List ℕ) (m : Forwarding) (chosen marked places regions : List ℕ)
    (can : MayMend x u roots m chosen marked places regions) where
  pub settle-may : MaySettle (refilled x.table x.course) x.chosen (marked_of x) → MaySettle u chosen marked
  settle-may may =
      subst (λ (t : Table). MaySettle t chosen marked) (sym can.table)
      (subst (λ qs. MaySettle (refilled x.table x.course) qs marked) (sym can.chosen_are)
      (subst (MaySettle (refilled x.table x.course) x.chosen) (sym can.marked_are) may))

  shape-is : u.shape ≡ x.table.shape
  shape-is = ap (λ (t : Table). t.shape) can.table ∙ refilled-shape x

  module _ (v : Table) (settles : v ≡ settled chosen marked u) where
    pub settled-is : v ≡ settled_of x
    settled-is =
        settles ∙ (ap (λ (qs : List ℕ). settled qs marked u) can.chosen_are ∙ (ap (λ (ms : List ℕ). settled x.chosen ms u) can.marked_are ∙ ap (settled x.chosen (marked_of x)) can.table))

    module _ (w : Table) (mends : w ≡ with_mended (moved_to m) places v) where
      pub places-is : w ≡ places_mended x m
      places-is = mends ∙ (ap (λ (ps : List ℕ). with_mended (moved_to m) ps v) can.places_are ∙ ap (with_mended (moved_to m) x.places) settled-is)

      pub places-shape : w.shape ≡ x.table.shape
      places-shape = ap (λ (t : Table). t.shape) places-is ∙ (mended-shape (moved_to m) x.places (settled_of x) ∙ refilled-shape x)

      module _ (before first second after : Cards) (t : Table) (loses : first ≡ without_regions (lost_regions u.shape chosen marked) before)
          (dirties : second ≡ with_dirty_places places first) where
        cards-is : second ≡ with_dirty_places x.places (without_regions (lost_regions x.table.shape x.chosen (marked_of x)) before)
        cards-is =
            dirties
            ∙ (ap (λ (ps : List ℕ). with_dirty_places ps first) can.places_are
            ∙ ap (with_dirty_places x.places) (loses
            ∙ (ap (λ (s : Shape). without_regions (lost_regions s chosen marked) before) shape-is
            ∙ (ap (λ (qs : List ℕ). without_regions (lost_regions x.table.shape qs marked) before) can.chosen_are
            ∙ ap (λ (ms : List ℕ). without_regions (lost_regions x.table.shape x.chosen ms) before) can.marked_are))))

        pub cards-shape : second.shape ≡ before.shape
        cards-shape = ap (λ (d : Cards). d.shape) dirties ∙ (dirty-shape places first ∙ ap (λ (d : Cards). d.shape) loses)

        pub is-mended : IsTable v → IsTable t → MendedWhere (things_of w) (things_of t) (lies_among w.shape regions) (moved_to m) → HasSameStarts w t
            → BecameDirty second after (HasReferenceIn w regions) → IsMended x m regions before after t
        is-mended before-is after-is mended same dirty = record {
          before_is = subst IsTable settled-is before-is;
          after_is = after-is;
          mended = subst (λ (s : Shape). MendedWhere (things_of (places_mended x m)) (things_of t) (lies_among s regions) (moved_to m))
              (sym (ap (λ (y : Table). y.shape) places-is) ∙ places-shape)
              (subst (λ (y : Table). MendedWhere (things_of y) (things_of t) (lies_among y.shape regions) (moved_to m)) places-is mended);
          same = subst (λ (y : Table). HasSameStarts y t) places-is same;
          dirty = subst (λ (y : Table). BecameDirty (with_dirty_places x.places (without_regions (lost_regions x.table.shape x.chosen (marked_of x)) before)) after (HasReferenceIn y regions))
              places-is (subst (λ (d : Cards). BecameDirty d after (HasReferenceIn w regions)) cards-is dirty);
        }
