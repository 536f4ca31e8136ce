-- The packing of a table, before any object has moved.
use Rattle.std.proofs.Common.{◌≡◌, ℕ, ◌*◌, length, None, refl, ap, sym, subst, ◌∙◌, arith}
use Rattle.bal_compact.specs.Packing.{IsMovedTo, MayBePacked, to_below}
use Rattle.bal_compact.proofs.Below.{below-left}
use Rattle.bal_layout.specs.Regions.{region_at}
use Rattle.bal_layout.specs.Shape.{Shape}
use Rattle.bal_table.specs.Changes.{with_current}
use Rattle.bal_table.specs.Table.{IsTable, Table, things_of}

-- no object has moved, and no region is current
pub moved-none : (t : Table) (to : ℕ → ℕ) (now : Table) → MayBePacked t to → now ≡ with_current t None → IsTable now → (at : ℕ) → at ≡ 0 → IsMovedTo t now to 0 at
moved-none t to now may is table at none = record {
  may = may;
  table = table;
  shape = ap (λ (u : Table). u.shape) is;
  count = ap (λ (u : Table). length u.regions) is;
  current = ap (λ (u : Table). u.current) is;
  carried = record {
    carried = λ a x was keeps. ap (λ (u : Table). things_of u (to_below to at a)) is ∙ (ap (things_of t) (stays a) ∙ was);
    only = λ b x stands. (b, sym (ap (λ (u : Table). things_of u b) is) ∙ stands, refl, stays b);
  };
  below = λ p less. absurd (omega (arith, less));
  from = λ p least. ap (λ (u : Table). region_at u.regions p) is;
}
  where
    stays : (a : ℕ) → to_below to at a ≡ a
    stays a = below-left to at a (omega (arith, none))

-- the end of some regions in a table, while tables have one shape
pub same-end : (before now : Table) (to : ℕ → ℕ) (q k : ℕ) (s : Shape) → s ≡ before.shape → IsMovedTo before now to q (k * s.words) → IsMovedTo before now to q (k * now.shape.words)
same-end before now to q k s is m = subst (λ (h : Shape). IsMovedTo before now to q (k * h.words)) (is ∙ sym m.shape) m

-- all regions were passed
pub to-end : (before now : Table) (to : ℕ → ℕ) (q : ℕ) → IsMovedTo before now to q (q * now.shape.words) → q ≡ now.shape.regions
    → IsMovedTo before now to now.shape.regions (now.shape.regions * now.shape.words)
to-end before now to q m end = subst (λ n. IsMovedTo before now to n (n * now.shape.words)) end m
