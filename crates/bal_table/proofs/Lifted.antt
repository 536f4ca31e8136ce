-- What changes in one region, as the addresses tell it.
use Rattle.std.proofs.Common.{◌≡◌, ℕ, ◌<◌, ◌⊎◌, inl, inr, List, length, get_or, set, Option, ap, sym, ◌∙◌, get_or-set_other, get_or-set_same}
use Rattle.std.specs.Prelude.{option_and_then}
use Rattle.bal_layout.specs.Addresses.{address_in, offset_of, region_of}
use Rattle.bal_words.specs.Things.{Updated}
use Rattle.bal_words.proofs.Lemmas.{same-or}
use Rattle.bal_region.specs.Changes.{empty_land}
use Rattle.bal_region.specs.Land.{Land, object_at}
use Rattle.bal_table.specs.Changes.{with_land}
use Rattle.bal_table.specs.Table.{Table, land_at, objects_of, thing_in, things_of}
use Rattle.bal_table.proofs.Places.{address-is, address-offset, address-region}

-- another region in the place of one: what starts in that region is what starts there now
pub objects-there : (t : Table) (q : ℕ) (m : Land) (a : ℕ) → q < length t.lands → region_of t.shape a ≡ q
    → objects_of (with_land t q m) a ≡ object_at m (offset_of t.shape a)
objects-there t q m a within here =
    ap (λ r. object_at (get_or (set t.lands q m) r (empty_land 0 0)) (offset_of t.shape a)) here
    ∙ ap (λ (l : Land). object_at l (offset_of t.shape a)) (get_or-set_same t.lands q m (empty_land 0 0) within)

-- and what starts in the others stays
pub objects-beside : (t : Table) (q : ℕ) (m : Land) (a : ℕ) → (region_of t.shape a ≡ q → ⊥) → objects_of (with_land t q m) a ≡ objects_of t a
objects-beside t q m a other =
    ap (λ (l : Land). object_at l (offset_of t.shape a)) (get_or-set_other t.lands q (region_of t.shape a) m (empty_land 0 0) other)

-- one object of a region is changed: so is the one at its address
pub objects-lifted : (t : Table) (q : ℕ) (m : Land) (at : ℕ) (now : Option (List ℕ)) → q < length t.lands → at < t.shape.words
    → Updated (object_at (land_at t q)) (object_at m) at now → Updated (objects_of t) (objects_of (with_land t q m)) (address_in t.shape q at) now
objects-lifted t q m at now inside within change = record {
  here = objects-there t q m (address_in t.shape q at) inside (address-region t.shape q at within)
      ∙ (ap (object_at m) (address-offset t.shape q at within) ∙ change.here);
  elsewhere = λ other apart. by other apart (same-or (region_of t.shape other) q);
}
  where
    by : (other : ℕ) → (other ≡ address_in t.shape q at → ⊥) → (region_of t.shape other ≡ q) ⊎ (region_of t.shape other ≡ q → ⊥)
        → objects_of (with_land t q m) other ≡ objects_of t other
    by other apart (inl here) =
        let beside : offset_of t.shape other ≡ at → ⊥ =
        λ e. apart (sym (address-is t.shape other) ∙ (ap (λ r. address_in t.shape r (offset_of t.shape other)) here ∙ ap (address_in t.shape q) e)) in
        objects-there t q m other inside here
        ∙ (change.elsewhere (offset_of t.shape other) beside ∙ ap (λ r. object_at (land_at t r) (offset_of t.shape other)) (sym here))
    by other apart (inr elsewhere) = objects-beside t q m other elsewhere

-- objects that stay are the same things
pub things-same : (t u : Table) (a : ℕ) → objects_of u a ≡ objects_of t a → things_of u a ≡ things_of t a
things-same t u a same = ap (option_and_then thing_in) same

-- and one that is changed is changed as a thing
pub things-lifted : (t : Table) (q : ℕ) (m : Land) (at : ℕ) (now : Option (List ℕ)) → q < length t.lands → at < t.shape.words
    → Updated (object_at (land_at t q)) (object_at m) at now
    → Updated (things_of t) (things_of (with_land t q m)) (address_in t.shape q at) (option_and_then thing_in now)
things-lifted t q m at now inside within change =
    let lifted = objects-lifted t q m at now inside within change in
    record {
      here = ap (option_and_then thing_in) lifted.here;
      elsewhere = λ other apart. things-same t (with_land t q m) other (lifted.elsewhere other apart);
    }
