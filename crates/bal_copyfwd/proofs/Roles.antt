-- Which regions have objects.
use Rattle.std.proofs.Common.{◌≡◌, ℕ, Bool, true, false, refl, sym, ◌∙◌, arith}
use Rattle.std.specs.Prelude.{IsSome}
use Rattle.bal_layout.specs.Addresses.{address_in, offset_of, region_of}
use Rattle.bal_layout.specs.Regions.{is_object}
use Rattle.bal_table.specs.Table.{IsTable, Table, land_at, role_at, things_of}
use Rattle.bal_table.proofs.Lemmas.{address-is, object-region, object-within, seen}
use Rattle.bal_words.proofs.Lemmas.{there}

-- an object lies in a region of objects
pub object-role : (t : Table) (a : ℕ) → IsTable t → IsSome (things_of t a) → is_object (role_at t (region_of t.shape a)) ≡ true
object-role t a table is = by (is_object (role_at t (region_of t.shape a))) refl
  where
    by : (b : Bool) → is_object (role_at t (region_of t.shape a)) ≡ b → b ≡ true
    by true object = refl
    by false none =
        let x = there (things_of t a) is in
        let z = seen t a x.0 table x.1 in
        let within = (object-within t a z.object table z.is).1 in
        let used : (land_at t (region_of t.shape a)).used ≡ 0 =
        sym (table.each (region_of t.shape a) (object-region t a z.object table z.is)).used ∙ (table.each (region_of t.shape a) (object-region t a z.object table z.is)).empty none in
        let at : address_in t.shape (region_of t.shape a) (offset_of t.shape a) ≡ a = address-is t.shape a in
        absurd (omega (arith, within, used, at, z.size))
