-- A table after regions that were out are put back.
use Rattle.std.proofs.Common.{◌≡◌, ◌<◌, ℕ, zero, suc, List, [], ◌∷◌, Some, length, refl, ap, sym, subst, ◌∙◌, get_or-set_other, get_or-set_same, length-set}
use Rattle.std.specs.Prelude.{slice_get}
use Rattle.std.specs.List.{AllByRecursion}
use Rattle.std.proofs.lemmas.Option.{none-some, same_Some}
use Rattle.bal_layout.specs.Addresses.{offset_of, region_of}
use Rattle.bal_layout.specs.Regions.{free_region, region_at}
use Rattle.bal_layout.specs.Shape.{Shape}
use Rattle.bal_layout.specs.declared.region_state.RegionState.{RegionState}
use Rattle.bal_region.specs.Changes.{empty_land}
use Rattle.bal_region.specs.Land.{Land, object_at}
use Rattle.bal_table.specs.Occupied.{with_filled}
use Rattle.bal_table.specs.Table.{Table, land_at, objects_of}
use Rattle.bal_copyfwd.specs.Filled.{AreApart, Back, IsOther, state_back, with_all_filled}

pub back-shape : (bs : List Back) (t : Table) → (with_all_filled bs t).shape ≡ t.shape
unfolding with_all_filled
back-shape [] t = refl
back-shape (b ∷ bs) t = back-shape bs (with_filled t b.land b.role)

pub back-current : (bs : List Back) (t : Table) → (with_all_filled bs t).current ≡ t.current
unfolding with_all_filled
back-current [] t = refl
back-current (b ∷ bs) t = back-current bs (with_filled t b.land b.role)

pub back-regions : (bs : List Back) (t : Table) → length (with_all_filled bs t).regions ≡ length t.regions
unfolding with_all_filled
back-regions [] t = refl
back-regions (b ∷ bs) t = back-regions bs (with_filled t b.land b.role) ∙ length-set t.regions b.land.number (state_back t b)

pub back-lands : (bs : List Back) (t : Table) → length (with_all_filled bs t).lands ≡ length t.lands
unfolding with_all_filled
back-lands [] t = refl
back-lands (b ∷ bs) t = back-lands bs (with_filled t b.land b.role) ∙ length-set t.lands b.land.number b.land

-- A region that is not put back stays.

pub other-land : (bs : List Back) (t : Table) (q : ℕ) → IsOther q bs → land_at (with_all_filled bs t) q ≡ land_at t q
unfolding with_all_filled
other-land [] t q other = refl
other-land (b ∷ bs) t q other =
    other-land bs (with_filled t b.land b.role) q other.1
    ∙ get_or-set_other t.lands b.land.number q b.land (empty_land 0 0) (λ e. other.0 (sym e))

pub other-state : (bs : List Back) (t : Table) (q : ℕ) → IsOther q bs → region_at (with_all_filled bs t).regions q ≡ region_at t.regions q
unfolding with_all_filled
other-state [] t q other = refl
other-state (b ∷ bs) t q other =
    other-state bs (with_filled t b.land b.role) q other.1
    ∙ get_or-set_other t.regions b.land.number q (state_back t b) free_region (λ e. other.0 (sym e))

-- One that is put back is there, with its role.

all-at : {A : Type 0} (P : A → Type 0) (xs : List A) (i : ℕ) (x : A) → AllByRecursion P xs → slice_get xs i ≡ Some x → P x
all-at P [] i x all at = absurd (none-some x at)
all-at P (y ∷ xs) zero x all at = subst P (same_Some y x at) all.0
all-at P (y ∷ xs) (suc i) x all at = all-at P xs i x all.1 at

pub own-land : (bs : List Back) (t : Table) (i : ℕ) (b : Back) → AreApart bs → slice_get bs i ≡ Some b → b.land.number < length t.lands
    → land_at (with_all_filled bs t) b.land.number ≡ b.land
unfolding with_all_filled
own-land [] t i b apart at within = absurd (none-some b at)
own-land (c ∷ bs) t zero b apart at within =
    let same : c ≡ b = same_Some c b at in
    subst (λ (d : Back). land_at (with_all_filled bs (with_filled t c.land c.role)) d.land.number ≡ d.land) same
    (other-land bs (with_filled t c.land c.role) c.land.number apart.0
    ∙ get_or-set_same t.lands c.land.number c.land (empty_land 0 0) (subst (λ (d : Back). d.land.number < length t.lands) (sym same) within))
own-land (c ∷ bs) t (suc i) b apart at within =
    own-land bs (with_filled t c.land c.role) i b apart.1 at (subst (λ n. b.land.number < n) (sym (length-set t.lands c.land.number c.land)) within)

pub own-state : (bs : List Back) (t : Table) (i : ℕ) (b : Back) → AreApart bs → slice_get bs i ≡ Some b → b.land.number < length t.regions
    → region_at (with_all_filled bs t).regions b.land.number ≡ state_back t b
unfolding with_all_filled
own-state [] t i b apart at within = absurd (none-some b at)
own-state (c ∷ bs) t zero b apart at within =
    let same : c ≡ b = same_Some c b at in
    subst (λ (d : Back). region_at (with_all_filled bs (with_filled t c.land c.role)).regions d.land.number ≡ state_back t d) same
    (other-state bs (with_filled t c.land c.role) c.land.number apart.0
    ∙ get_or-set_same t.regions c.land.number (state_back t c) free_region (subst (λ (d : Back). d.land.number < length t.regions) (sym same) within))
own-state (c ∷ bs) t (suc i) b apart at within =
    own-state bs (with_filled t c.land c.role) i b apart.1 at (subst (λ n. b.land.number < n) (sym (length-set t.regions c.land.number (state_back t c))) within)
    ∙ ap (λ (r : RegionState). record r { role = b.role; used = b.land.used; estimate = b.land.used })
    (get_or-set_other t.regions c.land.number b.land.number (state_back t c) free_region (all-at (λ (d : Back). d.land.number ≡ c.land.number → ⊥) bs i b apart.0 at))

-- Objects.

-- those of a region that is put back
pub objects-back : (bs : List Back) (t : Table) (i : ℕ) (b : Back) (a : ℕ) → AreApart bs → slice_get bs i ≡ Some b → b.land.number < length t.lands
    → region_of t.shape a ≡ b.land.number → objects_of (with_all_filled bs t) a ≡ object_at b.land (offset_of t.shape a)
objects-back bs t i b a apart at within here =
    ap (λ (s : Shape). object_at (land_at (with_all_filled bs t) (region_of s a)) (offset_of s a)) (back-shape bs t)
    ∙ ap (λ (l : Land). object_at l (offset_of t.shape a)) (ap (land_at (with_all_filled bs t)) here ∙ own-land bs t i b apart at within)

-- and those of one that is not
pub objects-other : (bs : List Back) (t : Table) (a : ℕ) → IsOther (region_of t.shape a) bs → objects_of (with_all_filled bs t) a ≡ objects_of t a
objects-other bs t a other =
    ap (λ (s : Shape). object_at (land_at (with_all_filled bs t) (region_of s a)) (offset_of s a)) (back-shape bs t)
    ∙ ap (λ (l : Land). object_at l (offset_of t.shape a)) (other-land bs t (region_of t.shape a) other)
