-- What is known of an evacuation that is under way.
use Rattle.std.proofs.Common.{◌≡◌, ◌+◌, ◌-◌, ◌<◌, ◌≤◌, ℕ, List, [], ◌∷◌, length, drop, None, ap, sym, subst, ◌∙◌, arith}
use Rattle.std.specs.Prelude.{slice_get}
use Rattle.std.proofs.lemmas.List.{length-drop, length-map}
use Rattle.std.proofs.lemmas.Option.{slice_get-get_or, slice_get_past, slice_get_within}
use Rattle.bal_layout.specs.Addresses.{region_of}
use Rattle.bal_core.specs.declared.event.Decision.TheVariants as decision
use Rattle.bal_core.specs.declared.row.Drawn.{Drawn}
use Rattle.bal_core.specs.Core.{Fits}
use Rattle.bal_core.specs.Steps.{told, used}
use Rattle.bal_core.specs.World.{At, World}
use Rattle.bal_region.specs.Changes.{empty_land}
use Rattle.bal_region.specs.Land.{Land}
use Rattle.bal_dest.specs.Buffers.{destination_at, land_at}
use Rattle.bal_evacuate.specs.Course.{Course, drawn_by}
use Rattle.bal_evacuate.specs.Going.{IsUnderWay}
use Rattle.bal_evacuate.specs.Plan.{AreBare, IsBare, Plan, land_with_copies, numbers_of, pooled, world_for}
use Rattle.bal_evacuate.proofs.Drawn.{drawn-at, drawn-is, drawn_as, length-drawn}
use Rattle.bal_evacuate.proofs.Lands.{copies-none, number-kept, used-filled}
use Rattle.bal_evacuate.proofs.Lists.{at-drop, at-mapped, drop-next}

module _ (p : Plan) (c : Course) (u : IsUnderWay p c) where
  abbrev w : World
  w = world_for p

  -- The regions that were drawn.

  pub drawn-here : (i : ℕ) → i < length c.buffers.regions → At (drawn_by c) i (drawn_as i (destination_at c.buffers.regions i))
  drawn-here i less =
      let front : 0 + i ≡ i = omega arith in
      subst (λ n. At (drawn_by c) i (drawn_as n (destination_at c.buffers.regions i))) front (drawn-at 0 c.buffers.regions i less)

  pub number-at : (i : ℕ) → i < length c.buffers.regions → At (numbers_of p.pool) i (land_at c.buffers i).number
  number-at i less = (u.core.drawn.drawn 0 i (drawn_as i (destination_at c.buffers.regions i)) (drawn-here i less)).1

  pub young-at : (i : ℕ) → i < length c.buffers.regions → (destination_at c.buffers.regions i).age ≤ 24
  young-at i less = (u.core.drawn.drawn 0 i (drawn_as i (destination_at c.buffers.regions i)) (drawn-here i less)).2

  pub in-pool : (i : ℕ) → i < length c.buffers.regions → i < length p.pool
  in-pool i less =
      let within : i < length (numbers_of p.pool) = slice_get_within (numbers_of p.pool) i (land_at c.buffers i).number (number-at i less) in
      let long : length (numbers_of p.pool) ≡ length p.pool = length-map p.pool (λ (l : Land). l.number) in
      omega (arith, within, long)

  pub same-place : (i j : ℕ) → i < length c.buffers.regions → j < length c.buffers.regions
      → (land_at c.buffers i).number ≡ (land_at c.buffers j).number → i ≡ j
  same-place i j one two same =
      u.core.world.distinct i j (land_at c.buffers i).number (number-at i one) (subst (At (numbers_of p.pool) j) (sym same) (number-at j two))

  pub pooled-at : (i : ℕ) → i < length p.pool → At p.pool i (pooled p i)
  pooled-at i less = slice_get-get_or p.pool i (empty_land 0 0) less

  pub pooled-bare : (i : ℕ) → i < length p.pool → IsBare p.shape (pooled p i)
  pooled-bare i less = (u.may.bare i (pooled p i) (pooled-at i less)).1

  pub number-pooled : (i : ℕ) → i < length c.buffers.regions → (land_at c.buffers i).number ≡ (pooled p i).number
  number-pooled i less = ap (λ (l : Land). l.number) (u.lands i less) ∙ number-kept p c.won (pooled p i)

  -- what is given out of a region is what was copied there
  pub used-at : (i : ℕ) → i < length c.buffers.regions → (land_at c.buffers i).used ≡ used w (land_at c.buffers i).number c.won
  used-at i less =
      let filled : (land_at c.buffers i).used ≡ (pooled p i).used + used w (pooled p i).number c.won
      = ap (λ (l : Land). l.used) (u.lands i less) ∙ used-filled p c.won (pooled p i) in
      let none : (pooled p i).used ≡ 0 = (pooled-bare i (in-pool i less)).used in
      let same : used w (pooled p i).number c.won ≡ used w (land_at c.buffers i).number c.won = ap (λ q. used w q c.won) (sym (number-pooled i less)) in
      omega (arith, filled, none, same)

  -- each copy lies in one of them
  pub copy-place : (i k a : ℕ) → At c.won i (told k (decision.Copied a))
      → (j : ℕ) × (j < length c.buffers.regions) × (region_of p.shape a ≡ (land_at c.buffers j).number)
  copy-place i k a at =
      let fits : Fits w (drawn_by c) c.won i k a = u.core.packed.fits 0 i k a at in
      let here = drawn-is c.buffers.regions fits.place fits.drawn fits.drew in
      (fits.place, here.0, fits.region ∙ ap (λ (d : Drawn). d.region) here.1)

  -- The regions that were not drawn.

  pub spares-bare : AreBare c.buffers.shape c.spares
  spares-bare = subst (λ s. AreBare s c.spares) (sym u.shape)
      (subst (AreBare p.shape) (sym u.spares) (λ i l at. u.may.bare (length c.buffers.regions + i) l (at-drop (length c.buffers.regions) p.pool i l at)))

  pub none-left : c.spares ≡ [] → slice_get (numbers_of p.pool) (length (drawn_by c) + 0) ≡ None
  none-left none =
      let left : length (drop (length c.buffers.regions) p.pool) ≡ 0 = ap (λ (l : List Land). length l) (sym u.spares ∙ none) in
      let long : length (drop (length c.buffers.regions) p.pool) ≡ length p.pool - length c.buffers.regions = length-drop (length c.buffers.regions) p.pool in
      let drawn : length (drawn_by c) ≡ length c.buffers.regions = length-drawn 0 c.buffers.regions in
      let numbers : length (numbers_of p.pool) ≡ length p.pool = length-map p.pool (λ (l : Land). l.number) in
      slice_get_past (numbers_of p.pool) (length (drawn_by c) + 0) (omega (arith, left, long, drawn, numbers))

  module _ (l : Land) (ls : List Land) (next : c.spares ≡ l ∷ ls) where
    pub next-at : At p.pool (length c.buffers.regions) l
    next-at = (drop-next (length c.buffers.regions) p.pool l ls (sym u.spares ∙ next)).0

    pub next-rest : drop (length c.buffers.regions + 1) p.pool ≡ ls
    next-rest = (drop-next (length c.buffers.regions) p.pool l ls (sym u.spares ∙ next)).1

    pub next-number : At (numbers_of p.pool) (length c.buffers.regions) l.number
    next-number = at-mapped (λ (m : Land). m.number) p.pool (length c.buffers.regions) l next-at

    -- no object was copied there
    pub next-free : (i k a : ℕ) → At c.won i (told k (decision.Copied a)) → region_of p.shape a ≡ l.number → ⊥
    next-free i k a at here =
        let there = copy-place i k a at in
        let same : there.0 ≡ length c.buffers.regions
        = u.core.world.distinct there.0 (length c.buffers.regions) l.number
        (subst (At (numbers_of p.pool) there.0) (sym there.2 ∙ here) (number-at there.0 there.1)) next-number in
        let less : there.0 < length c.buffers.regions = there.1 in
        omega (arith, same, less)

    pub next-empty : land_with_copies p c.won l ≡ l
    next-empty = copies-none p c.won l next-free
