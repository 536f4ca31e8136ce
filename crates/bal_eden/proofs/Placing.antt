-- What an allocation makes of a table.
use Rattle.std.proofs.Common.{◌≡◌, ℕ, suc, ◌+◌, ◌<◌, ◌≤◌, Bool, true, false, cond, List, [], ◌∷◌, length, set, get_or, Option, Some, None, refl, ap, ap₂, sym, subst, ◌∙◌, arith, get_or-set_same}
use Rattle.std.specs.Prelude.{MatchOption, nat_le, slice_get, unwrap_or}
use Rattle.std.proofs.lemmas.Bool.{and_parts, false≢true, leb-true}
use Rattle.std.proofs.lemmas.List.{set-set}
use Rattle.std.proofs.lemmas.Option.{get_or_from_slice_get, none-some, same_Some}
use Rattle.bal_layout.specs.Addresses.{IsAddress, address_in, region_of}
use Rattle.bal_layout.specs.Header.{IsHeader, first_word, second_word, size_in}
use Rattle.bal_layout.specs.Regions.{free_region, free_regions, is_free, region_at, region_with_object}
use Rattle.bal_layout.specs.declared.geometry.Want.{Want}
use Rattle.bal_layout.specs.declared.header.Header.{Header}
use Rattle.bal_layout.specs.declared.name.Kind.TheVariants.{Spine}
use Rattle.bal_layout.specs.declared.region_state.RegionState.{RegionState}
use Rattle.bal_layout.specs.declared.region_state.Role.{Role}
use Rattle.bal_layout.specs.declared.region_state.Role.TheVariants as roles
use Rattle.bal_base.specs.Numbering.{numbers_from}
use Rattle.bal_region.specs.Changes.{empty_land}
use Rattle.bal_region.proofs.Lemmas.{size-header}
use Rattle.bal_rules.specs.Room.{fits_current}
use Rattle.bal_table.specs.Changes.{with_current, with_new, with_role}
use Rattle.bal_table.specs.Table.{IsPiece, IsTable, Table, land_at, role_at, things_of}
use Rattle.bal_table.proofs.Lemmas.{IsTable-current, IsTable-role, address-region, address-within, thing-free, thing-placed}
use Rattle.bal_eden.specs.Room.{Allocates, IsRoom, current_of, opened, spot_in, want_of_header, with_allocated}
use Rattle.bal_eden.specs.declared.room.Room.{Room}
use Rattle.bal_eden.specs.declared.room.Room.TheVariants.{Fresh, Here, Nowhere}
use Rattle.bal_words.specs.Things.{Updated, blank_thing}
use Rattle.bal_eden.proofs.Wants.{piece-wanted}

-- Where the request goes.

spot-here : (t : Table) (w : Want) → fits_current t.shape t.regions t.current w.words ≡ true → (spot_in t w).region ≡ unwrap_or t.current 0
spot-here t w fits = rw fits refl

spot-fresh : (t : Table) (w : Want) → fits_current t.shape t.regions t.current w.words ≡ false
    → (spot_in t w).region ≡ get_or (free_regions t.regions) 0 0
spot-fresh t w unfit = rw unfit refl

-- a number, counted from n on, is one of a free region
abbrev Numbered : ℕ → List RegionState → ℕ → Type 0
Numbered n rs q = (i : ℕ) × (i < length rs) × (is_free (region_at rs i).role ≡ true) × (n + i ≡ q)

numbers-head : (n : ℕ) (rs : List RegionState) (q : ℕ) → slice_get (numbers_from n (λ (r : RegionState). is_free r.role) rs) 0 ≡ Some q → Numbered n rs q
numbers-head n [] q is = absurd (none-some q is)
numbers-head n (r ∷ rs) q is = by (is_free r.role) refl (numbers-head (n + 1) rs q) is
  where
    rest : List ℕ
    rest = numbers_from (n + 1) (λ (s : RegionState). is_free s.role) rs

    by : (b : Bool) → is_free r.role ≡ b → (slice_get rest 0 ≡ Some q → Numbered (n + 1) rs q) → slice_get (cond b (n ∷ rest) rest) 0 ≡ Some q → Numbered n (r ∷ rs) q
    by true e later is = (0, omega arith, e, omega (arith, same_Some n q is))
    by false e later is =
        let (i, less, holds, place) = later is in
        (suc i, omega (arith, less), holds, omega (arith, place))

-- the lowest free region is one of the table, and free
first-free : (rs : List RegionState) (q : ℕ) → slice_get (free_regions rs) 0 ≡ Some q → (q < length rs) × (is_free (region_at rs q).role ≡ true)
first-free rs q is =
    let (i, less, none, place) = numbers-head 0 rs q is in
    let same : i ≡ q = omega (arith, place) in
    (omega (arith, less, same), subst (λ n. is_free (region_at rs n).role ≡ true) same none)

-- With its region made current the table is ready: the region has room for the words, and takes them as the board has it.
pub record IsOpened (t : Table) (w : Want) (room : Room) (q : ℕ) : Type 0 where
  pub table : IsTable (opened t room)
  pub shape : (opened t room).shape ≡ t.shape
  pub lands : (opened t room).lands ≡ t.lands
  pub within : q < t.shape.regions
  pub spot : (spot_in t w).region ≡ q
  pub current : (opened t room).current ≡ Some q
  pub fits : (land_at t q).used + w.words ≤ t.shape.words
  pub regions : set (opened t room).regions q (region_with_object w.words (region_at (opened t room).regions q))
      ≡ set t.regions q (region_with_object w.words (region_at t.regions q))
  pub now : cond (is_free (region_at t.regions q).role) (Some q) t.current ≡ Some q

-- the current region takes what is wanted
opened-here : (t : Table) (w : Want) → IsTable t → IsRoom t w Here → (q : ℕ) × IsOpened t w Here q
opened-here t w table room = by t.current refl
  where
    fits : fits_current t.shape t.regions t.current w.words ≡ true
    fits = (and_parts (fits_current t.shape t.regions t.current w.words) (nat_le w.leaves (length (free_regions t.regions))) room).0

    by : (c : Option ℕ) → t.current ≡ c → (q : ℕ) × IsOpened t w Here q
    by None is = absurd (false≢true (ap (λ (c : Option ℕ). fits_current t.shape t.regions c w.words) (sym is) ∙ fits))
    by (Some q) is =
        let at = table.current q is in (
          q,
          record {
            table = table;
            shape = refl;
            lands = refl;
            within = at.0;
            spot = spot-here t w fits ∙ ap (λ (c : Option ℕ). unwrap_or c 0) is;
            current = is;
            fits = leb-true ((land_at t q).used + w.words) t.shape.words
                (ap (λ used. nat_le (used + w.words) t.shape.words) (sym (table.each q at.0).used)
                ∙ (ap (λ (c : Option ℕ). fits_current t.shape t.regions c w.words) (sym is) ∙ fits));
            regions = refl;
            now = ap (λ (r : Role). cond (is_free r) (Some q) t.current) at.1 ∙ is;
          },
        )

-- a free region that becomes eden first takes an object as a free one does
eden-first : (words : ℕ) (r : RegionState) → is_free r.role ≡ true → region_with_object words (record r { role = roles.Object 0 }) ≡ region_with_object words r
eden-first words r free =
    ap (λ b. record { role = cond b (roles.Object 0) r.role; used = r.used + words; estimate = r.estimate + words; remembered = r.remembered }) (sym free)

-- the lowest free region takes it
opened-fresh : (t : Table) (w : Want) (q : ℕ) → IsTable t → IsRoom t w (Fresh q) → (q < t.shape.regions) → is_free (role_at t q) ≡ true → w.words ≤ t.shape.words → IsOpened t w (Fresh q) q
opened-fresh t w q table room within free few =
    let there : q < length t.regions = omega (arith, within, table.regions) in
    let eden : RegionState = record (region_at t.regions q) { role = roles.Object 0 } in
    let here : region_at (set t.regions q eden) q ≡ eden = get_or-set_same t.regions q eden free_region there in
    let none : (land_at t q).used ≡ 0 = sym (table.each q within).used ∙ ap (λ (r : RegionState). r.used) ((table.each q within).free free) in
    record {
      table = IsTable-current (with_role t q (roles.Object 0)) (Some q)
          (IsTable-role t q (roles.Object 0) table within (omega arith) (λ _. refl) (λ e. absurd (false≢true (sym e))) (λ e. absurd (false≢true e)))
          (within, ap (λ (r : RegionState). r.role) here);
      shape = refl;
      lands = refl;
      within = within;
      spot = spot-fresh t w room.0 ∙ get_or_from_slice_get (free_regions t.regions) 0 q 0 room.2;
      current = refl;
      fits = omega (arith, none, few);
      regions = ap (λ (r : RegionState). set (set t.regions q eden) q (region_with_object w.words r)) here
          ∙ (ap (set (set t.regions q eden) q) (eden-first w.words (region_at t.regions q) free)
          ∙ set-set t.regions q eden (region_with_object w.words (region_at t.regions q)));
      now = ap (λ b. cond b (Some q) t.current) free;
    }

pub opened-is : (t : Table) (w : Want) (room : Room) → IsTable t → IsRoom t w room → w.words ≤ t.shape.words → (q : ℕ) × IsOpened t w room q
opened-is t w Here table room few = opened-here t w table room
opened-is t w (Fresh q) table room few =
    let (there, none) = first-free t.regions q room.2 in
    (q, opened-fresh t w q table room (omega (arith, there, table.regions)) none few)
opened-is t w Nowhere table room few = absurd room

-- what the calls have made of the table: if a free region was taken, it is the one that was found
pub turned-here : (t m : Table) (room : Room) → ((q : ℕ) → room ≡ Fresh q → ⊥) → m ≡ t → m ≡ opened t room
turned-here t m Here other is = is
turned-here t m (Fresh q) other is = absurd (other q refl)
turned-here t m Nowhere other is = is

pub turned-fresh : (t a m : Table) (w : Want) (room : Room) (q : ℕ) (taken : Option ℕ) → room ≡ Fresh q → IsRoom t w room → taken ≡ slice_get (free_regions t.regions) 0
    → MatchOption taken (a ≡ t) (λ n. a ≡ with_role t n (roles.Object 0)) → m ≡ with_current a taken → m ≡ opened t room
turned-fresh t a m w room q taken is found first role made =
    let fresh : IsRoom t w (Fresh q) = subst (IsRoom t w) is found in
    let lowest : taken ≡ Some q = first ∙ fresh.2 in
    let at : a ≡ with_role t q (roles.Object 0) = subst (λ o. MatchOption o (a ≡ t) (λ n. a ≡ with_role t n (roles.Object 0))) lowest role in
    made ∙ (ap₂ (λ b o. with_current b o) at lowest ∙ ap (opened t) (sym is))

-- The object is placed there.

pub fits-opened : (t : Table) (w : Want) (room : Room) (q : ℕ) → IsOpened t w room q → (land_at (opened t room) q).used + w.words ≤ (opened t room).shape.words
fits-opened t w room q o =
    omega (arith, o.fits, ap (λ ls. (get_or ls q (empty_land 0 0)).used) o.lands, ap (λ s. s.words) o.shape)

pub opened-piece : (t m : Table) (w : Want) (room : Room) (q : ℕ) → IsOpened t w room q → m ≡ opened t room → (h : Header) → IsHeader h
    → want_of_header t.shape h ≡ Some w → w.leaves ≡ 0 → (h.kind ≡ Spine → ⊥) → (first second : ℕ) → first ≡ first_word h → second ≡ second_word h
    → IsPiece m.shape first second w.words
opened-piece t m w room q o is h limits want none whole first second first_is second_is =
    subst (λ (b : Table). IsPiece b.shape first second w.words) (sym is)
    (subst (λ a. IsPiece (opened t room).shape a second w.words) (sym first_is)
    (subst (λ b. IsPiece (opened t room).shape (first_word h) b w.words) (sym second_is)
    (piece-wanted (opened t room).shape h w o.table.shape limits (subst (λ s. want_of_header s h ≡ Some w) (sym o.shape) want) none whole)))

module _ (t : Table) (table : IsTable t) (w : Want) (room : Room) (q : ℕ) (o : IsOpened t w room q) (h : Header) (limits : IsHeader h)
    (want : want_of_header t.shape h ≡ Some w) (none : w.leaves ≡ 0) (whole : h.kind ≡ Spine → ⊥) where
  abbrev piece : IsPiece (opened t room).shape (first_word h) (second_word h) w.words
  piece = piece-wanted (opened t room).shape h w o.table.shape limits (subst (λ s. want_of_header s h ≡ Some w) (sym o.shape) want) none whole

  two : 2 ≤ w.words
  two =
      let size : size_in (opened t room).shape.words h ≡ w.words = piece.size in
      omega (arith, size-header (opened t room).shape.words h, size)

  here : current_of (opened t room) ≡ q
  here = ap (λ (c : Option ℕ). unwrap_or c 0) o.current

  land : land_at (opened t room) q ≡ land_at t q
  land = ap (λ ls. get_or ls q (empty_land 0 0)) o.lands

  within-there : q < (opened t room).shape.regions
  within-there = omega (arith, o.within, ap (λ s. s.regions) o.shape)

  -- the current region takes the object, after what it has given out
  pub allocated : (u : Table) (first second address : ℕ) → first ≡ first_word h → second ≡ second_word h
      → u ≡ with_new (opened t room) q first second w.words → address ≡ address_in (opened t room).shape q (land_at (opened t room) q).used
      → Allocates t u w room h address
  allocated u first second address first_is second_is made at = record {
    exact = exact;
    address_is = at ∙ ap (λ p. address_in (opened t room).shape p (land_at (opened t room) p).used) (sym here);
    none_started = subst (λ a. things_of t a ≡ None) (sym place) (thing-free t q table o.within open_end);
    object = subst (λ a. Updated (things_of t) (things_of u) a (Some (blank_thing h.name h.kind h.refs h.values))) (sym at)
        (subst (λ b. Updated (things_of t) (things_of b) (address_in (opened t room).shape q (land_at (opened t room) q).used) (Some (blank_thing h.name h.kind h.refs h.values))) (sym is)
        (subst (λ ts. Updated ts (things_of (with_new (opened t room) q (first_word h) (second_word h) w.words)) (address_in (opened t room).shape q (land_at (opened t room) q).used) (Some (blank_thing h.name h.kind h.refs h.values))) same_things
        (thing-placed (opened t room) q (first_word h) (second_word h) w.words piece o.table within-there (fits-opened t w room q o))));
    within = subst (λ a. IsAddress t.shape a) (sym place) (address-within t.shape (address_in t.shape q (land_at t q).used) (omega (arith, open_end)) (omega (arith, region, o.within)));
    region = ap (region_of t.shape) place ∙ (region ∙ sym o.spot);
    regions = ap (λ (b : Table). b.regions) is ∙ (o.regions ∙ ap (λ p. set t.regions p (region_with_object w.words (region_at t.regions p))) (sym o.spot));
    current = ap (λ (b : Table). b.current) is ∙ (o.current ∙ (sym o.now ∙ ap (λ p. cond (is_free (region_at t.regions p).role) (Some p) t.current) (sym o.spot)));
  }
    where
      is : u ≡ with_new (opened t room) q (first_word h) (second_word h) w.words
      is = made ∙ ap₂ (λ a b. with_new (opened t room) q a b w.words) first_is second_is

      exact : u ≡ with_allocated (opened t room) w h
      exact = is ∙ ap (λ p. with_new (opened t room) p (first_word h) (second_word h) w.words) (sym here)

      place : address ≡ address_in t.shape q (land_at t q).used
      place = at ∙ ap₂ (λ s l. address_in s q l.used) o.shape land

      open_end : (land_at t q).used < t.shape.words
      open_end = omega (arith, o.fits, two)

      region : region_of t.shape (address_in t.shape q (land_at t q).used) ≡ q
      region = address-region t.shape q (land_at t q).used open_end

      same_things : things_of (opened t room) ≡ things_of t
      same_things = ap₂ (λ s ls. things_of (record t { shape = s; lands = ls })) o.shape o.lands

-- The shape stays.

pub allocated-shape : (t u : Table) (w : Want) (room : Room) (h : Header) (address : ℕ) → Allocates t u w room h address → u.shape ≡ t.shape
allocated-shape t u w room h address new = ap (λ (b : Table). b.shape) new.exact ∙ opened-shape room
  where
    opened-shape : (r : Room) → (opened t r).shape ≡ t.shape
    opened-shape Here = refl
    opened-shape (Fresh q) = refl
    opened-shape Nowhere = refl
