-- A table once all chosen regions were settled, and what was eden is older.
use Rattle.std.proofs.Common.{◌≡◌, ℕ, ◌<◌, Bool, true, false, cond, eqb, List, [], ◌∷◌, length, map, Option, None, refl, ap, sym, ◌∙◌, arith}
use Rattle.std.specs.Prelude.{◌&&◌}
use Rattle.std.specs.List.{filter}
use Rattle.std.proofs.lemmas.Bool.{eq-eqb, ne_eqb}
use Rattle.std.proofs.lemmas.List.{get_or-map, length-map, same_lists}
use Rattle.std.proofs.lemmas.List.FromFn.{fill_by_all, get_or-map-range_with_len, length-map-range_with_len}
use Rattle.bal_base.proofs.Lemmas.{among-first, among-later}
use Rattle.bal_layout.specs.Addresses.{address_in, region_of}
use Rattle.bal_layout.specs.Regions.{age_of, all_regions, free_region, freed, is_eden, is_in, region_at, without_cards_of}
use Rattle.bal_layout.specs.Shape.{Shape}
use Rattle.bal_layout.specs.declared.region_state.RegionState.{RegionState}
use Rattle.bal_layout.specs.declared.region_state.Role.TheVariants.{Object}
use Rattle.bal_layout.proofs.Lemmas.{freed-is, length-freed}
use Rattle.bal_region.specs.Changes.{empty_land}
use Rattle.bal_region.specs.Land.{Land}
use Rattle.bal_rules.specs.PartialEvents.{next_age}
use Rattle.bal_sweep.specs.Sweep.{left_at, left_in, words_of}
use Rattle.bal_sweep.proofs.Lemmas.{in-filter}
use Rattle.bal_table.specs.Changes.{with_current}
use Rattle.bal_table.specs.Table.{IsTable, Table, land_at}
use Rattle.bal_table.proofs.Lemmas.{address-region, start-inside}
use Rattle.bal_settle.specs.Settled.{MaySettle, is_lost, land_settled, lost_regions, marked_in, settled, state_settled}
use Rattle.bal_settle.specs.Settling.{all_settled, state_older, with_eden_older}
use Rattle.bal_settle.proofs.Chosen.{IsWhole, current-all, land-all, shape-all, state-all, state_freed, whole-all}

-- two tests that agree on the members
filter-same : (p q : ℕ → Bool) (xs : List ℕ) → ((a : ℕ) → is_in a xs ≡ true → p a ≡ q a) → filter p xs ≡ filter q xs
filter-same p q [] same = refl
filter-same p q (x ∷ xs) same =
    ap (λ b. cond b (x ∷ filter p xs) (filter p xs)) (same x (among-first x xs))
    ∙ ap (λ (l : List ℕ). cond (q x) (x ∷ l) l) (filter-same p q xs (λ a among. same a (among-later x a xs among)))

-- what has an age after a collection is not eden
not-eden : (age : ℕ) → is_eden (Object (next_age age)) ≡ false
not-eden age = ne_eqb (next_age age) 0 (λ e. omega (arith, e))

-- a region keeps its own part of the marked objects
left-own : (t : Table) (marked : List ℕ) (q : ℕ) → IsTable t → q < t.shape.regions → left_in t.shape (marked_in t.shape q marked) q (land_at t q) ≡ left_at marked t q
left-own t marked q table within =
    ap (λ (ss : List ℕ). record (land_at t q) { starts = ss })
    (filter-same (λ at. is_in (address_in t.shape q at) (marked_in t.shape q marked)) (λ at. is_in (address_in t.shape q at) marked) (land_at t q).starts
    (λ at among.
    in-filter (λ a. eqb (region_of t.shape a) q) marked (address_in t.shape q at)
    ∙ ap (λ b. b && is_in (address_in t.shape q at) marked)
    (eq-eqb (region_of t.shape (address_in t.shape q at)) q (address-region t.shape q at (start-inside t q at table within among)))))

module _ (chosen marked : List ℕ) (t : Table) (table : IsTable t) (may : MaySettle t chosen marked) where
  abbrev u : Table
  u = all_settled chosen marked (with_current t None)

  abbrev vs : List ℕ
  vs = lost_regions t.shape chosen marked

  whole : IsWhole (with_current t None)
  whole = record { lands = table.lands; regions = table.regions }

  land-each : (q : ℕ) → q < t.shape.regions → land_at u q ≡ land_settled chosen marked t q
  land-each q within =
      land-all t.shape chosen marked (with_current t None) refl whole may.ascending (λ p among. (may.regions p among).0) q
      ∙ ap (λ (l : Land). cond (is_in q chosen) (cond (is_lost t.shape marked q) (empty_land q t.shape.words) l) (land_at t q)) (left-own t marked q table within)

  lands : u.lands ≡ map (land_settled chosen marked t) (all_regions t.regions)
  lands = fill_by_all (land_settled chosen marked t) u.lands (length t.regions) (empty_land 0 0)
      ((whole-all chosen marked (with_current t None) whole).lands ∙ (ap (λ (h : Shape). h.regions) (shape-all chosen marked (with_current t None)) ∙ sym table.regions))
      (λ q less. land-each q (omega (arith, less, table.regions)))

  older : (q : ℕ) (l m : Land) (r : RegionState) → l ≡ m → (a b c : Bool) → is_eden r.role ≡ c
      → state_older (cond a free_region (record (cond b (record r { role = Object (next_age (age_of r.role)); estimate = words_of l }) r)
      { remembered = without_cards_of t.shape vs (cond b (record r { role = Object (next_age (age_of r.role)); estimate = words_of l }) r).remembered }))
      ≡ cond a free_region (record (cond b (record r { role = Object (next_age (age_of r.role)); estimate = words_of m }) (cond (is_eden r.role) (record r { role = Object 1 }) r))
      { remembered = without_cards_of t.shape vs (cond b (record r { role = Object (next_age (age_of r.role)); estimate = words_of m }) (cond (is_eden r.role) (record r { role = Object 1 }) r)).remembered })
  older q l m r same true b c is = refl
  older q l m r same false true c is =
      ap (λ e. cond e (record r { role = Object 1; estimate = words_of l; remembered = without_cards_of t.shape vs r.remembered })
      (record r { role = Object (next_age (age_of r.role)); estimate = words_of l; remembered = without_cards_of t.shape vs r.remembered })) (not-eden (age_of r.role))
      ∙ ap (λ (k : Land). record r { role = Object (next_age (age_of r.role)); estimate = words_of k; remembered = without_cards_of t.shape vs r.remembered }) same
  older q l m r same false false true is =
      ap (λ e. cond e (record r { role = Object 1; remembered = without_cards_of t.shape vs r.remembered }) (record r { remembered = without_cards_of t.shape vs r.remembered })) is
      ∙ ap (λ e. record (cond e (record r { role = Object 1 }) r) { remembered = without_cards_of t.shape vs (cond e (record r { role = Object 1 }) r).remembered }) (sym is)
  older q l m r same false false false is =
      ap (λ e. cond e (record r { role = Object 1; remembered = without_cards_of t.shape vs r.remembered }) (record r { remembered = without_cards_of t.shape vs r.remembered })) is
      ∙ ap (λ e. record (cond e (record r { role = Object 1 }) r) { remembered = without_cards_of t.shape vs (cond e (record r { role = Object 1 }) r).remembered }) (sym is)

  count : length u.regions ≡ t.shape.regions
  count = (whole-all chosen marked (with_current t None) whole).regions ∙ ap (λ (h : Shape). h.regions) (shape-all chosen marked (with_current t None))

  abbrev states : List RegionState
  states = map (state_settled chosen marked t) (all_regions t.regions)

  many : length states ≡ length t.regions
  many = length-map-range_with_len (state_settled chosen marked t) 0 (length t.regions)

  regions : map state_older u.regions ≡ freed t.shape vs states
  regions = same_lists (map state_older u.regions) (freed t.shape vs states)
      (length-map u.regions state_older ∙ (count ∙ sym (length-freed t.shape vs states ∙ (many ∙ table.regions))))
      (λ q d less.
      let inside : q < t.shape.regions = omega (arith, less, length-map u.regions state_older, count) in
      let within : q < length t.regions = omega (arith, inside, table.regions) in
      get_or-map state_older u.regions q free_region d (omega (arith, inside, count))
      ∙ (ap state_older (state-all t.shape chosen marked (with_current t None) refl whole may.ascending (λ p among. (may.regions p among).0) q inside)
      ∙ (older q (left_in t.shape (marked_in t.shape q marked) q (land_at t q)) (left_at marked t q) (region_at t.regions q) (left-own t marked q table inside)
      (is_in q vs) (is_in q chosen) (is_eden (region_at t.regions q).role) refl
      ∙ sym (freed-is t.shape vs states q d (omega (arith, within, many))
      ∙ ap (state_freed t.shape vs q) (get_or-map-range_with_len (state_settled chosen marked t) 0 (length t.regions) q q free_region within (omega arith))))))

  pub settled-is : with_eden_older u ≡ settled chosen marked t
  settled-is =
      ap (λ s. record (with_eden_older u) { shape = s }) (shape-all chosen marked (with_current t None))
      ∙ (ap (λ ls. record { shape = t.shape; lands = ls; regions = map state_older u.regions; current = u.current }) lands
      ∙ (ap (λ rs. record { shape = t.shape; lands = map (land_settled chosen marked t) (all_regions t.regions); regions = rs; current = u.current }) regions
      ∙ ap (λ (o : Option ℕ). record { shape = t.shape; lands = map (land_settled chosen marked t) (all_regions t.regions); regions = freed t.shape vs states; current = o })
      (current-all chosen marked (with_current t None))))
