-- A table of which all free regions are put back as they were.
use Rattle.std.proofs.Common.{◌≡◌, ◌+◌, ◌<◌, ℕ, zero, suc, inl, inr, Bool, true, false, cond, List, [], ◌∷◌, length, map, get_or, set, refl, ap, sym, subst, ◌∙◌, arith, get_or-set_other, get_or-set_same, length-set}
use Rattle.std.specs.List.{AllByRecursion}
use Rattle.std.specs.Prelude.{◌||◌, ⊤}
use Rattle.std.proofs.lemmas.Bool.{cases_eq, false≢true, ne_eqb}
use Rattle.std.proofs.lemmas.List.{ext_get_or, set-get_or}
use Rattle.bal_base.specs.Numbering.{numbers_from}
use Rattle.bal_base.proofs.Lemmas.{among-first, among-later}
use Rattle.bal_layout.specs.Regions.{free_region, free_regions, is_free, is_in, region_at}
use Rattle.bal_layout.specs.declared.region_state.RegionState.{RegionState}
use Rattle.bal_layout.specs.declared.region_state.Role.TheVariants.{Free}
use Rattle.bal_region.specs.Changes.{empty_land}
use Rattle.bal_region.specs.Land.{Land}
use Rattle.bal_table.specs.Occupied.{IsVacant, Occupied, is_free_at, vacated, with_filled}
use Rattle.bal_table.specs.Table.{IsTable, Table, land_at}
use Rattle.bal_table.proofs.Lemmas.{free-numbered, land-vacated, lands-vacated, state-free, vacant}
use Rattle.bal_copyfwd.specs.Filled.{AreApart, Back, IsSplit, MayFill, MayStand, all_back, numbers_of, with_all_filled}
use Rattle.bal_copyfwd.proofs.PutBack.{back-current, back-lands, back-shape}

abbrev pub backs : Table → List ℕ → List Back
backs t qs = all_back [] (map (land_at t) qs)

-- numbers from one on are not lower, so all differ
numbers-above : {A : Type 0} (n m : ℕ) (test : A → Bool) (xs : List A) → n < m → is_in n (numbers_from m test xs) ≡ false
numbers-above n m test [] less = refl
numbers-above {A} n m test (x ∷ xs) less = by (numbers-above n (m + 1) test xs (omega (arith, less))) (test x)
  where
    by : is_in n (numbers_from (m + 1) test xs) ≡ false → (b : Bool) → is_in n (cond b (m ∷ numbers_from (m + 1) test xs) (numbers_from (m + 1) test xs)) ≡ false
    by rest true = ap (λ b. b || is_in n (numbers_from (m + 1) test xs)) (ne_eqb m n (λ e. omega (arith, e, less))) ∙ rest
    by rest false = rest

-- no number comes twice
abbrev pub Once : List ℕ → Type 0
Once [] = ⊤
Once (q ∷ qs) = (is_in q qs ≡ false) × Once qs

pub numbers-once : {A : Type 0} (m : ℕ) (test : A → Bool) (xs : List A) → Once (numbers_from m test xs)
numbers-once m test [] = tt
numbers-once {A} m test (x ∷ xs) = by (numbers-once (m + 1) test xs) (test x)
  where
    by : Once (numbers_from (m + 1) test xs) → (b : Bool) → Once (cond b (m ∷ numbers_from (m + 1) test xs) (numbers_from (m + 1) test xs))
    by rest true = (numbers-above m (m + 1) test xs (omega arith), rest)
    by rest false = rest

-- each item that passes is numbered
numbers-there : {A : Type 0} (m k : ℕ) (test : A → Bool) (xs : List A) (d : A) → k < length xs → test (get_or xs k d) ≡ true → is_in (m + k) (numbers_from m test xs) ≡ true
numbers-there m k test [] d less passes = absurd (omega (arith, less))
numbers-there {A} m zero test (x ∷ xs) d less passes =
    let same : m ≡ m + 0 = omega arith in
    ap (λ b. is_in (m + 0) (cond b (m ∷ numbers_from (m + 1) test xs) (numbers_from (m + 1) test xs))) passes
    ∙ subst (λ n. is_in n (m ∷ numbers_from (m + 1) test xs) ≡ true) same (among-first m (numbers_from (m + 1) test xs))
numbers-there {A} m (suc k) test (x ∷ xs) d less passes =
    let same : m + 1 + k ≡ m + suc k = omega arith in
    by (test x) (subst (λ n. is_in n (numbers_from (m + 1) test xs) ≡ true) same (numbers-there (m + 1) k test xs d (omega (arith, less)) passes))
  where
    by : (b : Bool) → is_in (m + suc k) (numbers_from (m + 1) test xs) ≡ true → is_in (m + suc k) (cond b (m ∷ numbers_from (m + 1) test xs) (numbers_from (m + 1) test xs)) ≡ true
    by true rest = among-later m (m + suc k) (numbers_from (m + 1) test xs) rest
    by false rest = rest

module _ (t : Table) (table : IsTable t) where
  -- free regions
  abbrev AreFree : List ℕ → Type 0
  AreFree qs = (q : ℕ) → is_in q qs ≡ true → (q < t.shape.regions) × (is_free_at t q ≡ true)

  land-free : (q : ℕ) → (q < t.shape.regions) × (is_free_at t q ≡ true) → IsVacant t q (land_at t q)
  land-free q free = vacant t table q free.0 free.1

  pub numbers-back : (qs : List ℕ) → AreFree qs → numbers_of (backs t qs) ≡ qs
  numbers-back [] free = refl
  numbers-back (q ∷ qs) free =
      ap (λ n. n ∷ numbers_of (backs t qs)) (land-free q (free q (among-first q qs))).number
      ∙ ap (λ (ns : List ℕ). q ∷ ns) (numbers-back qs (λ p among. free p (among-later q p qs among)))

  others : (p n : ℕ) (qs : List ℕ) → n ≡ p → AreFree qs → is_in p qs ≡ false → AllByRecursion (λ (b : Back). b.land.number ≡ n → ⊥) (backs t qs)
  others p n [] is free out = tt
  others p n (q ∷ qs) is free out = (
    λ same. false≢true (sym out ∙ subst (λ m. is_in m (q ∷ qs) ≡ true) (sym (land-free q (free q (among-first q qs))).number ∙ (same ∙ is)) (among-first q qs)),
    others p n qs is (λ k among. free k (among-later q k qs among)) (not-later (is_in p qs) refl),
  )
    where
      not-later : (b : Bool) → is_in p qs ≡ b → b ≡ false
      not-later false is = refl
      not-later true is = absurd (false≢true (sym out ∙ among-later q p qs is))

  apart : (qs : List ℕ) → AreFree qs → Once qs → AreApart (backs t qs)
  apart [] free once = tt
  apart (q ∷ qs) free once =
      let rest : AreFree qs = λ p among. free p (among-later q p qs among) in
      (others q (land_at t q).number qs (land-free q (free q (among-first q qs))).number rest once.0, apart qs rest once.1)

  stand : (qs : List ℕ) → AreFree qs → AllByRecursion (MayStand t.shape) (backs t qs)
  stand [] free = tt
  stand (q ∷ qs) free =
      let v = land-free q (free q (among-first q qs)) in (
        record {
          words = v.words;
          role = tt;
          free = λ none. (v.starts, v.used);
          pieces = λ at h starts. absurd (false≢true (sym (ap (λ ss. is_in at ss) v.starts) ∙ starts));
        },
        stand qs (λ p among. free p (among-later q p qs among)),
      )

  all-free : AreFree (free_regions t.regions)
  all-free = free-numbered t table

  pub fill-pool : MayFill (record { table = vacated t; out = free_regions t.regions }) (backs t (free_regions t.regions))
  fill-pool = record {
    out = numbers-back (free_regions t.regions) all-free;
    apart = apart (free_regions t.regions) all-free (numbers-once 0 (λ (r : RegionState). is_free r.role) t.regions);
    each = stand (free_regions t.regions) all-free;
  }

  -- The table is the one that was split.

  state-back : (u : Table) (q : ℕ) → u.regions ≡ t.regions → (q < t.shape.regions) × (is_free_at t q ≡ true) → (with_filled u (land_at t q) Free).regions ≡ t.regions
  state-back u q same free =
      let v = land-free q free in
      let state : region_at u.regions (land_at t q).number ≡ free_region
      = ap (λ (rs : List RegionState). region_at rs (land_at t q).number) same ∙ (ap (region_at t.regions) v.number ∙ state-free t table q free.0 free.1) in
      let filled : record (region_at u.regions (land_at t q).number) { role = Free; used = (land_at t q).used; estimate = (land_at t q).used } ≡ region_at u.regions (land_at t q).number
      = ap (λ (r : RegionState). record r { role = Free; used = (land_at t q).used; estimate = (land_at t q).used }) state
      ∙ (ap (λ n. record free_region { used = n; estimate = n }) v.used ∙ sym state) in
      ap (set u.regions (land_at t q).number) filled ∙ (set-get_or u.regions (land_at t q).number free_region ∙ same)

  regions-back : (qs : List ℕ) (u : Table) → AreFree qs → u.regions ≡ t.regions → (with_all_filled (backs t qs) u).regions ≡ t.regions
  unfolding with_all_filled
  regions-back [] u free same = same
  regions-back (q ∷ qs) u free same =
      regions-back qs (with_filled u (land_at t q) Free) (λ p among. free p (among-later q p qs among)) (state-back u q same (free q (among-first q qs)))

  -- all but these are back
  abbrev AreBack : List ℕ → Table → Type 0
  AreBack qs u = (p : ℕ) → p < t.shape.regions → is_in p qs ≡ false → land_at u p ≡ land_at t p

  one-back : (q : ℕ) (qs : List ℕ) (u : Table) → (q < t.shape.regions) × (is_free_at t q ≡ true) → length u.lands ≡ t.shape.regions
      → AreBack (q ∷ qs) u → AreBack qs (with_filled u (land_at t q) Free)
  one-back q qs u free long back p within out = elim (cases_eq p q) [
    | inl here ↦
        ap (λ n. get_or (set u.lands n (land_at t q)) p (empty_land 0 0)) ((land-free q free).number ∙ sym here)
        ∙ (get_or-set_same u.lands p (land_at t q) (empty_land 0 0) (omega (arith, within, long)) ∙ ap (land_at t) (sym here))
    | inr other ↦
        get_or-set_other u.lands (land_at t q).number p (land_at t q) (empty_land 0 0) (λ e. other (e ∙ (land-free q free).number))
        ∙ back p within (ap (λ b. b || is_in p qs) (ne_eqb q p (λ e. other (sym e))) ∙ out)
  ]

  lands-back : (qs : List ℕ) (u : Table) → AreFree qs → length u.lands ≡ t.shape.regions → AreBack qs u → AreBack [] (with_all_filled (backs t qs) u)
  unfolding with_all_filled
  lands-back [] u free long back = back
  lands-back (q ∷ qs) u free long back =
      lands-back qs (with_filled u (land_at t q) Free) (λ p among. free p (among-later q p qs among))
      (length-set u.lands (land_at t q).number (land_at t q) ∙ long) (one-back q qs u (free q (among-first q qs)) long back)

  -- what was not out was not changed
  split-back : AreBack (free_regions t.regions) (vacated t)
  split-back p within out =
      land-vacated t table p (empty_land 0 0) within ∙ ap (λ b. cond b (empty_land p t.shape.words) (land_at t p)) (not-free (is_free_at t p) refl)
    where
      not-free : (b : Bool) → is_free_at t p ≡ b → b ≡ false
      not-free false is = refl
      not-free true is =
          let zero_on : 0 + p ≡ p = omega arith in
          let among : is_in p (free_regions t.regions) ≡ true
          = subst (λ q. is_in q (free_regions t.regions) ≡ true) zero_on
          (numbers-there 0 p (λ (r : RegionState). is_free r.role) t.regions free_region (omega (arith, within, table.regions)) is) in
          absurd (false≢true (sym out ∙ among))

  pub whole-pool : with_all_filled (backs t (free_regions t.regions)) (vacated t) ≡ t
  whole-pool =
      let qs : List ℕ = free_regions t.regions in
      let v : Table = with_all_filled (backs t qs) (vacated t) in
      let long : length v.lands ≡ t.shape.regions = back-lands (backs t qs) (vacated t) ∙ lands-vacated t table in
      let lands : v.lands ≡ t.lands
      = ext_get_or (empty_land 0 0) v.lands t.lands (omega (arith, long, table.lands))
      (λ p less. lands-back qs (vacated t) all-free (lands-vacated t table) split-back p (omega (arith, less, long)) refl) in
      ap (λ s. record v { shape = s }) (back-shape (backs t qs) (vacated t))
      ∙ (ap (λ ls. record v { shape = t.shape; lands = ls }) lands
      ∙ (ap (λ rs. record v { shape = t.shape; lands = t.lands; regions = rs }) (regions-back qs (vacated t) all-free refl)
      ∙ ap (λ k. record t { current = k }) (back-current (backs t qs) (vacated t))))

-- Whatever was split.
module _ (t : Table) (o : Occupied) (pool : List Land) (split : IsSplit t o pool) where
  pub may-fill : MayFill o (all_back [] pool)
  may-fill =
      subst (λ (p : Occupied). MayFill p (all_back [] pool)) (sym split.occupied)
      (subst (λ (ls : List Land). MayFill (record { table = vacated t; out = free_regions t.regions }) (all_back [] ls)) (sym split.free) (fill-pool t split.table))

  pub is-whole : with_all_filled (all_back [] pool) o.table ≡ t
  is-whole =
      ap (λ (p : Occupied). with_all_filled (all_back [] pool) p.table) split.occupied
      ∙ (ap (λ (ls : List Land). with_all_filled (all_back [] ls) (vacated t)) split.free ∙ whole-pool t split.table)
