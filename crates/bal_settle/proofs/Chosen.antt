-- What the chosen regions become, when they are settled one after the other.
use Rattle.std.proofs.Common.{◌≡◌, ℕ, ◌<◌, ◌⊎◌, inl, inr, Bool, true, false, cond, eqb, not, List, [], ◌∷◌, length, set, refl, ap, sym, subst, ◌∙◌, arith, get_or-set_other, get_or-set_same, length-set}
use Rattle.std.specs.Prelude.{◌&&◌, ◌||◌, nat_eq}
use Rattle.std.specs.List.{filter}
use Rattle.std.proofs.lemmas.List.{set-set}
use Rattle.bal_base.specs.Bits.{IsAscending}
use Rattle.bal_base.proofs.Lemmas.{among-first, among-later}
use Rattle.bal_cards.specs.Cards.{Cards}
use Rattle.bal_layout.specs.Regions.{age_of, free_region, is_in, region_at, region_of_card, without_cards_of}
use Rattle.bal_layout.specs.Shape.{Shape}
use Rattle.bal_layout.specs.declared.region_state.RegionState.{RegionState}
use Rattle.bal_layout.specs.declared.region_state.Role.TheVariants.{Object}
use Rattle.bal_layout.proofs.Lemmas.{freed-is, length-freed}
use Rattle.bal_region.specs.Changes.{empty_land}
use Rattle.bal_region.specs.Land.{Land}
use Rattle.bal_remember.specs.Remembered.{Remembered, cards, overflowed}
use Rattle.bal_rules.specs.PartialEvents.{next_age}
use Rattle.bal_sweep.specs.Sweep.{left_at, left_in, without_regions, words_of}
use Rattle.bal_sweep.proofs.Lemmas.{eqb-flip, filter-keeps, filter-twice, in-filter, list-none}
use Rattle.bal_cards.specs.Cards.{without_region}
use Rattle.bal_table.specs.Changes.{with_freed}
use Rattle.bal_table.specs.Table.{Table, land_at, role_at}
use Rattle.bal_words.proofs.Lemmas.{same-or}
use Rattle.bal_settle.specs.Settled.{is_lost, lost_regions, marked_in}
use Rattle.bal_settle.specs.Settling.{all_cards_settled, all_settled, cards_settled, with_kept, with_region_settled}
use Rattle.bal_settle.proofs.Ascending.{in-others, not-later}

-- a table has words and a state for each region
pub record IsWhole (t : Table) : Type 0 where
  pub lands : length t.lands ≡ t.shape.regions
  pub regions : length t.regions ≡ t.shape.regions

-- a state once these regions were freed
abbrev pub state_freed : Shape → List ℕ → ℕ → RegionState → RegionState
state_freed s vs p r = cond (is_in p vs) free_region (record r { remembered = without_cards_of s vs r.remembered })

-- what a region becomes that is one of these, before any is freed
abbrev pub land_chosen : Shape → List ℕ → List ℕ → ℕ → Land → Land
land_chosen s chosen marked p l = cond (is_in p chosen) (cond (is_lost s marked p) (empty_land p s.words) (left_in s (marked_in s p marked) p l)) l

abbrev pub state_chosen : Shape → List ℕ → List ℕ → ℕ → Land → RegionState → RegionState
state_chosen s chosen marked p l r =
    cond (is_in p chosen) (record r { role = Object (next_age (age_of r.role)); estimate = words_of (left_in s (marked_in s p marked) p l) }) r

-- Lists that lose the cards of one region, and then of others.

both-out : (a b : Bool) → not (a || b) ≡ (not a && not b)
both-out true b = refl
both-out false b = refl

or-false : (b : Bool) → (b || false) ≡ b
or-false true = refl
or-false false = refl

list-then : (s : Shape) (q : ℕ) (vs : List ℕ) (r : Remembered) → without_cards_of s vs (without_cards_of s (q ∷ []) r) ≡ without_cards_of s (q ∷ vs) r
list-then s q vs (cards cs) = ap cards (filter-twice (λ card. not (is_in (region_of_card s card) vs)) (λ card. not (is_in (region_of_card s card) (q ∷ [])))
    (λ card. not (is_in (region_of_card s card) (q ∷ vs)))
    (λ card. both-out (eqb q (region_of_card s card)) (is_in (region_of_card s card) vs)
    ∙ ap (λ b. not b && not (is_in (region_of_card s card) vs)) (sym (or-false (eqb q (region_of_card s card))))) cs)
list-then s q vs overflowed = refl

-- One region.

module _ (own : List ℕ) (t : Table) (q : ℕ) where
  abbrev now : Table
  now = with_region_settled own t q

  kept : RegionState
  kept = record (region_at t.regions q) { estimate = words_of (left_at own t q) }

  kept-regions : q < length t.regions → (with_kept own t q).regions ≡ set t.regions q (record (region_at t.regions q) { role = Object (next_age (age_of (role_at t q))); estimate = words_of (left_at own t q) })
  unfolding kept
  kept-regions within =
      let read = get_or-set_same t.regions q kept free_region within in
      ap (λ (r : RegionState). set (set t.regions q kept) q (record r { role = Object (next_age (age_of r.role)) })) read
      ∙ set-set t.regions q kept (record kept { role = Object (next_age (age_of (role_at t q))) })

  pub shape-same : now.shape ≡ t.shape
  shape-same = by (nat_eq (length own) 0)
    where
      by : (b : Bool) → (cond b (with_freed t q) (with_kept own t q)).shape ≡ t.shape
      by true = refl
      by false = refl

  pub current-same : now.current ≡ t.current
  current-same = by (nat_eq (length own) 0)
    where
      by : (b : Bool) → (cond b (with_freed t q) (with_kept own t q)).current ≡ t.current
      by true = refl
      by false = refl

  pub whole-still : IsWhole t → IsWhole now
  whole-still whole = by (nat_eq (length own) 0)
    where
      by : (b : Bool) → IsWhole (cond b (with_freed t q) (with_kept own t q))
      by true = record {
        lands = length-set t.lands q (empty_land q t.shape.words) ∙ whole.lands;
        regions = length-freed t.shape (q ∷ []) t.regions ∙ whole.regions;
      }
      by false = record {
        lands = length-set t.lands q (left_at own t q) ∙ whole.lands;
        regions = long (record (region_at t.regions q) { estimate = words_of (left_at own t q) });
      }
        where
          long : (r : RegionState) → length (set (set t.regions q r) q (record (region_at (set t.regions q r) q) { role = Object (next_age (age_of (region_at (set t.regions q r) q).role)) })) ≡ t.shape.regions
          long r = length-set (set t.regions q r) q (record (region_at (set t.regions q r) q) { role = Object (next_age (age_of (region_at (set t.regions q r) q).role)) })
              ∙ (length-set t.regions q r ∙ whole.regions)

  pub land-beside : (p : ℕ) → (p ≡ q → ⊥) → land_at now p ≡ land_at t p
  land-beside p other = by (nat_eq (length own) 0)
    where
      by : (b : Bool) → land_at (cond b (with_freed t q) (with_kept own t q)) p ≡ land_at t p
      by true = get_or-set_other t.lands q p (empty_land q t.shape.words) (empty_land 0 0) other
      by false = get_or-set_other t.lands q p (left_at own t q) (empty_land 0 0) other

  pub land-here : q < length t.lands → land_at now q ≡ cond (nat_eq (length own) 0) (empty_land q t.shape.words) (left_at own t q)
  land-here within = by (nat_eq (length own) 0)
    where
      by : (b : Bool) → land_at (cond b (with_freed t q) (with_kept own t q)) q ≡ cond b (empty_land q t.shape.words) (left_at own t q)
      by true = get_or-set_same t.lands q (empty_land q t.shape.words) (empty_land 0 0) within
      by false = get_or-set_same t.lands q (left_at own t q) (empty_land 0 0) within

  pub state-here : q < length t.regions → region_at now.regions q
      ≡ cond (nat_eq (length own) 0) free_region (record (region_at t.regions q) { role = Object (next_age (age_of (role_at t q))); estimate = words_of (left_at own t q) })
  state-here within = by (nat_eq (length own) 0)
    where
      by : (b : Bool) → region_at (cond b (with_freed t q) (with_kept own t q)).regions q
          ≡ cond b free_region (record (region_at t.regions q) { role = Object (next_age (age_of (role_at t q))); estimate = words_of (left_at own t q) })
      by true =
          freed-is t.shape (q ∷ []) t.regions q free_region within
          ∙ ap (λ b. cond b free_region (record (region_at t.regions q) { remembered = without_cards_of t.shape (q ∷ []) (region_at t.regions q).remembered })) (among-first q [])
      by false =
          ap (λ rs. region_at rs q) (kept-regions within)
          ∙ get_or-set_same t.regions q (record (region_at t.regions q) { role = Object (next_age (age_of (role_at t q))); estimate = words_of (left_at own t q) }) free_region within

  -- the others forget its cards, if it is freed
  pub state-beside : (p : ℕ) → (p ≡ q → ⊥) → q < length t.regions → p < length t.regions → region_at now.regions p
      ≡ record (region_at t.regions p) { remembered = without_cards_of t.shape (cond (nat_eq (length own) 0) (q ∷ []) []) (region_at t.regions p).remembered }
  state-beside p other here within = by (nat_eq (length own) 0)
    where
      r : RegionState
      r = region_at t.regions p

      by : (b : Bool) → region_at (cond b (with_freed t q) (with_kept own t q)).regions p
          ≡ record (region_at t.regions p) { remembered = without_cards_of t.shape (cond b (q ∷ []) []) (region_at t.regions p).remembered }
      by true =
          freed-is t.shape (q ∷ []) t.regions p free_region within
          ∙ ap (λ b. cond b free_region (record (region_at t.regions p) { remembered = without_cards_of t.shape (q ∷ []) (region_at t.regions p).remembered }))
          (in-others q [] p other)
      by false =
          ap (λ rs. region_at rs p) (kept-regions here)
          ∙ (get_or-set_other t.regions q p (record (region_at t.regions q) { role = Object (next_age (age_of (role_at t q))); estimate = words_of (left_at own t q) }) free_region other
          ∙ ap (λ (l : Remembered). record (region_at t.regions p) { remembered = l }) (sym (list-none t.shape (region_at t.regions p).remembered)))

  pub role-beside : (p : ℕ) → (p ≡ q → ⊥) → q < length t.regions → p < length t.regions → role_at now p ≡ role_at t p
  role-beside p other here within = ap (λ (r : RegionState). r.role) (state-beside p other here within)

-- All of them.

pub land-all : (s : Shape) (chosen marked : List ℕ) (t : Table) → t.shape ≡ s → IsWhole t → IsAscending chosen
    → ((q : ℕ) → is_in q chosen ≡ true → q < s.regions) → (p : ℕ) → land_at (all_settled chosen marked t) p ≡ land_chosen s chosen marked p (land_at t p)
land-all s [] marked t same whole up within p = refl
land-all s (q ∷ qs) marked t same whole up within p =
    land-all s qs marked (with_region_settled own t q) (shape-same own t q ∙ same) (whole-still own t q whole) up.1
    (λ r among. within r (among-later q r qs among)) p
    ∙ by (same-or p q)
  where
    own : List ℕ
    own = marked_in t.shape q marked

    by : (p ≡ q) ⊎ (p ≡ q → ⊥) → land_chosen s qs marked p (land_at (with_region_settled (marked_in t.shape q marked) t q) p) ≡ land_chosen s (q ∷ qs) marked p (land_at t p)
    by (inl e) = subst (λ r. land_chosen s qs marked r (land_at (with_region_settled (marked_in t.shape q marked) t q) r) ≡ land_chosen s (q ∷ qs) marked r (land_at t r)) (sym e)
        (ap (λ b. cond b (cond (is_lost s marked q) (empty_land q s.words) (left_in s (marked_in s q marked) q (land_at (with_region_settled (marked_in t.shape q marked) t q) q)))
        (land_at (with_region_settled (marked_in t.shape q marked) t q) q)) (not-later q qs up)
        ∙ (land-here (marked_in t.shape q marked) t q (omega (arith, within q (among-first q qs), whole.lands, ap (λ (h : Shape). h.regions) same))
        ∙ (ap (λ (h : Shape). cond (is_lost h marked q) (empty_land q h.words) (left_in h (marked_in h q marked) q (land_at t q))) same
        ∙ ap (λ b. cond b (cond (is_lost s marked q) (empty_land q s.words) (left_in s (marked_in s q marked) q (land_at t q))) (land_at t q)) (sym (among-first q qs)))))
    by (inr other) =
        ap (λ (l : Land). land_chosen s qs marked p l) (land-beside (marked_in t.shape q marked) t q p other)
        ∙ ap (λ b. cond b (cond (is_lost s marked p) (empty_land p s.words) (left_in s (marked_in s p marked) p (land_at t p))) (land_at t p)) (sym (in-others q qs p other))

-- a region that is not among some is not among those of them that are lost
not-lost : (s : Shape) (chosen marked : List ℕ) (p : ℕ) → is_in p chosen ≡ false → is_in p (lost_regions s chosen marked) ≡ false
not-lost s chosen marked p out = in-filter (is_lost s marked) chosen p ∙ (ap (λ b. is_lost s marked p && b) out ∙ and-false (is_lost s marked p))
  where
    and-false : (b : Bool) → (b && false) ≡ false
    and-false true = refl
    and-false false = refl

module _ (s : Shape) (q : ℕ) (qs marked : List ℕ) (up : IsAscending (q ∷ qs)) where
  abbrev vs : List ℕ
  vs = lost_regions s qs marked

  -- the region itself: it is not among the others
  state-own : (l : Land) (r u : RegionState) (b : Bool)
      → u ≡ cond b free_region (record r { role = Object (next_age (age_of r.role)); estimate = words_of (left_in s (marked_in s q marked) q l) })
      → b ≡ is_lost s marked q → (m : Land)
      → state_freed s vs q (state_chosen s qs marked q m u) ≡ state_freed s (cond b (q ∷ vs) vs) q (state_chosen s (q ∷ qs) marked q l r)
  state-own l r u b is lost m =
      ap (λ c. state_freed s vs q (cond c (record u { role = Object (next_age (age_of u.role)); estimate = words_of (left_in s (marked_in s q marked) q m) }) u)) (not-later q qs up)
      ∙ (ap (λ c. cond c free_region (record u { remembered = without_cards_of s vs u.remembered })) (not-lost s qs marked q (not-later q qs up))
      ∙ (ap (λ (v : RegionState). record v { remembered = without_cards_of s vs v.remembered }) is
      ∙ (by b
      ∙ ap (λ c. state_freed s (cond b (q ∷ vs) vs) q (cond c (record r { role = Object (next_age (age_of r.role)); estimate = words_of (left_in s (marked_in s q marked) q l) }) r)) (sym (among-first q qs)))))
    where
      kept : RegionState
      kept = record r { role = Object (next_age (age_of r.role)); estimate = words_of (left_in s (marked_in s q marked) q l) }

      by : (c : Bool) → record (cond c free_region (record r { role = Object (next_age (age_of r.role)); estimate = words_of (left_in s (marked_in s q marked) q l) }))
          { remembered = without_cards_of s vs (cond c free_region (record r { role = Object (next_age (age_of r.role)); estimate = words_of (left_in s (marked_in s q marked) q l) })).remembered }
          ≡ state_freed s (cond c (q ∷ vs) vs) q (record r { role = Object (next_age (age_of r.role)); estimate = words_of (left_in s (marked_in s q marked) q l) })
      by true = ap (λ d. cond d free_region (record r { role = Object (next_age (age_of r.role)); estimate = words_of (left_in s (marked_in s q marked) q l); remembered = without_cards_of s (q ∷ vs) r.remembered }))
          (sym (among-first q vs))
      by false = ap (λ d. cond d free_region (record r { role = Object (next_age (age_of r.role)); estimate = words_of (left_in s (marked_in s q marked) q l); remembered = without_cards_of s vs r.remembered }))
          (sym (not-lost s qs marked q (not-later q qs up)))

  -- another region
  state-other : (p : ℕ) → (p ≡ q → ⊥) → (l : Land) (r : RegionState) (b : Bool)
      → state_freed s vs p (state_chosen s qs marked p l (record r { remembered = without_cards_of s (cond b (q ∷ []) []) r.remembered }))
      ≡ state_freed s (cond b (q ∷ vs) vs) p (state_chosen s (q ∷ qs) marked p l r)
  state-other p other l r b =
      by b (is_in p qs)
      ∙ ap (λ c. state_freed s (cond b (q ∷ vs) vs) p (cond c (record r { role = Object (next_age (age_of r.role)); estimate = words_of (left_in s (marked_in s p marked) p l) }) r)) (sym (in-others q qs p other))
    where
      after : (b : Bool) → without_cards_of s vs (without_cards_of s (cond b (q ∷ []) []) r.remembered) ≡ without_cards_of s (cond b (q ∷ vs) vs) r.remembered
      after true = list-then s q vs r.remembered
      after false = ap (without_cards_of s vs) (list-none s r.remembered)

      among : (b : Bool) → is_in p vs ≡ is_in p (cond b (q ∷ vs) vs)
      among true = sym (in-others q vs p other)
      among false = refl

      by : (b c : Bool)
          → state_freed s vs p (cond c (record r { role = Object (next_age (age_of r.role)); estimate = words_of (left_in s (marked_in s p marked) p l); remembered = without_cards_of s (cond b (q ∷ []) []) r.remembered })
          (record r { remembered = without_cards_of s (cond b (q ∷ []) []) r.remembered }))
          ≡ state_freed s (cond b (q ∷ vs) vs) p (cond c (record r { role = Object (next_age (age_of r.role)); estimate = words_of (left_in s (marked_in s p marked) p l) }) r)
      by b true =
          ap (λ (m : Remembered). cond (is_in p vs) free_region (record r { role = Object (next_age (age_of r.role)); estimate = words_of (left_in s (marked_in s p marked) p l); remembered = m })) (after b)
          ∙ ap (λ d. cond d free_region (record r { role = Object (next_age (age_of r.role)); estimate = words_of (left_in s (marked_in s p marked) p l); remembered = without_cards_of s (cond b (q ∷ vs) vs) r.remembered }))
          (among b)
      by b false =
          ap (λ (m : Remembered). cond (is_in p vs) free_region (record r { remembered = m })) (after b)
          ∙ ap (λ d. cond d free_region (record r { remembered = without_cards_of s (cond b (q ∷ vs) vs) r.remembered })) (among b)

pub state-all : (s : Shape) (chosen marked : List ℕ) (t : Table) → t.shape ≡ s → IsWhole t → IsAscending chosen
    → ((q : ℕ) → is_in q chosen ≡ true → q < s.regions) → (p : ℕ) → p < s.regions
    → region_at (all_settled chosen marked t).regions p ≡ state_freed s (lost_regions s chosen marked) p (state_chosen s chosen marked p (land_at t p) (region_at t.regions p))
state-all s [] marked t same whole up within p inside = ap (λ (l : Remembered). record (region_at t.regions p) { remembered = l }) (sym (list-none s (region_at t.regions p).remembered))
state-all s (q ∷ qs) marked t same whole up within p inside =
    state-all s qs marked (with_region_settled (marked_in t.shape q marked) t q) (shape-same (marked_in t.shape q marked) t q ∙ same) (whole-still (marked_in t.shape q marked) t q whole) up.1
    (λ r among. within r (among-later q r qs among)) p inside
    ∙ by (same-or p q)
  where
    long : length t.regions ≡ s.regions
    long = whole.regions ∙ ap (λ (h : Shape). h.regions) same

    by : (p ≡ q) ⊎ (p ≡ q → ⊥)
        → state_freed s (lost_regions s qs marked) p
        (state_chosen s qs marked p (land_at (with_region_settled (marked_in t.shape q marked) t q) p) (region_at (with_region_settled (marked_in t.shape q marked) t q).regions p))
        ≡ state_freed s (lost_regions s (q ∷ qs) marked) p (state_chosen s (q ∷ qs) marked p (land_at t p) (region_at t.regions p))
    by (inl e) = subst (λ k. state_freed s (lost_regions s qs marked) k
        (state_chosen s qs marked k (land_at (with_region_settled (marked_in t.shape q marked) t q) k) (region_at (with_region_settled (marked_in t.shape q marked) t q).regions k))
        ≡ state_freed s (lost_regions s (q ∷ qs) marked) k (state_chosen s (q ∷ qs) marked k (land_at t k) (region_at t.regions k))) (sym e)
        (state-own s q qs marked up (land_at t q) (region_at t.regions q) (region_at (with_region_settled (marked_in t.shape q marked) t q).regions q) (is_lost s marked q)
        (state-here (marked_in t.shape q marked) t q (omega (arith, within q (among-first q qs), long))
        ∙ ap (λ (h : Shape). cond (is_lost h marked q) free_region
        (record (region_at t.regions q) { role = Object (next_age (age_of (role_at t q))); estimate = words_of (left_in h (marked_in h q marked) q (land_at t q)) })) same)
        refl (land_at (with_region_settled (marked_in t.shape q marked) t q) q))
    by (inr other) =
        ap (λ (l : Land). state_freed s (lost_regions s qs marked) p (state_chosen s qs marked p l (region_at (with_region_settled (marked_in t.shape q marked) t q).regions p)))
        (land-beside (marked_in t.shape q marked) t q p other)
        ∙ (ap (λ (r : RegionState). state_freed s (lost_regions s qs marked) p (state_chosen s qs marked p (land_at t p) r))
        (state-beside (marked_in t.shape q marked) t q p other (omega (arith, within q (among-first q qs), long)) (omega (arith, inside, long))
        ∙ ap (λ (h : Shape). record (region_at t.regions p) { remembered = without_cards_of h (cond (is_lost h marked q) (q ∷ []) []) (region_at t.regions p).remembered }) same)
        ∙ state-other s q qs marked up p other (land_at t p) (region_at t.regions p) (is_lost s marked q))

-- What all of them share.

pub shape-all : (chosen marked : List ℕ) (t : Table) → (all_settled chosen marked t).shape ≡ t.shape
shape-all [] marked t = refl
shape-all (q ∷ qs) marked t = shape-all qs marked (with_region_settled (marked_in t.shape q marked) t q) ∙ shape-same (marked_in t.shape q marked) t q

pub current-all : (chosen marked : List ℕ) (t : Table) → (all_settled chosen marked t).current ≡ t.current
current-all [] marked t = refl
current-all (q ∷ qs) marked t = current-all qs marked (with_region_settled (marked_in t.shape q marked) t q) ∙ current-same (marked_in t.shape q marked) t q

pub whole-all : (chosen marked : List ℕ) (t : Table) → IsWhole t → IsWhole (all_settled chosen marked t)
whole-all [] marked t whole = whole
whole-all (q ∷ qs) marked t whole = whole-all qs marked (with_region_settled (marked_in t.shape q marked) t q) (whole-still (marked_in t.shape q marked) t q whole)

-- The cards.

cards-then : (s : Shape) (q : ℕ) (vs cs : List ℕ)
    → filter (λ card. not (is_in (region_of_card s card) vs)) (filter (λ card. not (eqb (region_of_card s card) q)) cs) ≡ filter (λ card. not (is_in (region_of_card s card) (q ∷ vs))) cs
cards-then s q vs cs = filter-twice (λ card. not (is_in (region_of_card s card) vs)) (λ card. not (eqb (region_of_card s card) q)) (λ card. not (is_in (region_of_card s card) (q ∷ vs)))
    (λ card. both-out (eqb q (region_of_card s card)) (is_in (region_of_card s card) vs)
    ∙ ap (λ b. not b && not (is_in (region_of_card s card) vs)) (eqb-flip q (region_of_card s card))) cs

pub cards-all : (s : Shape) (chosen marked : List ℕ) (c : Cards) → all_cards_settled s chosen marked c ≡ without_regions (lost_regions s chosen marked) c
cards-all s [] marked c = sym (ap (λ (l : List ℕ). record c { list = l; mark = filter (λ card. true) c.mark }) (filter-keeps (λ card. true) c.list (λ card among. refl))
    ∙ ap (λ (l : List ℕ). record c { mark = l }) (filter-keeps (λ card. true) c.mark (λ card among. refl)))
cards-all s (q ∷ qs) marked c = cards-all s qs marked (cards_settled (marked_in s q marked) c q) ∙ by (is_lost s marked q)
  where
    by : (b : Bool) → without_regions (lost_regions s qs marked) (cond b (without_region q c) c) ≡ without_regions (cond b (q ∷ lost_regions s qs marked) (lost_regions s qs marked)) c
    by true =
        ap (λ (l : List ℕ). record c { list = l; mark = filter (λ card. not (is_in (region_of_card c.shape card) (lost_regions s qs marked))) (filter (λ card. not (eqb (region_of_card c.shape card) q)) c.mark) })
        (cards-then c.shape q (lost_regions s qs marked) c.list)
        ∙ ap (λ (l : List ℕ). record c { list = filter (λ card. not (is_in (region_of_card c.shape card) (q ∷ lost_regions s qs marked))) c.list; mark = l })
        (cards-then c.shape q (lost_regions s qs marked) c.mark)
    by false = refl
