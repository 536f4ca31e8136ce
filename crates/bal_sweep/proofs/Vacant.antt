-- The regions in which no object is left, freed one after another.
use Rattle.std.proofs.Common.{◌≡◌, ℕ, ◌+◌, ◌<◌, ◌⊎◌, inl, inr, Bool, true, false, cond, eqb, not, List, [], ◌∷◌, ◌++◌, length, get_or, Option, Some, refl, ap, sym, subst, ◌∙◌, arith, get_or-set_other, get_or-set_same, length-set}
use Rattle.std.specs.Prelude.{◌&&◌, ◌||◌, is_none, nat_eq, nat_le}
use Rattle.std.specs.List.{filter, find, range_with_len}
use Rattle.std.proofs.lemmas.Bool.{and_parts, eq-eqb, false≢true, ne_eqb}
use Rattle.std.proofs.lemmas.List.{append-nil, get_or_default, map-id, same_lists}
use Rattle.std.proofs.lemmas.List.Folds.{list_any-append}
use Rattle.std.proofs.lemmas.List.FromFn.{filter_of_map_range_with_len_more}
use Rattle.bal_base.proofs.Lemmas.{member-below}
use Rattle.bal_cards.specs.Cards.{Cards, cards_outside, without_region}
use Rattle.bal_layout.proofs.Lemmas.{freed-is, length-freed}
use Rattle.bal_layout.specs.Regions.{free_region, freed, is_in, is_object, region_at, region_of_card, without_cards_of}
use Rattle.bal_layout.specs.Shape.{Shape}
use Rattle.bal_layout.specs.declared.region_state.RegionState.{RegionState}
use Rattle.bal_layout.specs.declared.region_state.Role.{Role}
use Rattle.bal_region.specs.Changes.{empty_land}
use Rattle.bal_region.specs.Land.{Land, first_from}
use Rattle.bal_remember.specs.Remembered.{Remembered, cards, overflowed}
use Rattle.bal_rules.specs.MarkEvents.{is_current}
use Rattle.bal_table.specs.Changes.{with_freed}
use Rattle.bal_table.specs.Table.{IsTable, Table, land_at, role_at}
use Rattle.bal_words.proofs.Lemmas.{same-or}
use Rattle.bal_sweep.specs.Freeing.{IsFreedTo, vacant_to}
use Rattle.bal_sweep.specs.Sweep.{is_bare, is_vacant, without_regions}
use Rattle.bal_sweep.proofs.Starts.{eqb-flip, filter-keeps, find-first, in-middle}

-- a region in which the first start is none
pub bare-first : (l : Land) → is_none (first_from l 0) ≡ is_bare l
bare-first l = by l.starts
  where
    by : (ss : List ℕ) → is_none (find (λ s. nat_le 0 s) ss) ≡ nat_eq (length ss) 0
    by [] = refl
    by (s ∷ ss) = ap is_none (find-first 0 s ss (omega arith)) ∙ sym (ne_eqb (length (s ∷ ss)) 0 (λ e. omega (arith, e)))

-- a vacant region is not the current one
pub vacant-current : (t : Table) (q : ℕ) → is_vacant t q ≡ true → t.current ≡ Some q → ⊥
vacant-current t q vacant current =
    let other = (and_parts (is_object (role_at t q) && is_bare (land_at t q)) (not (is_current t.current q)) vacant).1 in
    false≢true (sym (ap not (ap (λ o. is_current o q) current ∙ eq-eqb q q refl)) ∙ other)

-- two tests, one after the other
pub filter-twice : (p q r : ℕ → Bool) → ((x : ℕ) → r x ≡ (q x && p x)) → (xs : List ℕ) → filter p (filter q xs) ≡ filter r xs
filter-twice p q r both [] = refl
filter-twice p q r both (x ∷ xs) = by (filter q xs) (filter r xs) (filter-twice p q r both xs) (q x) refl (p x) refl
  where
    by : (ys zs : List ℕ) → filter p ys ≡ zs → (b : Bool) → q x ≡ b → (c : Bool) → p x ≡ c → filter p (cond b (x ∷ ys) ys) ≡ cond (r x) (x ∷ zs) zs
    by ys zs rest true first true second =
        ap (λ e. cond e (x ∷ filter p ys) (filter p ys)) second
        ∙ (ap (λ (l : List ℕ). x ∷ l) rest ∙ sym (ap (λ e. cond e (x ∷ zs) zs) (both x ∙ (ap (λ e. e && p x) first ∙ second))))
    by ys zs rest true first false second =
        ap (λ e. cond e (x ∷ filter p ys) (filter p ys)) second ∙ (rest ∙ sym (ap (λ e. cond e (x ∷ zs) zs) (both x ∙ (ap (λ e. e && p x) first ∙ second))))
    by ys zs rest false first c second = rest ∙ sym (ap (λ e. cond e (x ∷ zs) zs) (both x ∙ ap (λ e. e && p x) first))

or-false : (b : Bool) → (b || false) ≡ b
or-false true = refl
or-false false = refl

-- a number more
in-more : (n k : ℕ) (vs : List ℕ) → is_in n (vs ++ k ∷ []) ≡ (is_in n vs || eqb k n)
in-more n k vs = list_any-append (λ m. eqb m n) vs (k ∷ []) ∙ ap (λ b. is_in n vs || b) (or-false (eqb k n))

neither : (a b : Bool) → not (a || b) ≡ (not a && not b)
neither true b = refl
neither false b = refl

-- cards that are taken out with one region more
cards-more : (s : Shape) (vs : List ℕ) (k : ℕ) (cs : List ℕ) → cards_outside s k (filter (λ card. not (is_in (region_of_card s card) vs)) cs)
    ≡ filter (λ card. not (is_in (region_of_card s card) (vs ++ k ∷ []))) cs
cards-more s vs k cs = filter-twice (λ card. not (eqb (region_of_card s card) k)) (λ card. not (is_in (region_of_card s card) vs))
    (λ card. not (is_in (region_of_card s card) (vs ++ k ∷ [])))
    (λ card. ap not (in-more (region_of_card s card) k vs ∙ ap (λ b. is_in (region_of_card s card) vs || b) (eqb-flip k (region_of_card s card)))
    ∙ neither (is_in (region_of_card s card) vs) (eqb (region_of_card s card) k)) cs

list-more : (s : Shape) (vs : List ℕ) (k : ℕ) (r : Remembered) → without_cards_of s (k ∷ []) (without_cards_of s vs r) ≡ without_cards_of s (vs ++ k ∷ []) r
list-more s vs k (cards cs) = ap cards (filter-twice (λ card. not (is_in (region_of_card s card) (k ∷ []))) (λ card. not (is_in (region_of_card s card) vs))
    (λ card. not (is_in (region_of_card s card) (vs ++ k ∷ [])))
    (λ card. ap not (list_any-append (λ m. eqb m (region_of_card s card)) vs (k ∷ [])) ∙ neither (is_in (region_of_card s card) vs) (is_in (region_of_card s card) (k ∷ []))) cs)
list-more s vs k overflowed = refl

pub list-none : (s : Shape) (r : Remembered) → without_cards_of s [] r ≡ r
list-none s (cards cs) = ap cards (filter-keeps (λ card. true) cs (λ card among. refl))
list-none s overflowed = refl

-- regions that are freed with one more
freed-more : (s : Shape) (vs : List ℕ) (k : ℕ) (rs : List RegionState) → freed s (k ∷ []) (freed s vs rs) ≡ freed s (vs ++ k ∷ []) rs
freed-more s vs k rs = same_lists (freed s (k ∷ []) (freed s vs rs)) (freed s (vs ++ k ∷ []) rs)
    (length-freed s (k ∷ []) (freed s vs rs) ∙ (length-freed s vs rs ∙ sym (length-freed s (vs ++ k ∷ []) rs))) each
  where
    -- a region after both, by whether it was freed in each
    both : (r : RegionState) (old new : Bool)
        → cond new free_region (record (cond old free_region (record r { remembered = without_cards_of s vs r.remembered }))
        { remembered = without_cards_of s (k ∷ []) (cond old free_region (record r { remembered = without_cards_of s vs r.remembered })).remembered })
        ≡ cond (old || new) free_region (record r { remembered = without_cards_of s (vs ++ k ∷ []) r.remembered })
    both r true true = refl
    both r true false = refl
    both r false true = refl
    both r false false = ap (λ (l : Remembered). record r { remembered = l }) (list-more s vs k r.remembered)

    each : (q : ℕ) (d : RegionState) → q < length (freed s (k ∷ []) (freed s vs rs)) → get_or (freed s (k ∷ []) (freed s vs rs)) q d ≡ get_or (freed s (vs ++ k ∷ []) rs) q d
    each q d less =
        let within : q < length rs = omega (arith, less, length-freed s (k ∷ []) (freed s vs rs), length-freed s vs rs) in
        freed-is s (k ∷ []) (freed s vs rs) q d (omega (arith, within, length-freed s vs rs))
        ∙ (ap (λ (r : RegionState). cond (is_in q (k ∷ [])) free_region (record r { remembered = without_cards_of s (k ∷ []) r.remembered })) (freed-is s vs rs q free_region within)
        ∙ (both (region_at rs q) (is_in q vs) (is_in q (k ∷ []))
        ∙ (ap (λ b. cond b free_region (record (region_at rs q) { remembered = without_cards_of s (vs ++ k ∷ []) (region_at rs q).remembered }))
        (sym (list_any-append (λ m. eqb m q) vs (k ∷ [])))
        ∙ sym (freed-is s (vs ++ k ∷ []) rs q d within))))

-- and with none
freed-nothing : (s : Shape) (rs : List RegionState) → rs ≡ freed s [] rs
freed-nothing s rs = same_lists rs (freed s [] rs) (sym (length-freed s [] rs))
    (λ q d less. sym (freed-is s [] rs q d less ∙ (ap (λ (l : Remembered). record (region_at rs q) { remembered = l }) (list-none s (region_at rs q).remembered) ∙ get_or_default rs q free_region d less)))

-- the vacant regions up to one number more
vacant-more : (t : Table) (k : ℕ) (b : Bool) → is_vacant t k ≡ b → vacant_to t (k + 1) ≡ vacant_to t k ++ cond b (k ∷ []) []
vacant-more t k b is =
    ap (filter (is_vacant t)) (sym (map-id (range_with_len 0 (k + 1))))
    ∙ (filter_of_map_range_with_len_more (is_vacant t) (λ n. n) 0 k k (omega arith)
    ∙ (ap (λ (l : List ℕ). filter (is_vacant t) l ++ cond (is_vacant t k) (k ∷ []) []) (map-id (range_with_len 0 k))
    ∙ ap (λ c. vacant_to t k ++ cond c (k ∷ []) []) is))

pub freed-none : (t : Table) (c : Cards) → IsFreedTo t t c c 0
freed-none t c = record {
  shape = refl;
  current = refl;
  count = refl;
  lands = λ q. refl;
  regions = freed-nothing t.shape t.regions;
  cards = sym (ap (λ (l : List ℕ). record c { list = l; mark = filter (λ card. true) c.mark }) (filter-keeps (λ card. true) c.list (λ card among. refl))
      ∙ ap (λ (l : List ℕ). record c { mark = l }) (filter-keeps (λ card. true) c.mark (λ card among. refl)));
}

module _ (t : Table) (table : IsTable t) (c : Cards) (k : ℕ) (within : k < t.shape.regions) (u : Table) (d : Cards) (s : IsFreedTo t u c d k) where
  not-yet : is_in k (vacant_to t k) ≡ false
  not-yet = by (is_in k (vacant_to t k)) refl
    where
      by : (b : Bool) → is_in k (vacant_to t k) ≡ b → b ≡ false
      by true is = absurd (omega (arith, member-below (is_vacant t) 0 k k is))
      by false is = refl

  here-land : land_at u k ≡ land_at t k
  here-land = s.lands k ∙ ap (λ b. cond b (empty_land k t.shape.words) (land_at t k)) not-yet

  here-role : role_at u k ≡ role_at t k
  here-role =
      ap (λ (rs : List RegionState). (region_at rs k).role) s.regions
      ∙ (ap (λ (r : RegionState). r.role) (freed-is t.shape (vacant_to t k) t.regions k free_region (omega (arith, within, table.regions)))
      ∙ ap (λ b. (cond b free_region (record (region_at t.regions k) { remembered = without_cards_of t.shape (vacant_to t k) (region_at t.regions k).remembered })).role) not-yet)

  -- whether the next region is vacant was not changed
  pub vacant-same : is_vacant u k ≡ is_vacant t k
  vacant-same =
      ap (λ (r : Role). is_object r && is_bare (land_at u k) && not (is_current u.current k)) here-role
      ∙ (ap (λ (l : Land). is_object (role_at t k) && is_bare l && not (is_current u.current k)) here-land
      ∙ ap (λ (o : Option ℕ). is_object (role_at t k) && is_bare (land_at t k) && not (is_current o k)) s.current)

  -- it stays
  pub freed-stays : is_vacant u k ≡ false → IsFreedTo t u c d (k + 1)
  freed-stays is =
      let same : vacant_to t k ≡ vacant_to t (k + 1) = sym (vacant-more t k false (sym vacant-same ∙ is) ∙ append-nil (vacant_to t k)) in
      record {
        shape = s.shape;
        current = s.current;
        count = s.count;
        lands = λ q. s.lands q ∙ ap (λ (vs : List ℕ). cond (is_in q vs) (empty_land q t.shape.words) (land_at t q)) same;
        regions = s.regions ∙ ap (λ (vs : List ℕ). freed t.shape vs t.regions) same;
        cards = s.cards ∙ ap (λ (vs : List ℕ). without_regions vs c) same;
      }

  -- it is freed
  pub freed-next : (v : Table) (e : Cards) → is_vacant u k ≡ true → v ≡ with_freed u k → e ≡ without_region k d → IsFreedTo t v c e (k + 1)
  freed-next v e is now clean =
      let more : vacant_to t (k + 1) ≡ vacant_to t k ++ k ∷ [] = vacant-more t k true (sym vacant-same ∙ is) in
      record {
        shape = ap (λ (w : Table). w.shape) now ∙ s.shape;
        current = ap (λ (w : Table). w.current) now ∙ s.current;
        count = ap (λ (w : Table). length w.lands) now ∙ (length-set u.lands k (empty_land k u.shape.words) ∙ s.count);
        lands = λ q. lands q (same-or q k) ∙ ap (λ (vs : List ℕ). cond (is_in q vs) (empty_land q t.shape.words) (land_at t q)) (sym more);
        regions = ap (λ (w : Table). w.regions) now ∙ (ap (λ (h : Shape). freed h (k ∷ []) u.regions) s.shape
            ∙ (ap (freed t.shape (k ∷ [])) s.regions ∙ (freed-more t.shape (vacant_to t k) k t.regions ∙ ap (λ (vs : List ℕ). freed t.shape vs t.regions) (sym more))));
        cards = clean ∙ (ap (without_region k) s.cards
            ∙ (ap (λ (l : List ℕ). record c { list = l; mark = cards_outside c.shape k (filter (λ card. not (is_in (region_of_card c.shape card) (vacant_to t k))) c.mark) })
            (cards-more c.shape (vacant_to t k) k c.list)
            ∙ (ap (λ (l : List ℕ). record c { list = filter (λ card. not (is_in (region_of_card c.shape card) (vacant_to t k ++ k ∷ []))) c.list; mark = l })
            (cards-more c.shape (vacant_to t k) k c.mark)
            ∙ ap (λ (vs : List ℕ). without_regions vs c) (sym more))));
      }
    where
      lands : (q : ℕ) → (q ≡ k) ⊎ (q ≡ k → ⊥) → land_at v q ≡ cond (is_in q (vacant_to t k ++ k ∷ [])) (empty_land q t.shape.words) (land_at t q)
      lands q (inl same) = subst (λ p. land_at v p ≡ cond (is_in p (vacant_to t k ++ k ∷ [])) (empty_land p t.shape.words) (land_at t p)) (sym same)
          (ap (λ (w : Table). land_at w k) now
          ∙ (get_or-set_same u.lands k (empty_land k u.shape.words) (empty_land 0 0) (omega (arith, within, s.count, table.lands))
          ∙ (ap (λ (h : Shape). empty_land k h.words) s.shape
          ∙ sym (ap (λ b. cond b (empty_land k t.shape.words) (land_at t k)) (in-middle (vacant_to t k) [] k)))))
      lands q (inr other) =
          ap (λ (w : Table). land_at w q) now
          ∙ (get_or-set_other u.lands k q (empty_land k u.shape.words) (empty_land 0 0) other
          ∙ (s.lands q
          ∙ ap (λ b. cond b (empty_land q t.shape.words) (land_at t q))
          (sym (in-more q k (vacant_to t k) ∙ (ap (λ b. is_in q (vacant_to t k) || b) (ne_eqb k q (λ f. other (sym f))) ∙ or-false (is_in q (vacant_to t k)))))))
