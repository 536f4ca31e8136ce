-- After a global collection there is room for a request, or the heap is full.
use Rattle.std.proofs.Common.{◌≡◌, ◌≤◌, ◌<◌, ◌+◌, ◌-◌, ◌*◌, ◌⊎◌, inl, inr, ℕ, suc, Bool, true, false, not, IsTrue, List, [], ◌∷◌, Option, Some, None, length, drop, filter, map, get_or, refl, ap, sym, subst, ◌∙◌, arith, lt-ltb}
use Rattle.std.specs.List.{AllByRecursion, IsDistinct, range_with_len, sum_by}
use Rattle.std.specs.Prelude.{nat_le}
use Rattle.std.proofs.Math.Nat.{mul-add, mul-le-mul_left}
use Rattle.std.proofs.lemmas.Bool.{and_cases, both_ways, cases_Bool, leb-false, not-true, not_from_false, or_parts}
use Rattle.std.proofs.lemmas.List.{length-drop, length-map}
use Rattle.std.proofs.lemmas.List.Elements.{All-from_recursion}
use Rattle.std.proofs.lemmas.List.Filters.{length-filter_both}
use Rattle.std.proofs.lemmas.List.FromFn.{length-range_with_len}
use Rattle.std.proofs.lemmas.List.Sums.{sum-map, sum_by-cons}
use Rattle.bal_layout.proofs.Lemmas.{length-freed}
use Rattle.bal_layout.specs.Names.{is_among, same_name}
use Rattle.bal_layout.specs.Regions.{all_regions, free_regions, is_leaf, region_at}
use Rattle.bal_layout.specs.Shape.{largest_of}
use Rattle.bal_layout.specs.declared.geometry.Want.{Want}
use Rattle.bal_layout.specs.declared.name.Name.{Name}
use Rattle.bal_model.specs.Plain.{Object, object}
use Rattle.bal_model.specs.Walk.{reachable}
use Rattle.bal_model.specs.declared.config.Config.{Config}
use Rattle.bal_model.specs.declared.event.Packed.{Packed}
use Rattle.bal_model.proofs.Lemmas.{from-filter, in-filter}
use Rattle.bal_rules.specs.Board.{Board, Placed, is_empty, leaves_of, names_placed, placed_among, placed_except, without_names, words_of, words_of_object}
use Rattle.bal_rules.specs.Full.{charge_of_name, charge_of_object, is_full_allowed, reachable_charge}
use Rattle.bal_rules.specs.GlobalEvents.{IsGlobal, after_global, last_packed, names_packed, names_packed_into, next_fit, region_after_packing, survivors, targets_of_packing}
use Rattle.bal_rules.specs.Occupied.{IsOccupiedByObjects, leaves_asked, leaves_of_object}
use Rattle.bal_rules.specs.Path.{hard_room}
use Rattle.bal_rules.specs.Room.{fits_current, has_fresh_room, has_room_here}
use Rattle.bal_rules.specs.Sound.{IsAscending}
use Rattle.bal_rules.proofs.AfterPacking.{free-behind, sum-of-map, used-after}
use Rattle.bal_rules.proofs.ApartSums.{apart-sums}
use Rattle.bal_rules.proofs.BoardsInRange.{range-below}
use Rattle.bal_rules.proofs.Distinct.{distinct-ascending, filled-up}
use Rattle.bal_rules.proofs.Each.{each-filter, each-from_map, each-map}
use Rattle.bal_rules.proofs.FullNumbers.{all-filled, none-begun, some-begun}
use Rattle.bal_rules.proofs.LeafCounts.{count-leaves, each-passed, few-leaves}
use Rattle.bal_rules.proofs.ListFacts.{all-among, ascending-filter, each-from_among, names_placed-filter}
use Rattle.bal_rules.proofs.NextFit.{Ascend, IsBegun, how-far, last-is, last_region, passed-ascend, words_into, words_packed}

-- What objects are charged.

charge-is : (c : Config) (b : Board) (x : Name) → charge_of_name c.geometry b.plain x ≡ words_of c b x + c.geometry.words * leaves_asked c b x
charge-is c b x = by (object b.plain x)
  where
    by : (o : Option Object) → charge_of_object c.geometry o ≡ words_of_object c o + c.geometry.words * leaves_of_object c o
    by None = omega arith
    by (Some o) = refl

charges-are : (c : Config) (b : Board) (xs : List Name)
    → sum_by (charge_of_name c.geometry b.plain) xs ≡ sum_by (words_of c b) xs + c.geometry.words * sum_by (leaves_asked c b) xs
charges-are c b [] = omega arith
charges-are c b (x ∷ xs) =
    let room = c.geometry.words in
    let own = charge-is c b x in
    let all : sum_by (charge_of_name c.geometry b.plain) (x ∷ xs) ≡ charge_of_name c.geometry b.plain x + sum_by (charge_of_name c.geometry b.plain) xs = sum_by-cons (charge_of_name c.geometry b.plain) x xs in
    let words : sum_by (words_of c b) (x ∷ xs) ≡ words_of c b x + sum_by (words_of c b) xs = sum_by-cons (words_of c b) x xs in
    let leaves : room * sum_by (leaves_asked c b) (x ∷ xs) ≡ room * leaves_asked c b x + room * sum_by (leaves_asked c b) xs =
    ap (λ (n : ℕ). room * n) (sum_by-cons (leaves_asked c b) x xs) ∙ mul-add room (leaves_asked c b x) (sum_by (leaves_asked c b) xs) in
    let rest = charges-are c b xs in
    omega (arith, own, all, words, leaves, rest)

-- The survivors.

survivors-ascend : (b : Board) → IsAscending (names_placed b.present) → IsAscending (survivors b)
survivors-ascend b h = ascending-filter (λ x. is_among x (reachable b.plain)) (names_placed b.present) h

survived : (b : Board) (x : Name) → IsTrue (is_among x (survivors b)) → IsTrue (is_among x (reachable b.plain)) × IsTrue (is_among x (names_placed b.present))
survived b x i = from-filter (λ x. is_among x (reachable b.plain)) (names_placed b.present) x i

-- what stays once the dead are gone survives
stayed : (c : Config) (b : Board) (dead : List Name) (packed : List Packed) → IsGlobal c b dead packed → (x : Name) → IsTrue (is_among x (names_placed (placed_except dead b.present)))
    → IsTrue (is_among x (survivors b))
stayed c b dead packed g x i =
    let names = names_placed b.present in
    let at = from-filter (λ x. not (is_among x dead)) names x (sym (ap (is_among x) (names_placed-filter (λ x. not (is_among x dead)) b.present)) ∙ i) in
    elim (cases_Bool (is_among x (reachable b.plain))) [
      | inl reached ↦ in-filter (λ x. is_among x (reachable b.plain)) names x reached at.1
      | inr lost ↦ (
          let dies : IsTrue (is_among x dead) = ap (is_among x) g.just_the_garbage ∙ in-filter (λ x. not (is_among x (reachable b.plain))) names x (not_from_false (is_among x (reachable b.plain)) lost) at.1 in
          absurd (both_ways (is_among x dead) (not-true (is_among x dead) at.0) dies)
          )
    ]

-- what is packed survives too, so it is no larger than the largest object
packed-few : (c : Config) (b : Board) (dead : List Name) (packed : List Packed) → IsOccupiedByObjects c b → IsGlobal c b dead packed
    → AllByRecursion (λ (k : Packed). words_of c b k.name ≤ largest_of c.geometry) packed
packed-few c b dead packed h g =
    let few : Name → Type 0 = λ x. words_of c b x ≤ largest_of c.geometry in
    let names : AllByRecursion few (names_placed b.present) = each-map (λ (p : Placed). few p.name) few (λ (p : Placed). p.name) (λ p le. le) b.present h.largest in
    each-from_map few (λ (k : Packed). k.name) packed
    (each-from_among few (names_packed packed) (λ x i.
    let lives = filled-up (survivors b) (names_packed packed) (survivors-ascend b h.apart) g.each_packed (omega (arith, g.as_many, length-map packed (λ (k : Packed). k.name))) x i in
    all-among few (names_placed b.present) x names (survived b x lives).1))

-- Regions.

abbrev leaf_regions : Board → List ℕ
leaf_regions d = filter (λ q. is_leaf (region_at d.regions q).role) (all_regions d.regions)

-- the packed words, and the leaves, are charged to what can be reached
held-words : (c : Config) (b : Board) (dead : List Name) (packed : List Packed) → IsOccupiedByObjects c b → IsGlobal c b dead packed
    → words_packed (words_of c b) packed + c.geometry.words * length (leaf_regions (without_names c dead b)) ≤ reachable_charge c.geometry b.plain
held-words c b dead packed h g =
    let d = without_names c dead b in
    let room = c.geometry.words in
    let lives = survivors b in
    let apart : IsDistinct same_name lives = distinct-ascending lives (survivors-ascend b h.apart) in
    let stay = names_placed d.present in
    let stay_apart : IsDistinct same_name stay = distinct-ascending stay (subst IsAscending (sym (names_placed-filter (λ x. not (is_among x dead)) b.present))
    (ascending-filter (λ x. not (is_among x dead)) (names_placed b.present) h.apart)) in
    let words : sum_by (words_of c b) (names_packed packed) ≤ sum_by (words_of c b) lives =
    (apart-sums (words_of c b) lives (names_packed packed) apart g.each_packed).whole (omega (arith, g.as_many, length-map packed (λ (k : Packed). k.name))) in
    let same : sum_by (words_of c b) (names_packed packed) ≡ words_packed (words_of c b) packed = sum-of-map (words_of c b) (λ (k : Packed). k.name) packed in
    let number : length (leaf_regions d) ≡ length (filter (λ q. is_leaf (region_at d.regions q).role) (range_with_len 0 (length b.regions))) =
    ap (λ (n : ℕ). length (filter (λ q. is_leaf (region_at d.regions q).role) (range_with_len 0 n))) (length-freed c.geometry (leaves_of (placed_among dead b.present)) b.regions) in
    let leaves : length (leaf_regions d) ≤ length (leaves_of d.present) = subst (λ (n : ℕ). n ≤ length (leaves_of d.present)) (sym number) (few-leaves c b dead h.each_leaf) in
    let asked : length (leaves_of d.present) ≡ sum_by (leaves_asked c b) stay =
    count-leaves (leaves_asked c b) d.present (each-filter (λ (p : Placed). length p.leaves ≡ leaves_asked c b p.name) (λ p. not (is_among p.name dead)) b.present h.leaves) in
    let living : sum_by (leaves_asked c b) stay ≤ sum_by (leaves_asked c b) lives =
    (apart-sums (leaves_asked c b) stay lives stay_apart (each-from_among (λ x. IsTrue (is_among x lives)) stay (stayed c b dead packed g))).part in
    let wide : room * length (leaf_regions d) ≤ room * sum_by (leaves_asked c b) lives = mul-le-mul_left room (omega (arith, leaves, asked, living)) in
    let charges = charges-are c b lives in
    let charged : sum_by (charge_of_name c.geometry b.plain) lives ≤ sum_by (charge_of_name c.geometry b.plain) (reachable b.plain) =
    (apart-sums (charge_of_name c.geometry b.plain) lives (reachable b.plain) apart (each-from_among (λ x. IsTrue (is_among x (reachable b.plain))) lives (λ x i. (survived b x i).0))).part in
    let total : reachable_charge c.geometry b.plain ≡ sum_by (charge_of_name c.geometry b.plain) (reachable b.plain) = sum-map (charge_of_name c.geometry b.plain) (reachable b.plain) in
    omega (arith, words, same, wide, charges, charged, total)

regions-split : (d : Board) → length (targets_of_packing d) + length (leaf_regions d) ≡ length d.regions
regions-split d =
    let leaf : ℕ → Bool = λ q. is_leaf (region_at d.regions q).role in
    let both : length (leaf_regions d) + length (targets_of_packing d) ≡ length (all_regions d.regions) = length-filter_both leaf (λ q. not (leaf q)) (λ q. refl) (all_regions d.regions) in
    omega (arith, both, length-range_with_len 0 (length d.regions))

-- where no room is left, too few regions are free for the leaves, or just as many are, and the current one is too full
no-room : (c : Config) (d : Board) (w : Want) → hard_room c d w ≡ false
    → (length (free_regions d.regions) < w.leaves) ⊎ ((length (free_regions d.regions) ≤ w.leaves) × (fits_current c.geometry d.regions d.current w.words ≡ false))
no-room c d w h =
    let free = length (free_regions d.regions) in
    let none = or_parts (has_room_here c.geometry d.regions d.current w) (has_fresh_room d.regions w) h in
    let few : free < 1 + w.leaves = leb-false (1 + w.leaves) free none.1 in
    elim (and_cases (fits_current c.geometry d.regions d.current w.words) (nat_le w.leaves free) none.0) [
      | inl full ↦ inr (omega (arith, few), full)
      | inr fewer ↦ inl (leb-false w.leaves free fewer)
    ]

-- the words of the region that was begun last, which is the current one
current-full : (c : Config) (d : Board) (k : Packed) (ks : List Packed) (q : ℕ) (w : Want) → last_region k.region ks ≡ q → q < length d.regions → IsTrue (not (is_leaf (region_at d.regions q).role))
    → fits_current c.geometry (map (region_after_packing c d (k ∷ ks)) (all_regions d.regions)) (last_packed (k ∷ ks)) w.words ≡ false
    → c.geometry.words < words_into (words_of c d) (k ∷ ks) q + w.words
current-full c d k ks q w last within target full =
    let after = map (region_after_packing c d (k ∷ ks)) (all_regions d.regions) in
    let at : fits_current c.geometry after (Some q) w.words ≡ false =
    subst (λ (o : Option ℕ). fits_current c.geometry after o w.words ≡ false) (last-is k ks ∙ ap (λ (r : ℕ). Some r) last) full in
    let over : c.geometry.words < (region_at after q).used + w.words = leb-false ((region_at after q).used + w.words) c.geometry.words at in
    let used : (region_at after q).used ≡ words_into (words_of c d) (k ∷ ks) q = used-after c d (k ∷ ks) q within target in
    omega (arith, over, used)

none-anywhere : (qs : List ℕ) → AllByRecursion (λ (q : ℕ). IsTrue (is_empty (names_packed_into [] q))) qs
none-anywhere [] = tt
none-anywhere (q ∷ qs) = (refl, none-anywhere qs)

map-names : (f : Name → ℕ) (ks : List Packed) → map f (names_packed ks) ≡ map (λ (k : Packed). f k.name) ks
map-names f [] = refl
map-names f (k ∷ ks) = ap (λ (ws : List ℕ). f k.name ∷ ws) (map-names f ks)

-- The whole.

-- the numbers of a geometry, and of what is held
record IsHeld (c : Config) (d : Board) (packed : List Packed) (least largest total : ℕ) : Type 0 where
  size : c.geometry.words ≡ least + largest
  some : 1 ≤ largest
  any : 1 ≤ c.geometry.regions
  count : length d.regions ≡ c.geometry.regions
  held : words_packed (words_of c d) packed + c.geometry.words * length (leaf_regions d) ≤ total

-- some regions were filled and one was begun
after-begun : (c : Config) (d : Board) (packed : List Packed) (w : Want) (least largest total q : ℕ) (rest : List ℕ) → IsHeld c d packed least largest total
    → targets_of_packing d ≡ q ∷ rest → IsBegun (words_of c d) least q rest 0 packed
    → let after = map (region_after_packing c d packed) (all_regions d.regions) in
    (length (free_regions after) < w.leaves) ⊎ ((length (free_regions after) ≤ w.leaves) × (fits_current c.geometry after (last_packed packed) w.words ≡ false))
    → c.geometry.regions * least < total + (w.words + c.geometry.words * w.leaves)
after-begun c d [] w least largest total q rest h is b short =
    let free = length (free_regions (map (region_after_packing c d []) (all_regions d.regions))) in
    let few : free ≤ w.leaves = elim short [ inl fewer ↦ omega (arith, fewer) | inr full ↦ full.0 ] in
    let behind : length (targets_of_packing d) ≤ free = free-behind c d [] 0 (none-anywhere (targets_of_packing d)) in
    none-begun c.geometry.words least largest c.geometry.regions free (length (leaf_regions d)) total w.words w.leaves h.size h.some h.any
    (omega (arith, h.count, regions-split d, behind)) few (omega (arith, h.held))
after-begun c d (k ∷ ks) w least largest total q rest h is b short =
    let packed = k ∷ ks in
    let after = map (region_after_packing c d packed) (all_regions d.regions) in
    let free = length (free_regions after) in
    let at = get_or (q ∷ rest) b.before 0 in
    let leaf : ℕ → Bool = λ q. is_leaf (region_at d.regions q).role in
    let n = length d.regions in
    let targets : AllByRecursion (λ (q : ℕ). IsTrue (not (leaf q)) × (q < n)) (q ∷ rest) =
    subst (AllByRecursion (λ (q : ℕ). IsTrue (not (leaf q)) × (q < n))) is
    (each-passed (λ (q : ℕ). q < n) (λ q. not (leaf q)) (all_regions d.regions) (range-below 0 n n (omega arith))) in
    let target = All-from_recursion (λ (q : ℕ). IsTrue (not (leaf q)) × (q < n)) (q ∷ rest) targets b.before 0 (omega (arith, b.within)) in
    let behind : length (drop (suc b.before) (targets_of_packing d)) ≤ free =
    free-behind c d packed (suc b.before) (subst (λ (qs : List ℕ). AllByRecursion (λ (q : ℕ). IsTrue (is_empty (names_packed_into packed q))) (drop (suc b.before) qs)) (sym is) b.later) in
    let long : length (drop (suc b.before) (targets_of_packing d)) ≡ length (targets_of_packing d) - suc b.before = length-drop (suc b.before) (targets_of_packing d) in
    let less : (free < w.leaves) ⊎ ((free ≤ w.leaves) × (c.geometry.words < b.used + w.words)) = elim short [
      | inl fewer ↦ inl fewer
      | inr full ↦ (
          let over : c.geometry.words < words_into (words_of c d) packed at + w.words = current-full c d k ks at w b.last target.1 target.0 full.1 in
          inr (full.0, omega (arith, over, b.used_is))
          )
    ] in
    some-begun c.geometry.words least largest c.geometry.regions b.before b.used free (length (leaf_regions d)) (words_packed (words_of c d) packed) total w.words w.leaves h.size h.some
    (omega (arith, h.count, regions-split d, behind, long)) (omega (arith, b.words)) h.held less

after-packing : (c : Config) (d : Board) (packed : List Packed) (w : Want) (least largest total : ℕ) → IsHeld c d packed least largest total
    → AllByRecursion (λ (k : Packed). words_of c d k.name ≤ largest) packed
    → map (λ (k : Packed). k.region) packed ≡ next_fit c.geometry.words (targets_of_packing d) 0 (map (λ (k : Packed). words_of c d k.name) packed)
    → let after = map (region_after_packing c d packed) (all_regions d.regions) in
    (length (free_regions after) < w.leaves) ⊎ ((length (free_regions after) ≤ w.leaves) × (fits_current c.geometry after (last_packed packed) w.words ≡ false))
    → c.geometry.regions * least < total + (w.words + c.geometry.words * w.leaves)
after-packing c d packed w least largest total h few fit short = by (targets_of_packing d) refl
  where
    filled : (qs : List ℕ) → targets_of_packing d ≡ qs → length qs * suc least ≤ words_packed (words_of c d) packed
        → c.geometry.regions * least < total + (w.words + c.geometry.words * w.leaves)
    filled qs is all =
        all-filled c.geometry.words least largest c.geometry.regions (length qs) (length (leaf_regions d)) (words_packed (words_of c d) packed) total w.words w.leaves h.size h.some h.any
        (omega (arith, h.count, regions-split d, ap length is)) all h.held

    by : (qs : List ℕ) → targets_of_packing d ≡ qs → c.geometry.regions * least < total + (w.words + c.geometry.words * w.leaves)
    by [] is = filled [] is (omega arith)
    by (q ∷ rest) is = elim (how-far (words_of c d) c.geometry.words least largest q rest 0 packed h.size
        (subst Ascend is (passed-ascend (λ q. not (is_leaf (region_at d.regions q).role)) (length d.regions))) few
        (subst (λ (qs : List ℕ). map (λ (k : Packed). k.region) packed ≡ next_fit c.geometry.words qs 0 (map (λ (k : Packed). words_of c d k.name) packed)) is fit)) [
          | inl all ↦ filled (q ∷ rest) is (omega (arith, all))
          | inr b ↦ after-begun c d packed w least largest total q rest h is b short
        ]

pub full-after : (c : Config) (b : Board) (dead : List Name) (packed : List Packed) (w : Want) → IsOccupiedByObjects c b → IsGlobal c b dead packed
    → hard_room c (after_global c b dead packed) w ≡ false → is_full_allowed c.geometry b.plain w ≡ true
full-after c b dead packed w h g none =
    let s = c.geometry in
    let d = without_names c dead b in
    let least = s.words - largest_of s in
    let fewest : 256 ≤ s.words = h.geometry.fewest_words in
    let numbers : IsHeld c d packed least (largest_of s) (reachable_charge s b.plain) = record {
      size = omega (arith, fewest);
      some = omega (arith, fewest);
      any = omega (arith, h.geometry.fewest_regions);
      count = length-freed s (leaves_of (placed_among dead b.present)) b.regions ∙ h.count;
      held = held-words c b dead packed h g;
    } in
    lt-ltb (s.regions * least) (reachable_charge s b.plain + (w.words + s.words * w.leaves))
    (after-packing c d packed w least (largest_of s) (reachable_charge s b.plain) numbers (packed-few c b dead packed h g)
    (g.by_next_fit ∙ ap (next_fit s.words (targets_of_packing d) 0) (map-names (words_of c b) packed))
    (no-room c (after_global c b dead packed) w none))
