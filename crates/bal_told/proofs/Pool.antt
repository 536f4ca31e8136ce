-- If the pool was drained then it is well filled: all its regions were drawn, and at most one for each worker and age has room for
-- a largest object.
use Rattle.std.proofs.Common.{◌≡◌, ◌≤◌, ◌<◌, ◌+◌, ◌-◌, ◌*◌, ◌==◌, ◌⊎◌, inl, inr, ℕ, zero, suc, Bool, true, false, not, cond, eqb, IsTrue, List, [], ◌∷◌, length, filter, slice_get, mul-suc, suc-mul, refl, ap, sym, subst, ◌∙◌, arith}
use Rattle.std.specs.Prelude.{◌/◌, ◌%◌, nat_le, nat_lt}
use Rattle.std.specs.List.{AllByRecursion, IsDistinct, list_all, list_any, range_with_len, sum_by}
use Rattle.std.proofs.Math.Nat.{mul_comm}
use Rattle.std.proofs.lemmas.Bool.{cases_eq, cases_lt, eq-eqb, eqb-true, false≢true, le-leb, leb-false, leb-true, lt-ltb, ne_eqb, not-true, or_cases, or_left, or_right}
use Rattle.std.proofs.lemmas.List.Elements.{All-from_recursion}
use Rattle.std.proofs.lemmas.List.Filters.{length-filter_both, sum_by-filter_both}
use Rattle.std.proofs.lemmas.List.Sums.{list_all-from_AllPass, sum_by-cons}
use Rattle.std.proofs.lemmas.Map.Keys.{IsDistinct-tail}
use Rattle.std.proofs.lemmas.Nat.{div-mul-add, mod-mul-add, mul-add-lt, mul-le}
use Rattle.std.proofs.lemmas.Option.{same_Some, slice_get_within}
use Rattle.bal_layout.specs.Regions as regions
use Rattle.bal_layout.specs.Regions.{free_regions, is_in, region_at}
use Rattle.bal_layout.specs.Shape.{largest_of}
use Rattle.bal_layout.specs.declared.name.Name.{Name}
use Rattle.bal_core.specs.World.{At, age_of}
use Rattle.bal_core.specs.Finished.{Evacuation, Receives, filled}
use Rattle.bal_core.specs.declared.row.Drawn.{Drawn}
use Rattle.bal_model.specs.declared.config.Config.{Config}
use Rattle.bal_model.specs.declared.event.How.{How}
use Rattle.bal_model.specs.declared.event.How.TheVariants as how
use Rattle.bal_model.specs.declared.event.Kept.{Kept}
use Rattle.bal_rules.proofs.Lemmas.{each-goes}
use Rattle.bal_rules.specs.Board.{Board, is_empty, words_of, words_of_all}
use Rattle.bal_rules.specs.Packing.{IsDrained, copies_among, count_of_ages, crew, destination_ages, is_pool_filled, is_pool_used, pool_of}
use Rattle.bal_rules.specs.PartialEvents.{is_copied_to, is_marked, names_copied_into, names_kept, next_age}
use Rattle.bal_told.specs.OnBoard.{IsObjectOf}
use Rattle.bal_told.specs.Whole.{IsWhole}
use Rattle.bal_told.proofs.Ages.{next-ages}
use Rattle.bal_told.proofs.Buffers.{pool-distinct, same-region}
use Rattle.bal_told.proofs.Copies.{drawer-within, words-copied, words-of_filter}
use Rattle.bal_told.proofs.Holes.{HasCode, no-more}
use Rattle.bal_told.proofs.Lists.{each-passes, sum-none, sum-same}
use Rattle.bal_told.proofs.Numbers.{at-in, distinct-filter, in-at, in-each, in-filter, not-again}

-- Tests on numbers of a list.

any-of : (p : ℕ → Bool) (xs : List ℕ) (q : ℕ) → IsTrue (is_in q xs) → IsTrue (p q) → IsTrue (list_any p xs)
any-of p [] q here passes = absurd (false≢true here)
any-of p (x ∷ xs) q here passes = elim (or_cases (x == q) (is_in q xs) here) [
  | inl first ↦ or_left (p x) (list_any p xs) (ap p (eqb-true x q first) ∙ passes)
  | inr there ↦ or_right (p x) (list_any p xs) (any-of p xs q there passes)
]

kept-by_filter : (p : ℕ → Bool) (xs : List ℕ) (q : ℕ) → IsTrue (is_in q xs) → IsTrue (p q) → IsTrue (is_in q (filter p xs))
kept-by_filter p [] q here passes = absurd (false≢true here)
kept-by_filter p (x ∷ xs) q here passes = by (p x) refl (or_cases (x == q) (is_in q xs) here) (λ there. kept-by_filter p xs q there passes)
  where
    by : (t : Bool) → p x ≡ t → (((x == q) ≡ true) ⊎ IsTrue (is_in q xs)) → (IsTrue (is_in q xs) → IsTrue (is_in q (filter p xs)))
        → IsTrue (is_in q (cond t (x ∷ filter p xs) (filter p xs)))
    by true is (inl first) rest = or_left (x == q) (is_in q (filter p xs)) first
    by true is (inr there) rest = or_right (x == q) (is_in q (filter p xs)) (rest there)
    by false is (inl first) rest = absurd (false≢true (sym is ∙ ap p (eqb-true x q first) ∙ passes))
    by false is (inr there) rest = rest there

in-range : (a n m : ℕ) → a ≤ m → m < a + n → IsTrue (is_in m (range_with_len a n))
in-range a zero m low high = absurd (omega (arith, low, high))
in-range a (suc n) m low high = elim (cases_eq a m) [
  | inl same ↦ or_left (a == m) (is_in m (range_with_len (a + 1) n)) (eq-eqb a m same)
  | inr other ↦
      let more : a + 1 ≤ m = elim (cases_lt a m) [ inl less ↦ omega (arith, less) | inr past ↦ absurd (other (omega (arith, past, low))) ] in
      or_right (a == m) (is_in m (range_with_len (a + 1) n)) (in-range (a + 1) n m more (omega (arith, high)))
]

-- Sums.

sum-plus : (f g : ℕ → ℕ) (xs : List ℕ) → sum_by (λ x. f x + g x) xs ≡ sum_by f xs + sum_by g xs
sum-plus f g [] = refl
sum-plus f g (x ∷ xs) =
    let rest : sum_by (λ x. f x + g x) xs ≡ sum_by f xs + sum_by g xs = sum-plus f g xs in
    let one : sum_by f (x ∷ xs) ≡ f x + sum_by f xs = sum_by-cons f x xs in
    let two : sum_by g (x ∷ xs) ≡ g x + sum_by g xs = sum_by-cons g x xs in
    sum_by-cons (λ x. f x + g x) x xs ∙ omega (arith, rest, one, two)

-- sums over two lists, either first
exchanged : {X : Type 0} (f : ℕ → X → ℕ) (g : X → ℕ) (qs : List ℕ) → ((x : X) → sum_by (λ q. f q x) qs ≤ g x)
    → (xs : List X) → sum_by (λ q. sum_by (f q) xs) qs ≤ sum_by g xs
exchanged f g qs most [] = let none = sum-none (λ (q : ℕ). 0) qs (λ i q at. refl) in omega (arith, none)
exchanged f g qs most (x ∷ xs) =
    let each : sum_by (λ q. sum_by (f q) (x ∷ xs)) qs ≡ sum_by (λ q. f q x + sum_by (f q) xs) qs
    = sum-same (λ q. sum_by (f q) (x ∷ xs)) (λ q. f q x + sum_by (f q) xs) qs (λ i q at. sum_by-cons (f q) x xs) in
    let two : sum_by (λ q. f q x + sum_by (f q) xs) qs ≡ sum_by (λ q. f q x) qs + sum_by (λ q. sum_by (f q) xs) qs
    = sum-plus (λ q. f q x) (λ q. sum_by (f q) xs) qs in
    let first : sum_by (λ q. f q x) qs ≤ g x = most x in
    let rest : sum_by (λ q. sum_by (f q) xs) qs ≤ sum_by g xs = exchanged f g qs most xs in
    let all : sum_by g (x ∷ xs) ≡ g x + sum_by g xs = sum_by-cons g x xs in
    omega (arith, each, two, first, rest, all)

-- one of distinct regions at most is this one
one-region : (r m : ℕ) (qs : List ℕ) → IsDistinct eqb qs → sum_by (λ q. cond (r == q) m 0) qs ≤ m
one-region r m [] apart = omega arith
one-region r m (q ∷ qs) apart =
    let all : sum_by (λ q. cond (r == q) m 0) (q ∷ qs) ≡ cond (r == q) m 0 + sum_by (λ q. cond (r == q) m 0) qs
    = sum_by-cons (λ q. cond (r == q) m 0) q qs in
    elim (cases_eq r q) [
      | inl same ↦
          let here : cond (r == q) m 0 ≡ m = ap (λ t. cond t m 0) (eq-eqb r q same) in
          let none : sum_by (λ q. cond (r == q) m 0) qs ≡ 0
          = sum-none (λ q. cond (r == q) m 0) qs (λ i p at. ap (λ t. cond t m 0) (ne_eqb r p (λ again.
          not-again q qs apart (subst (λ s. IsTrue (is_in s qs)) (sym again ∙ same) (at-in qs i p at))))) in
          omega (arith, all, here, none)
      | inr other ↦
          let here : cond (r == q) m 0 ≡ 0 = ap (λ t. cond t m 0) (ne_eqb r q other) in
          let rest : sum_by (λ q. cond (r == q) m 0) qs ≤ m = one-region r m qs (IsDistinct-tail eqb q qs apart) in
          omega (arith, all, here, rest)
    ]

one-target : (h : How) (m : ℕ) (qs : List ℕ) → IsDistinct eqb qs → sum_by (λ q. cond (is_copied_to h q) m 0) qs ≤ cond (not (is_marked h)) m 0
one-target (how.Copied r) m qs apart = one-region r m qs apart
one-target how.Marked m qs apart = let none = sum-none (λ (q : ℕ). 0) qs (λ i q at. refl) in omega (arith, none)

-- items that have more than some number each
sum-above : (f : ℕ → ℕ) (m : ℕ) (xs : List ℕ) → AllByRecursion (λ (x : ℕ). m + 1 ≤ f x) xs → length xs * (m + 1) ≤ sum_by f xs
sum-above f m [] h = omega arith
sum-above f m (x ∷ xs) h =
    let more : sum_by f (x ∷ xs) ≡ f x + sum_by f xs = sum_by-cons f x xs in
    let first : m + 1 ≤ f x = h.0 in
    let rest : length xs * (m + 1) ≤ sum_by f xs = sum-above f m xs h.1 in
    let long : length (x ∷ xs) * (m + 1) ≡ length xs * (m + 1) + (m + 1) = suc-mul (length xs) (m + 1) in
    omega (arith, more, first, rest, long)

-- if few regions have room then the others have many words
enough-words : (regions few room full m low high all total : ℕ) → room ≤ few → room + full ≡ regions → low + high ≡ all → all ≤ total
    → full * (m + 1) ≤ high
    → few < regions → (regions - few) * m < total
enough-words regions few room full m low high all total lessroom both words most filled more =
    let least : (regions - few) * (m + 1) ≤ full * (m + 1)
    = mul-le (regions - few) (m + 1) full (m + 1) (omega (arith, lessroom, both)) (omega arith) in
    let split : (regions - few) * (m + 1) ≡ (regions - few) * m + (regions - few) = ap (λ n. (regions - few) * n) one ∙ mul-suc (regions - few) m in
    let some : 1 ≤ regions - few = omega (arith, more) in
    omega (arith, words, most, filled, least, split, some)
  where
    one : m + 1 ≡ suc m
    one = omega arith

code-below : (n j workers ages : ℕ) → n < workers → j < ages → n * ages + j < workers * ages
code-below n j workers ages worker age = subst (λ m. n * ages + j < m) (mul_comm ages workers) (mul-add-lt n ages j workers worker age)

some-names : (c : Config) (b : Board) (names : List Name) → 1 ≤ words_of_all c b names → IsTrue (not (is_empty names))
some-names c b [] some = absurd (omega (arith, some))
some-names c b (x ∷ names) some = refl

module _ (c : Config) (b : Board) (chosen : List ℕ) (e : Evacuation) (kept : List Kept) (whole : IsWhole c b chosen e kept) (drained : IsTrue e.drained) where
  abbrev pool : List ℕ
  pool = free_regions b.regions

  -- All regions of the pool were drawn.

  record IsDrawn (q : ℕ) : Type 0 where
    worker : ℕ
    order : ℕ
    drawn : Drawn
    drew : Receives e worker order drawn
    region : drawn.region ≡ q

  is-drawn : (q : ℕ) → IsTrue (is_in q pool) → IsDrawn q
  is-drawn q here =
      let at = in-at e.world.pool q (subst (λ (l : List ℕ). IsTrue (is_in q l)) (sym whole.board.pool) here) in
      let all : e.taken ≡ length e.world.pool = whole.evacuated.causes.drained drained in
      let less : at.0 < length e.world.pool = slice_get_within e.world.pool at.0 q at.1 in
      let found = whole.evacuated.regions.all at.0 (omega (arith, all, less)) in
      let there = whole.evacuated.regions.drawn found.0 found.1 found.2 found.3 in
      record {
        worker = found.0;
        order = found.1;
        drawn = found.2;
        drew = found.3;
        region = same_Some found.2.region q (sym there.1 ∙ ap (λ o. slice_get e.world.pool o) found.4 ∙ at.1);
      }

  -- the words that were copied into a region
  abbrev words_in : ℕ → ℕ
  words_in q = words_of_all c b (names_copied_into kept q)

  words-drawn : (q : ℕ) → (is : IsDrawn q) → words_in q ≡ filled e is.worker is.drawn
  words-drawn q is = ap words_in (sym is.region) ∙ words-copied c b chosen e kept whole is.worker is.order is.drawn is.drew

  -- Used: a worker that is alone fills each region.

  pool-used : IsTrue (is_pool_used c b chosen kept)
  pool-used = elim (cases_lt 1 (crew c b chosen)) [
    | inl more ↦
        or_left (nat_lt 1 (crew c b chosen)) (list_all (λ q. not (is_empty (names_copied_into kept q))) pool) (lt-ltb 1 (crew c b chosen) more)
    | inr few ↦ or_right (nat_lt 1 (crew c b chosen)) (list_all (λ q. not (is_empty (names_copied_into kept q))) pool) (all few)
  ]
    where
      all : crew c b chosen ≤ 1 → IsTrue (list_all (λ q. not (is_empty (names_copied_into kept q))) pool)
      all few =
          let one : 1 ≤ length e.won = whole.one in
          let most : length e.won ≤ crew c b chosen = whole.most in
          let some = whole.alone (omega (arith, few, one, most)) in
          list_all-from_AllPass (λ q. not (is_empty (names_copied_into kept q))) pool
          (All-from_recursion (λ q. not (is_empty (names_copied_into kept q)) ≡ true) pool
          (in-each (λ (q : ℕ). not (is_empty (names_copied_into kept q)) ≡ true) pool (λ q here.
          let is : IsDrawn q = is-drawn q here in
          let words : words_in q ≡ filled e is.worker is.drawn = words-drawn q is in
          let least : 1 ≤ filled e is.worker is.drawn = some.filled is.worker is.order is.drawn is.drew in
          some-names c b (names_copied_into kept q) (omega (arith, words, least)))))

  -- Filled: at most one region for each worker and age has room.

  abbrev ages : List ℕ
  ages = destination_ages b chosen

  -- what is left to fill a region up is less than a largest object
  abbrev most_words : ℕ
  most_words = c.geometry.words - largest_of c.geometry

  abbrev has_room : ℕ → Bool
  has_room q = nat_le (words_in q) most_words

  -- the age of a draw is one that copies get
  age-among : (n i : ℕ) (d : Drawn) → Receives e n i d → IsTrue (is_in d.age ages)
  age-among n i d here =
      let of = whole.drawn.object n i d here in
      let o : IsObjectOf c b chosen e of.0 of.1 = whole.board.inside of.0 of.1 of.2 in
      let age : next_age (regions.age_of (region_at b.regions o.placed.region).role) ≡ d.age
      = ap next_age o.age ∙ sym (next-ages (age_of e.world of.0)) ∙ of.3 in
      let old : d.age ≤ 24 = (whole.evacuated.regions.drawn n i d here).2 in
      kept-by_filter (λ a. list_any (λ q. next_age (regions.age_of (region_at b.regions q).role) == a) chosen) (range_with_len 0 25) d.age
      (in-range 0 25 d.age (omega arith) (omega (arith, old)))
      (any-of (λ q. next_age (regions.age_of (region_at b.regions q).role) == d.age) chosen o.placed.region o.lies
      (eq-eqb (next_age (regions.age_of (region_at b.regions o.placed.region).role)) d.age age))

  -- the number of a worker and an age
  record IsBuffer (q code : ℕ) : Type 0 where
    is : IsDrawn q
    place : ℕ
    age : At ages place is.drawn.age
    room : filled e is.worker is.drawn ≤ most_words
    number : code ≡ is.worker * count_of_ages b chosen + place

  place-within : (j a : ℕ) → At ages j a → j < count_of_ages b chosen
  place-within j a at = let less : j < length ages = slice_get_within ages j a at in omega (arith, less)

  buffer-of : (q : ℕ) → IsTrue (is_in q (filter has_room pool)) → HasCode IsBuffer (crew c b chosen * count_of_ages b chosen) q
  buffer-of q here =
      let parts = in-filter has_room pool q here in
      let is : IsDrawn q = is-drawn q parts.1 in
      let at = in-at ages is.drawn.age (age-among is.worker is.order is.drawn is.drew) in
      let few : words_in q ≤ most_words = leb-true (words_in q) most_words parts.0 in
      let words : words_in q ≡ filled e is.worker is.drawn = words-drawn q is in
      let worker : is.worker < length e.won = drawer-within c b chosen e kept whole is.worker is.order is.drawn is.drew in
      let most : length e.won ≤ crew c b chosen = whole.most in (
        is.worker * count_of_ages b chosen + at.0,
        record { is = is; place = at.0; age = at.1; room = subst (λ (m : ℕ). m ≤ most_words) words few; number = refl },
        code-below is.worker at.0 (crew c b chosen) (count_of_ages b chosen) (omega (arith, worker, most)) (place-within at.0 is.drawn.age at.1),
      )

  one-buffer : (p q code : ℕ) → IsBuffer p code → IsBuffer q code → p ≡ q
  one-buffer p q code f g =
      let one : f.place < count_of_ages b chosen = place-within f.place f.is.drawn.age f.age in
      let two : g.place < count_of_ages b chosen = place-within g.place g.is.drawn.age g.age in
      let same : f.is.worker * count_of_ages b chosen + f.place ≡ g.is.worker * count_of_ages b chosen + g.place = sym f.number ∙ g.number in
      let worker : f.is.worker ≡ g.is.worker =
      sym (div-mul-add f.is.worker (count_of_ages b chosen) f.place one) ∙ ap (λ m. m / count_of_ages b chosen) same
      ∙ div-mul-add g.is.worker (count_of_ages b chosen) g.place two in
      let place : f.place ≡ g.place =
      sym (mod-mul-add f.is.worker (count_of_ages b chosen) f.place one) ∙ ap (λ m. m % count_of_ages b chosen) same
      ∙ mod-mul-add g.is.worker (count_of_ages b chosen) g.place two in
      let age : f.is.drawn.age ≡ g.is.drawn.age = same_Some f.is.drawn.age g.is.drawn.age (sym f.age ∙ ap (λ j. slice_get ages j) place ∙ g.age) in
      sym f.is.region
      ∙ same-region c b chosen e kept whole f.is.worker f.is.order g.is.order f.is.drawn g.is.drawn f.is.drew
      (subst (λ n. Receives e n g.is.order g.is.drawn) (sym worker) g.is.drew) age f.room
      (subst (λ n. filled e n g.is.drawn ≤ most_words) (sym worker) g.room)
      ∙ g.is.region

  few-with_room : length (filter has_room pool) ≤ crew c b chosen * count_of_ages b chosen
  few-with_room =
      no-more IsBuffer (crew c b chosen * count_of_ages b chosen) one-buffer (filter has_room pool)
      (distinct-filter has_room pool (pool-distinct c b chosen e kept whole))
      (in-each (HasCode IsBuffer (crew c b chosen * count_of_ages b chosen)) (filter has_room pool) buffer-of)

  -- the words of all copies are at least those in the pool
  words-in_pool : sum_by words_in pool ≤ words_of_all c b (names_kept (copies_among kept))
  words-in_pool =
      let each : sum_by words_in pool ≡ sum_by (λ q. sum_by (λ (k : Kept). cond (is_copied_to k.how q) (words_of c b k.name) 0) kept) pool
      = sum-same words_in (λ q. sum_by (λ (k : Kept). cond (is_copied_to k.how q) (words_of c b k.name) 0) kept) pool
      (λ i q at. words-of_filter c b (λ k. is_copied_to k.how q) kept) in
      let all : words_of_all c b (names_kept (copies_among kept)) ≡ sum_by (λ (k : Kept). cond (not (is_marked k.how)) (words_of c b k.name) 0) kept
      = words-of_filter c b (λ k. not (is_marked k.how)) kept in
      let less : sum_by (λ q. sum_by (λ (k : Kept). cond (is_copied_to k.how q) (words_of c b k.name) 0) kept) pool
      ≤ sum_by (λ (k : Kept). cond (not (is_marked k.how)) (words_of c b k.name) 0) kept
      = exchanged (λ q (k : Kept). cond (is_copied_to k.how q) (words_of c b k.name) 0) (λ (k : Kept). cond (not (is_marked k.how)) (words_of c b k.name) 0) pool
      (λ k. one-target k.how (words_of c b k.name) pool (pool-distinct c b chosen e kept whole)) kept in
      omega (arith, each, all, less)

  -- those without room are full but for less than a largest object
  full-words : length (filter (λ q. not (has_room q)) pool) * (most_words + 1) ≤ sum_by words_in (filter (λ q. not (has_room q)) pool)
  full-words =
      sum-above words_in most_words (filter (λ q. not (has_room q)) pool)
      (each-goes (λ (q : ℕ). IsTrue (not (has_room q))) (λ (q : ℕ). most_words + 1 ≤ words_in q)
      (λ q full. let more : most_words < words_in q = leb-false (words_in q) most_words (not-true (has_room q) full) in omega (arith, more))
      (filter (λ q. not (has_room q)) pool) (each-passes (λ q. not (has_room q)) pool))

  many-words : crew c b chosen * count_of_ages b chosen < pool_of b
      → (pool_of b - crew c b chosen * count_of_ages b chosen) * most_words < words_of_all c b (names_kept (copies_among kept))
  many-words more =
      enough-words (pool_of b) (crew c b chosen * count_of_ages b chosen) (length (filter has_room pool))
      (length (filter (λ q. not (has_room q)) pool)) most_words
      (sum_by words_in (filter has_room pool)) (sum_by words_in (filter (λ q. not (has_room q)) pool)) (sum_by words_in pool)
      (words_of_all c b (names_kept (copies_among kept)))
      few-with_room (length-filter_both has_room (λ q. not (has_room q)) (λ q. refl) pool)
      (sum_by-filter_both has_room (λ q. not (has_room q)) (λ q. refl) words_in pool) words-in_pool full-words more

  pool-filled : IsTrue (is_pool_filled c b chosen kept)
  pool-filled = elim (cases_lt (crew c b chosen * count_of_ages b chosen) (pool_of b)) [
    | inl more ↦
        or_right (nat_le (pool_of b) (crew c b chosen * count_of_ages b chosen))
        (nat_lt ((pool_of b - crew c b chosen * count_of_ages b chosen) * most_words) (words_of_all c b (names_kept (copies_among kept))))
        (lt-ltb ((pool_of b - crew c b chosen * count_of_ages b chosen) * most_words) (words_of_all c b (names_kept (copies_among kept))) (many-words more))
    | inr few ↦
        or_left (nat_le (pool_of b) (crew c b chosen * count_of_ages b chosen))
        (nat_lt ((pool_of b - crew c b chosen * count_of_ages b chosen) * most_words) (words_of_all c b (names_kept (copies_among kept))))
        (le-leb (pool_of b) (crew c b chosen * count_of_ages b chosen) few)
  ]

  pub is-drained : IsDrained c b chosen kept
  is-drained = record { filled = pool-filled; used = pool-used }
