-- The choice among the rows of a heap's regions is that of the rules.
use Rattle.std.proofs.Common.{◌≡◌, ◌<◌, ◌≤◌, ℕ, ◌+◌, Bool, true, false, cond, eqb, not, List, [], ◌∷◌, ◌++◌, length, map, inl, inr, refl, ap, sym, subst, ◌∙◌, arith}
use Rattle.std.specs.Prelude.{◌||◌, ◌&&◌, ◌==◌, nat_eq, nat_lt, IsTrue}
use Rattle.std.specs.List.{AllByRecursion, IsDistinct, filter, range_with_len}
use Rattle.std.proofs.lemmas.Bool.{eqb-true, false≢true, ne_eqb}
use Rattle.std.proofs.lemmas.List.{length-map, map-append, map-id}
use Rattle.std.proofs.lemmas.List.FromFn.{filter_of_map_range_with_len_more}
use Rattle.bal_base.specs.Bits.{IsAscending, is_member}
use Rattle.bal_base.proofs.Lemmas.{among-cases, among-first, among-later, filter-ascends, member-below, member-passes, member-there}
use Rattle.bal_layout.specs.Regions.{age_of, all_regions, is_eden, is_in, is_object, region_at}
use Rattle.bal_remember.specs.Remembered.{is_overflowed}
use Rattle.bal_layout.specs.declared.region_state.RegionState.{RegionState}
use Rattle.bal_layout.specs.declared.region_state.Role.{Role}
use Rattle.bal_layout.specs.declared.region_state.Role.TheVariants as roles
use Rattle.bal_model.specs.declared.config.Config.{Config}
use Rattle.bal_rules.specs.Choice as rules
use Rattle.bal_choose.specs.Choice as spec
use Rattle.bal_choose.specs.Choice.{AreOfDistinctRegions, IsChoice, is_taken}
use Rattle.bal_choose.specs.Rows.{MayBeCollected, holds_objects, row_in, rows_in}
use Rattle.bal_choose.specs.declared.rows.ChoiceRow.{ChoiceRow}
use Rattle.bal_choose.proofs.Found.{any-filter, any-map, any-same}

-- Filters.

map-filter : {A B : Type 0} (p : B → Bool) (f : A → B) (xs : List A) → filter p (map f xs) ≡ map f (filter (λ x. p (f x)) xs)
map-filter p f [] = refl
map-filter p f (x ∷ xs) = ap (λ (l : List _). cond (p (f x)) (f x ∷ l) l) (map-filter p f xs) ∙ out (p (f x))
  where
    out : (b : Bool) → cond b (f x ∷ map f (filter (λ y. p (f y)) xs)) (map f (filter (λ y. p (f y)) xs)) ≡ map f (cond b (x ∷ filter (λ y. p (f y)) xs) (filter (λ y. p (f y)) xs))
    out true = refl
    out false = refl

filter-both : {A : Type 0} (p q : A → Bool) (xs : List A) → filter p (filter q xs) ≡ filter (λ x. p x && q x) xs
filter-both p q [] = refl
filter-both p q (x ∷ xs) = by (q x) (p x) refl ∙ ap (λ (l : List _). cond (p x && q x) (x ∷ l) l) (filter-both p q xs)
  where
    by : (b c : Bool) → p x ≡ c → filter p (cond b (x ∷ filter q xs) (filter q xs)) ≡ cond (c && b) (x ∷ filter p (filter q xs)) (filter p (filter q xs))
    by true true is = ap (λ d. cond d (x ∷ filter p (filter q xs)) (filter p (filter q xs))) is
    by true false is = ap (λ d. cond d (x ∷ filter p (filter q xs)) (filter p (filter q xs))) is
    by false true is = refl
    by false false is = refl

and-true : (b : Bool) → (b && true) ≡ b
and-true true = refl
and-true false = refl

filter-alike : {A : Type 0} (p q : A → Bool) → ((x : A) → p x ≡ q x) → (xs : List A) → filter p xs ≡ filter q xs
filter-alike p q same [] = refl
filter-alike p q same (x ∷ xs) = ap (λ b. cond b (x ∷ filter p xs) (filter p xs)) (same x) ∙ ap (λ (l : List _). cond (q x) (x ∷ l) l) (filter-alike p q same xs)

-- Two ascending lists with the same members are one.

first-is-least : (m n : ℕ) (ms : List ℕ) → IsAscending (m ∷ ms) → IsTrue (is_member (m ∷ ms) n) → m ≤ n
first-is-least m n ms up among = elim (among-cases m n ms among) [
  | inl here ↦ omega (arith, here)
  | inr later ↦ let less : m < n = up.0 n later in omega (arith, less)
]

not-in-rest : (m : ℕ) (ms : List ℕ) → IsAscending (m ∷ ms) → is_member ms m ≡ false
not-in-rest m ms up = by (is_member ms m) refl
  where
    by : (b : Bool) → is_member ms m ≡ b → b ≡ false
    by true is = absurd (let less : m < m = up.0 m is in omega (arith, less))
    by false is = refl

pub same-members : (ms ns : List ℕ) → IsAscending ms → IsAscending ns → ((n : ℕ) → is_member ms n ≡ is_member ns n) → ms ≡ ns
same-members [] [] up down same = refl
same-members [] (n ∷ ns) up down same = absurd (false≢true (same n ∙ among-first n ns))
same-members (m ∷ ms) [] up down same = absurd (false≢true (sym (same m) ∙ among-first m ms))
same-members (m ∷ ms) (n ∷ ns) up down same =
    let first : m ≤ n = first-is-least m n ms up (same n ∙ among-first n ns) in
    let second : n ≤ m = first-is-least n m ns down (sym (same m) ∙ among-first m ms) in
    let equal : m ≡ n = omega (arith, first, second) in
    let rest : ms ≡ ns = same-members ms ns up.1 down.1 (λ k. tail equal k (eqb m k) refl) in
    ap (λ k. k ∷ ms) equal ∙ ap (λ l. n ∷ l) rest
  where
    -- the first one is not among the others of either list; of the rest the tests agree
    tail : m ≡ n → (k : ℕ) (b : Bool) → eqb m k ≡ b → is_member ms k ≡ is_member ns k
    tail equal k true is =
        subst (λ j. is_member ms j ≡ is_member ns j) (eqb-true m k is)
        (not-in-rest m ms up ∙ sym (subst (λ j. is_member ns j ≡ false) (sym equal) (not-in-rest n ns down)))
    tail equal k false is =
        ap (λ b. b || is_member ms k) (sym is)
        ∙ same k
        ∙ ap (λ b. b || is_member ns k) (ap (λ j. eqb j k) (sym equal) ∙ is)

-- Ascending numbers are distinct.

apart-from : (m : ℕ) (ms : List ℕ) → ((n : ℕ) → IsTrue (is_member ms n) → m < n) → AllByRecursion (λ n. nat_eq m n ≡ false) ms
apart-from m [] up = tt
apart-from m (n ∷ ms) up =
    let less : m < n = up n (among-first n ms) in
    (ne_eqb m n (λ e. omega (arith, e, less)), apart-from m ms (λ k among. up k (among-later n k ms among)))

distinct : (ms : List ℕ) → IsAscending ms → IsDistinct nat_eq ms
unfolding IsDistinct
distinct [] up = tt
distinct (m ∷ ms) up = (apart-from m ms up.0, distinct ms up.1)

map-map : {A B C : Type 0} (f : A → B) (g : B → C) (xs : List A) → map g (map f xs) ≡ map (λ x. g (f x)) xs
map-map f g [] = refl
map-map f g (x ∷ xs) = ap (λ (l : List _). g (f x) ∷ l) (map-map f g xs)

-- The rows.

-- that of a region, if it has one
abbrev pub row-of : List RegionState → ℕ → List ChoiceRow
row-of regions q = cond (holds_objects regions q) (row_in regions q ∷ []) []

-- one more region
pub rows-more : (regions : List RegionState) (n : ℕ)
    → map (row_in regions) (filter (holds_objects regions) (range_with_len 0 (n + 1)))
    ≡ map (row_in regions) (filter (holds_objects regions) (range_with_len 0 n)) ++ row-of regions n
rows-more regions n =
    ap (map (row_in regions)) joined ∙ (map-append (row_in regions) (filter h (range_with_len 0 n)) _ ∙ ap (λ (l : List ChoiceRow). map (row_in regions) (filter h (range_with_len 0 n)) ++ l) (by (h n)))
  where
    h : ℕ → Bool
    h = holds_objects regions

    by : (b : Bool) → map (row_in regions) (cond b (n ∷ []) []) ≡ cond b (row_in regions n ∷ []) []
    by true = refl
    by false = refl

    joined : filter h (range_with_len 0 (n + 1)) ≡ filter h (range_with_len 0 n) ++ cond (h n) (n ∷ []) []
    joined =
        ap (filter h) (sym (map-id (range_with_len 0 (n + 1))))
        ∙ filter_of_map_range_with_len_more h (λ x. x) 0 n n (omega arith)
        ∙ ap (λ (l : List ℕ). filter h l ++ cond (h n) (n ∷ []) []) (map-id (range_with_len 0 n))

pub rows-distinct : (regions : List RegionState) → AreOfDistinctRegions (rows_in regions)
rows-distinct regions =
    let objects = filter (holds_objects regions) (all_regions regions) in
    subst (IsDistinct nat_eq) (sym (map-map (row_in regions) (λ (r : ChoiceRow). r.region) objects ∙ map-id objects))
    (distinct objects (filter-ascends (holds_objects regions) 0 (length regions)))

module _ (c : Config) (regions : List RegionState) where
  abbrev all : List ℕ
  all = all_regions regions

  -- only a region of objects is young, or wasting
  young-is : (q : ℕ) → (spec.is_young (row_in regions q) && holds_objects regions q) ≡ rules.is_young (region_at regions q)
  young-is q = by (region_at regions q).role (is_overflowed (region_at regions q).remembered)
    where
      by : (role : Role) (over : Bool) → (((age_of role == 0) && not over) && is_object role) ≡ (is_eden role && not over)
      by roles.Free true = refl
      by roles.Free false = refl
      by (roles.Object age) over = and-true ((age == 0) && not over)
      by roles.Leaf true = refl
      by roles.Leaf false = refl

  wasting-is : (q : ℕ) → (spec.is_wasting (row_in regions q) && holds_objects regions q) ≡ rules.is_wasting (region_at regions q)
  wasting-is q = by (region_at regions q).role (not (is_overflowed (region_at regions q).remembered)) (nat_lt (region_at regions q).estimate (region_at regions q).used)
    where
      by : (role : Role) (known less : Bool) → (((not (age_of role == 0) && known) && less) && is_object role) ≡ ((rules.is_old role && known) && less)
      by roles.Free true true = refl
      by roles.Free true false = refl
      by roles.Free false less = refl
      by (roles.Object age) known less = and-true ((not (age == 0) && known) && less)
      by roles.Leaf true true = refl
      by roles.Leaf true false = refl
      by roles.Leaf false less = refl

  wasting-rows : filter spec.is_wasting (rows_in regions) ≡ map (row_in regions) (rules.wasting_regions regions)
  wasting-rows =
      map-filter spec.is_wasting (row_in regions) (filter (holds_objects regions) all)
      ∙ ap (map (row_in regions))
      (filter-both (λ q. spec.is_wasting (row_in regions q)) (holds_objects regions) all
      ∙ filter-alike _ (λ q. rules.is_wasting (region_at regions q)) wasting-is all)

  -- as many go before it
  first-is : (q : ℕ) → spec.is_among_first (rows_in regions) c.older (row_in regions q) ≡ rules.is_among_first regions c.older q
  first-is q =
      ap (λ n. nat_lt n c.older)
      (ap (λ (l : List ChoiceRow). length (filter (λ p. spec.goes_before p (row_in regions q)) l)) wasting-rows
      ∙ ap length (map-filter (λ p. spec.goes_before p (row_in regions q)) (row_in regions) (rules.wasting_regions regions))
      ∙ length-map (filter (λ p. rules.goes_before regions p q) (rules.wasting_regions regions)) (row_in regions))

  chosen-is : (q : ℕ) → (spec.is_chosen (rows_in regions) c.older (row_in regions q) && holds_objects regions q) ≡ rules.is_chosen c regions q
  chosen-is q =
      by (spec.is_young (row_in regions q)) (spec.is_wasting (row_in regions q)) (spec.is_among_first (rows_in regions) c.older (row_in regions q)) (holds_objects regions q)
      ∙ ap (λ b. b || ((spec.is_wasting (row_in regions q) && holds_objects regions q) && spec.is_among_first (rows_in regions) c.older (row_in regions q))) (young-is q)
      ∙ ap (λ b. rules.is_young (region_at regions q) || (b && spec.is_among_first (rows_in regions) c.older (row_in regions q))) (wasting-is q)
      ∙ ap (λ b. rules.is_young (region_at regions q) || (rules.is_wasting (region_at regions q) && b)) (first-is q)
    where
      by : (y w f o : Bool) → ((y || (w && f)) && o) ≡ ((y && o) || ((w && o) && f))
      by true w f true = refl
      by true true f false = refl
      by true false f false = refl
      by false true true true = refl
      by false true true false = refl
      by false true false true = refl
      by false true false false = refl
      by false false f o = refl

  taken-is : (q : ℕ) → is_taken (rows_in regions) c.older q ≡ is_member (rules.choice c regions) q
  taken-is q =
      any-map (λ (r : ChoiceRow). (r.region == q) && spec.is_chosen (rows_in regions) c.older r) (row_in regions) (filter (holds_objects regions) all)
      ∙ any-filter (λ p. (p == q) && spec.is_chosen (rows_in regions) c.older (row_in regions p)) (holds_objects regions) all
      ∙ any-same _ (λ p. (p == q) && rules.is_chosen c regions p)
      (λ p. by (p == q) (spec.is_chosen (rows_in regions) c.older (row_in regions p)) (holds_objects regions p) ∙ ap (λ b. (p == q) && b) (chosen-is p)) all
      ∙ sym (any-filter (λ p. p == q) (rules.is_chosen c regions) all)
    where
      by : (x y z : Bool) → ((x && y) && z) ≡ (x && (y && z))
      by true y z = refl
      by false y z = refl

  pub choice-is : (chosen : List ℕ) → IsChoice (rows_in regions) c.older chosen → chosen ≡ rules.choice c regions
  choice-is chosen is =
      same-members chosen (rules.choice c regions) is.ascending (filter-ascends (rules.is_chosen c regions) 0 (length regions)) (λ q. is.just q ∙ taken-is q)

  -- What is chosen may be collected.

  passes : (q : ℕ) → IsTrue (is_in q (rules.choice c regions)) → rules.is_chosen c regions q ≡ true
  passes q among = (member-passes (rules.is_chosen c regions) 0 (length regions) q among).0

  -- it is young or wasting, so it has objects, and has not overflowed
  is-known : (q : ℕ) → rules.is_chosen c regions q ≡ true → (is_object (region_at regions q).role ≡ true) × (is_overflowed (region_at regions q).remembered ≡ false)
  is-known q chosen =
      by (region_at regions q).role (is_overflowed (region_at regions q).remembered)
      (nat_lt (region_at regions q).estimate (region_at regions q).used) (rules.is_among_first regions c.older q) chosen
    where
      by : (role : Role) (over less first : Bool) → ((is_eden role && not over) || (((rules.is_old role && not over) && less) && first)) ≡ true
          → (is_object role ≡ true) × (over ≡ false)
      by roles.Free over less first h = absurd (false≢true h)
      by (roles.Object age) false less first h = (refl, refl)
      by (roles.Object age) true less first h = absurd (false≢true (sym (none (age == 0) less first) ∙ h))
        where
          none : (young now f : Bool) → ((young && false) || (((not young && false) && now) && f)) ≡ false
          none true now f = refl
          none false now f = refl
      by roles.Leaf over less first h = absurd (false≢true h)

  -- eden is young
  is-taken-if : (q : ℕ) → is_eden (region_at regions q).role ≡ true → is_overflowed (region_at regions q).remembered ≡ false → rules.is_chosen c regions q ≡ true
  is-taken-if q eden known =
      ap (λ b. (b && not (is_overflowed (region_at regions q).remembered)) || (rules.is_wasting (region_at regions q) && rules.is_among_first regions c.older q)) eden
      ∙ ap (λ b. not b || (rules.is_wasting (region_at regions q) && rules.is_among_first regions c.older q)) known

  pub may-be-collected : MayBeCollected regions (rules.choice c regions)
  may-be-collected = record {
    ascending = filter-ascends (rules.is_chosen c regions) 0 (length regions);
    within = λ q among. let below = member-below (rules.is_chosen c regions) 0 (length regions) q among in omega (arith, below);
    objects = λ q among. (is-known q (passes q among)).0;
    known = λ q among. (is-known q (passes q among)).1;
    eden = λ q below young known. member-there (rules.is_chosen c regions) 0 (length regions) q (omega arith) (omega (arith, below)) (is-taken-if q young known);
  }
