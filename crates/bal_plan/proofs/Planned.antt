-- The plan, one object after the other.
use Rattle.std.proofs.Common.{◌≡◌, ℕ, zero, suc, ◌+◌, ◌*◌, ◌<◌, ◌≤◌, inl, inr, Bool, true, false, cond, List, [], ◌∷◌, ◌++◌, map, drop, refl, ap, sym, subst, ◌∙◌, arith, append_assoc, zero-add}
use Rattle.std.specs.Prelude.{nat_eq, nat_le, slice_index_or}
use Rattle.std.specs.List.{range_with_len, sum_by}
use Rattle.std.proofs.lemmas.Bool.{cases_lt, ne_eqb}
use Rattle.std.proofs.lemmas.Bool.Decides.{nat_tests}
use Rattle.std.proofs.lemmas.List.{append-nil}
use Rattle.std.proofs.Math.Nat.{mul-le-mul_right}
use Rattle.bal_base.proofs.Lemmas.{among-first}
use Rattle.bal_layout.specs.Addresses.{offset_of, region_of}
use Rattle.bal_layout.specs.Regions.{is_in}
use Rattle.bal_layout.specs.Shape.{largest_of}
use Rattle.bal_model.specs.declared.event.Packed.{Packed}
use Rattle.bal_rules.specs.GlobalEvents.{next_fit}
use Rattle.bal_table.specs.Table.{IsTable, Table, things_of}
use Rattle.bal_table.proofs.Lemmas.{address-is, address-offset, address-region}
use Rattle.bal_words.proofs.Lemmas.{same-or}
use Rattle.bal_plan.specs.declared.Cursor.{Cursor}
use Rattle.bal_plan.specs.Plan.{IsObject, IsPlan, name_of, objects_into, packed_as, starts_below, starts_of, words_at, words_into}
use Rattle.bal_plan.specs.Planning.{IsPlannedTo, with_room}
use Rattle.bal_plan.proofs.Found.{region-here}
use Rattle.bal_plan.proofs.Sizes.{ends-before, sized}
use Rattle.bal_plan.proofs.Starts.{filter-none, into-are, into-gap, listed-object, map-same, starts-gap, starts-next, words-next, words-other, words-same}

-- Lists that grow at their end.

map-append : {A : Type 0} (f : ℕ → A) (xs ys : List ℕ) → map f (xs ++ ys) ≡ map f xs ++ map f ys
map-append f [] ys = refl
map-append f (x ∷ xs) ys = ap (λ l. f x ∷ l) (map-append f xs ys)

-- a member of a list with words
some-word : (f : ℕ → ℕ) (xs : List ℕ) → 0 < sum_by f xs → (x : ℕ) × (is_in x xs ≡ true)
some-word f [] some = absurd (omega (arith, some))
some-word f (x ∷ xs) some = (x, among-first x xs)

module _ (t : Table) (table : IsTable t) where
  -- Nothing is planned yet.

  pub planned-none : (to : ℕ → ℕ) (c : Cursor) → ((a : ℕ) → to a ≡ a) → c.next ≡ 0 → c.end ≡ t.shape.words → IsPlannedTo t to 0 c
  planned-none to c stays next end = by t.shape.regions refl
    where
      by : (regions : ℕ) → t.shape.regions ≡ regions → IsPlannedTo t to 0 c
      by zero is = absurd (omega (arith, is, table.shape.fewest_regions))
      by (suc later) is = record {
        region = 0;
        filled = 0;
        later = later;
        next = omega (arith, next);
        end = omega (arith, end);
        fits = omega arith;
        regions = omega (arith, is);
        below = λ a object less. absurd (omega (arith, less));
        behind = λ a object from. omega (arith, next);
        ahead = λ a from. stays a;
        words = refl;
        lower = λ q less. absurd (omega (arith, less));
        full = λ q less. absurd (omega (arith, less));
        down = λ a object. omega (arith, stays a);
        apart = λ a b one two less before. absurd (omega (arith, before));
        within = λ a object less. absurd (omega (arith, less));
        packed = λ a object less. absurd (omega (arith, less));
        begun = λ a q object less. absurd (omega (arith, less));
        next_fit = λ ws. ap (λ n. next_fit t.shape.words (range_with_len 0 n) 0 ws) is;
      }

  -- No object starts between two addresses.

  module _ (to : ℕ → ℕ) (low high : ℕ) (c : Cursor) (i : IsPlannedTo t to low c) (le : low ≤ high)
      (none : (a : ℕ) → low ≤ a → a < high → IsObject t a → ⊥) where
    earlier : (a : ℕ) → IsObject t a → a < high → a < low
    earlier a object less = elim (cases_lt a low) [ inl before ↦ before | inr from ↦ absurd (none a from less object) ]

    pub planned-gap : IsPlannedTo t to high c
    planned-gap = record {
      region = i.region;
      filled = i.filled;
      later = i.later;
      next = i.next;
      end = i.end;
      fits = i.fits;
      regions = i.regions;
      below = λ a object less. i.below a object (earlier a object less);
      behind = λ a object from. i.behind a object (omega (arith, from, le));
      ahead = λ a from. i.ahead a (omega (arith, from, le));
      words = ap (sum_by (words_at t)) (into-gap t to low high i.region le none) ∙ i.words;
      lower = λ q less. let found = i.lower q less in (found.0, found.1, omega (arith, found.2, le), found.3);
      full = λ q less. omega (arith, i.full q less, ap (sum_by (words_at t)) (into-gap t to low high q le none));
      down = i.down;
      apart = λ a b one two less before. i.apart a b one two less (earlier b two before);
      within = λ a object less. i.within a object (earlier a object less);
      packed = λ a object less. i.packed a object (earlier a object less);
      begun = λ a q object less. i.begun a q object (earlier a object less);
      next_fit = λ ws. subst
          (λ (S : List ℕ). next_fit t.shape.words (range_with_len 0 t.shape.regions) 0 (map (words_at t) S ++ ws)
          ≡ map (λ a. region_of t.shape (to a)) S ++ next_fit t.shape.words (range_with_len i.region (suc i.later)) i.filled ws)
          (sym (starts-gap t low high le none)) (i.next_fit ws);
    }

  -- Where the next object goes.

  module _ (to : ℕ → ℕ) (a : ℕ) (c : Cursor) (i : IsPlannedTo t to a c) (object : IsObject t a) where
    -- there is room for it behind so many words of a region
    pub record IsPlace (d : Cursor) : Type 0 where
      pub region : ℕ
      pub filled : ℕ
      pub later : ℕ
      pub next : d.next ≡ region * t.shape.words + filled
      pub end : d.end ≡ region * t.shape.words + t.shape.words
      pub fits : filled + words_at t a ≤ t.shape.words
      pub regions : region + suc later ≡ t.shape.regions
      pub up : c.next ≤ d.next
      pub down : d.next ≤ a
      pub words : words_into t to a region ≡ filled
      pub lower : (q : ℕ) → q < region → (b : ℕ) × IsObject t b × (b < a) × (region_of t.shape (to b) ≡ q)
      pub full : (q : ℕ) → q < region → t.shape.words < words_into t to a q + largest_of t.shape
      pub goes : (ws : List ℕ) → next_fit t.shape.words (range_with_len i.region (suc i.later)) i.filled (words_at t a ∷ ws)
          ≡ region ∷ next_fit t.shape.words (range_with_len region (suc later)) (filled + words_at t a) ws

    le-leb : (m n : ℕ) → m ≤ n → nat_le m n ≡ true
    le-leb m n h = grind (arith, nat_tests)

    gt-leb : (m n : ℕ) → n < m → nat_le m n ≡ false
    gt-leb m n h = grind (arith, nat_tests)

    leb-le : (m n : ℕ) → nat_le m n ≡ true → m ≤ n
    leb-le m n h = grind (arith, nat_tests)

    leb-gt : (m n : ℕ) → nat_le m n ≡ false → n < m
    leb-gt m n h = grind (arith, nat_tests)

    -- it fits
    here : c.next + words_at t a ≤ c.end → IsPlace c
    here fits =
        let less : i.filled + words_at t a ≤ t.shape.words = omega (arith, fits, i.next, i.end) in
        record {
          region = i.region;
          filled = i.filled;
          later = i.later;
          next = i.next;
          end = i.end;
          fits = less;
          regions = i.regions;
          up = omega arith;
          down = i.behind a object (omega arith);
          words = i.words;
          lower = i.lower;
          full = i.full;
          goes = λ ws. ap
              (λ b. cond b (i.region ∷ next_fit t.shape.words (range_with_len i.region (suc i.later)) (i.filled + words_at t a) ws)
              (slice_index_or (range_with_len i.region (suc i.later)) 1 0 ∷ next_fit t.shape.words (drop 1 (range_with_len i.region (suc i.later))) (words_at t a) ws))
              (le-leb (i.filled + words_at t a) t.shape.words less);
        }

    -- it does not
    module _ (over : c.end < c.next + words_at t a) where
      -- so it lies behind the region
      behind : i.region * t.shape.words + t.shape.words ≤ a
      behind =
          let s = sized t a table object in
          let from = i.behind a object (omega arith) in
          elim (cases_lt a (i.region * t.shape.words + t.shape.words)) [
            | inr past ↦ past
            | inl before ↦
                let region = region-here t.shape i.region a (omega (arith, table.shape.fewest_words)) (omega (arith, from, i.next)) before in
                let is : i.region * t.shape.words + offset_of t.shape a ≡ a = ap (λ q. q * t.shape.words + offset_of t.shape a) (sym region) ∙ address-is t.shape a in
                absurd (omega (arith, over, i.end, i.next, from, is, s.inside))
          ]

      -- the region has an object
      has-some : (b : ℕ) × IsObject t b × (b < a) × (region_of t.shape (to b) ≡ i.region)
      has-some =
          let s = sized t a table object in
          let some = some-word (words_at t) (objects_into t to a i.region) (omega (arith, i.words, over, i.next, i.end, s.small, table.shape.fewest_words)) in
          let is = (into-are t to a i.region some.0).0 some.1 in
          (some.0, is.0, is.1, is.2)

      -- and the next one none
      none-there : words_into t to a (i.region + 1) ≡ 0
      none-there = ap (sum_by (words_at t)) (filter-none (λ b. nat_eq (region_of t.shape (to b)) (i.region + 1)) (starts_below t a) each)
        where
          each : (b : ℕ) → is_in b (starts_below t a) ≡ true → nat_eq (region_of t.shape (to b)) (i.region + 1) ≡ false
          each b among =
              let is = listed-object t a b among in
              let s = sized t b table is.0 in
              let ends = i.below b is.0 is.1 in
              ne_eqb (region_of t.shape (to b)) (i.region + 1)
              (λ e. omega (arith, ends, s.two, i.next, i.fits, address-is t.shape (to b), ap (λ q. q * t.shape.words) e))

      there : (later : ℕ) → i.later ≡ later → IsPlace (record { next = c.end; end = c.end + t.shape.words })
      there zero is =
          let s = sized t a table object in
          absurd (omega (arith, s.address, behind, i.regions, is, mul-le-mul_right {m = t.shape.regions} {n = i.region + 1} t.shape.words (omega (arith, i.regions, is))))
      there (suc l) is = record {
        region = i.region + 1;
        filled = 0;
        later = l;
        next = omega (arith, i.end);
        end = omega (arith, i.end);
        fits = omega (arith, (sized t a table object).small);
        regions = omega (arith, i.regions, is);
        up = omega (arith, i.next, i.end, i.fits);
        down = omega (arith, i.end, behind);
        words = none-there;
        lower = λ q less. elim (cases_lt q i.region) [
          | inl below ↦ i.lower q below
          | inr from ↦ (has-some.0, has-some.1, has-some.2, has-some.3 ∙ omega (arith, less, from))
        ];
        full = λ q less. elim (cases_lt q i.region) [
          | inl below ↦ i.full q below
          | inr from ↦
              let last : i.region ≡ q = omega (arith, less, from) in
              let most : t.shape.words < words_into t to a i.region + largest_of t.shape = omega (arith, i.words, over, i.next, i.end, (sized t a table object).small) in
              subst (λ r. t.shape.words < words_into t to a r + largest_of t.shape) last most
        ];
        goes = λ ws. ap (λ n. next_fit t.shape.words (range_with_len i.region (suc n)) i.filled (words_at t a ∷ ws)) is
            ∙ (ap
            (λ b. cond b (i.region ∷ next_fit t.shape.words (range_with_len i.region (suc (suc l))) (i.filled + words_at t a) ws)
            ((i.region + 1) ∷ next_fit t.shape.words (range_with_len (i.region + 1) (suc l)) (words_at t a) ws))
            (gt-leb (i.filled + words_at t a) t.shape.words (omega (arith, over, i.next, i.end)))
            ∙ ap (λ n. (i.region + 1) ∷ next_fit t.shape.words (range_with_len (i.region + 1) (suc l)) n ws) (sym (zero-add (words_at t a))));
      }

    pub place : IsPlace (with_room t.shape.words c (words_at t a))
    place = by (nat_le (c.next + words_at t a) c.end) refl
      where
        by : (b : Bool) → nat_le (c.next + words_at t a) c.end ≡ b → IsPlace (cond b c (record { next = c.end; end = c.end + t.shape.words }))
        by true fits = here (leb-le (c.next + words_at t a) c.end fits)
        by false over = there (leb-gt (c.next + words_at t a) c.end over) i.later refl

    -- And then it is planned too.

    module _ (d : Cursor) (p : IsPlace d) (new : ℕ → ℕ) (own : new a ≡ d.next) (others : (b : ℕ) → (b ≡ a → ⊥) → new b ≡ to b) where
      same : (b : ℕ) → b < a → new b ≡ to b
      same b less = others b (λ e. omega (arith, e, less))

      offset : p.filled < t.shape.words
      offset = omega (arith, p.fits, (sized t a table object).two)

      own-region : region_of t.shape (new a) ≡ p.region
      own-region = ap (region_of t.shape) (own ∙ p.next) ∙ address-region t.shape p.region p.filled offset

      own-offset : offset_of t.shape (new a) ≡ p.filled
      own-offset = ap (offset_of t.shape) (own ∙ p.next) ∙ address-offset t.shape p.region p.filled offset

      same-words : (b q : ℕ) → b ≤ a → words_into t new b q ≡ words_into t to b q
      same-words b q le = words-same t to new b q (λ e object less. same e (omega (arith, less, le)))

      moved : (b q : ℕ) → (e : ℕ) × IsObject t e × (e < b) × (region_of t.shape (to e) ≡ q) → b ≤ a → (e : ℕ) × IsObject t e × (e < b) × (region_of t.shape (new e) ≡ q)
      moved b q found le = (found.0, found.1, found.2, ap (region_of t.shape) (same found.0 (omega (arith, found.2, le))) ∙ found.3)

      -- what holds of the object and of those before it
      each : (P : ℕ → Type 0) → P a → ((b : ℕ) → IsObject t b → b < a → P b) → (b : ℕ) → IsObject t b → b < a + 1 → P b
      each P one rest b is less = elim (same-or b a) [ inl here ↦ subst P (sym here) one | inr other ↦ rest b is (omega (arith, less, other)) ]

      pub planned-next : IsPlannedTo t new (a + 1) (record { next = d.next + words_at t a; end = d.end })
      planned-next = record {
        region = p.region;
        filled = p.filled + words_at t a;
        later = p.later;
        next = omega (arith, p.next);
        end = p.end;
        fits = p.fits;
        regions = p.regions;
        below = each (λ b. new b + words_at t b ≤ d.next + words_at t a) (omega (arith, own))
            (λ b is less. omega (arith, same b less, i.below b is less, p.up));
        behind = λ b is from. omega (arith, p.down, ends-before t a b table object is (omega (arith, from)));
        ahead = λ b from. others b (λ e. omega (arith, e, from)) ∙ i.ahead b (omega (arith, from));
        words = subst (λ q. words_into t new (a + 1) q ≡ words_into t new a q + words_at t a) own-region (words-next t new a object)
            ∙ ap (λ n. n + words_at t a) (same-words a p.region (omega arith) ∙ p.words);
        lower = λ q less. let found = moved a q (p.lower q less) (omega arith) in (found.0, found.1, omega (arith, found.2), found.3);
        full = λ q less. omega (arith, p.full q less, words-other t new a q object (λ e. omega (arith, less, own-region, e)), same-words a q (omega arith));
        down = λ b is. elim (same-or b a) [
          | inl here ↦ omega (arith, ap new here, own, p.down, here)
          | inr other ↦ omega (arith, others b other, i.down b is)
        ];
        apart = λ b e one two less before. each (λ f. b < f → new b + words_at t b ≤ new f)
            (λ less. omega (arith, own, same b less, i.below b one less, p.up))
            (λ f is low less. omega (arith, same b (omega (arith, less, low)), same f low, i.apart b f one is less low)) e two before less;
        within = each (λ b. offset_of t.shape (new b) + words_at t b ≤ t.shape.words) (omega (arith, own-offset, p.fits))
            (λ b is less. omega (arith, ap (offset_of t.shape) (same b less), i.within b is less));
        packed = each (λ b. offset_of t.shape (new b) ≡ words_into t new b (region_of t.shape (new b)))
            (own-offset ∙ (sym p.words ∙ (sym (same-words a p.region (omega arith)) ∙ ap (words_into t new a) (sym own-region))))
            (λ b is less. ap (offset_of t.shape) (same b less)
            ∙ (i.packed b is less
            ∙ (sym (same-words b (region_of t.shape (to b)) (omega (arith, less))) ∙ ap (λ e. words_into t new b (region_of t.shape e)) (sym (same b less)))));
        begun = λ b q is less. each (λ b. q < region_of t.shape (new b) → (e : ℕ) × IsObject t e × (e < b) × (region_of t.shape (new e) ≡ q))
            (λ low. moved a q (p.lower q (omega (arith, low, own-region))) (omega arith))
            (λ b is less low. moved b q (i.begun b q is less (omega (arith, low, ap (region_of t.shape) (same b less)))) (omega (arith, less))) b is less;
        next_fit = λ ws. ap (λ (l : List ℕ). next_fit t.shape.words (range_with_len 0 t.shape.regions) 0 (map (words_at t) l ++ ws)) (starts-next t a object)
            ∙ (ap (λ (l : List ℕ). next_fit t.shape.words (range_with_len 0 t.shape.regions) 0 (l ++ ws)) (map-append (words_at t) (starts_below t a) (a ∷ []))
            ∙ (ap (next_fit t.shape.words (range_with_len 0 t.shape.regions) 0) (append_assoc (map (words_at t) (starts_below t a)) (words_at t a ∷ []) ws)
            ∙ (i.next_fit (words_at t a ∷ ws)
            ∙ (ap (λ (l : List ℕ). map (λ b. region_of t.shape (to b)) (starts_below t a) ++ l) (p.goes ws)
            ∙ (sym (append_assoc (map (λ b. region_of t.shape (to b)) (starts_below t a)) (p.region ∷ [])
            (next_fit t.shape.words (range_with_len p.region (suc p.later)) (p.filled + words_at t a) ws))
            ∙ ap (λ (l : List ℕ). l ++ next_fit t.shape.words (range_with_len p.region (suc p.later)) (p.filled + words_at t a) ws) (sym regions))))));
      }
        where
          regions : map (λ b. region_of t.shape (new b)) (starts_below t (a + 1)) ≡ map (λ b. region_of t.shape (to b)) (starts_below t a) ++ p.region ∷ []
          regions =
              ap (map (λ b. region_of t.shape (new b))) (starts-next t a object)
              ∙ (map-append (λ b. region_of t.shape (new b)) (starts_below t a) (a ∷ [])
              ∙ (ap (λ (l : List ℕ). l ++ region_of t.shape (new a) ∷ [])
              (map-same (λ b. region_of t.shape (new b)) (λ b. region_of t.shape (to b)) (starts_below t a)
              (λ b among. ap (region_of t.shape) (same b (listed-object t a b among).1)))
              ∙ ap (λ q. map (λ b. region_of t.shape (to b)) (starts_below t a) ++ q ∷ []) own-region))

  -- All are planned.

  -- each object went to a region below which the cursor does not stand
  not-behind : (to : ℕ → ℕ) (at a q : ℕ) (c : Cursor) (i : IsPlannedTo t to at c) → IsObject t a → a < at → q < region_of t.shape (to a) → q < i.region
  not-behind to at a q c i object less low = elim (cases_lt q i.region) [
    | inl before ↦ before
    | inr from ↦
        let ends = i.below a object less in
        let lies = mul-le-mul_right {m = i.region + 1} {n = region_of t.shape (to a)} t.shape.words (omega (arith, low, from)) in
        absurd (omega (arith, ends, (sized t a table object).two, i.next, i.fits, address-is t.shape (to a), lies))
  ]

  pub planned-all : (to : ℕ → ℕ) (c : Cursor) → IsPlannedTo t to (t.shape.regions * t.shape.words) c → IsPlan t to
  planned-all to c i = record {
    down = i.down;
    apart = λ a b one two less. i.apart a b one two less (sized t b table two).address;
    within = λ a object. i.within a object (sized t a table object).address;
    packed = λ a object. i.packed a object (sized t a table object).address;
    begun = λ a q object. i.begun a q object (sized t a table object).address;
    full = λ a q object low. i.full q (not-behind to (t.shape.regions * t.shape.words) a q c i object (sized t a table object).address low);
    next_fit =
        sym (append-nil (map (λ a. region_of t.shape (to a)) (starts_of t)))
        ∙ (sym (i.next_fit []) ∙ ap (next_fit t.shape.words (range_with_len 0 t.shape.regions) 0) (append-nil (map (words_at t) (starts_of t))));
  }

-- What is told.

-- of the objects below an address, once one more is planned
pub told-next : (t : Table) (old new : ℕ → ℕ) (a : ℕ) (before now after : List Packed) → IsObject t a → ((b : ℕ) → b < a → new b ≡ old b)
    → now ≡ before ++ map (packed_as t old) (starts_below t a) → after ≡ now ++ packed_as t new a ∷ []
    → after ≡ before ++ map (packed_as t new) (starts_below t (a + 1))
told-next t old new a before now after object same told is =
    is
    ∙ (ap (λ (l : List Packed). l ++ packed_as t new a ∷ []) told
    ∙ (append_assoc before (map (packed_as t old) (starts_below t a)) (packed_as t new a ∷ [])
    ∙ ap (λ (l : List Packed). before ++ l)
    (ap (λ (l : List Packed). l ++ packed_as t new a ∷ [])
    (map-same (packed_as t old) (packed_as t new) (starts_below t a)
    (λ b among. ap (λ p. record { name = name_of (things_of t b); region = region_of t.shape p }) (sym (same b (listed-object t a b among).1))))
    ∙ (sym (map-append (packed_as t new) (starts_below t a) (a ∷ [])) ∙ ap (map (packed_as t new)) (sym (starts-next t a object))))))
