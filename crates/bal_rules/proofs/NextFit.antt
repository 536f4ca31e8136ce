-- How far next fit comes. Either it fills each region that it may fill, or it fills some, begins the one behind them, and comes to
-- none later. A region is filled where the next object did not fit, and that has no more words than the largest.
use Rattle.std.proofs.Common.{◌≡◌, ◌≤◌, ◌<◌, ◌+◌, ◌*◌, ◌⊎◌, inl, inr, ℕ, zero, suc, Bool, true, false, cond, List, [], ◌∷◌, Some, length, map, drop, filter, get_or, leb, refl, ap, sym, ◌∙◌, arith}
use Rattle.std.specs.List.{AllByRecursion, range_with_len, sum_by}
use Rattle.std.specs.Prelude.{IsTrue, ◌==◌, ⊤}
use Rattle.std.proofs.Math.Nat.{suc-mul}
use Rattle.std.proofs.lemmas.Bool.{eq-eqb, leb-false, ne_eqb}
use Rattle.std.proofs.lemmas.List.Elements.{All-from_recursion}
use Rattle.std.proofs.lemmas.List.Sums.{sum_by-cons}
use Rattle.bal_layout.specs.declared.name.Name.{Name}
use Rattle.bal_model.specs.declared.event.Packed.{Packed}
use Rattle.bal_rules.specs.Board.{is_empty}
use Rattle.bal_rules.specs.GlobalEvents.{last_packed, names_packed_into, next_fit}
use Rattle.bal_rules.proofs.Each.{each-both, each-drop, each-filter, each-goes}

-- Numbers that ascend.

abbrev pub Ascend : List ℕ → Type 0
Ascend [] = ⊤
Ascend (q ∷ qs) = AllByRecursion (λ (r : ℕ). q < r) qs × Ascend qs

above-range : (q a n : ℕ) → q < a → AllByRecursion (λ (r : ℕ). q < r) (range_with_len a n)
above-range q a zero h = tt
above-range q a (suc n) h = (h, above-range q (a + 1) n (omega arith))

range-ascends : (a n : ℕ) → Ascend (range_with_len a n)
range-ascends a zero = tt
range-ascends a (suc n) = (above-range a (a + 1) n (omega arith), range-ascends (a + 1) n)

filter-ascends : (p : ℕ → Bool) (qs : List ℕ) → Ascend qs → Ascend (filter p qs)
filter-ascends p [] h = tt
filter-ascends p (q ∷ qs) h = by (p q) (filter-ascends p qs h.1)
  where
    by : (b : Bool) → Ascend (filter p qs) → Ascend (cond b (q ∷ filter p qs) (filter p qs))
    by true rest = (each-filter (λ (r : ℕ). q < r) p qs h.0, rest)
    by false rest = rest

pub passed-ascend : (p : ℕ → Bool) (n : ℕ) → Ascend (filter p (range_with_len 0 n))
passed-ascend p n = filter-ascends p (range_with_len 0 n) (range-ascends 0 n)

-- Words that were packed.

-- in all, and into one region
abbrev pub words_packed : (Name → ℕ) → List Packed → ℕ
words_packed f ks = sum_by (λ (k : Packed). f k.name) ks

abbrev pub words_into : (Name → ℕ) → List Packed → ℕ → ℕ
words_into f ks q = sum_by f (names_packed_into ks q)

names-other : (k : Packed) (ks : List Packed) (q : ℕ) → (k.region == q) ≡ false → names_packed_into (k ∷ ks) q ≡ names_packed_into ks q
names-other k ks q other = ap (λ (b : Bool). map (λ (l : Packed). l.name) (cond b (k ∷ filter (λ l. l.region == q) ks) (filter (λ l. l.region == q) ks))) other

names-here : (k : Packed) (ks : List Packed) (q : ℕ) → (k.region == q) ≡ true → names_packed_into (k ∷ ks) q ≡ k.name ∷ names_packed_into ks q
names-here k ks q here = ap (λ (b : Bool). map (λ (l : Packed). l.name) (cond b (k ∷ filter (λ l. l.region == q) ks) (filter (λ l. l.region == q) ks))) here

into-here : (f : Name → ℕ) (k : Packed) (ks : List Packed) (q : ℕ) → k.region ≡ q → words_into f (k ∷ ks) q ≡ f k.name + words_into f ks q
into-here f k ks q here = ap (sum_by f) (names-here k ks q (eq-eqb k.region q here)) ∙ sum_by-cons f k.name (names_packed_into ks q)

other-later : (k : Packed) (q r : ℕ) → k.region ≡ q → q < r → (k.region == r) ≡ false
other-later k q r here later = ne_eqb k.region r (λ same. omega (arith, here, later, same))

-- the region that was packed last, where one was begun before
abbrev pub last_region : ℕ → List Packed → ℕ
last_region q [] = q
last_region q (k ∷ ks) = last_region k.region ks

pub last-is : (k : Packed) (ks : List Packed) → last_packed (k ∷ ks) ≡ Some (last_region k.region ks)
last-is k [] = refl
last-is k (l ∷ ks) = last-is l ks

-- How far.

-- what was in a region before: the first had some words already
abbrev pub begun_with : ℕ → ℕ → ℕ
begun_with zero filled = filled
begun_with (suc before) filled = 0

begun-with_none : (before : ℕ) → begun_with before 0 ≡ 0
begun-with_none zero = refl
begun-with_none (suc before) = refl

-- so many of the regions were filled, the next one has these words, and those behind it have none
pub record IsBegun (f : Name → ℕ) (least q : ℕ) (rest : List ℕ) (filled : ℕ) (ks : List Packed) : Type 0 where
  pub before : ℕ
  pub used : ℕ
  pub within : before ≤ length rest
  pub words : before * suc least + used ≤ filled + words_packed f ks
  pub used_is : used ≡ begun_with before filled + words_into f ks (get_or (q ∷ rest) before 0)
  pub last : last_region q ks ≡ get_or (q ∷ rest) before 0
  pub later : AllByRecursion (λ (r : ℕ). IsTrue (is_empty (names_packed_into ks r))) (drop before rest)

abbrev pub AreFilled : (Name → ℕ) → ℕ → List ℕ → ℕ → List Packed → Type 0
AreFilled f least rest filled ks = suc (length rest) * suc least ≤ filled + words_packed f ks

each-true : (P : ℕ → Type 0) → ((r : ℕ) → P r) → (rs : List ℕ) → AllByRecursion P rs
each-true P all [] = tt
each-true P all (r ∷ rs) = (all r, each-true P all rs)

-- an object more in the first region: how many words each region has then
into-more : (f : Name → ℕ) (q : ℕ) (rest : List ℕ) (k : Packed) (ks : List Packed) (filled total before : ℕ) → AllByRecursion (λ (r : ℕ). q < r) rest → k.region ≡ q
    → total ≡ filled + f k.name → before ≤ length rest
    → begun_with before total + words_into f ks (get_or (q ∷ rest) before 0) ≡ begun_with before filled + words_into f (k ∷ ks) (get_or (q ∷ rest) before 0)
into-more f q rest k ks filled total zero above here sum within = let e = into-here f k ks q here in omega (arith, e, sum)
into-more f q rest k ks filled total (suc before) above here sum within =
    let r = get_or rest before 0 in
    let later : q < r = All-from_recursion (λ (r : ℕ). q < r) rest above before 0 (omega (arith, within)) in
    ap (λ (names : List Name). 0 + sum_by f names) (sym (names-other k ks r (other-later k q r here later)))

-- and those behind stay without any
later-more : (q : ℕ) (rs : List ℕ) (k : Packed) (ks : List Packed) → AllByRecursion (λ (r : ℕ). q < r) rs → k.region ≡ q
    → AllByRecursion (λ (r : ℕ). IsTrue (is_empty (names_packed_into ks r))) rs → AllByRecursion (λ (r : ℕ). IsTrue (is_empty (names_packed_into (k ∷ ks) r))) rs
later-more q rs k ks above here none =
    each-goes (λ (r : ℕ). (q < r) × IsTrue (is_empty (names_packed_into ks r))) (λ (r : ℕ). IsTrue (is_empty (names_packed_into (k ∷ ks) r)))
    (λ r h. ap is_empty (names-other k ks r (other-later k q r here h.0)) ∙ h.1) rs
    (each-both (λ (r : ℕ). q < r) (λ (r : ℕ). IsTrue (is_empty (names_packed_into ks r))) rs above none)

head-same : (q r : ℕ) (qs rs : List ℕ) → q ∷ qs ≡ r ∷ rs → q ≡ r
head-same q r qs rs h = cc

tail-same : (q r : ℕ) (qs rs : List ℕ) → q ∷ qs ≡ r ∷ rs → qs ≡ rs
tail-same q r qs rs h = cc

-- an object that fits into the first region
fits-here : (f : Name → ℕ) (least q : ℕ) (rest : List ℕ) (filled : ℕ) (k : Packed) (ks : List Packed) → Ascend (q ∷ rest) → k.region ≡ q
    → AreFilled f least rest (filled + f k.name) ks ⊎ IsBegun f least q rest (filled + f k.name) ks
    → AreFilled f least rest filled (k ∷ ks) ⊎ IsBegun f least q rest filled (k ∷ ks)
fits-here f least q rest filled k ks up here far =
    let more : words_packed f (k ∷ ks) ≡ f k.name + words_packed f ks = sum_by-cons (λ (l : Packed). f l.name) k ks in
    elim far [
      | inl all ↦ inl (omega (arith, more, all))
      | inr b ↦ inr (record {
        before = b.before;
        used = b.used;
        within = b.within;
        words = omega (arith, more, b.words);
        used_is = b.used_is ∙ into-more f q rest k ks filled (filled + f k.name) b.before up.0 here refl b.within;
        last = ap (λ (r : ℕ). last_region r ks) here ∙ b.last;
        later = later-more q (drop b.before rest) k ks (each-drop (λ (r : ℕ). q < r) b.before rest up.0) here b.later;
      })
    ]

-- one that goes to the next region
fits-next : (f : Name → ℕ) (least q r : ℕ) (rest : List ℕ) (filled : ℕ) (k : Packed) (ks : List Packed) → Ascend (r ∷ rest) → k.region ≡ r → suc least ≤ filled
    → AreFilled f least rest (f k.name) ks ⊎ IsBegun f least r rest (f k.name) ks
    → AreFilled f least (r ∷ rest) filled (k ∷ ks) ⊎ IsBegun f least q (r ∷ rest) filled (k ∷ ks)
fits-next f least q r rest filled k ks up here full far =
    let more : words_packed f (k ∷ ks) ≡ f k.name + words_packed f ks = sum_by-cons (λ (l : Packed). f l.name) k ks in
    elim far [
      | inl all ↦ (
          let one : suc (suc (length rest)) * suc least ≡ suc (length rest) * suc least + suc least = suc-mul (suc (length rest)) (suc least) in
          inl (omega (arith, more, all, one, full))
          )
      | inr b ↦ (
          let one : suc b.before * suc least ≡ b.before * suc least + suc least = suc-mul b.before (suc least) in
          let words : b.before * suc least + b.used ≤ f k.name + words_packed f ks = b.words in
          let used : begun_with b.before (f k.name) + words_into f ks (get_or (r ∷ rest) b.before 0) ≡ begun_with b.before 0 + words_into f (k ∷ ks) (get_or (r ∷ rest) b.before 0) =
          into-more f r rest k ks 0 (f k.name) b.before up.0 here (omega arith) b.within in
          inr (record {
            before = suc b.before;
            used = b.used;
            within = omega (arith, b.within);
            words = omega (arith, more, words, one, full);
            used_is = b.used_is ∙ (used ∙ ap (λ (n : ℕ). n + words_into f (k ∷ ks) (get_or (r ∷ rest) b.before 0)) (begun-with_none b.before));
            last = ap (λ (p : ℕ). last_region p ks) here ∙ b.last;
            later = later-more r (drop b.before rest) k ks (each-drop (λ (p : ℕ). r < p) b.before rest up.0) here b.later;
          })
          )
    ]

-- the next region is taken exactly if the object doesn't fit
next-or-here : {A : Type 0} (t : Bool) (w filled room p q r : ℕ) (ps qs rs : List ℕ) → leb (filled + w) room ≡ t → p ∷ ps ≡ cond t (q ∷ qs) (r ∷ rs)
    → (p ≡ q → ps ≡ qs → A) → (p ≡ r → ps ≡ rs → room < filled + w → A) → A
next-or-here true w filled room p q r ps qs rs test is here next = here (head-same p q ps qs is) (tail-same p q ps qs is)
next-or-here false w filled room p q r ps qs rs test is here next =
    next (head-same p r ps rs is) (tail-same p r ps rs is) (leb-false (filled + w) room test)

pub how-far : (f : Name → ℕ) (room least largest q : ℕ) (rest : List ℕ) (filled : ℕ) (ks : List Packed) → room ≡ least + largest → Ascend (q ∷ rest)
    → AllByRecursion (λ (k : Packed). f k.name ≤ largest) ks
    → map (λ (k : Packed). k.region) ks ≡ next_fit room (q ∷ rest) filled (map (λ (k : Packed). f k.name) ks)
    → AreFilled f least rest filled ks ⊎ IsBegun f least q rest filled ks
how-far f room least largest q rest filled [] size up few is =
    inr (record {
      before = 0;
      used = filled;
      within = omega arith;
      words = omega arith;
      used_is = omega arith;
      last = refl;
      later = each-true (λ (r : ℕ). IsTrue (is_empty (names_packed_into [] r))) (λ r. refl) rest;
    })
how-far f room least largest q [] filled (k ∷ ks) size up few is =
    let w = f k.name in
    let small : w ≤ largest = few.0 in
    let one : suc 0 * suc least ≡ 0 * suc least + suc least = suc-mul 0 (suc least) in
    next-or-here (leb (filled + w) room) w filled room k.region q 0 (map (λ (k : Packed). k.region) ks)
    (next_fit room (q ∷ []) (filled + w) (map (λ (k : Packed). f k.name) ks)) (next_fit room [] w (map (λ (k : Packed). f k.name) ks)) refl is
    (λ here same. fits-here f least q [] filled k ks up here (how-far f room least largest q [] (filled + w) ks size up few.1 same))
    (λ next same over. inl (omega (arith, one, small, over, size)))
how-far f room least largest q (r ∷ rest) filled (k ∷ ks) size up few is =
    let w = f k.name in
    let small : w ≤ largest = few.0 in
    next-or-here (leb (filled + w) room) w filled room k.region q r (map (λ (k : Packed). k.region) ks)
    (next_fit room (q ∷ r ∷ rest) (filled + w) (map (λ (k : Packed). f k.name) ks)) (next_fit room (r ∷ rest) w (map (λ (k : Packed). f k.name) ks)) refl is
    (λ here same. fits-here f least q (r ∷ rest) filled k ks up here (how-far f room least largest q (r ∷ rest) (filled + w) ks size up few.1 same))
    (λ next same over. fits-next f least q r rest filled k ks up.1 next (omega (arith, small, over, size))
    (how-far f room least largest r rest w ks size up.1 few.1 same))
