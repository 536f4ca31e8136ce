-- The starts of a table's objects: which they are, that they ascend, and one more of them.
use Rattle.std.proofs.Common.{◌≡◌, ℕ, zero, suc, ◌+◌, ◌-◌, ◌<◌, ◌≤◌, ◌⊎◌, inl, inr, Bool, true, false, cond, List, [], ◌∷◌, ◌++◌, length, map, refl, ap, sym, subst, ◌∙◌, arith, length-append}
use Rattle.std.specs.Prelude.{◌↔◌, IsTrue, is_some, nat_eq}
use Rattle.std.specs.List.{filter, range_with_len, sum_by}
use Rattle.std.proofs.lemmas.Bool.{eq-eqb, eqb-true, false≢true, ne_eqb}
use Rattle.std.proofs.lemmas.List.{append-nil}
use Rattle.std.proofs.lemmas.List.Elements.{filter-append}
use Rattle.std.proofs.lemmas.List.FromFn.{length-range_with_len}
use Rattle.std.proofs.lemmas.List.Sums.{count_by-le-length, length-filter, sum_by_push}
use Rattle.bal_base.specs.Bits.{IsAscending}
use Rattle.bal_base.proofs.Lemmas.{among-cases, among-first, among-later, filter-ascends, member-below, member-passes, member-there}
use Rattle.bal_layout.specs.Addresses.{region_of}
use Rattle.bal_layout.specs.Regions.{is_in}
use Rattle.bal_table.specs.Table.{Table, things_of}
use Rattle.bal_plan.specs.Plan.{IsObject, objects_into, starts_below, words_at, words_into}

-- an object starts there
abbrev pub is_start : Table → ℕ → Bool
is_start t a = is_some (things_of t a)

-- Which they are.

pub listed-object : (t : Table) (at a : ℕ) → IsTrue (is_in a (starts_below t at)) → IsObject t a × (a < at)
listed-object t at a among = ((member-passes (is_start t) 0 at a among).0, omega (arith, member-below (is_start t) 0 at a among))

pub object-listed : (t : Table) (at a : ℕ) → IsObject t a → a < at → IsTrue (is_in a (starts_below t at))
object-listed t at a object less = member-there (is_start t) 0 at a (omega arith) (omega (arith, less)) object

pub starts-are : (t : Table) (at a : ℕ) → IsTrue (is_in a (starts_below t at)) ↔ (IsObject t a × (a < at))
starts-are t at a = (listed-object t at a, λ is. object-listed t at a is.0 is.1)

pub starts-ascend : (t : Table) (at : ℕ) → IsAscending (starts_below t at)
starts-ascend t at = filter-ascends (is_start t) 0 at

-- More of them.

range-split : (a n m : ℕ) → range_with_len a (n + m) ≡ range_with_len a n ++ range_with_len (a + n) m
range-split a zero m =
    let none : a ≡ a + zero = omega arith in
    let all : zero + m ≡ m = omega arith in
    ap (range_with_len a) all ∙ ap (λ k. range_with_len k m) none
range-split a (suc n) m =
    let one : suc n + m ≡ suc (n + m) = omega arith in
    let next : (a + 1) + n ≡ a + suc n = omega arith in
    ap (range_with_len a) one ∙ ap (λ (l : List ℕ). a ∷ l) (range-split (a + 1) n m ∙ ap (λ k. range_with_len (a + 1) n ++ range_with_len k m) next)

-- those below an address are those below an earlier one, and some behind them
pub starts-split : (t : Table) (from to : ℕ) → from ≤ to
    → starts_below t to ≡ starts_below t from ++ filter (is_start t) (range_with_len from (to - from))
starts-split t from to le =
    let parts : to ≡ from + (to - from) = omega (arith, le) in
    let start : 0 + from ≡ from = omega arith in
    ap (λ k. filter (is_start t) (range_with_len 0 k)) parts
    ∙ (ap (filter (is_start t)) (range-split 0 from (to - from))
    ∙ (ap (λ k. filter (is_start t) (range_with_len 0 from ++ range_with_len k (to - from))) start
    ∙ filter-append (is_start t) (range_with_len 0 from) (range_with_len from (to - from))))

pub starts-fewer : (t : Table) (from to : ℕ) → from ≤ to → length (starts_below t from) ≤ length (starts_below t to)
starts-fewer t from to le = omega (
  arith,
  ap (λ (l : List ℕ). length l) (starts-split t from to le),
  length-append (starts_below t from) (filter (is_start t) (range_with_len from (to - from))),
)

-- no more than there are addresses
pub starts-few : (t : Table) (at : ℕ) → length (starts_below t at) ≤ at
starts-few t at = omega (
  arith,
  length-filter (is_start t) (range_with_len 0 at),
  count_by-le-length (is_start t) (range_with_len 0 at),
  length-range_with_len 0 at,
)

-- an object more
pub starts-next : (t : Table) (a : ℕ) → IsObject t a → starts_below t (a + 1) ≡ starts_below t a ++ a ∷ []
starts-next t a object =
    let one : (a + 1) - a ≡ suc zero = omega arith in
    starts-split t a (a + 1) (omega arith)
    ∙ (ap (λ k. starts_below t a ++ filter (is_start t) (range_with_len a k)) one
    ∙ ap (λ b. starts_below t a ++ cond b (a ∷ []) []) object)

-- none starts between
nothing : (p : ℕ → Bool) (a n : ℕ) → ((b : ℕ) → a ≤ b → b < a + n → IsTrue (p b) → ⊥) → filter p (range_with_len a n) ≡ []
nothing p a zero none = refl
nothing p a (suc n) none = by (p a) refl (nothing p (a + 1) n (λ b from to. none b (omega (arith, from)) (omega (arith, to))))
  where
    by : (b : Bool) → p a ≡ b → filter p (range_with_len (a + 1) n) ≡ [] → cond b (a ∷ filter p (range_with_len (a + 1) n)) (filter p (range_with_len (a + 1) n)) ≡ []
    by true passes rest = absurd (none a (omega arith) (omega arith) passes)
    by false fails rest = rest

pub starts-gap : (t : Table) (from to : ℕ) → from ≤ to → ((a : ℕ) → from ≤ a → a < to → IsObject t a → ⊥) → starts_below t to ≡ starts_below t from
starts-gap t from to le none =
    starts-split t from to le
    ∙ (ap (λ l. starts_below t from ++ l) (nothing (is_start t) from (to - from) (λ b low high. none b low (omega (arith, low, high, le))))
    ∙ append-nil (starts_below t from))

-- Lists of which each member is told the same.

pub filter-same : (p q : ℕ → Bool) (xs : List ℕ) → ((s : ℕ) → IsTrue (is_in s xs) → p s ≡ q s) → filter p xs ≡ filter q xs
filter-same p q [] same = refl
filter-same p q (x ∷ xs) same =
    ap (λ b. cond b (x ∷ filter p xs) (filter p xs)) (same x (among-first x xs))
    ∙ ap (λ (l : List ℕ). cond (q x) (x ∷ l) l) (filter-same p q xs (λ s among. same s (among-later x s xs among)))

pub map-same : {A : Type 0} (f g : ℕ → A) (xs : List ℕ) → ((s : ℕ) → IsTrue (is_in s xs) → f s ≡ g s) → map f xs ≡ map g xs
map-same f g [] same = refl
map-same f g (x ∷ xs) same =
    ap (λ y. y ∷ map f xs) (same x (among-first x xs)) ∙ ap (λ l. g x ∷ l) (map-same f g xs (λ s among. same s (among-later x s xs among)))

-- none passes
pub filter-none : (p : ℕ → Bool) (xs : List ℕ) → ((s : ℕ) → IsTrue (is_in s xs) → p s ≡ false) → filter p xs ≡ []
filter-none p [] none = refl
filter-none p (x ∷ xs) none =
    ap (λ b. cond b (x ∷ filter p xs) (filter p xs)) (none x (among-first x xs)) ∙ filter-none p xs (λ s among. none s (among-later x s xs among))

-- a member passes, and was one before
pub filter-member : (p : ℕ → Bool) (xs : List ℕ) (s : ℕ) → IsTrue (is_in s (filter p xs)) → IsTrue (p s) × IsTrue (is_in s xs)
filter-member p [] s among = absurd (false≢true among)
filter-member p (x ∷ xs) s among = by (λ later. let found = filter-member p xs s later in (found.0, among-later x s xs found.1)) (p x) refl among
  where
    by : (IsTrue (is_in s (filter p xs)) → IsTrue (p s) × IsTrue (is_in s (x ∷ xs))) → (b : Bool) → p x ≡ b
        → IsTrue (is_in s (cond b (x ∷ filter p xs) (filter p xs))) → IsTrue (p s) × IsTrue (is_in s (x ∷ xs))
    by rest true passes among = elim (among-cases x s (filter p xs) among) [
      | inl here ↦ subst (λ n. IsTrue (p n) × IsTrue (is_in n (x ∷ xs))) here (passes, among-first x xs)
      | inr later ↦ rest later
    ]
    by rest false fails among = rest among

pub member-filter : (p : ℕ → Bool) (xs : List ℕ) (s : ℕ) → IsTrue (p s) → IsTrue (is_in s xs) → IsTrue (is_in s (filter p xs))
member-filter p [] s passes among = absurd (false≢true among)
member-filter p (x ∷ xs) s passes among = by (λ later. member-filter p xs s passes later) (p x) refl (among-cases x s xs among)
  where
    by : (IsTrue (is_in s xs) → IsTrue (is_in s (filter p xs))) → (b : Bool) → p x ≡ b → (x ≡ s) ⊎ IsTrue (is_in s xs)
        → IsTrue (is_in s (cond b (x ∷ filter p xs) (filter p xs)))
    by rest true is (inl here) = subst (λ n. IsTrue (is_in n (x ∷ filter p xs))) here (among-first x (filter p xs))
    by rest false is (inl here) = absurd (false≢true (sym is ∙ (ap p here ∙ passes)))
    by rest true is (inr later) = among-later x s (filter p xs) (rest later)
    by rest false is (inr later) = rest later

-- The objects that go to a region.

pub into-are : (t : Table) (to : ℕ → ℕ) (at q a : ℕ)
    → IsTrue (is_in a (objects_into t to at q)) ↔ (IsObject t a × (a < at) × (region_of t.shape (to a) ≡ q))
into-are t to at q a = (there, back)
  where
    there : IsTrue (is_in a (objects_into t to at q)) → IsObject t a × (a < at) × (region_of t.shape (to a) ≡ q)
    there among =
        let found = filter-member (λ b. nat_eq (region_of t.shape (to b)) q) (starts_below t at) a among in
        let object = listed-object t at a found.1 in
        (object.0, object.1, eqb-true (region_of t.shape (to a)) q found.0)

    back : IsObject t a × (a < at) × (region_of t.shape (to a) ≡ q) → IsTrue (is_in a (objects_into t to at q))
    back is =
        member-filter (λ b. nat_eq (region_of t.shape (to b)) q) (starts_below t at) a (eq-eqb (region_of t.shape (to a)) q is.2) (object-listed t at a is.0 is.1)

-- they are the same where those below go to the same places
pub into-same : (t : Table) (old new : ℕ → ℕ) (at q : ℕ) → ((b : ℕ) → IsObject t b → b < at → new b ≡ old b) → objects_into t new at q ≡ objects_into t old at q
into-same t old new at q same =
    filter-same (λ a. nat_eq (region_of t.shape (new a)) q) (λ a. nat_eq (region_of t.shape (old a)) q) (starts_below t at)
    (λ b among. let is = listed-object t at b among in ap (λ p. nat_eq (region_of t.shape p) q) (same b is.0 is.1))

pub words-same : (t : Table) (old new : ℕ → ℕ) (at q : ℕ) → ((b : ℕ) → IsObject t b → b < at → new b ≡ old b) → words_into t new at q ≡ words_into t old at q
words-same t old new at q same = ap (sum_by (words_at t)) (into-same t old new at q same)

-- and none starts between
pub into-gap : (t : Table) (to : ℕ → ℕ) (low high q : ℕ) → low ≤ high → ((a : ℕ) → low ≤ a → a < high → IsObject t a → ⊥)
    → objects_into t to high q ≡ objects_into t to low q
into-gap t to low high q le none = ap (filter (λ a. nat_eq (region_of t.shape (to a)) q)) (starts-gap t low high le none)

-- an object more goes to a region, and to no other
pub into-next : (t : Table) (to : ℕ → ℕ) (a : ℕ) → IsObject t a → objects_into t to (a + 1) (region_of t.shape (to a)) ≡ objects_into t to a (region_of t.shape (to a)) ++ a ∷ []
into-next t to a object =
    let q = region_of t.shape (to a) in
    ap (filter (λ b. nat_eq (region_of t.shape (to b)) q)) (starts-next t a object)
    ∙ (filter-append (λ b. nat_eq (region_of t.shape (to b)) q) (starts_below t a) (a ∷ [])
    ∙ ap (λ b. objects_into t to a q ++ cond b (a ∷ []) []) (eq-eqb q q refl))

pub into-other : (t : Table) (to : ℕ → ℕ) (a q : ℕ) → IsObject t a → (region_of t.shape (to a) ≡ q → ⊥) → objects_into t to (a + 1) q ≡ objects_into t to a q
into-other t to a q object other =
    ap (filter (λ b. nat_eq (region_of t.shape (to b)) q)) (starts-next t a object)
    ∙ (filter-append (λ b. nat_eq (region_of t.shape (to b)) q) (starts_below t a) (a ∷ [])
    ∙ (ap (λ b. objects_into t to a q ++ cond b (a ∷ []) []) (ne_eqb (region_of t.shape (to a)) q other) ∙ append-nil (objects_into t to a q)))

pub words-next : (t : Table) (to : ℕ → ℕ) (a : ℕ) → IsObject t a
    → words_into t to (a + 1) (region_of t.shape (to a)) ≡ words_into t to a (region_of t.shape (to a)) + words_at t a
words-next t to a object =
    ap (sum_by (words_at t)) (into-next t to a object) ∙ sum_by_push (words_at t) (objects_into t to a (region_of t.shape (to a))) a

pub words-other : (t : Table) (to : ℕ → ℕ) (a q : ℕ) → IsObject t a → (region_of t.shape (to a) ≡ q → ⊥) → words_into t to (a + 1) q ≡ words_into t to a q
words-other t to a q object other = ap (sum_by (words_at t)) (into-other t to a q object other)
