-- Each event that may come on a board of a run has a line: its numbers are in range, and what has to ascend does.
use Rattle.std.proofs.Common.{◌≡◌, ◌<◌, ◌≤◌, ◌+◌, ◌*◌, ◌/◌, ◌%◌, ◌==◌, ◌&&◌, ◌||◌, not, ℕ, zero, suc, List, [], ◌∷◌, ◌++◌, Bool, true, false, cond, Option, Some, None, length, filter, map, get_or, refl, ap, sym, subst, ◌∙◌, arith, eqb-true, lt-ltb, inl, inr, add-mul}
use Rattle.std.specs.Prelude.{◌^◌, IsTrue, IfSome, nat_lt, slice_get}
use Rattle.std.specs.List.{AllByRecursion, list_any, range_with_len}
use Rattle.std.proofs.Math.Nat.{div-lt_iff_lt-mul, mod-lt, mul-le-mul_right, mul_left_comm}
use Rattle.std.proofs.lemmas.Bool.{and_from, and_parts, false≢true, or_cases}
use Rattle.std.proofs.lemmas.List.{length-map}
use Rattle.bal_layout.specs.Names.{is_among, is_before, same_name}
use Rattle.bal_layout.specs.Regions.{all_regions, free_regions, is_in}
use Rattle.bal_layout.specs.Shape.{IsShape, Shape, region_sizes}
use Rattle.bal_layout.specs.declared.name.Abort.{Abort}
use Rattle.bal_layout.specs.declared.name.Abort.TheVariants as abort
use Rattle.bal_layout.specs.declared.name.Name.{Name}
use Rattle.bal_model.specs.declared.config.Config.{Config}
use Rattle.bal_model.specs.declared.event.How.{How}
use Rattle.bal_model.specs.declared.event.How.TheVariants as how
use Rattle.bal_model.specs.declared.event.Kept.{Kept}
use Rattle.bal_model.specs.declared.event.Packed.{Packed}
use Rattle.bal_model.specs.Entries.{note, partial, mark, end, global}
use Rattle.bal_model.specs.Kept.{kept_names}
use Rattle.bal_model.specs.Plain.{Object, State, made_by, mutator, object, object_at, reference, refs, refs_of}
use Rattle.bal_model.proofs.Lemmas.{ends-filter, from-filter, is_among-head, is_among-tail, same_name-eq}
use Rattle.bal_rules.specs.Board.{Board, Cycle, Placed, is_present, names_placed, place_of}
use Rattle.bal_rules.specs.Choice.{choice, is_chosen, lies_at}
use Rattle.bal_rules.specs.GlobalEvents.{IsGlobal, names_packed}
use Rattle.bal_rules.specs.MarkEvents.{AreOpen, InCycle, IsEnd, IsMark, IsMarkStep, IsSweep, cycle_with_listed}
use Rattle.bal_rules.specs.NoteEvents.{IsNote, Slot, is_card_in, is_card_of, lies_outside, refers_into}
use Rattle.bal_rules.specs.Packing.{IsEvacuation, crew, is_drained, is_wished, ordered_causes}
use Rattle.bal_rules.specs.PartialEvents.{IsPartial, lands_in, names_kept, placed_in}
use Rattle.bal_rules.specs.Range.{IsObjectInRange, AreObjectsInRange, IsPlacedWithin, IsWithinRegions}
use Rattle.bal_rules.specs.Sound.{IsAscending, IsMade, IsSound}
use Rattle.bal_rules.proofs.Lemmas.{all-below, among-placed-filter, ascending-filter, each-append, each-at, each-both, each-filter, each-from_map, each-goes, each-in, each-map, filter-shorter, free-below, keeping, kept-ascends, mutator-in-range, packed-survive, packed-within, range-below}
use Rattle.bal_text.specs.Lines.{HasLine, IsCause, IsHow, IsKept, IsName, IsPacked, IsRegion, IsRising, IsWorker, ascends, is_cause_before, is_kept_before}

-- what a board of a run has, where the trace is in range
pub record IsInRange (c : Config) (b : Board) : Type 0 where
  pub shape : IsShape c.geometry
  pub workers : c.workers ≤ 32
  pub sound : IsSound b
  pub within : IsWithinRegions c.geometry.regions b
  pub objects : AreObjectsInRange b.plain
  pub made : (t : ℕ) → made_by b.plain t ≤ 2 ^ 20
  pub present : length b.present ≤ 2 ^ 20

-- Names.

pub small-name : (x : Name) → x.thread < 32 → 1 ≤ x.ordinal → x.ordinal ≤ 2 ^ 20 → IsName x
small-name x thread first last = grind arith

made-name : (c : Config) (b : Board) (x : Name) → IsInRange c b → IsMade b.plain x → IsName x
made-name c b x h is = small-name x is.thread is.first (omega (arith, is.last, h.made x.thread))

pub present-name : (c : Config) (b : Board) (x : Name) → IsInRange c b → IsTrue (is_present b x) → IsName x
present-name c b x h here = made-name c b x h (h.sound.made x here)

-- what holds of each name that is among others holds of each of them
each-among : (P : Name → Type 0) (xs : List Name) → ((x : Name) → IsTrue (is_among x xs) → P x) → AllByRecursion P xs
each-among P [] h = tt
each-among P (x ∷ xs) h = (h x (is_among-head x xs), each-among P xs (λ y i. h y (is_among-tail y x xs i)))

pub each-present : (c : Config) (b : Board) (xs : List Name) → IsInRange c b → ((x : Name) → IsTrue (is_among x xs) → IsTrue (is_present b x)) → AllByRecursion IsName xs
each-present c b xs h here = each-among IsName xs (λ x i. present-name c b x h (here x i))

-- Lists that ascend.

ascends-names : (xs : List Name) → IsAscending xs → ascends is_before xs ≡ true
ascends-names [] h = refl
ascends-names (x ∷ []) h = refl
ascends-names (x ∷ y ∷ xs) h = and_from (is_before x y) (ascends is_before (y ∷ xs)) h.0 (ascends-names (y ∷ xs) h.1)

ascends-kept : (ks : List Kept) → IsAscending (names_kept ks) → ascends is_kept_before ks ≡ true
ascends-kept [] h = refl
ascends-kept (k ∷ []) h = refl
ascends-kept (k ∷ l ∷ ks) h = and_from (is_before k.name l.name) (ascends is_kept_before (l ∷ ks)) h.0 (ascends-kept (l ∷ ks) h.1)

-- an item before each of some that ascend
ascends-cons : {A : Type 0} (before : A → A → Bool) (x : A) (xs : List A) → AllByRecursion (λ (y : A). before x y ≡ true) xs → ascends before xs ≡ true → ascends before (x ∷ xs) ≡ true
ascends-cons before x [] h k = refl
ascends-cons before x (y ∷ ys) h k = and_from (before x y) (ascends before (y ∷ ys)) h.0 k

range-after : (a m n : ℕ) → a < m → AllByRecursion (λ (q : ℕ). nat_lt a q ≡ true) (range_with_len m n)
range-after a m zero h = tt
range-after a m (suc n) h = (lt-ltb a m h, range-after a (m + 1) n (omega arith))

ascends-range : (p : ℕ → Bool) (a n : ℕ) → ascends nat_lt (filter p (range_with_len a n)) ≡ true
ascends-range p a zero = refl
ascends-range p a (suc n) = by (p a) (ascends-range p (a + 1) n)
  where
    by : (b : Bool) → ascends nat_lt (filter p (range_with_len (a + 1) n)) ≡ true → ascends nat_lt (cond b (a ∷ filter p (range_with_len (a + 1) n)) (filter p (range_with_len (a + 1) n))) ≡ true
    by true h = ascends-cons nat_lt a (filter p (range_with_len (a + 1) n))
        (each-filter (λ (q : ℕ). nat_lt a q ≡ true) p (range_with_len (a + 1) n) (range-after a (a + 1) n (omega arith))) h
    by false h = h

-- Regions.

pub small-region : (c : Config) (q : ℕ) → IsShape c.geometry → q < c.geometry.regions → IsRegion q
small-region c q shape h = omega (arith, shape.most_regions)

pub each-region : (c : Config) (qs : List ℕ) → IsShape c.geometry → AllByRecursion (λ (q : ℕ). q < c.geometry.regions) qs → AllByRecursion IsRegion qs
each-region c qs shape h = each-goes (λ (q : ℕ). q < c.geometry.regions) IsRegion (λ q less. small-region c q shape less) qs h

-- Notes.

-- where a name lies has what holds of each place
place-has : (P : Placed → Type 0) (ps : List Placed) (x : Name) → AllByRecursion P ps → IfSome (place_of ps x) P
place-has P [] x h = tt
place-has P (p ∷ ps) x h = by (same_name p.name x) (place-has P ps x h.1)
  where
    by : (b : Bool) → IfSome (place_of ps x) P → IfSome (cond b (Some p) (place_of ps x)) P
    by true rest = h.0
    by false rest = rest

-- what lies outside of a region is present
outside-present : (ps : List Placed) (x : Name) (q : ℕ) → IsTrue (lies_outside (place_of ps x) q) → IsTrue (is_among x (names_placed ps))
outside-present [] x q h = absurd (false≢true h)
outside-present (p ∷ ps) x q h = by (same_name p.name x) refl h (outside-present ps x q)
  where
    by : (b : Bool) → same_name p.name x ≡ b → IsTrue (lies_outside (cond b (Some p) (place_of ps x)) q)
        → (IsTrue (lies_outside (place_of ps x) q) → IsTrue (is_among x (names_placed ps))) → IsTrue (same_name x p.name || is_among x (names_placed ps))
    by true same h rest = subst (λ (y : Name). IsTrue (is_among y (p.name ∷ names_placed ps))) (same_name-eq p.name x same) (is_among-head p.name (names_placed ps))
    by false same h rest = is_among-tail x p.name (names_placed ps) (rest h)

lies-within : (n q : ℕ) (o : Option Placed) → IfSome o (IsPlacedWithin n) → IsTrue (lies_at o q) → q < n
lies-within n q None h at = absurd (false≢true at)
lies-within n q (Some p) h at = omega (arith, h.region, eqb-true p.region q at)

refers-within : (c : Config) (b : Board) (q : ℕ) (o : Option Name) → IsInRange c b → IsTrue (refers_into b q o) → q < c.geometry.regions
refers-within c b q None h at = absurd (false≢true at)
refers-within c b q (Some x) h at = lies-within c.geometry.regions q (place_of b.present x) (place-has (IsPlacedWithin c.geometry.regions) b.present x h.within.placed) at

-- a reference that isn't null stands in a slot
read-within : (content : List (Option Name)) (i : ℕ) (b : Board) (q : ℕ) → IsTrue (refers_into b q (get_or content i None)) → i < length content
read-within [] i b q h = absurd (false≢true h)
read-within (x ∷ xs) zero b q h = omega arith
read-within (x ∷ xs) (suc i) b q h = let less = read-within xs i b q h in omega arith

get-has : {A : Type 0} (P : A → Type 0) (xs : List A) (i : ℕ) → AllByRecursion P xs → IfSome (slice_get xs i) P
get-has P [] i h = tt
get-has P (x ∷ xs) zero h = h.0
get-has P (x ∷ xs) (suc i) h = get-has P xs i h.1

pub object-has : (s : State) (x : Name) → AreObjectsInRange s → IfSome (object s x) IsObjectInRange
object-has s x h = by x.ordinal
  where
    by : (o : ℕ) → IfSome (object_at (mutator s x.thread).made o) IsObjectInRange
    by zero = tt
    by (suc i) = get-has IsObjectInRange (mutator s x.thread).made i (mutator-in-range s x.thread h)

few-slots : (o : Option Object) → IfSome o IsObjectInRange → length (refs_of o) < 2 ^ 24
few-slots None h = omega arith
few-slots (Some o) h = h.refs

-- a number of words is one of nine
one-of : (P : ℕ → Type 0) (items : List ℕ) (n : ℕ) → AllByRecursion P items → IsTrue (list_any (λ item. item == n) items) → P n
one-of P [] n all is = absurd (false≢true is)
one-of P (x ∷ xs) n all is = elim (or_cases (x == n) (list_any (λ item. item == n) xs) is) [
  | inl same ↦ subst P (eqb-true x n same) all.0
  | inr other ↦ one-of P xs n all.1 other
]

whole-cards : (s : Shape) → IsShape s → s.words ≡ 64 * (s.words / 64)
whole-cards s shape =
    one-of (λ (n : ℕ). n ≡ 64 * (n / 64)) region_sizes s.words (refl, (refl, (refl, (refl, (refl, (refl, (refl, (refl, (refl, tt))))))))) shape.power_of_two

-- there are fewer than 2^18 cards
cards-in-regions : (s : Shape) (card q : ℕ) → IsShape s → card / (s.words / 64) ≡ q → q < s.regions → card < 2 ^ 18
cards-in-regions s card q shape at less =
    let m = s.words / 64 in
    let whole : s.words ≡ 64 * m = whole-cards s shape in
    let some : 0 < m = omega (arith, whole, shape.fewest_words) in
    let below : card < s.regions * m = (div-lt_iff_lt-mul {k = m} {x = card} {y = s.regions} some).0 (omega (arith, at)) in
    let all : s.regions * s.words ≡ 64 * (s.regions * m) = ap (λ (w : ℕ). s.regions * w) whole ∙ mul_left_comm s.regions 64 m in
    omega (arith, below, all, shape.words_in_all)

cards-in-leaves : (s : Shape) (leaf i : ℕ) → IsShape s → leaf < s.regions → (leaf * s.words + i % s.words) / 64 < 2 ^ 18
cards-in-leaves s leaf i shape less =
    let inside : i % s.words < s.words = mod-lt i {m = s.words} (omega (arith, shape.fewest_words)) in
    let up : (leaf + 1) * s.words ≤ s.regions * s.words = mul-le-mul_right {m = leaf + 1} {n = s.regions} s.words (omega arith) in
    let parts : (leaf + 1) * s.words ≡ leaf * s.words + 1 * s.words = add-mul leaf 1 s.words in
    (div-lt_iff_lt-mul {k = 64} {x = leaf * s.words + i % s.words} {y = 2 ^ 18} (omega arith)).1 (omega (arith, inside, up, parts, shape.words_in_all))

card-in-place : (c : Config) (o : Option Placed) (i card : ℕ) → IsShape c.geometry → IfSome o (IsPlacedWithin c.geometry.regions) → IsTrue (is_card_of c.geometry o i card) → card < 2 ^ 18
card-in-place c None i card shape h at = absurd (false≢true at)
card-in-place c (Some p) i card shape h at = by p.leaves h.leaves at
  where
    by : (leaves : List ℕ) → AllByRecursion (λ (q : ℕ). q < c.geometry.regions) leaves → IsTrue (is_card_in c.geometry p.region leaves i card) → card < 2 ^ 18
    by [] below at = cards-in-regions c.geometry card p.region shape (eqb-true _ p.region at) h.region
    by (leaf ∷ leaves) below at =
        let here : get_or (leaf ∷ leaves) (i / c.geometry.words) 0 < c.geometry.regions =
        each-at (λ (q : ℕ). q < c.geometry.regions) (leaf ∷ leaves) (i / c.geometry.words) 0 below (omega (arith, shape.fewest_regions)) in
        let less = cards-in-leaves c.geometry (get_or (leaf ∷ leaves) (i / c.geometry.words) 0) i shape here in
        omega (arith, less, eqb-true card _ at)

pub note-line : (c : Config) (b : Board) (noted : List Slot) (q card : ℕ) (holder : Name) (i : ℕ) → IsInRange c b → IsNote c b noted q card holder i → HasLine (note q card holder i)
note-line c b noted q card holder i h is = record {
  is_region = small-region c q h.shape (refers-within c b q (reference b.plain holder i) h is.refers);
  is_card = card-in-place c (place_of b.present holder) i card h.shape (place-has (IsPlacedWithin c.geometry.regions) b.present holder h.within.placed) is.of_the_slot;
  is_holder = present-name c b holder h (outside-present b.present holder q is.from_outside);
  is_slot = let few = few-slots (object b.plain holder) (object-has b.plain holder h.objects) in let within = read-within (refs b.plain holder) i b q is.refers in omega (arith, few, within);
}

-- Partial collections.

chosen-rises : (c : Config) (b : Board) (chosen : List ℕ) → IsInRange c b → chosen ≡ choice c b.regions → IsRising IsRegion nat_lt chosen
chosen-rises c b chosen h is =
    subst (IsRising IsRegion nat_lt) (sym is) (record {
      each = each-region c (choice c b.regions) h.shape
          (each-filter (λ (q : ℕ). q < c.geometry.regions) (is_chosen c b.regions) (all_regions b.regions) (all-below c.geometry.regions b.regions h.within.count));
      up = ascends-range (is_chosen c b.regions) 0 (length b.regions);
    })

-- what a partial collection keeps is present, and there are no more of it
pub kept-present : (c : Config) (b : Board) (chosen : List ℕ) (scans : ℕ) (kept : List Kept) → IsPartial c b chosen scans kept → (x : Name) → IsTrue (is_among x (names_kept kept)) → IsTrue (is_present b x)
kept-present c b chosen scans kept is x i =
    let g = keeping b chosen in
    let inside = from-filter (λ (y : Name). is_among y (kept_names b.plain (names_placed b.present) g.inside)) g.inside x
    (sym (ap (is_among x) (ends-filter g)) ∙ (sym (ap (is_among x) is.just_the_kept) ∙ i)) in
    among-placed-filter (λ (p : Placed). is_in p.region chosen) b.present x inside.1

kept-few : (c : Config) (b : Board) (chosen : List ℕ) (scans : ℕ) (kept : List Kept) → IsPartial c b chosen scans kept → length kept ≤ length b.present
kept-few c b chosen scans kept is =
    let g = keeping b chosen in
    let names : length (names_kept kept) ≡ length kept = length-map kept (λ (k : Kept). k.name) in
    let inside : length g.inside ≡ length (placed_in chosen b) = length-map (placed_in chosen b) (λ (p : Placed). p.name) in
    let placed = filter-shorter (λ (p : Placed). is_in p.region chosen) b.present in
    let ends = filter-shorter (λ (y : Name). is_among y (kept_names b.plain (names_placed b.present) g.inside)) g.inside in
    omega (arith, names, inside, placed, ends, ap length (ends-filter g), ap length is.just_the_kept)

how-fits : (c : Config) (free : List ℕ) (w : How) → IsShape c.geometry → AllByRecursion (λ (q : ℕ). q < c.geometry.regions) free → IsTrue (lands_in free w) → IsHow w
how-fits c free (how.Copied q) shape below lands = small-region c q shape (each-in (λ (q : ℕ). q < c.geometry.regions) free q below lands)
how-fits c free how.Marked shape below lands = tt

each-kept : (c : Config) (b : Board) (chosen : List ℕ) (scans : ℕ) (kept : List Kept) → IsInRange c b → IsPartial c b chosen scans kept → AllByRecursion IsKept kept
each-kept c b chosen scans kept h is =
    let names : AllByRecursion (λ (k : Kept). IsName k.name) kept =
    each-from_map IsName (λ (k : Kept). k.name) kept (each-present c b (names_kept kept) h (kept-present c b chosen scans kept is)) in
    let below = free-below c.geometry.regions b.regions h.within.count in
    let Lands : Kept → Type 0 = λ (k : Kept). IsTrue (lands_in (free_regions b.regions) k.how) in
    let Works : Kept → Type 0 = λ (k : Kept). k.worker < c.workers in
    each-goes (λ (k : Kept). IsName k.name × (Lands k × Works k)) IsKept
    (λ k all. (all.0, how-fits c (free_regions b.regions) k.how h.shape below all.1.0, omega (arith, all.1.1, h.workers)))
    kept (each-both (λ (k : Kept). IsName k.name) (λ (k : Kept). Lands k × Works k) kept names (each-both Lands Works kept is.from_the_pool is.by_a_worker))

-- workers that wished, and that the pool was drained
wished-rise : (ws : List ℕ) → AllByRecursion IsWorker ws → AllByRecursion IsCause (map abort.Wished ws)
wished-rise ws h = each-map IsWorker IsCause abort.Wished (λ w less. less) ws h

ascends-causes : (ws : List ℕ) (drained : Bool) → ascends nat_lt ws ≡ true → ascends is_cause_before (map abort.Wished ws ++ cond drained (abort.Drained ∷ []) []) ≡ true
ascends-causes [] true h = refl
ascends-causes [] false h = refl
ascends-causes (w ∷ []) true h = refl
ascends-causes (w ∷ []) false h = refl
ascends-causes (w ∷ v ∷ ws) drained h =
    let parts = and_parts (nat_lt w v) (ascends nat_lt (v ∷ ws)) h in
    and_from (nat_lt w v) (ascends is_cause_before (map abort.Wished (v ∷ ws) ++ cond drained (abort.Drained ∷ []) [])) parts.0 (ascends-causes (v ∷ ws) drained parts.1)

causes-rise : (workers : ℕ) (aborts : List Abort) → workers ≤ 32 → aborts ≡ ordered_causes workers aborts → IsRising IsCause is_cause_before aborts
causes-rise workers aborts few is =
    let p : ℕ → Bool = λ w. list_any (is_wished w) aborts in
    let ws = filter p (range_with_len 0 workers) in
    let drained = list_any is_drained aborts in
    subst (IsRising IsCause is_cause_before) (sym is) (record {
      each = each-append IsCause (map abort.Wished ws) (cond drained (abort.Drained ∷ []) [])
          (wished-rise ws (each-filter IsWorker p (range_with_len 0 workers) (range-below 0 workers 32 (omega (arith, few))))) (last drained);
      up = ascends-causes ws drained (ascends-range p 0 workers);
    })
  where
    last : (b : Bool) → AllByRecursion IsCause (cond b (abort.Drained ∷ []) [])
    last true = (tt, tt)
    last false = tt

crew-few : (c : Config) (b : Board) (chosen : List ℕ) → c.workers ≤ 32 → crew c b chosen ≤ 32
crew-few c b chosen few = omega (arith, few)

pub partial-line : (c : Config) (b : Board) (chosen : List ℕ) (scans : ℕ) (kept : List Kept) (aborts : List Abort) → IsInRange c b → IsEvacuation c b chosen scans kept aborts → HasLine (partial chosen scans kept aborts)
partial-line c b chosen scans kept aborts h is = record {
  are_chosen = chosen-rises c b chosen h is.partial.the_choice;
  is_count = let few = kept-few c b chosen scans kept is.partial in omega (arith, few, h.present, is.partial.each_scanned);
  are_kept = record { each = each-kept c b chosen scans kept h is.partial; up = ascends-kept kept (kept-ascends c b chosen scans kept h.sound is.partial) };
  are_causes = causes-rise (crew c b chosen) aborts (crew-few c b chosen h.workers) is.packing.causes_in_order;
}

-- Mark cycles.

open-present : (b : Board) (cycle : Cycle) (xs : List Name) → AreOpen b cycle xs → AllByRecursion (λ (x : Name). IsTrue (is_present b x)) xs
open-present b cycle [] h = tt
open-present b cycle (x ∷ xs) h =
    let owed = and_parts (is_present b x && is_among x cycle.owed) (not (is_among x cycle.listed)) h.0 in
    ((and_parts (is_present b x) (is_among x cycle.owed) owed.0).0, open-present b (cycle_with_listed b.plain (x ∷ []) cycle) xs h.1)

pub mark-line : (c : Config) (b : Board) (names : List Name) → IsInRange c b → IsMark c b names → HasLine (mark names)
mark-line c b names h is = by b.cycle is
  where
    by : (cycle : Option Cycle) → InCycle cycle (IsMarkStep c b names) → AllByRecursion IsName names
    by None is = absurd is
    by (Some cycle) is = each-goes (λ (x : Name). IsTrue (is_present b x)) IsName (λ x here. present-name c b x h here) names (open-present b cycle names is.each_open)

-- some of the present names, in their order
some-rise : (c : Config) (b : Board) (dead : List Name) (p : Name → Bool) → IsInRange c b → dead ≡ filter p (names_placed b.present) → IsRising IsName is_before dead
some-rise c b dead p h is =
    subst (IsRising IsName is_before) (sym is) (record {
      each = each-present c b (filter p (names_placed b.present)) h (λ x i. (from-filter p (names_placed b.present) x i).1);
      up = ascends-names (filter p (names_placed b.present)) (ascending-filter p (names_placed b.present) h.sound.ascending);
    })

pub end-line : (c : Config) (b : Board) (dead : List Name) → IsInRange c b → IsEnd b dead → HasLine (end dead)
end-line c b dead h is = by b.cycle is
  where
    by : (cycle : Option Cycle) → InCycle cycle (IsSweep b dead) → IsRising IsName is_before dead
    by None is = absurd is
    by (Some cycle) is = some-rise c b dead (λ x. is_among x dead) h is.present_ascending

-- Global collections.
pub global-line : (c : Config) (b : Board) (dead : List Name) (packed : List Packed) → IsInRange c b → IsGlobal c b dead packed → HasLine (global dead packed)
global-line c b dead packed h is =
    let names : AllByRecursion (λ (k : Packed). IsName k.name) packed =
    each-from_map IsName (λ (k : Packed). k.name) packed
    (each-present c b (names_packed packed) h (λ x i. (from-filter _ (names_placed b.present) x (packed-survive c b dead packed h.sound is x i)).1)) in
    let regions = packed-within c.geometry.regions c b dead packed (omega (arith, h.shape.fewest_regions)) h.within is in (
      some-rise c b dead _ h is.just_the_garbage,
      each-goes (λ (k : Packed). IsName k.name × (k.region < c.geometry.regions)) IsPacked (λ k both. (both.0, small-region c k.region h.shape both.1)) packed
          (each-both (λ (k : Packed). IsName k.name) (λ (k : Packed). k.region < c.geometry.regions) packed names regions),
    )
