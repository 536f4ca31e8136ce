-- Once what was out is put back, the regions are as they were, but for those with copies.
use Rattle.std.proofs.Common.{◌≡◌, ◌⊎◌, ◌<◌, ◌≤◌, ◌+◌, ℕ, zero, suc, inl, inr, Bool, true, false, cond, List, [], ◌∷◌, length, map, length-set, Some, refl, ap, sym, subst, ◌∙◌, arith}
use Rattle.std.specs.Prelude.{IsTrue, nat_lt, slice_get}
use Rattle.std.specs.List.{AllByRecursion}
use Rattle.std.proofs.lemmas.Bool.{false≢true}
use Rattle.std.proofs.lemmas.List.{length-map}
use Rattle.std.proofs.lemmas.Option.{get_or_from_slice_get, none-some, same_Some, slice_get-get_or, slice_get-map, slice_get_within}
use Rattle.std.specs.Option.{option_map}
use Rattle.bal_after.specs.Asked.{GotNoCopy, with_copies}
use Rattle.bal_base.proofs.Lemmas.{among-cases, among-first, among-later}
use Rattle.bal_copyfwd.specs.Filled.{AreApart, Back, IsOther, MayFill, MayStand, all_back, numbers_of, state_back, with_all_filled}
use Rattle.bal_copyfwd.specs.Returned.{IsEvacuationOf, backs_of, filled_numbers, refilled, split_of}
use Rattle.bal_copyfwd.specs.States.{AreBack, GotCopies}
use Rattle.bal_core.specs.Finished.{AreFilled, Evacuation, Receives, filled}
use Rattle.bal_core.specs.Steps.{next_age, used}
use Rattle.bal_core.specs.World.{At, age_of}
use Rattle.bal_core.specs.declared.row.Drawn.{Drawn}
use Rattle.bal_dest.specs.Buffers.{destination_at}
use Rattle.bal_dest.specs.declared.buffers.Destination.{Destination}
use Rattle.bal_evacuate.proofs.Lemmas.{drawn-at, drawn-is, number-kept, used-filled}
use Rattle.bal_evacuate.specs.Course.{Course, drawn_by}
use Rattle.bal_evacuate.specs.Plan as plan
use Rattle.bal_evacuate.specs.Plan.{IsBare, Plan, filled_by, pooled, shown, world_for}
use Rattle.bal_layout.specs.Regions.{free_region, is_free, is_in, is_object, region_at}
use Rattle.bal_layout.specs.declared.region_state.RegionState.{RegionState}
use Rattle.bal_layout.specs.declared.region_state.Role.{Role}
use Rattle.bal_layout.specs.declared.region_state.Role.TheVariants.{Free, Leaf, Object}
use Rattle.bal_layout.specs.Shape.{Shape}
use Rattle.bal_region.specs.Changes.{empty_land}
use Rattle.bal_region.specs.Land.{Land}
use Rattle.bal_rules.specs.Board.{Board}
use Rattle.bal_table.proofs.Lemmas.{free-numbered, state-free}
use Rattle.bal_table.specs.Occupied.{is_free_at, vacated, with_filled}
use Rattle.bal_table.specs.Table.{Table}
use Rattle.bal_told.specs.Whole.{AreDrawnForObjects}

-- What is put back, by its places.

abbrev pub as_filled : Destination → Back
as_filled d = record { land = d.region; role = Object d.age }

abbrev pub number_in : Destination → ℕ
number_in d = d.region.number

pub filled-place : (ds : List Destination) (ls : List Land) (j : ℕ) (d : Destination) → At ds j d → slice_get (all_back ds ls) j ≡ Some (as_filled d)
filled-place [] ls j d at = absurd (none-some d at)
filled-place (x ∷ ds) ls zero d at = ap (λ y. Some (as_filled y)) (same_Some x d at)
filled-place (x ∷ ds) ls (suc j) d at = filled-place ds ls j d at

pub number-there : (bs : List Back) (i : ℕ) (b : Back) → slice_get bs i ≡ Some b → is_in b.land.number (numbers_of bs) ≡ true
number-there [] i b at = absurd (none-some b at)
number-there (x ∷ bs) zero b at = subst (λ (y : Back). is_in y.land.number (numbers_of (x ∷ bs)) ≡ true) (same_Some x b at) (among-first x.land.number (numbers_of bs))
number-there (x ∷ bs) (suc i) b at = among-later x.land.number b.land.number (numbers_of bs) (number-there bs i b at)

back-there : (bs : List Back) (q : ℕ) → is_in q (numbers_of bs) ≡ true → (i : ℕ) × (b : Back) × (slice_get bs i ≡ Some b) × (b.land.number ≡ q)
back-there [] q among = absurd (false≢true among)
back-there (x ∷ bs) q among = elim (among-cases x.land.number q (numbers_of bs) among) [
  | inl here ↦ (zero, x, refl, here)
  | inr later ↦ let r = back-there bs q later in (suc r.0, r.1, r.2, r.3)
]

not-among : (n q : ℕ) (ns : List ℕ) → is_in q (n ∷ ns) ≡ false → (n ≡ q → ⊥) × (is_in q ns ≡ false)
not-among n q ns out = (
  λ same. false≢true (sym out ∙ subst (λ m. is_in m (n ∷ ns) ≡ true) same (among-first n ns)),
  by (is_in q ns) refl,
)
  where
    by : (b : Bool) → is_in q ns ≡ b → b ≡ false
    by false is = refl
    by true is = absurd (false≢true (sym out ∙ among-later n q ns is))

none-there : (bs : List Back) (q : ℕ) → is_in q (numbers_of bs) ≡ false → IsOther q bs
none-there [] q out = tt
none-there (b ∷ bs) q out = let r = not-among b.land.number q (numbers_of bs) out in (r.0, none-there bs q r.1)

stands-there : (s : Shape) (bs : List Back) (i : ℕ) (b : Back) → AllByRecursion (MayStand s) bs → slice_get bs i ≡ Some b → MayStand s b
stands-there s [] i b each at = absurd (none-some b at)
stands-there s (x ∷ bs) zero b each at = subst (MayStand s) (same_Some x b at) each.0
stands-there s (x ∷ bs) (suc i) b each at = stands-there s bs i b each.1 at

-- each has copies or is free
spare-free : (ls : List Land) (i : ℕ) (b : Back) → slice_get (all_back [] ls) i ≡ Some b → b.role ≡ Free
spare-free [] i b at = absurd (none-some b at)
spare-free (l ∷ ls) zero b at = sym (ap (λ (y : Back). y.role) (same_Some (record { land = l; role = Free }) b at))
spare-free (l ∷ ls) (suc i) b at = spare-free ls i b at

filled-or-free : (ds : List Destination) (ls : List Land) (i : ℕ) (b : Back) → slice_get (all_back ds ls) i ≡ Some b
    → ((d : Destination) × At ds i d × (d.region.number ≡ b.land.number)) ⊎ (b.role ≡ Free)
filled-or-free [] ls i b at = inr (spare-free ls i b at)
filled-or-free (d ∷ ds) ls zero b at = inl (d, refl, ap (λ (y : Back). y.land.number) (same_Some (as_filled d) b at))
filled-or-free (d ∷ ds) ls (suc i) b at = filled-or-free ds ls i b at

pub filled-at : (ds : List Destination) (q : ℕ) → is_in q (map number_in ds) ≡ true → (j : ℕ) × (d : Destination) × At ds j d × (d.region.number ≡ q)
filled-at [] q among = absurd (false≢true among)
filled-at (d ∷ ds) q among = elim (among-cases d.region.number q (map number_in ds) among) [
  | inl here ↦ (zero, d, refl, here)
  | inr later ↦ let r = filled-at ds q later in (suc r.0, r.1, r.2, r.3)
]

filled-in : (ds : List Destination) (j : ℕ) (d : Destination) → At ds j d → is_in d.region.number (map number_in ds) ≡ true
filled-in [] j d at = absurd (none-some d at)
filled-in (x ∷ ds) zero d at = subst (λ (y : Destination). is_in y.region.number (map number_in (x ∷ ds)) ≡ true) (same_Some x d at) (among-first x.region.number (map number_in ds))
filled-in (x ∷ ds) (suc j) d at = among-later x.region.number d.region.number (map number_in ds) (filled-in ds j d at)

object-not-free : (r : Role) → is_object r ≡ true → is_free r ≡ true → ⊥
object-not-free Free object free = false≢true object
object-not-free (Object age) object free = false≢true free
object-not-free Leaf object free = false≢true object

object-in-use : (r : Role) → is_object r ≡ true → is_free r ≡ false
object-in-use Free object = absurd (false≢true object)
object-in-use (Object age) object = refl
object-in-use Leaf object = refl

pub objects-in-use : (t : Table) (b : Board) → b.regions ≡ t.regions → (q : ℕ) → is_object (region_at t.regions q).role ≡ true
    → is_free (region_at b.regions q).role ≡ false
objects-in-use t b same q object =
    ap (λ (rs : List RegionState). is_free (region_at rs q).role) same ∙ object-in-use (region_at t.regions q).role object

-- survivors are at least one collection old
older-than-eden : (n : ℕ) → 1 ≤ next_age n
older-than-eden n = by (nat_lt n 24)
  where
    by : (b : Bool) → 1 ≤ cond b (n + 1) 24
    by true = omega arith
    by false = omega arith

-- What a region is once it is put back, and one that was not out.
abbrev pub OwnStates : Type 0
OwnStates = (bs : List Back) (t : Table) (i : ℕ) (b : Back) → AreApart bs → slice_get bs i ≡ Some b → b.land.number < length t.regions
    → region_at (with_all_filled bs t).regions b.land.number ≡ state_back t b

abbrev pub OtherStates : Type 0
OtherStates = (bs : List Back) (t : Table) (q : ℕ) → IsOther q bs → region_at (with_all_filled bs t).regions q ≡ region_at t.regions q

pub count-kept : (bs : List Back) (t : Table) → length (with_all_filled bs t).regions ≡ length t.regions
unfolding with_all_filled
count-kept [] t = refl
count-kept (b ∷ bs) t = count-kept bs (with_filled t b.land b.role) ∙ length-set t.regions b.land.number (state_back t b)

module _ (t : Table) (chosen : List ℕ) (p : Plan) (c : Course) (e : IsEvacuationOf t chosen p c) (may : MayFill (split_of t) (backs_of c)) where
  was-out : (q : ℕ) → is_in q (numbers_of (backs_of c)) ≡ true → (q < t.shape.regions) × (is_free_at t q ≡ true)
  was-out q among = free-numbered t e.table q (subst (λ (ns : List ℕ). is_in q ns ≡ true) may.out among)

  -- a region of objects was not out
  pub object-stays : (q : ℕ) → is_object (region_at t.regions q).role ≡ true → IsOther q (backs_of c)
  object-stays q object = by (is_in q (numbers_of (backs_of c))) refl
    where
      by : (d : Bool) → is_in q (numbers_of (backs_of c)) ≡ d → IsOther q (backs_of c)
      by true among = absurd (object-not-free (region_at t.regions q).role object (was-out q among).1)
      by false out = none-there (backs_of c) q out

  module _ (own : OwnStates) (other : OtherStates) (all_filled : AreFilled (shown p c)) where
    abbrev u : Table
    u = refilled t c

    -- one that was not drawn is free again
    spare-same : (i : ℕ) (b : Back) → slice_get (backs_of c) i ≡ Some b → b.role ≡ Free → region_at u.regions b.land.number ≡ region_at t.regions b.land.number
    spare-same i b at role =
        let n = b.land.number in
        let free = was-out n (number-there (backs_of c) i b at) in
        let within : n < length t.regions = omega (arith, free.0, e.table.regions) in
        let was : region_at t.regions n ≡ free_region = state-free t e.table n free.0 free.1 in
        let none : b.land.used ≡ 0 = ((stands-there t.shape (backs_of c) i b may.each at).free (ap is_object role)).1 in
        own (backs_of c) (vacated t) i b may.apart at within
        ∙ (ap (λ (r : RegionState). record r { role = b.role; used = b.land.used; estimate = b.land.used }) was
        ∙ (ap (λ (r : Role). record free_region { role = r; used = b.land.used; estimate = b.land.used }) role
        ∙ (ap (λ k. record free_region { role = Free; used = k; estimate = k }) none ∙ sym was)))

    -- Those with copies.

    region-at : (i : ℕ) (d : Drawn) → At (drawn_by c) i d → At c.buffers.regions i (filled_by p c.won d)
    region-at i d at =
        subst (λ (l : List Destination). At l i (filled_by p c.won d)) (sym e.copied.copies)
        (slice_get-map (filled_by p c.won) (drawn_by c) i ∙ ap (option_map (filled_by p c.won)) at)

    -- the pool had it without objects
    bare-as : (i : ℕ) (d : Drawn) → At (drawn_by c) i d → IsBare p.shape (pooled p d.ordinal) × ((pooled p d.ordinal).number ≡ d.region)
    bare-as i d at =
        let there = (e.copied.evacuated.regions.drawn 0 i d at).1 in
        let within : d.ordinal < length (plan.numbers_of p.pool) = slice_get_within (plan.numbers_of p.pool) d.ordinal d.region there in
        let same : length (plan.numbers_of p.pool) ≡ length p.pool = length-map p.pool (λ (l : Land). l.number) in
        let here : At p.pool d.ordinal (pooled p d.ordinal) = slice_get-get_or p.pool d.ordinal (empty_land 0 0) (omega (arith, within, same)) in
        let number : At (plan.numbers_of p.pool) d.ordinal (pooled p d.ordinal).number
        = slice_get-map (λ (l : Land). l.number) p.pool d.ordinal ∙ ap (option_map (λ (l : Land). l.number)) here in
        ((e.copied.may.bare d.ordinal (pooled p d.ordinal) here).1, same_Some (pooled p d.ordinal).number d.region (sym number ∙ there))

    state-drawn : (i : ℕ) (d : Drawn) → At (drawn_by c) i d → region_at u.regions d.region ≡ with_copies d.age (used (world_for p) d.region c.won) (region_at t.regions d.region)
    state-drawn i d at =
        let x : Destination = filled_by p c.won d in
        let bare = bare-as i d at in
        let number : x.region.number ≡ d.region = number-kept p c.won (pooled p d.ordinal) ∙ bare.1 in
        let all : x.region.used ≡ (pooled p d.ordinal).used + used (world_for p) (pooled p d.ordinal).number c.won = used-filled p c.won (pooled p d.ordinal) in
        let none : (pooled p d.ordinal).used ≡ 0 = bare.0.used in
        let here : used (world_for p) (pooled p d.ordinal).number c.won ≡ used (world_for p) d.region c.won = ap (λ q. used (world_for p) q c.won) bare.1 in
        let words : x.region.used ≡ used (world_for p) d.region c.won = omega (arith, all, none, here) in
        let place : slice_get (backs_of c) i ≡ Some (as_filled x) = filled-place c.buffers.regions c.spares i x (region-at i d at) in
        let free = was-out x.region.number (number-there (backs_of c) i (as_filled x) place) in
        let within : x.region.number < length t.regions = omega (arith, free.0, e.table.regions) in
        ap (region_at u.regions) (sym number)
        ∙ (own (backs_of c) (vacated t) i (as_filled x) may.apart place within
        ∙ (ap (λ q. with_copies d.age x.region.used (region_at t.regions q)) number
        ∙ ap (λ k. with_copies d.age k (region_at t.regions d.region)) words))

    module _ (b : Board) (same : b.regions ≡ t.regions) (objects : (q : ℕ) → IsTrue (is_in q chosen) → is_object (region_at t.regions q).role ≡ true)
        (aged : AreDrawnForObjects (shown p c)) where
      abbrev ev : Evacuation
      ev = shown p c

      board-at : (q : ℕ) → region_at t.regions q ≡ region_at b.regions q
      board-at q = ap (λ (rs : List RegionState). region_at rs q) (sym same)

      copies-back : (n i : ℕ) (d : Drawn) → Receives ev n i d → 1 ≤ filled ev n d
          → region_at u.regions d.region ≡ with_copies d.age (filled ev n d) (region_at b.regions d.region)
      copies-back zero i d at some = state-drawn i d at ∙ ap (with_copies d.age (filled ev 0 d)) (board-at d.region)
      copies-back (suc n) i d at some = absurd (none-some d at)

      older-back : (n i : ℕ) (d : Drawn) → Receives ev n i d → 1 ≤ d.age
      older-back n i d at =
          let o = aged.object n i d at in
          let age : next_age (age_of ev.world o.0) ≡ d.age = o.3 in
          let one : 1 ≤ next_age (age_of ev.world o.0) = older-than-eden (age_of ev.world o.0) in
          omega (arith, age, one)

      got-there : (j : ℕ) (d : Destination) → At c.buffers.regions j d → GotCopies ev d.region.number
      got-there j d at =
          let less : j < length c.buffers.regions = slice_get_within c.buffers.regions j d at in
          let drew = drawn-at 0 c.buffers.regions j less in record {
            worker = 0;
            order = j;
            drawn = _;
            drew = drew;
            here = ap (λ (x : Destination). x.region.number) (get_or_from_slice_get c.buffers.regions j d _ at);
            some = all_filled.filled 0 j _ drew;
          }

      none-got : (q : ℕ) → is_in q (filled_numbers c) ≡ false → GotNoCopy ev q
      none-got q out zero i d at here some =
          let r = drawn-is c.buffers.regions i d at in
          let x : Destination = destination_at c.buffers.regions i in
          let there : At c.buffers.regions i x = slice_get-get_or c.buffers.regions i _ r.0 in
          let number : x.region.number ≡ q = sym (ap (λ (y : Drawn). y.region) r.1) ∙ here in
          false≢true (sym out ∙ subst (λ k. is_in k (filled_numbers c) ≡ true) number (filled-in c.buffers.regions i x there))
      none-got q out (suc n) i d at here some = none-some d at

      known-back : (q : ℕ) → GotCopies ev q ⊎ GotNoCopy ev q
      known-back q = by (is_in q (filled_numbers c)) refl
        where
          by : (d : Bool) → is_in q (filled_numbers c) ≡ d → GotCopies ev q ⊎ GotNoCopy ev q
          by true among = let r = filled-at c.buffers.regions q among in inl (subst (GotCopies ev) r.3 (got-there r.0 r.1 r.2))
          by false out = inr (none-got q out)

      others-back : (q : ℕ) → GotNoCopy ev q → region_at u.regions q ≡ region_at b.regions q
      others-back q none = by (is_in q (numbers_of (backs_of c))) refl ∙ board-at q
        where
          by : (d : Bool) → is_in q (numbers_of (backs_of c)) ≡ d → region_at u.regions q ≡ region_at t.regions q
          by true among =
              let r = back-there (backs_of c) q among in
              elim (filled-or-free c.buffers.regions c.spares r.0 r.1 r.2) [
                | inl x ↦
                    let g = got-there r.0 x.0 x.1 in
                    absurd (none g.worker g.order g.drawn g.drew (g.here ∙ (x.2 ∙ r.3)) g.some)
                | inr free ↦ subst (λ k. region_at u.regions k ≡ region_at t.regions k) r.3 (spare-same r.0 r.1 r.2 free)
              ]
          by false out = other (backs_of c) (vacated t) q (none-there (backs_of c) q out)

      pub back-as-drawn : AreBack b chosen ev u
      back-as-drawn = record {
        count = count-kept (backs_of c) (vacated t) ∙ ap (λ (rs : List RegionState). length rs) (sym same);
        inside = λ q among. other (backs_of c) (vacated t) q (object-stays q (objects q among)) ∙ board-at q;
        copies = copies-back;
        others = others-back;
        older = older-back;
        known = known-back;
      }
