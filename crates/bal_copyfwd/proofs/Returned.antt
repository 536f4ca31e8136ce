-- Just the copies are added to the table, once the regions of an evacuation are put back.
use Rattle.std.proofs.Common.{◌≡◌, ◌<◌, ℕ, zero, suc, inl, inr, Bool, true, false, cond, eqb, List, [], ◌∷◌, length, map, get_or, Option, Some, None, refl, ap, sym, subst, ◌∙◌, arith}
use Rattle.std.specs.Prelude.{◌↔◌, IsTrue, option_and_then, slice_get}
use Rattle.std.specs.List.{AllByRecursion, list_any}
use Rattle.std.proofs.lemmas.Bool.{and_parts, cases_lt, false≢true}
use Rattle.std.proofs.lemmas.List.{get_or_past, length-map}
use Rattle.std.proofs.lemmas.Option.{none-some, same_Some, slice_get-get_or}
use Rattle.bal_base.proofs.Lemmas.{among-cases, among-first, among-later}
use Rattle.bal_core.specs.declared.event.Decision.{Decision}
use Rattle.bal_core.specs.declared.event.Decision.TheVariants as decision
use Rattle.bal_core.specs.Steps.{told}
use Rattle.bal_core.specs.World.{At, Graph}
use Rattle.bal_dest.specs.declared.buffers.Destination.{Destination}
use Rattle.bal_evacuate.specs.Course.{Course, decision_of}
use Rattle.bal_evacuate.specs.Plan.{Plan, words_in}
use Rattle.bal_evacuate.proofs.Lemmas.{copy-only, copy-there}
use Rattle.bal_gather.specs.Lent.{Lent}
use Rattle.bal_gather.specs.Numbers.{is_start, number_of, starts_below, starts_of}
use Rattle.bal_gather.specs.Objects.{words_at}
use Rattle.bal_layout.specs.Addresses.{address_in, offset_of, region_of}
use Rattle.bal_layout.specs.Regions.{is_free, is_in, is_object}
use Rattle.bal_layout.specs.declared.region_state.Role.{Role}
use Rattle.bal_layout.specs.Shape.{Shape}
use Rattle.bal_layout.specs.declared.region_state.Role.TheVariants.{Free, Leaf, Object}
use Rattle.bal_region.specs.Changes.{empty_land}
use Rattle.bal_region.specs.Land.{Land, object_at, object_in, starts_at}
use Rattle.bal_table.specs.Occupied.{is_free_at, vacated}
use Rattle.bal_table.specs.Table.{IsTable, Table, land_at, objects_of, role_at, thing_in, things_of}
use Rattle.bal_table.proofs.Lemmas.{IsTable-vacated, address-is, free-numbered, land-vacated, lands-vacated}
use Rattle.bal_words.proofs.Lemmas.{there}
use Rattle.bal_words.specs.Things.{Thing}
use Rattle.bal_copyfwd.specs.Filled.{Back, IsOther, MayFill, MayStand, all_back, numbers_of}
use Rattle.bal_copyfwd.specs.Moving.{IsPutBack, address_of_copy, copy_of}
use Rattle.bal_copyfwd.specs.Returned.{IsEvacuationOf, backs_of, filled_numbers, lent_of, refilled, split_of}
use Rattle.bal_copyfwd.proofs.PutBack.{back-shape, objects-back, objects-other}
use Rattle.bal_copyfwd.proofs.Returning.{core, decided-won, thing-of, won-decided, words-of}

abbrev with_copies : Destination → Back
with_copies d = record { land = d.region; role = Object d.age }

abbrev pub number_in : Destination → ℕ
number_in d = d.region.number

at-front : (ds : List Destination) (ls : List Land) (j : ℕ) (d : Destination) → At ds j d → slice_get (all_back ds ls) j ≡ Some (with_copies d)
at-front [] ls j d at = absurd (none-some d at)
at-front (e ∷ ds) ls zero d at = ap (λ x. Some (with_copies x)) (same_Some e d at)
at-front (e ∷ ds) ls (suc j) d at = at-front ds ls j d at

number-among : (bs : List Back) (i : ℕ) (b : Back) → slice_get bs i ≡ Some b → is_in b.land.number (numbers_of bs) ≡ true
number-among [] i b at = absurd (none-some b at)
number-among (x ∷ bs) zero b at = subst (λ (y : Back). is_in y.land.number (numbers_of (x ∷ bs)) ≡ true) (same_Some x b at) (among-first x.land.number (numbers_of bs))
number-among (x ∷ bs) (suc i) b at = among-later x.land.number b.land.number (numbers_of bs) (number-among bs i b at)

filled-at : (ds : List Destination) (q : ℕ) → is_in q (map number_in ds) ≡ true → (j : ℕ) × (d : Destination) × At ds j d × (d.region.number ≡ q)
filled-at [] q among = absurd (false≢true among)
filled-at (d ∷ ds) q among = elim (among-cases d.region.number q (map number_in ds) among) [
  | inl here ↦ (zero, d, refl, here)
  | inr later ↦ let r = filled-at ds q later in (suc r.0, r.1, r.2, r.3)
]

filled-in : (ds : List Destination) (j : ℕ) (d : Destination) → At ds j d → is_in d.region.number (map number_in ds) ≡ true
filled-in [] j d at = absurd (none-some d at)
filled-in (e ∷ ds) zero d at = subst (λ (y : Destination). is_in y.region.number (map number_in (e ∷ ds)) ≡ true) (same_Some e d at) (among-first e.region.number (map number_in ds))
filled-in (e ∷ ds) (suc j) d at = among-later e.region.number d.region.number (map number_in ds) (filled-in ds j d at)

chosen-some : (b : Bool) (n k : ℕ) → cond b (Some n) None ≡ Some k → b ≡ true
chosen-some true n k is = refl
chosen-some false n k is = absurd (none-some k is)

copied-to : (o : Option Decision) (b : ℕ) → option_and_then address_of_copy o ≡ Some b → o ≡ Some (decision.Copied b)
copied-to None b is = absurd (none-some b is)
copied-to (Some (decision.Copied x)) b is = ap (λ y. Some (decision.Copied y)) (same_Some x b is)
copied-to (Some decision.Marked) b is = absurd (none-some b is)

abbrev as_spare : Land → Back
as_spare l = record { land = l; role = Free }

spare-in : (ls : List Land) (q : ℕ) → is_in q (map (λ (y : Land). y.number) ls) ≡ true
    → (j : ℕ) × (y : Land) × (slice_get (all_back [] ls) j ≡ Some (as_spare y)) × (y.number ≡ q)
spare-in [] q among = absurd (false≢true among)
spare-in (y ∷ ls) q among = elim (among-cases y.number q (map (λ (y : Land). y.number) ls) among) [
  | inl here ↦ (zero, y, refl, here)
  | inr later ↦ let r = spare-in ls q later in (suc r.0, r.1, r.2, r.3)
]

spare-at : (ds : List Destination) (ls : List Land) (q : ℕ) → is_in q (map (λ (y : Land). y.number) ls) ≡ true
    → (j : ℕ) × (y : Land) × (slice_get (all_back ds ls) j ≡ Some (as_spare y)) × (y.number ≡ q)
spare-at [] ls q among = spare-in ls q among
spare-at (d ∷ ds) ls q among = let r = spare-at ds ls q among in (suc r.0, r.1, r.2, r.3)

pub not-first : (n q : ℕ) (ns : List ℕ) → is_in q (n ∷ ns) ≡ false → (n ≡ q → ⊥) × (is_in q ns ≡ false)
not-first n q ns out = (
  λ same. false≢true (sym out ∙ subst (λ m. is_in m (n ∷ ns) ≡ true) same (among-first n ns)),
  by (is_in q ns) refl,
)
  where
    by : (b : Bool) → is_in q ns ≡ b → b ≡ false
    by false is = refl
    by true is = absurd (false≢true (sym out ∙ among-later n q ns is))

all-others : (q : ℕ) (ds : List Destination) (ls : List Land) → is_in q (map number_in ds) ≡ false → is_in q (map (λ (y : Land). y.number) ls) ≡ false
    → IsOther q (all_back ds ls)
all-others q [] [] out none = tt
all-others q [] (y ∷ ls) out none = let r = not-first y.number q (map (λ (y : Land). y.number) ls) none in (r.0, all-others q [] ls out r.1)
all-others q (d ∷ ds) ls out none = let r = not-first d.region.number q (map number_in ds) out in (r.0, all-others q ds ls r.1 none)

each-stands : (s : Shape) (bs : List Back) (i : ℕ) (b : Back) → AllByRecursion (MayStand s) bs → slice_get bs i ≡ Some b → MayStand s b
each-stands s [] i b each at = absurd (none-some b at)
each-stands s (x ∷ bs) zero b each at = subst (MayStand s) (same_Some x b at) each.0
each-stands s (x ∷ bs) (suc i) b each at = each-stands s bs i b each.1 at

free-no-object : (r : Role) → is_free r ≡ true → is_object r ≡ false
free-no-object Free free = refl
free-no-object (Object age) free = absurd (false≢true free)
free-no-object Leaf free = refl

abbrev pub AreNumbered : Type 0
AreNumbered = (l : Lent) (a k : ℕ) → IsTable l.table → (number_of l a ≡ Some k) ↔ (slice_get (starts_of l) k ≡ Some a)

module _ (numbered : AreNumbered) (t : Table) (chosen : List ℕ) (p : Plan) (c : Course) (e : IsEvacuationOf t chosen p c) (may : MayFill (split_of t) (backs_of c)) where
  abbrev l : Lent
  l = lent_of t chosen

  -- a region with copies was a free one
  was-free : (j : ℕ) (d : Destination) → At c.buffers.regions j d → (d.region.number < t.shape.regions) × (is_free_at t d.region.number ≡ true)
  was-free j d at =
      free-numbered t e.table d.region.number
      (subst (λ ns. is_in d.region.number ns ≡ true) may.out (number-among (backs_of c) j (with_copies d) (at-front c.buffers.regions c.spares j d at)))

  objects-in : (j b : ℕ) (d : Destination) → At c.buffers.regions j d → region_of t.shape b ≡ d.region.number
      → objects_of (refilled t c) b ≡ object_at d.region (offset_of t.shape b)
  objects-in j b d at here =
      let within : d.region.number < length (vacated t).lands = omega (arith, (was-free j d at).0, lands-vacated t e.table) in
      objects-back (backs_of c) (vacated t) j (with_copies d) b may.apart (at-front c.buffers.regions c.spares j d at) within here

  -- Copies.

  module _ (a b : ℕ) (copied : copy_of l (decision_of c) a ≡ Some b) where
    found : (k : ℕ) × (number_of l a ≡ Some k) × (decision_of c k ≡ Some (decision.Copied b))
    found = by (number_of l a) refl
      where
        by : (o : Option ℕ) → number_of l a ≡ o → (k : ℕ) × (number_of l a ≡ Some k) × (decision_of c k ≡ Some (decision.Copied b))
        by None is = absurd (none-some b (sym (ap (λ o. option_and_then address_of_copy (option_and_then (decision_of c) o)) is) ∙ copied))
        by (Some k) is =
            (k, is, copied-to (decision_of c k) b (sym (ap (λ o. option_and_then address_of_copy (option_and_then (decision_of c) o)) is) ∙ copied))

    pub copy-lies : IsTrue (is_in (region_of t.shape b) (filled_numbers c)) × (things_of (refilled t c) b ≡ things_of (vacated t) a)
    copy-lies =
        let k = found.0 in
        let won = decided-won t chosen p c e k (decision.Copied b) found.2 in
        let r = copy-there p c e.copied won.0 k b won.1 in
        let here : region_of t.shape b ≡ r.1.region.number = ap (λ (s : Shape). region_of s b) (sym e.shape) ∙ sym r.3 in
        let start = and_parts _ _ (chosen-some (is_start l a) (length (starts_below l a)) k found.1) in
        let x = there (things_of (vacated t) a) start.1 in
        let object : objects_of (refilled t c) b ≡ Some (words_at (vacated t) a)
        = objects-in r.0 b r.1 r.2 here
        ∙ (ap (λ (s : Shape). object_at r.1.region (offset_of s b)) (sym e.shape)
        ∙ (r.4 ∙ ap Some (ap (λ (g : Graph). words_in g k) e.graph ∙ words-of l k a ((numbered l a k (IsTable-vacated t e.table)).0 found.1)))) in (
          subst (λ q. IsTrue (is_in q (filled_numbers c))) (sym here) (filled-in c.buffers.regions r.0 r.1 r.2),
          ap (option_and_then thing_in) object ∙ (thing-of (objects_of (vacated t) a) x.0 x.1 ∙ sym x.1),
        )

  -- And no other object.

  decided-within : (k b : ℕ) → decision_of c k ≡ Some (decision.Copied b) → k < length (starts_of l)
  decided-within k b is = elim (cases_lt k (length c.words)) [
    | inl less ↦
        let words : length c.words ≡ length (map (λ (ws : List ℕ). length ws) p.graph.words) = (core t chosen p c e).words in
        let sizes : length (map (λ (ws : List ℕ). length ws) p.graph.words) ≡ length p.graph.words = length-map p.graph.words (λ (ws : List ℕ). length ws) in
        let graph : length p.graph.words ≡ length (map (words_at (vacated t)) (starts_of l)) = ap (λ (g : Graph). length g.words) e.graph in
        omega (arith, less, words, sizes, graph, length-map (starts_of l) (words_at (vacated t)))
    | inr past ↦ absurd (none-some (decision.Copied b) (sym (get_or_past c.words k None past) ∙ is))
  ]

  copy-of : (k b : ℕ) → decision_of c k ≡ Some (decision.Copied b) → (a : ℕ) × (copy_of l (decision_of c) a ≡ Some b)
  copy-of k b is =
      let a : ℕ = get_or (starts_of l) k 0 in
      let number : number_of l a ≡ Some k = (numbered l a k (IsTable-vacated t e.table)).1 (slice_get-get_or (starts_of l) k 0 (decided-within k b is)) in
      (a, ap (λ o. option_and_then address_of_copy (option_and_then (decision_of c) o)) number ∙ ap (option_and_then address_of_copy) is)

  pub only-copies : (b : ℕ) (x : Thing) → IsTrue (is_in (region_of t.shape b) (filled_numbers c)) → things_of (refilled t c) b ≡ Some x
      → (a : ℕ) × (copy_of l (decision_of c) a ≡ Some b)
  only-copies b x lies is = by (starts_at r.1.region off) refl
    where
      r : (j : ℕ) × (d : Destination) × At c.buffers.regions j d × (d.region.number ≡ region_of t.shape b)
      r = filled-at c.buffers.regions (region_of t.shape b) lies

      off : ℕ
      off = offset_of t.shape b

      object : objects_of (refilled t c) b ≡ object_at r.1.region off
      object = objects-in r.0 b r.1 r.2 (sym r.3)

      by : (starts : Bool) → starts_at r.1.region off ≡ starts → (a : ℕ) × (copy_of l (decision_of c) a ≡ Some b)
      by false none =
          absurd (none-some x (sym (ap (option_and_then thing_in) (object ∙ ap (λ s. cond s (Some (object_in r.1.region.words off)) None) none)) ∙ is))
      by true starts =
          let k = copy-only p c e.copied r.0 off r.1 r.2 starts in
          let shape : p.shape ≡ t.shape = e.shape in
          let address : k.address ≡ b
          = sym (address-is t.shape k.address)
          ∙ (ap (λ (s : Shape). address_in t.shape (region_of s k.address) (offset_of s k.address)) (sym shape)
          ∙ (ap (λ n. address_in t.shape n (offset_of p.shape k.address)) (k.region_is ∙ r.3)
          ∙ (ap (address_in t.shape (region_of t.shape b)) k.offset_is ∙ address-is t.shape b))) in
          copy-of k.object b (won-decided t chosen p c e k.place k.object (decision.Copied b)
          (subst (λ n. At c.won k.place (told k.object (decision.Copied n))) address k.won))

  -- The other regions are as they were.

  was-out : (q : ℕ) → is_in q (numbers_of (backs_of c)) ≡ true → (q < t.shape.regions) × (is_free_at t q ≡ true)
  was-out q among = free-numbered t e.table q (subst (λ ns. is_in q ns ≡ true) may.out among)

  free-none : (b : ℕ) → (region_of t.shape b < t.shape.regions) × (is_free_at t (region_of t.shape b) ≡ true) → objects_of (vacated t) b ≡ None
  free-none b free =
      ap (λ (y : Land). object_at y (offset_of t.shape b))
      (land-vacated t e.table (region_of t.shape b) (empty_land 0 0) free.0
      ∙ ap (λ f. cond f (empty_land (region_of t.shape b) t.shape.words) (land_at t (region_of t.shape b))) free.1)

  pub drawn-free : (q : ℕ) → IsTrue (is_in q (filled_numbers c)) → is_object (role_at (vacated t) q) ≡ false
  drawn-free q lies =
      let r = filled-at c.buffers.regions q lies in
      free-no-object (role_at t q) (subst (λ n. is_free_at t n ≡ true) r.3 (was-free r.0 r.1 r.2).1)

  pub others-same : (b : ℕ) → is_in (region_of t.shape b) (filled_numbers c) ≡ false → things_of (refilled t c) b ≡ things_of (vacated t) b
  others-same b out = ap (option_and_then thing_in) (by (is_in q (map (λ (y : Land). y.number) c.spares)) refl)
    where
      q : ℕ
      q = region_of t.shape b

      by : (s : Bool) → is_in q (map (λ (y : Land). y.number) c.spares) ≡ s → objects_of (refilled t c) b ≡ objects_of (vacated t) b
      by false none = objects-other (backs_of c) (vacated t) b (all-others q c.buffers.regions c.spares out none)
      by true lies =
          let r = spare-at c.buffers.regions c.spares q lies in
          let here : q ≡ r.1.number = sym r.3 in
          let free = was-out q (subst (λ n. is_in n (numbers_of (backs_of c)) ≡ true) r.3 (number-among (backs_of c) r.0 (as_spare r.1) r.2)) in
          let within : r.1.number < length (vacated t).lands = omega (arith, free.0, here, lands-vacated t e.table) in
          let empty : r.1.starts ≡ [] = ((each-stands t.shape (backs_of c) r.0 (as_spare r.1) may.each r.2).free refl).0 in
          objects-back (backs_of c) (vacated t) r.0 (as_spare r.1) b may.apart r.2 within here
          ∙ (ap (λ ss. cond (list_any (λ s. eqb s (offset_of t.shape b)) ss) (Some (object_in r.1.words (offset_of t.shape b))) None) empty ∙ sym (free-none b free))

  pub put-back : IsPutBack l (decision_of c) (filled_numbers c) (refilled t c)
  put-back = record {
    shape = back-shape (backs_of c) (vacated t);
    free = drawn-free;
    copies = copy-lies;
    only = only-copies;
    others = others-same;
  }
