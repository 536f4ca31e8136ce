-- What is told of an evacuation is that of its collection: where copies lie, which names survivors have, and in which regions
-- they are.
use Rattle.std.proofs.Common.{◌≡◌, ◌+◌, ◌<◌, ◌≤◌, ◌⊎◌, ℕ, zero, suc, inl, inr, Bool, true, false, cond, eqb, List, [], ◌∷◌, length, map, get_or, Some, refl, ap, sym, subst, ◌∙◌, arith}
use Rattle.std.specs.Prelude.{◌↔◌, All, IsSome, IsTrue, filter, option_and_then, slice_get}
use Rattle.std.specs.List.{list_any}
use Rattle.std.proofs.lemmas.Bool.{cases_eq, eqb-true, false≢true, ne_eqb, or_cases}
use Rattle.std.proofs.lemmas.List.{get_or-map, length-map}
use Rattle.std.proofs.lemmas.List.Sums.{sum_by-cons}
use Rattle.std.proofs.lemmas.Map.Keys.{IsDistinct-from_apart}
use Rattle.std.proofs.lemmas.Map.Steps.{length-le_from_distinct_below}
use Rattle.std.proofs.lemmas.Option.{get_or_from_slice_get, none-some, same_Some, slice_get-get_or, slice_get_within}
use Rattle.bal_base.proofs.Lemmas.{among-cases, among-first, among-later}
use Rattle.bal_base.specs.Bits.{IsAscending}
use Rattle.bal_copyfwd.specs.Returned.{IsEvacuationOf, filled_numbers}
use Rattle.bal_core.specs.Core.{Fits}
use Rattle.bal_core.specs.Finished.{Evacuation, IsEvacuated, drawn_by, won_by}
use Rattle.bal_core.specs.Start.{name_of}
use Rattle.bal_core.specs.Steps.{told, used, words_put}
use Rattle.bal_core.specs.World.{At, World}
use Rattle.bal_core.specs.declared.event.Decision.{Decision}
use Rattle.bal_core.specs.declared.event.Decision.TheVariants as decision
use Rattle.bal_core.specs.declared.row.Drawn.{Drawn}
use Rattle.bal_core.specs.declared.row.Told.{Told}
use Rattle.bal_dest.specs.Buffers.{destination_at}
use Rattle.bal_dest.specs.declared.buffers.Destination.{Destination}
use Rattle.bal_evacuate.specs.Course.{Course, decision_of}
use Rattle.bal_evacuate.specs.Plan.{Plan}
use Rattle.bal_evacuate.proofs.Lemmas.{drawn-at, drawn-is}
use Rattle.bal_gather.specs.Lent.{Lent, is_chosen}
use Rattle.bal_gather.specs.Numbers.{number_of, starts_of}
use Rattle.bal_gather.specs.Objects.{age_at, graph_of, words_at}
use Rattle.bal_kept.specs.Collected.{world_from}
use Rattle.bal_layout.specs.Addresses.{IsAddress, region_of}
use Rattle.bal_layout.specs.Regions.{is_in}
use Rattle.bal_layout.specs.Shape.{Shape}
use Rattle.bal_layout.specs.declared.name.Name.{Name}
use Rattle.bal_region.specs.Changes.{empty_land}
use Rattle.bal_table.specs.Occupied.{vacated}
use Rattle.bal_table.specs.Table.{IsTable, Table, thing_in, things_of}
use Rattle.bal_table.proofs.Lemmas.{IsTable-vacated, object-within, objects-vacated, seen}
use Rattle.bal_told.specs.OnBoard.{AreNamedApart}
use Rattle.bal_told.specs.Telling.{IsTellable}
use Rattle.bal_told.proofs.Lemmas.{at-in}
use Rattle.bal_words.proofs.Lemmas.{there}
use Rattle.bal_words.specs.Things.{Thing}
use Rattle.bal_partial.specs.Collection.{AreSurvivorRegions, Collection, HoldsSurvivors, IsCollection, lent_by, marked_of, plan_of, seen_of}
use Rattle.bal_partial.specs.Evacuating.{HasCopy}
use Rattle.bal_partial.proofs.SurvivorRegions.{LiesIn}

-- The regions of the copies.

number_in : Destination → ℕ
number_in d = d.region.number

filled-at : (ds : List Destination) (q : ℕ) → is_in q (map (λ (d : Destination). d.region.number) ds) ≡ true → (j : ℕ) × (d : Destination) × At ds j d × (d.region.number ≡ q)
filled-at [] q among = absurd (false≢true among)
filled-at (d ∷ ds) q among = elim (among-cases d.region.number q (map (λ (d : Destination). d.region.number) ds) among) [
  | inl here ↦ (zero, d, refl, here)
  | inr later ↦ let r = filled-at ds q later in (suc r.0, r.1, r.2, r.3)
]

filled-in : (ds : List Destination) (j : ℕ) (d : Destination) → At ds j d → is_in d.region.number (map (λ (d : Destination). d.region.number) ds) ≡ true
filled-in [] j d at = absurd (none-some d at)
filled-in (e ∷ ds) zero d at =
    subst (λ (y : Destination). is_in y.region.number (map (λ (d : Destination). d.region.number) (e ∷ ds)) ≡ true) (same_Some e d at)
    (among-first e.region.number (map (λ (d : Destination). d.region.number) ds))
filled-in (e ∷ ds) (suc j) d at = among-later e.region.number d.region.number (map (λ (d : Destination). d.region.number) ds) (filled-in ds j d at)

-- where words were put there is a copy
later-copy : (s : Shape) (t : Told) (won : List Told) (q : ℕ) → HasCopy s won (length won) q → HasCopy s (t ∷ won) (length (t ∷ won)) q
later-copy s t won q copy =
    let less : copy.place < length won = copy.before in
    record {
      place = suc copy.place;
      object = copy.object;
      address = copy.address;
      before = omega (arith, less);
      won_is = copy.won_is;
      here = copy.here;
    }

some-copy : (w : World) (q : ℕ) (won : List Told) → 1 ≤ used w q won → HasCopy w.shape won (length won) q
some-copy w q [] some = absurd (omega (arith, some))
some-copy w q (t ∷ won) some = by (λ enough. some-copy w q won enough) t.decision refl
  where
    more : used w q (t ∷ won) ≡ words_put w q t.object t.decision + used w q won
    more = sum_by-cons (λ (u : Told). words_put w q u.object u.decision) t won

    rest : (1 ≤ used w q won → HasCopy w.shape won (length won) q) → words_put w q t.object t.decision ≡ 0
        → HasCopy w.shape (t ∷ won) (length (t ∷ won)) q
    rest others none = later-copy w.shape t won q (others (omega (arith, some, more, none)))

    by : (1 ≤ used w q won → HasCopy w.shape won (length won) q) → (d : Decision) → t.decision ≡ d → HasCopy w.shape (t ∷ won) (length (t ∷ won)) q
    by others decision.Marked is = rest others (ap (λ d. words_put w q t.object d) is)
    by others (decision.Copied a) is = elim (cases_eq (region_of w.shape a) q) [
      | inl same ↦ record {
        place = zero;
        object = t.object;
        address = a;
        before = omega arith;
        won_is = ap (λ d. Some (told t.object d)) is;
        here = same;
      }
      | inr other ↦ rest others (ap (λ d. words_put w q t.object d) is ∙ ap (λ b. cond b (get_or w.sizes t.object 0) 0) (ne_eqb (region_of w.shape a) q other))
    ]

-- what is left by a test was there
in-kept : (p : ℕ → Bool) (xs : List ℕ) (q : ℕ) → IsTrue (is_in q (filter p xs)) → IsTrue (is_in q xs)
in-kept p [] q among = absurd (false≢true among)
in-kept p (x ∷ xs) q among = by (p x) (in-kept p xs q) among
  where
    by : (b : Bool) → (IsTrue (is_in q (filter p xs)) → IsTrue (is_in q xs)) → IsTrue (is_in q (cond b (x ∷ filter p xs) (filter p xs))) → IsTrue (is_in q (x ∷ xs))
    by true rest here = elim (among-cases x q (filter p xs) here) [
      | inl same ↦ subst (λ k. IsTrue (is_in k (x ∷ xs))) same (among-first x xs)
      | inr later ↦ among-later x q xs (rest later)
    ]
    by false rest here = among-later x q xs (rest here)

-- Numbers below a limit, of which no two are one.

below-all : (xs : List ℕ) (n : ℕ) → ((i k : ℕ) → At xs i k → k < n) → (q : ℕ) → list_any (eqb q) xs ≡ true → q < n
below-all [] n less q among = absurd (false≢true among)
below-all (x ∷ xs) n less q among = elim (or_cases (eqb q x) (list_any (eqb q) xs) among) [
  | inl here ↦ less zero q (ap Some (sym (eqb-true q x here)))
  | inr later ↦ below-all xs n (λ i k at. less (suc i) k at) q later
]

few-apart : (won : List Told) (n : ℕ) → ((i : ℕ) (t : Told) → At won i t → t.object < n)
    → ((i j : ℕ) (t u : Told) → At won i t → At won j u → t.object ≡ u.object → i ≡ j) → length won ≤ n
few-apart won n less once =
    let few : length (map (λ (t : Told). t.object) won) ≤ n
    = length-le_from_distinct_below (map (λ (t : Told). t.object) won) n
    (IsDistinct-from_apart eqb (map (λ (t : Told). t.object) won) apart)
    (below-all (map (λ (t : Told). t.object) won) n below) in
    omega (arith, few, length-map won (λ (t : Told). t.object))
  where
    item : ℕ → Told
    item i = get_or won i (told 0 decision.Marked)

    at-item : (i : ℕ) → i < length won → At won i (item i)
    at-item i within = slice_get-get_or won i (told 0 decision.Marked) within

    object-is : (i d : ℕ) → i < length won → get_or (map (λ (t : Told). t.object) won) i d ≡ (item i).object
    object-is i d within = get_or-map (λ (t : Told). t.object) won i (told 0 decision.Marked) d within

    below : (i k : ℕ) → At (map (λ (t : Told). t.object) won) i k → k < n
    below i k at =
        let long : length (map (λ (t : Told). t.object) won) ≡ length won = length-map won (λ (t : Told). t.object) in
        let early : i < length (map (λ (t : Told). t.object) won) = slice_get_within (map (λ (t : Told). t.object) won) i k at in
        let within : i < length won = omega (arith, early, long) in
        subst (λ m. m < n) (sym (object-is i 0 within) ∙ get_or_from_slice_get (map (λ (t : Told). t.object) won) i k 0 at) (less i (item i) (at-item i within))

    apart : (i j d : ℕ) → i < j → j < length (map (λ (t : Told). t.object) won)
        → eqb (get_or (map (λ (t : Told). t.object) won) i d) (get_or (map (λ (t : Told). t.object) won) j d) ≡ false
    apart i j d before end =
        let long : length (map (λ (t : Told). t.object) won) ≡ length won = length-map won (λ (t : Told). t.object) in
        let second : j < length won = omega (arith, end, long) in
        let first : i < length won = omega (arith, second, before) in
        ne_eqb (get_or (map (λ (t : Told). t.object) won) i d) (get_or (map (λ (t : Told). t.object) won) j d) (λ same.
        let one : i ≡ j = once i j (item i) (item j) (at-item i first) (at-item j second) (sym (object-is i d first) ∙ (same ∙ object-is j d second)) in
        omega (arith, one, before))

-- What laws say.

abbrev pub AreNumbered : Type 0
AreNumbered = (l : Lent) (a k : ℕ) → IsTable l.table → (number_of l a ≡ Some k) ↔ (slice_get (starts_of l) k ≡ Some a)

abbrev pub AreListed : Type 0
AreListed = (l : Lent) (a : ℕ) → IsTable l.table → IsTrue (is_in a (starts_of l)) ↔ (IsSome (things_of l.table a) × IsTrue (is_chosen l a))

abbrev pub AreTellable : Type 0
AreTellable = (e : Evacuation) (n : ℕ) → IsEvacuated e → All (IsTellable e.world.shape (length e.world.ages)) (won_by e n)

abbrev pub WereTold : Type 0
WereTold = (t : Table) (chosen : List ℕ) (p : Plan) (c : Course) (k : ℕ) (d : Decision) → IsEvacuationOf t chosen p c
    → decision_of c k ≡ Some d → (i : ℕ) × At c.won i (told k d)

abbrev pub HaveNames : Type 0
HaveNames = (l : Lent) (held pool : List ℕ) (k a : ℕ) (x : Thing) → At (starts_of l) k a → things_of l.table a ≡ Some x
    → At (world_from l held pool).names k x.name

-- Of one collection.

module _ (x : Collection) (roots : List ℕ) (is : IsCollection roots x) where
  abbrev l : Lent
  l = lent_by x

  abbrev won : List Told
  won = x.course.won

  evacuated : IsEvacuated (seen_of x)
  evacuated = is.evacuation.copied.evacuated

  lent-table : IsTable (vacated x.table)
  lent-table = IsTable-vacated x.table is.evacuation.table

  module _ (tellable : AreTellable) where
    pub each-tellable : All (IsTellable x.table.shape (length (graph_of l).ages)) won
    each-tellable = tellable (seen_of x) 0 evacuated

    tellable-at : (i : ℕ) (t : Told) → At won i t → IsTellable x.table.shape (length (graph_of l).ages) t
    tellable-at i t at =
        subst (IsTellable x.table.shape (length (graph_of l).ages)) (get_or_from_slice_get won i t t at) (each-tellable i t (slice_get_within won i t at))

    pub copies-within : (i k a : ℕ) → At won i (told k (decision.Copied a)) → IsAddress x.table.shape a
    copies-within i k a at = (tellable-at i (told k (decision.Copied a)) at).address

    pub decided-within : WereTold → (k a : ℕ) → decision_of x.course k ≡ Some (decision.Copied a) → IsAddress x.table.shape a
    decided-within were k a decided =
        let w = were x.table x.chosen (plan_of x) x.course k (decision.Copied a) is.evacuation decided in copies-within w.0 k a w.1

    pub few-won : length won ≤ length (starts_of l)
    few-won =
        let count : length (graph_of l).ages ≡ length (starts_of l) = length-map (starts_of l) (age_at l.table) in
        let few : length won ≤ length (graph_of l).ages
        = few-apart won (length (graph_of l).ages) (λ i t at. (tellable-at i t at).object)
        (λ i j t u at there same. (evacuated.survivors.once 0 0 i j u.object t.decision u.decision (subst (λ k. At won i (told k t.decision)) same at) there).1) in
        omega (arith, few, count)

  pub marked-within : AreListed → (a : ℕ) → IsTrue (is_in a (marked_of x)) → IsAddress x.table.shape a
  marked-within listed a among =
      let start = ((listed l a lent-table).0 (in-kept _ (starts_of l) a among)).0 in
      let y = there (things_of (vacated x.table) a) start in
      let z = seen (vacated x.table) a y.0 lent-table y.1 in
      (object-within (vacated x.table) a z.object lent-table z.is).0

  -- Names.

  module _ (listed : AreListed) (numbers : AreNumbered) (names : HaveNames) where
    record Named (k : ℕ) (n : Name) : Type 0 where
      address : ℕ
      thing : Thing
      at : At (starts_of l) k address
      is_there : things_of (vacated x.table) address ≡ Some thing
      name : n ≡ thing.name

    named : (k : ℕ) (n : Name) → At (seen_of x).world.names k n → Named k n
    named k n at =
        let ws = map (words_at l.table) (starts_of l) in
        let less : k < length (map name_of ws) = slice_get_within (map name_of ws) k n at in
        let within : k < length (starts_of l) = omega (arith, less, length-map ws name_of, length-map (starts_of l) (words_at l.table)) in
        let a = get_or (starts_of l) k 0 in
        let here : At (starts_of l) k a = slice_get-get_or (starts_of l) k 0 within in
        let start = ((listed l a lent-table).0 (at-in (starts_of l) k a here)).0 in
        let y = there (things_of (vacated x.table) a) start in
        record {
          address = a;
          thing = y.0;
          at = here;
          is_there = y.1;
          name = same_Some n y.0.name (sym at ∙ names l [] [] k a y.0 here y.1);
        }

    same-things : (a : ℕ) → things_of (vacated x.table) a ≡ things_of x.table a
    same-things a = ap (option_and_then thing_in) (objects-vacated x.table is.evacuation.table a)

    pub named-apart : AreNamedApart (seen_of x).world
    named-apart j k n at also =
        let y = named j n at in
        let z = named k n also in
        let same : y.address ≡ z.address =
        is.begins.named y.address z.address y.thing z.thing (sym (same-things y.address) ∙ y.is_there) (sym (same-things z.address) ∙ z.is_there) (sym y.name ∙ z.name) in
        same_Some j k (sym ((numbers l y.address j lent-table).1 y.at) ∙ (ap (number_of l) same ∙ (numbers l z.address k lent-table).1 z.at))

  -- The regions of survivors.

  filled-from : (q : ℕ) → HasCopy x.table.shape won (length won) q → IsTrue (is_in q (filled_numbers x.course))
  filled-from q copy =
      let f : Fits (seen_of x).world (drawn_by (seen_of x) 0) (won_by (seen_of x) 0) copy.place copy.object copy.address
      = evacuated.copies.fits 0 copy.place copy.object copy.address copy.won_is in
      let ds = x.course.buffers.regions in
      let d = drawn-is ds f.place f.drawn f.drew in
      let region : f.drawn.region ≡ (destination_at ds f.place).region.number = ap (λ (y : Drawn). y.region) d.1 in
      let at : At ds f.place (destination_at ds f.place) = slice_get-get_or ds f.place (record { age = 0; region = empty_land 0 0 }) d.0 in
      subst (λ n. IsTrue (is_in n (filled_numbers x.course))) (sym region ∙ (sym f.region ∙ copy.here)) (filled-in ds f.place (destination_at ds f.place) at)

  filled-back : (q : ℕ) → IsTrue (is_in q (filled_numbers x.course)) → HasCopy x.table.shape won (length won) q
  filled-back q among =
      let ds = x.course.buffers.regions in
      let r = filled-at ds q among in
      let less : r.0 < length ds = slice_get_within ds r.0 r.1 r.2 in
      let number : (destination_at ds r.0).region.number ≡ q
      = ap (λ (y : Destination). y.region.number) (get_or_from_slice_get ds r.0 r.1 (record { age = 0; region = empty_land 0 0 }) r.2) ∙ r.3 in
      subst (HasCopy x.table.shape won (length won)) number
      (some-copy (seen_of x).world (destination_at ds r.0).region.number won (is.filled.filled 0 r.0 _ (drawn-at 0 ds r.0 less)))

  regions-there : (q : ℕ) → HasCopy x.table.shape won (length won) q ⊎ LiesIn x.table.shape (marked_of x) q → HoldsSurvivors x q
  regions-there q (inl copy) = inl (filled-from q copy)
  regions-there q (inr lies) = inr lies

  regions-back : (q : ℕ) → HoldsSurvivors x q → HasCopy x.table.shape won (length won) q ⊎ LiesIn x.table.shape (marked_of x) q
  regions-back q (inl among) = inl (filled-back q among)
  regions-back q (inr lies) = inr lies

  pub survivor-regions : (regions : List ℕ) → IsAscending regions
      → ((q : ℕ) → IsTrue (is_in q regions) ↔ (HasCopy x.table.shape won (length won) q ⊎ LiesIn x.table.shape (marked_of x) q)) → AreSurvivorRegions x regions
  survivor-regions regions up just = record {
    ascending = up;
    just = λ q. (λ among. regions-there q ((just q).0 among), λ holds. (just q).1 (regions-back q holds));
  }
