-- Copies lie where they were copied to, and nothing else does.
use Rattle.std.proofs.Common.{◌≡◌, ◌+◌, ◌<◌, ◌≤◌, ◌==◌, ℕ, zero, suc, inl, inr, IsTrue, List, [], ◌∷◌, length, take, get_or, Option, Some, None, refl, ap, sym, subst, ◌∙◌, arith}
use Rattle.std.specs.Prelude.{slice_get}
use Rattle.std.specs.List.{list_any}
use Rattle.std.specs.Option.{option_map}
use Rattle.std.proofs.lemmas.Bool.{cases_eq, eqb-true, false≢true, or_cases}
use Rattle.std.proofs.lemmas.List.{length-map, take_all, take_more}
use Rattle.std.proofs.lemmas.List.Folds.{list_any-append}
use Rattle.std.proofs.lemmas.Option.{get_or_from_slice_get, none-some, same_Some, slice_get-get_or, slice_get-map, slice_get_within}
use Rattle.bal_layout.specs.Addresses.{offset_of, region_of}
use Rattle.bal_core.specs.declared.event.Decision.{Decision}
use Rattle.bal_core.specs.declared.event.Decision.TheVariants as decision
use Rattle.bal_core.specs.declared.row.Told.{Told}
use Rattle.bal_core.specs.declared.row.Drawn.{Drawn}
use Rattle.bal_core.specs.Core.{Fits}
use Rattle.bal_core.specs.Rest.{EndsWalk, IsWalk}
use Rattle.bal_core.specs.Start.{IsObject}
use Rattle.bal_core.specs.Steps.{told, used}
use Rattle.bal_core.specs.World.{At, World, size_of}
use Rattle.bal_region.specs.Changes.{empty_land, with_object}
use Rattle.bal_core.proofs.Lemmas.{copied-marked, same_Copied}
use Rattle.bal_region.specs.Land as land
use Rattle.bal_region.specs.Land.{IsLand, Land, object_at, starts_at}
use Rattle.bal_region.proofs.Lemmas.{IsLand-placed, length-overwrite, none-at_used, object-placed}
use Rattle.bal_dest.specs.declared.buffers.Destination.{Destination}
use Rattle.bal_evacuate.specs.Course.{Course, drawn_by}
use Rattle.bal_evacuate.specs.Plan.{IsBare, IsCopied, IsCopyAt, Plan, filled_by, land_with_copies, numbers_of, pooled, with_decided, words_in, world_for}
use Rattle.bal_evacuate.proofs.Deciding.{object-is}
use Rattle.bal_evacuate.proofs.Lands.{copies-push, number-kept, put-elsewhere, put-here, size-is, used-filled}
use Rattle.bal_evacuate.proofs.Lists.{at-mapped}
use Rattle.bal_evacuate.proofs.Walk.{below-next}

bare-land : (l : Land) → l.starts ≡ [] → l.used ≡ 0 → IsLand l
bare-land l starts used =
    let same : record { number = l.number; words = l.words; starts = []; used = 0 } ≡ l
    = ap (λ s. record { number = l.number; words = l.words; starts = s; used = 0 }) (sym starts) ∙ ap (λ n. record l { used = n }) (sym used) in
    subst IsLand same (record { laid = omega arith; within = omega arith })

-- One region, with the copies of the first so many decisions.
module _ (p : Plan) (c : Course) (l : Land) (bare : IsBare p.shape l)
    (fits : (i k a : ℕ) → At c.won i (told k (decision.Copied a)) → region_of p.shape a ≡ l.number
    → (offset_of p.shape a ≡ used (world_for p) l.number (take i c.won)) × (offset_of p.shape a + size_of (world_for p) k ≤ p.shape.words))
    (objects : (i k a : ℕ) → At c.won i (told k (decision.Copied a)) → IsObject p.shape (words_in p.graph k)) where
  abbrev after : ℕ → Land
  after m = land_with_copies p (take m c.won) l

  record Lies (m : ℕ) : Type 0 where
    is : IsLand (after m)
    long : length (after m).words ≡ p.shape.words
    there : (i k a : ℕ) → i < m → At c.won i (told k (decision.Copied a)) → region_of p.shape a ≡ l.number
        → object_at (after m) (offset_of p.shape a) ≡ Some (words_in p.graph k)
    only : (s : ℕ) → IsTrue (starts_at (after m) s) → IsCopyAt p c l.number s

  used-is : (m : ℕ) → (after m).used ≡ used (world_for p) l.number (take m c.won)
  used-is m =
      let filled : (after m).used ≡ l.used + used (world_for p) l.number (take m c.won) = used-filled p (take m c.won) l in
      let none : l.used ≡ 0 = bare.used in
      omega (arith, filled, none)

  number-is : (m : ℕ) → (after m).number ≡ l.number
  number-is m = number-kept p (take m c.won) l

  first : Lies 0
  unfolding land_with_copies
  first = record {
    is = bare-land l bare.starts bare.used;
    long = bare.words;
    there = λ i k a less. absurd (omega (arith, less));
    only = λ s starts. absurd (false≢true (sym (ap (list_any (λ x. x == s)) bare.starts) ∙ starts));
  }

  -- the next decision
  module _ (m : ℕ) (lies : Lies m) (x : Told) (at : At c.won m x) where
    after-next : after (m + 1) ≡ with_decided p x.object x.decision (after m)
    after-next =
        let less : m < length c.won = slice_get_within c.won m x at in
        ap (λ w. land_with_copies p w l) (take_more c.won m x less)
        ∙ copies-push p (take m c.won) (get_or c.won m x) l
        ∙ ap (λ (t : Told). with_decided p t.object t.decision (after m)) (get_or_from_slice_get c.won m x x at)

    -- it changes nothing here
    same : after (m + 1) ≡ after m → ((a : ℕ) → x.decision ≡ decision.Copied a → region_of p.shape a ≡ l.number → ⊥) → Lies (m + 1)
    same e other = record {
      is = subst IsLand (sym e) lies.is;
      long = ap (λ (y : Land). length y.words) e ∙ lies.long;
      there = λ i k a less here region. elim (below-next i m less) [
        | inl old ↦ ap (λ (y : Land). object_at y (offset_of p.shape a)) e ∙ lies.there i k a old here region
        | inr new ↦
            let now : told k (decision.Copied a) ≡ x = same_Some (told k (decision.Copied a)) x (sym (subst (λ j. At c.won j (told k (decision.Copied a))) new here) ∙ at) in
            absurd (other a (sym (ap (λ (t : Told). t.decision) now)) region)
      ];
      only = λ s starts. lies.only s (subst (λ (y : Land). IsTrue (starts_at y s)) e starts);
    }

    -- it copies an object here
    module _ (a : ℕ) (copied : x.decision ≡ decision.Copied a) (region : region_of p.shape a ≡ l.number) where
      abbrev words : List ℕ
      words = words_in p.graph x.object

      abbrev old : Land
      old = after m

      won : At c.won m (told x.object (decision.Copied a))
      won = at ∙ ap (λ d. Some (told x.object d)) copied

      offset : offset_of p.shape a ≡ old.used
      offset = (fits m x.object a won region).0 ∙ sym (used-is m)

      room : old.used + length words ≤ length old.words
      room =
          let within : offset_of p.shape a + size_of (world_for p) x.object ≤ p.shape.words = (fits m x.object a won region).1 in
          let long : length old.words ≡ p.shape.words = lies.long in
          omega (arith, within, long, offset, size-is p x.object)

      object : land.IsObject (length old.words) words
      object = subst (λ n. land.IsObject n words) (sym lies.long) (object-is p.shape words (objects m x.object a won))

      now : after (m + 1) ≡ with_object old words
      now = after-next ∙ ap (λ d. with_decided p x.object d old) copied ∙ put-here p x.object a old (region ∙ sym (number-is m))

      there-now : (i k b : ℕ) → i < m + 1 → At c.won i (told k (decision.Copied b)) → region_of p.shape b ≡ l.number
          → object_at (with_object old words) (offset_of p.shape b) ≡ Some (words_in p.graph k)
      there-now i k b less here on = elim (below-next i m less) [
        | inl before ↦
            let was : object_at old (offset_of p.shape b) ≡ Some (words_in p.graph k) = lies.there i k b before here on in
            (object-placed old words lies.is object room).elsewhere (offset_of p.shape b)
            (λ e. none-some (words_in p.graph k) (sym (none-at_used old lies.is) ∙ ap (object_at old) (sym e) ∙ was)) ∙ was
        | inr last ↦
            let same_told : told k (decision.Copied b) ≡ told x.object (decision.Copied a)
            = same_Some (told k (decision.Copied b)) (told x.object (decision.Copied a)) (sym (subst (λ j. At c.won j (told k (decision.Copied b))) last here) ∙ won) in
            let at_end : offset_of p.shape b ≡ old.used
            = ap (offset_of p.shape) (same_Copied b a (ap (λ (t : Told). t.decision) same_told)) ∙ offset in
            ap (object_at (with_object old words)) at_end ∙ (object-placed old words lies.is object room).here
            ∙ ap (λ (t : Told). Some (words_in p.graph t.object)) (sym same_told)
      ]

      only-now : (s : ℕ) → IsTrue (starts_at (with_object old words) s) → IsCopyAt p c l.number s
      only-now s starts =
          elim (or_cases _ _ (sym (list_any-append (λ y. y == s) old.starts (old.used ∷ [])) ∙ starts)) [
            | inl before ↦ lies.only s before
            | inr last ↦ elim (or_cases _ _ last) [
              | inl here ↦ record {
                place = m;
                object = x.object;
                address = a;
                won = won;
                region_is = region;
                offset_is = offset ∙ eqb-true old.used s here;
              }
              | inr none ↦ absurd (false≢true none)
            ]
          ]

      placed : Lies (m + 1)
      placed = record {
        is = subst IsLand (sym now) (IsLand-placed old words lies.is object room);
        long = ap (λ (y : Land). length y.words) now ∙ length-overwrite old.words old.used words room ∙ lies.long;
        there = λ i k b less here on. ap (λ (y : Land). object_at y (offset_of p.shape b)) now ∙ there-now i k b less here on;
        only = λ s starts. only-now s (subst (λ (y : Land). IsTrue (starts_at y s)) now starts);
      }

    next : Lies (m + 1)
    next = by x.decision refl
      where
        by : (d : Decision) → x.decision ≡ d → Lies (m + 1)
        by decision.Marked is = same (after-next ∙ ap (λ d. with_decided p x.object d (after m)) is) (λ a copied. absurd (copied-marked a (sym copied ∙ is)))
        by (decision.Copied a) is = elim (cases_eq (region_of p.shape a) l.number) [
          | inl here ↦ placed a is here
          | inr other ↦
              let differs : (b : ℕ) → x.decision ≡ decision.Copied b → region_of p.shape b ≡ l.number → ⊥
              = λ b copied there. other (ap (region_of p.shape) (same_Copied a b (sym is ∙ copied)) ∙ there) in
              same (after-next ∙ put-elsewhere p x.object x.decision (after m) (λ b copied there. differs b copied (there ∙ number-is m))) differs
        ]

  each : (m : ℕ) → m ≤ length c.won → Lies m
  each zero few = first
  each (suc m) few =
      let less : m < length c.won = omega (arith, few) in
      let plus : m + 1 ≡ suc m = omega arith in
      subst Lies plus (next m (each m (omega (arith, few))) (get_or c.won m (told 0 decision.Marked)) (slice_get-get_or c.won m (told 0 decision.Marked) less))

  whole : after (length c.won) ≡ land_with_copies p c.won l
  whole = ap (λ w. land_with_copies p w l) (take_all (length c.won) c.won (omega arith))

  pub lies-there : (i k a : ℕ) → At c.won i (told k (decision.Copied a)) → region_of p.shape a ≡ l.number
      → object_at (land_with_copies p c.won l) (offset_of p.shape a) ≡ Some (words_in p.graph k)
  lies-there i k a at region =
      ap (λ (y : Land). object_at y (offset_of p.shape a)) (sym whole)
      ∙ (each (length c.won) (omega arith)).there i k a (slice_get_within c.won i (told k (decision.Copied a)) at) at region

  pub lies-only : (s : ℕ) → IsTrue (starts_at (land_with_copies p c.won l) s) → IsCopyAt p c l.number s
  lies-only s starts = (each (length c.won) (omega arith)).only s (subst (λ (y : Land). IsTrue (starts_at y s)) (sym whole) starts)

  pub lies-land : IsLand (land_with_copies p c.won l) × (length (land_with_copies p c.won l).words ≡ p.shape.words)
  lies-land =
      let r = each (length c.won) (omega arith) in
      (subst IsLand whole r.is, ap (λ (y : Land). length y.words) (sym whole) ∙ r.long)

-- All regions.
module _ (p : Plan) (c : Course) (is : IsCopied p c) where
  abbrev w : World
  w = world_for p

  fitting : (i k a : ℕ) → At c.won i (told k (decision.Copied a)) → Fits w (drawn_by c) c.won i k a
  fitting i k a at = is.evacuated.copies.fits 0 i k a at

  -- what is decided is an object
  reached-within : (k : ℕ) → EndsWalk w k → k < length w.sizes
  reached-within k ends = by ends.0 ends.1
    where
      by : (before : List ℕ) → IsWalk w (k ∷ before) → k < length w.sizes
      by [] root = is.evacuated.world.roots k root
      by (j ∷ before) walk = is.evacuated.world.slots j k walk.0

  decided-within : (i k a : ℕ) → At c.won i (told k (decision.Copied a)) → k < length p.graph.words
  decided-within i k a at =
      let less : k < length w.sizes = reached-within k (is.evacuated.survivors.walked 0 i k (decision.Copied a) at) in
      let same : length w.sizes ≡ length p.graph.words = length-map p.graph.words length in
      omega (arith, less, same)

  decided-object : (i k a : ℕ) → At c.won i (told k (decision.Copied a)) → IsObject p.shape (words_in p.graph k)
  decided-object i k a at =
      is.may.start.graph.objects k (words_in p.graph k) (slice_get-get_or p.graph.words k [] (decided-within i k a at))

  fits-in : (l : Land) (i k a : ℕ) → At c.won i (told k (decision.Copied a)) → region_of p.shape a ≡ l.number
      → (offset_of p.shape a ≡ used w l.number (take i c.won)) × (offset_of p.shape a + size_of w k ≤ p.shape.words)
  fits-in l i k a at region =
      let f = fitting i k a at in
      (f.offset ∙ ap (λ q. used w q (take i c.won)) (sym f.region ∙ region), f.within)

  -- a drawn region is the pool's at its ordinal
  pooled-as : (j : ℕ) (x : Drawn) → At (drawn_by c) j x → At (numbers_of p.pool) x.ordinal x.region
  pooled-as j x at = (is.evacuated.regions.drawn 0 j x at).1

  bare-as : (j : ℕ) (x : Drawn) → At (drawn_by c) j x → IsBare p.shape (pooled p x.ordinal) × ((pooled p x.ordinal).number ≡ x.region)
  bare-as j x at =
      let within : x.ordinal < length (numbers_of p.pool) = slice_get_within (numbers_of p.pool) x.ordinal x.region (pooled-as j x at) in
      let same : length (numbers_of p.pool) ≡ length p.pool = length-map p.pool (λ (l : Land). l.number) in
      let here : At p.pool x.ordinal (pooled p x.ordinal) = slice_get-get_or p.pool x.ordinal (empty_land 0 0) (omega (arith, within, same)) in
      let number : At (numbers_of p.pool) x.ordinal (pooled p x.ordinal).number = at-mapped (λ (l : Land). l.number) p.pool x.ordinal (pooled p x.ordinal) here in
      ((is.may.bare x.ordinal (pooled p x.ordinal) here).1, same_Some (pooled p x.ordinal).number x.region (sym number ∙ pooled-as j x at))

  region-at : (j : ℕ) (x : Drawn) → At (drawn_by c) j x → At c.buffers.regions j (filled_by p c.won x)
  region-at j x at = subst (λ l. At l j (filled_by p c.won x)) (sym is.copies) (at-mapped (filled_by p c.won) (drawn_by c) j x at)

  pub copy-there : (i k a : ℕ) → At c.won i (told k (decision.Copied a))
      → (j : ℕ) × (d : Destination) × At c.buffers.regions j d × (d.region.number ≡ region_of p.shape a)
      × (object_at d.region (offset_of p.shape a) ≡ Some (words_in p.graph k))
  copy-there i k a at =
      let f : Fits w (drawn_by c) c.won i k a = fitting i k a at in
      let l : Land = pooled p f.drawn.ordinal in
      let bare = bare-as f.place f.drawn f.drew in
      let number : region_of p.shape a ≡ l.number = f.region ∙ sym bare.1 in (
        f.place,
        filled_by p c.won f.drawn,
        region-at f.place f.drawn f.drew,
        number-kept p c.won l ∙ sym number,
        lies-there p c l bare.0 (fits-in l) decided-object i k a at number,
      )

  -- a region with copies is what they make of the pool's
  drawn-at-place : (j : ℕ) (d : Destination) → At c.buffers.regions j d → (x : Drawn) × At (drawn_by c) j x × (filled_by p c.won x ≡ d)
  drawn-at-place j d at = by (slice_get (drawn_by c) j) refl
    where
      mapped : option_map (filled_by p c.won) (slice_get (drawn_by c) j) ≡ Some d
      mapped = sym (slice_get-map (filled_by p c.won) (drawn_by c) j) ∙ subst (λ l. At l j d) is.copies at

      by : (o : Option Drawn) → slice_get (drawn_by c) j ≡ o → (x : Drawn) × At (drawn_by c) j x × (filled_by p c.won x ≡ d)
      by None none = absurd (none-some d (sym (ap (option_map (filled_by p c.won)) none) ∙ mapped))
      by (Some x) some = (x, some, same_Some (filled_by p c.won x) d (sym (ap (option_map (filled_by p c.won)) some) ∙ mapped))

  pub copy-only : (j s : ℕ) (d : Destination) → At c.buffers.regions j d → IsTrue (starts_at d.region s) → IsCopyAt p c d.region.number s
  copy-only j s d at starts =
      let x = drawn-at-place j d at in
      let l : Land = pooled p x.0.ordinal in
      let bare = bare-as j x.0 x.1 in
      subst (λ n. IsCopyAt p c n s) (sym (ap (λ (y : Destination). y.region.number) (sym x.2) ∙ number-kept p c.won l))
      (lies-only p c l bare.0 (fits-in l) decided-object s (subst (λ (y : Destination). IsTrue (starts_at y.region s)) (sym x.2) starts))

  -- what starts in such a region is an object that was decided, with its words
  pub copy-is : (j s : ℕ) (d : Destination) → At c.buffers.regions j d → IsTrue (starts_at d.region s)
      → (k : ℕ) × (k < length p.graph.words) × (object_at d.region s ≡ Some (words_in p.graph k))
  copy-is j s d at starts =
      let x = drawn-at-place j d at in
      let l : Land = pooled p x.0.ordinal in
      let bare = bare-as j x.0 x.1 in
      let y = lies-only p c l bare.0 (fits-in l) decided-object s (subst (λ (y : Destination). IsTrue (starts_at y.region s)) (sym x.2) starts) in (
        y.object,
        decided-within y.place y.object y.address y.won,
        ap (λ (z : Destination). object_at z.region s) (sym x.2) ∙ (ap (object_at (land_with_copies p c.won l)) (sym y.offset_is)
            ∙ lies-there p c l bare.0 (fits-in l) decided-object y.place y.object y.address y.won y.region_is),
      )

  -- it has as many words as each region has, and is one
  pub copies-land : (j : ℕ) (d : Destination) → At c.buffers.regions j d → IsLand d.region × (length d.region.words ≡ p.shape.words)
  copies-land j d at =
      let x = drawn-at-place j d at in
      let l : Land = pooled p x.0.ordinal in
      let bare = bare-as j x.0 x.1 in
      let r = lies-land p c l bare.0 (fits-in l) decided-object in (
        subst (λ (y : Destination). IsLand y.region) x.2 r.0,
        ap (λ (y : Destination). length y.region.words) (sym x.2) ∙ r.1,
      )

  -- and its age is one that objects have
  pub copies-age : (j : ℕ) (d : Destination) → At c.buffers.regions j d → d.age ≤ 24
  copies-age j d at =
      let x = drawn-at-place j d at in
      subst (λ (y : Destination). y.age ≤ 24) x.2 (is.evacuated.regions.drawn 0 j x.0 x.1).2
