-- What becomes of a region once its objects have moved.
use Rattle.std.proofs.Common.{◌≡◌, ℕ, ◌+◌, ◌*◌, ◌<◌, ◌≤◌, ◌⊎◌, inl, inr, Bool, true, false, cond, List, [], ◌∷◌, length, map, set, Option, Some, None, refl, ap, sym, subst, ◌∙◌, arith, get_or-set_other, get_or-set_same, length-set}
use Rattle.std.specs.Prelude.{◌||◌, IsSome, is_some}
use Rattle.std.specs.List.{sum_by}
use Rattle.std.proofs.lemmas.Bool.{cases_lt, cases_order, false≢true, ne_eqb}
use Rattle.std.proofs.lemmas.List.{get_or_past}
use Rattle.std.proofs.lemmas.List.Sums.{sum_by-cons}
use Rattle.std.proofs.lemmas.Option.{none-some}
use Rattle.std.proofs.Math.Nat.{mul-le-mul_right}
use Rattle.bal_base.proofs.Lemmas.{among-first, among-later}
use Rattle.bal_compact.specs.Compacted.{age_at, greatest, region_of_objects}
use Rattle.bal_compact.specs.Packing.{IsMovedTo, to_below}
use Rattle.bal_compact.proofs.Below.{below-left, below-moved, moved-there, object-there, same-region, size-now}
use Rattle.bal_compact.proofs.Words.{IsLastInto, last-into, words-grow}
use Rattle.bal_layout.specs.Addresses.{address_in, region_of}
use Rattle.bal_layout.specs.Regions.{age_of, free_region, freed, is_free, is_in, is_object, region_at, without_cards_of}
use Rattle.bal_layout.specs.Shape.{Shape}
use Rattle.bal_layout.specs.declared.region_state.RegionState.{RegionState}
use Rattle.bal_layout.specs.declared.region_state.Role.{Role}
use Rattle.bal_layout.specs.declared.region_state.Role.TheVariants.{Free, Leaf, Object}
use Rattle.bal_layout.proofs.Lemmas.{freed-is, length-freed}
use Rattle.bal_plan.specs.Plan.{IsObject, objects_into, words_at, words_into}
use Rattle.bal_plan.proofs.Lemmas.{IsSized, into-are, sized, words-next}
use Rattle.bal_region.specs.Changes.{cut_short, empty_land}
use Rattle.bal_region.specs.Land.{Land}
use Rattle.bal_region.proofs.Lemmas.{cut-less}
use Rattle.bal_remember.specs.Remembered.{Remembered, cards}
use Rattle.bal_table.specs.Changes.{with_cut, with_estimate, with_freed}
use Rattle.bal_table.specs.Table.{IsRole, IsTable, Table, estimate_at, land_at, objects_of, role_at, things_of}
use Rattle.bal_table.proofs.Lemmas.{IsTable-freed, address-is, cut-at, cut-behind, offset-within, thing-beside, thing-gone, things-cut}
use Rattle.bal_words.specs.Things.{Thing}
use Rattle.bal_words.proofs.Lemmas.{same-or, there}

-- States.

-- nothing is remembered of a region that was packed
list-none : (t : Table) (q : ℕ) (xs : List ℕ) → (region_of_objects t None q xs).remembered ≡ cards []
list-none t q [] = refl
list-none t q (x ∷ xs) = refl

-- the greatest of numbers that are one
greatest-least : (f : ℕ → ℕ) (n : ℕ) (xs : List ℕ) → ((a : ℕ) → is_in a xs ≡ true → f a ≡ n) → greatest (map f xs) ≤ n
greatest-least f n [] same = omega arith
greatest-least f n (x ∷ xs) same = omega (arith, same x (among-first x xs), greatest-least f n xs (λ a among. same a (among-later x a xs among)))

-- a region of objects that came from regions of one age
region-aged : (t : Table) (q age : ℕ) (xs : List ℕ) → 0 < sum_by (words_at t) xs → ((a : ℕ) → is_in a xs ≡ true → age_at t a ≡ age)
    → record { role = Object age; used = sum_by (words_at t) xs; estimate = sum_by (words_at t) xs; remembered = cards [] } ≡ region_of_objects t None q xs
region-aged t q age [] some same = absurd (omega (arith, some))
region-aged t q age (x ∷ xs) some same =
    let words = sum_by (words_at t) (x ∷ xs) in
    let one : age ≡ greatest (map (age_at t) (x ∷ xs)) = omega (
      arith,
      same x (among-first x xs),
      greatest-least (age_at t) age xs (λ a among. same a (among-later x a xs among)),
    ) in
    ap (λ n. record { role = Object n; used = words; estimate = words; remembered = cards [] }) one

-- a role of objects has an age
object-aged : (role : Role) → is_object role ≡ true → role ≡ Object (age_of role)
object-aged Free object = absurd (false≢true object)
object-aged (Object age) object = refl
object-aged Leaf object = absurd (false≢true object)

-- a region without objects is free
object-free : (role : Role) → IsRole role → is_object role ≡ false → is_free role ≡ true
object-free Free role none = refl
object-free (Object age) role none = absurd (false≢true (sym none))
object-free Leaf role none = absurd role

-- Sizes.

-- objects without words are none
sum-none : (f : ℕ → ℕ) (xs : List ℕ) → sum_by f xs ≡ 0 → ((a : ℕ) → is_in a xs ≡ true → 0 < f a) → xs ≡ []
sum-none f [] none some = refl
sum-none f (x ∷ xs) none some = absurd (omega (arith, none, sum_by-cons f x xs, some x (among-first x xs)))

-- Where objects are.

module _ (before now : Table) (to : ℕ → ℕ) (q at : ℕ) (m : IsMovedTo before now to q at) where
  -- nothing is remembered of any region
  pub none-remembered : (p : ℕ) → (region_at now.regions p).remembered ≡ cards []
  none-remembered p = by (cases_lt p q)
    where
      by : (p < q) ⊎ (q ≤ p) → (region_at now.regions p).remembered ≡ cards []
      by (inl less) = ap (λ (r : RegionState). r.remembered) (m.below p less) ∙ list-none before p (objects_into before to at p)
      by (inr from) = ap (λ (r : RegionState). r.remembered) (m.from p from) ∙ m.may.lists p

  -- the region is what its objects make it, and no object moves with that
  pub left-so : (new : Table) → IsTable new → new.shape ≡ now.shape → length new.regions ≡ length now.regions → new.current ≡ now.current
      → ((a : ℕ) → things_of new a ≡ things_of now a) → ((p : ℕ) → (p ≡ q → ⊥) → region_at new.regions p ≡ region_at now.regions p)
      → region_at new.regions q ≡ region_of_objects before None q (objects_into before to at q) → IsMovedTo before new to (q + 1) at
  left-so new table shape count current same others here = record {
    may = m.may;
    table = table;
    shape = shape ∙ m.shape;
    count = count ∙ m.count;
    current = current ∙ m.current;
    carried = record {
      carried = λ a x is keeps. same (to_below to at a) ∙ m.carried.carried a x is keeps;
      only = λ b x is. m.carried.only b x (sym (same b) ∙ is);
    };
    below = λ p less. below p less (same-or p q);
    from = λ p least. others p (λ e. omega (arith, least, e)) ∙ m.from p (omega (arith, least));
  }
    where
      below : (p : ℕ) → p < q + 1 → (p ≡ q) ⊎ (p ≡ q → ⊥) → region_at new.regions p ≡ region_of_objects before None p (objects_into before to at p)
      below p less (inl e) = subst (λ n. region_at new.regions n ≡ region_of_objects before None n (objects_into before to at n)) (sym e) here
      below p less (inr other) = others p other ∙ m.below p (omega (arith, less, other))

  -- both tables have one shape
  same-words : now.shape.words ≡ before.shape.words
  same-words = ap (λ (s : Shape). s.words) m.shape

  -- it begins behind those that went there before it
  placed : (a : ℕ) → IsObject before a → region_of before.shape (to a) ≡ q → to a ≡ q * before.shape.words + words_into before to a q
  placed a object goes = omega (
    arith,
    address-is before.shape (to a),
    ap (λ r. r * before.shape.words) goes,
    m.may.plan.packed a object,
    ap (λ r. words_into before to a r) goes,
  )

  -- the address is the end of the region
  module _ (end : at ≡ (q + 1) * now.shape.words) where
    inside : (a : ℕ) → region_of now.shape a ≡ q → a < at
    inside a is = omega (
      arith,
      end,
      address-is now.shape a,
      ap (λ r. r * now.shape.words) is,
      offset-within now.shape a (omega (arith, m.table.shape.fewest_words)),
    )

    -- an object that lies in the region came from below the address
    record Came (b : ℕ) : Type 0 where
      from : ℕ
      object : IsObject before from
      same : things_of now b ≡ things_of before from
      below : from < at
      lands : to from ≡ b
      goes : region_of before.shape (to from) ≡ q

    came : (b : ℕ) → IsSome (things_of now b) → region_of now.shape b ≡ q → Came b
    came b object here = by (there (things_of now b) object)
      where
        by : (x : Thing) × (things_of now b ≡ Some x) → Came b
        by x =
            let found = m.carried.only b x.0 x.1 in
            elim (cases_lt found.0 at) [
              | inl less ↦
                  let lands : to found.0 ≡ b = sym (below-moved to at found.0 less) ∙ found.3 in
                  record {
                    from = found.0;
                    object = ap is_some found.1;
                    same = x.1 ∙ sym found.1;
                    below = less;
                    lands = lands;
                    goes = ap (region_of before.shape) lands ∙ (sym (same-region before now to q at m b) ∙ here);
                  }
              | inr left ↦ absurd (omega (arith, left, below-left to at found.0 left, found.3, inside b here))
            ]

    -- an object that went there came from the region itself
    stayed : (a : ℕ) → IsObject before a → a < at → region_of before.shape (to a) ≡ q → region_of before.shape a ≡ q
    stayed a object less goes = elim (cases_order (region_of before.shape a) q) [
      | inl same ↦ same
      | inr (inl low) ↦ absurd (omega (
        arith,
        m.may.plan.down a object,
        address-is before.shape a,
        offset-within before.shape a (omega (arith, m.may.table.shape.fewest_words)),
        placed a object goes,
        mul-le-mul_right {m = region_of before.shape a + 1} {n = q} before.shape.words (omega (arith, low)),
      ))
      | inr (inr high) ↦ absurd (omega (
        arith,
        less,
        end,
        ap (λ n. (q + 1) * n) same-words,
        address-is before.shape a,
        mul-le-mul_right {m = q + 1} {n = region_of before.shape a} before.shape.words (omega (arith, high)),
      ))
    ]

    -- If objects went there.
    module _ (within : q < now.shape.regions) (words : ℕ) (is : words ≡ words_into before to at q) (some : 0 < words) where
      last : IsLastInto before to at q
      last = last-into before to at q (omega (arith, is, some))

      same : things_of now (to last.address) ≡ things_of before last.address
      same = moved-there before now to q at m last.address last.object last.below

      here : IsSized now (to last.address)
      here = sized now (to last.address) m.table (ap is_some same ∙ last.object)

      -- the last one ends behind all words
      ends : to last.address + length here.object ≡ q * now.shape.words + words
      ends = omega (
        arith,
        placed last.address last.object last.there,
        size-now before now to q at m last.address (to last.address) here.object last.object same here.is,
        last.words,
        is,
        ap (λ n. q * n) same-words,
      )

      -- and no other does
      others-end : (b : ℕ) (words-b : List ℕ) → objects_of now b ≡ Some words-b → region_of now.shape b ≡ q → b + length words-b ≤ q * now.shape.words + words
      others-end b words-b stands in-q =
          let c = came b (object-there now b words-b m.table stands) in-q in
          omega (
            arith,
            c.lands,
            placed c.from c.object c.goes,
            size-now before now to q at m c.from b words-b c.object c.same stands,
            subst (λ r. words_into before to (c.from + 1) r ≡ words_into before to c.from r + words_at before c.from) c.goes (words-next before to c.from c.object),
            words-grow before to (c.from + 1) at q (omega (arith, c.below)),
            is,
            ap (λ n. q * n) same-words,
          )

      pub cut-words : (cut_short (land_at now q)).used ≡ words
      cut-words = ap (λ (l : Land). l.used) (sym land) ∙ by (cut-at now q m.table within)
        where
          land : land_at (with_cut now q) q ≡ cut_short (land_at now q)
          land = get_or-set_same now.lands q (cut_short (land_at now q)) (empty_land 0 0) (omega (arith, within, m.table.lands))

          least : q * now.shape.words + words ≤ q * now.shape.words + (land_at (with_cut now q) q).used
          least = omega (
            arith,
            ends,
            cut-behind now q m.table within (to last.address) here.object here.is (same-region before now to q at m (to last.address) ∙ last.there),
          )

          by : ((land_at (with_cut now q) q).used ≡ 0) ⊎ ((a : ℕ) × (object : List ℕ) × (objects_of now a ≡ Some object) × (region_of now.shape a ≡ q)
              × (a + length object ≡ address_in now.shape q (land_at (with_cut now q) q).used)) → (land_at (with_cut now q) q).used ≡ words
          by (inl none) = omega (arith, none, least, some)
          by (inr a) = omega (arith, least, a.4, others-end a.0 a.1 a.2 a.3)

      pub given-out : words ≤ (land_at now q).used
      given-out = omega (arith, cut-words, cut-less (land_at now q) (m.table.each q within).land)

      -- so many may be thought to be alive when it is cut
      pub kept-alive : (middle : Table) → middle ≡ with_estimate now q words → estimate_at middle q ≤ (cut_short (land_at middle q)).used
      kept-alive middle is-middle =
          let first = record (region_at now.regions q) { estimate = words } in
          omega (
            arith,
            ap (λ (t : Table). estimate_at t q) is-middle,
            ap (λ (r : RegionState). r.estimate) (get_or-set_same now.regions q first free_region (omega (arith, within, m.table.regions))),
            ap (λ (t : Table). (cut_short (land_at t q)).used) is-middle,
            cut-words,
          )

      -- its words are those of its objects, and its age is its own
      state : record (region_at now.regions q) { used = words; estimate = words } ≡ region_of_objects before None q (objects_into before to at q)
      state =
          let r = region_at now.regions q in
          let object : is_object r.role ≡ true = objects (is_object r.role) refl in
          ap (λ (l : Remembered). record r { used = words; estimate = words; remembered = l }) (none-remembered q)
          ∙ (ap (λ (o : Role). record { role = o; used = words; estimate = words; remembered = cards [] }) (object-aged r.role object)
          ∙ (ap (λ n. record { role = Object (age_of r.role); used = n; estimate = n; remembered = cards [] }) is
          ∙ region-aged before q (age_of r.role) (objects_into before to at q) (omega (arith, is, some)) aged))
        where
          objects : (b : Bool) → is_object (region_at now.regions q).role ≡ b → is_object (region_at now.regions q).role ≡ true
          objects true object = object
          objects false none = absurd (omega (arith, (m.table.each q within).empty none, (m.table.each q within).used, given-out, some))

          aged : (a : ℕ) → is_in a (objects_into before to at q) ≡ true → age_at before a ≡ age_of (region_at now.regions q).role
          aged a among =
              let goes = (into-are before to at q a).0 among in
              ap (λ r. age_of (role_at before r)) (stayed a goes.0 goes.1 goes.2) ∙ ap (λ (r : RegionState). age_of r.role) (sym (m.from q (omega arith)))

      pub kept-region : (new : Table) → new ≡ with_cut (with_estimate now q words) q → IsTable new → IsMovedTo before new to (q + 1) at
      kept-region new is-new table =
          left-so new table (ap (λ (t : Table). t.shape) is-new)
          (ap (λ (t : Table). length t.regions) is-new ∙ (length-set rs q second ∙ length-set now.regions q first))
          (ap (λ (t : Table). t.current) is-new) (λ a. ap (λ (t : Table). things_of t a) is-new ∙ things-cut now q a m.table within) others
          (ap (λ (t : Table). region_at t.regions q) is-new ∙ (here-is ∙ state))
        where
          first : RegionState
          first = record (region_at now.regions q) { estimate = words }

          rs : List RegionState
          rs = set now.regions q first

          second : RegionState
          second = record (region_at rs q) { used = (cut_short (land_at now q)).used }

          others : (p : ℕ) → (p ≡ q → ⊥) → region_at new.regions p ≡ region_at now.regions p
          others p other = ap (λ (t : Table). region_at t.regions p) is-new
              ∙ (get_or-set_other rs q p second free_region other ∙ get_or-set_other now.regions q p first free_region other)

          here-is : region_at (set rs q second) q ≡ record (region_at now.regions q) { used = words; estimate = words }
          here-is = get_or-set_same rs q second free_region (omega (arith, within, m.table.regions, length-set now.regions q first))
              ∙ (ap (λ (s : RegionState). record s { used = (cut_short (land_at now q)).used })
              (get_or-set_same now.regions q first free_region (omega (arith, within, m.table.regions)))
              ∙ ap (λ n. record first { used = n }) cut-words)

    -- If none did.
    module _ (within : q < now.shape.regions) (is : words_into before to at q ≡ 0) where
      none-there : objects_into before to at q ≡ []
      none-there = sum-none (words_at before) (objects_into before to at q) is (λ a among. omega (
        arith,
        (sized before a m.may.table ((into-are before to at q a).0 among).0).two,
      ))

      no-object : (b : ℕ) → region_of now.shape b ≡ q → things_of now b ≡ None
      no-object b here = by (things_of now b) refl
        where
          by : (o : Option Thing) → things_of now b ≡ o → o ≡ None
          by None is-o = refl
          by (Some x) is-o =
              let c = came b (ap is_some is-o) here in
              absurd (false≢true (subst (λ (l : List ℕ). is_in c.from l ≡ true) none-there ((into-are before to at q c.from).1 (c.object, c.below, c.goes))))

      free-so : free_region ≡ region_of_objects before None q (objects_into before to at q)
      free-so = ap (region_of_objects before None q) (sym none-there)

      -- a region of objects is freed: no other loses a card of its list, as none has any
      pub freed-region : (new : Table) → new ≡ with_freed now q → IsMovedTo before new to (q + 1) at
      freed-region new is-new =
          left-so new (subst IsTable (sym is-new) (IsTable-freed now q m.table within (λ e. none-some q (sym m.current ∙ e))))
          (ap (λ (t : Table). t.shape) is-new) (ap (λ (t : Table). length t.regions) is-new ∙ length-freed now.shape (q ∷ []) now.regions)
          (ap (λ (t : Table). t.current) is-new) things (λ p other. by p other (cases_lt p (length now.regions))) (here-is ∙ free-so)
        where
          things : (a : ℕ) → things_of new a ≡ things_of now a
          things a = ap (λ (t : Table). things_of t a) is-new ∙ (elim (same-or (region_of now.shape a) q) [
            | inl here ↦ thing-gone now q a m.table within here ∙ sym (no-object a here)
            | inr other ↦ thing-beside now q a other
          ])

          there-is : (p : ℕ) → p < length now.regions
              → region_at new.regions p ≡ cond (is_in p (q ∷ [])) free_region (record (region_at now.regions p) { remembered = without_cards_of now.shape (q ∷ []) (region_at now.regions p).remembered })
          there-is p less = ap (λ (t : Table). region_at t.regions p) is-new ∙ freed-is now.shape (q ∷ []) now.regions p free_region less

          by : (p : ℕ) → (p ≡ q → ⊥) → (p < length now.regions) ⊎ (length now.regions ≤ p) → region_at new.regions p ≡ region_at now.regions p
          by p other (inl less) =
              let r = region_at now.regions p in
              there-is p less
              ∙ (ap (λ b. cond (b || false) free_region (record r { remembered = without_cards_of now.shape (q ∷ []) r.remembered })) (ne_eqb q p (λ e. other (sym e)))
              ∙ (ap (λ (l : Remembered). record r { remembered = without_cards_of now.shape (q ∷ []) l }) (none-remembered p)
              ∙ ap (λ (l : Remembered). record r { remembered = l }) (sym (none-remembered p))))
          by p other (inr past) =
              ap (λ (t : Table). region_at t.regions p) is-new
              ∙ (get_or_past (freed now.shape (q ∷ []) now.regions) p free_region (omega (arith, past, length-freed now.shape (q ∷ []) now.regions))
              ∙ sym (get_or_past now.regions p free_region past))

          here-is : region_at new.regions q ≡ free_region
          here-is = there-is q (omega (arith, within, m.table.regions))
              ∙ ap (λ b. cond b free_region (record (region_at now.regions q) { remembered = without_cards_of now.shape (q ∷ []) (region_at now.regions q).remembered })) (among-first q [])

      -- and one without objects is free
      pub free-region : is_object (role_at now q) ≡ false → IsMovedTo before now to (q + 1) at
      free-region none =
          let region = m.table.each q within in
          left-so now m.table refl refl refl (λ a. refl) (λ p other. refl) (region.free (object-free (role_at now q) region.role none) ∙ free-so)
