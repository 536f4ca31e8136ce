-- A region is swept beside a list of its objects.
use Rattle.std.proofs.Common.{◌≡◌, ℕ, ◌+◌, ◌<◌, ◌≤◌, ◌⊎◌, inl, inr, Bool, true, false, cond, List, [], ◌∷◌, ◌++◌, length, Option, Some, None, refl, ap, sym, subst, ◌∙◌, arith, append_assoc, get_or-set_other, get_or-set_same, length-append}
use Rattle.std.specs.Prelude.{option_and_then, slice_get}
use Rattle.std.specs.List.{cons_option}
use Rattle.std.proofs.lemmas.Bool.{false≢true}
use Rattle.std.proofs.lemmas.List.{set-get_or}
use Rattle.std.proofs.lemmas.Option.{none-some, same_Some}
use Rattle.bal_base.proofs.Lemmas.{among-cases, among-first, among-later}
use Rattle.bal_base.specs.Bits.{IsAscending}
use Rattle.bal_layout.specs.Addresses.{address_in, offset_of, region_of}
use Rattle.bal_layout.specs.Regions.{is_in}
use Rattle.bal_layout.specs.declared.name.Name.{Name}
use Rattle.bal_region.specs.Changes.{empty_land}
use Rattle.bal_region.specs.Land.{Land, first_from, object_at, size_at, starts_at}
use Rattle.bal_region.proofs.Lemmas.{object-starts}
use Rattle.bal_table.specs.Changes.{without_object}
use Rattle.bal_table.specs.Table.{IsTable, Table, land_at, objects_of, thing_in, things_of}
use Rattle.bal_table.proofs.Lemmas.{address-is, seen}
use Rattle.bal_words.specs.Things.{Thing}
use Rattle.bal_words.proofs.Lemmas.{there}
use Rattle.bal_sweep.specs.Dead.{dead_at}
use Rattle.bal_sweep.specs.InPlace.{AreOf, IsKeeping}
use Rattle.bal_sweep.specs.Sweep.{left_at, with_swept}
use Rattle.bal_sweep.specs.Sweeping.{IsSweeping}
use Rattle.bal_sweep.proofs.Objects.{IsAt, sweeping-at, sweeping-next}
use Rattle.bal_sweep.proofs.Swept.{left-object}

-- what stands in a list of two parts with one between them
in-parts : (s o : ℕ) (xs ys : List ℕ) → is_in s (xs ++ o ∷ ys) ≡ true → (is_in s xs ≡ true) ⊎ ((o ≡ s) ⊎ (is_in s ys ≡ true))
in-parts s o [] ys among = inr (among-cases o s ys among)
in-parts s o (x ∷ xs) ys among = elim (among-cases x s (xs ++ o ∷ ys) among) [
  | inl same ↦ inl (subst (λ n. is_in n (x ∷ xs) ≡ true) same (among-first x xs))
  | inr later ↦ elim (in-parts s o xs ys later) [ inl one ↦ inl (among-later x s xs one) | inr other ↦ inr other ]
]

in-either : (s : ℕ) (xs ys : List ℕ) → is_in s (xs ++ ys) ≡ true → (is_in s xs ≡ true) ⊎ (is_in s ys ≡ true)
in-either s [] ys among = inr among
in-either s (x ∷ xs) ys among = elim (among-cases x s (xs ++ ys) among) [
  | inl same ↦ inl (subst (λ n. is_in n (x ∷ xs) ≡ true) same (among-first x xs))
  | inr later ↦ elim (in-either s xs ys later) [ inl one ↦ inl (among-later x s xs one) | inr other ↦ inr other ]
]

in-second : (s : ℕ) (xs ys : List ℕ) → is_in s ys ≡ true → is_in s (xs ++ ys) ≡ true
in-second s [] ys among = among
in-second s (x ∷ xs) ys among = among-later x s (xs ++ ys) (in-second s xs ys among)

-- the item behind the first part of a list
at-parts : (xs ys : List ℕ) → slice_get (xs ++ ys) (length xs) ≡ slice_get ys 0
at-parts [] ys = refl
at-parts (x ∷ xs) ys = at-parts xs ys

module _ (marked : List ℕ) (t : Table) (q : ℕ) (table : IsTable t) (within : q < t.shape.regions) (of : AreOf t q marked) where
  -- an address of the list is that of a start in the region
  start-of : (a : ℕ) → is_in a marked ≡ true → (s : ℕ) × (starts_at (land_at t q) s ≡ true) × (address_in t.shape q s ≡ a)
  start-of a among = by (there (things_of t a) (of.objects a among))
    where
      by : (x : Thing) × (things_of t a ≡ Some x) → (s : ℕ) × (starts_at (land_at t q) s ≡ true) × (address_in t.shape q s ≡ a)
      by x =
          let s = seen t a x.0 table x.1 in
          let q-is = of.region a among in (
            offset_of t.shape a,
            subst (λ r. starts_at (land_at t r) (offset_of t.shape a) ≡ true) q-is (object-starts (land_at t (region_of t.shape a)) (offset_of t.shape a) s.object s.is).0,
            ap (λ r. address_in t.shape r (offset_of t.shape a)) (sym q-is) ∙ address-is t.shape a,
          )

  -- nothing was met yet
  pub keeping-none : IsKeeping marked t t q 0 0 0
  keeping-none = record {
    names = [];
    swept = record {
      done = [];
      rest = (land_at t q).starts;
      all = refl;
      table = ap (λ (ls : List Land). record t { lands = ls }) (sym (set-get_or t.lands q (empty_land 0 0)));
      below = λ s among. absurd (false≢true among);
      behind = λ s among. omega arith;
      alive = refl;
      dead = refl;
    };
    front = [];
    ahead = marked;
    all = refl;
    count = refl;
    before = λ a among. absurd (false≢true among);
    behind = λ a among. from a (start-of a among);
    ascending = of.ascending;
  }
    where
      from : (a : ℕ) → (s : ℕ) × (starts_at (land_at t q) s ≡ true) × (address_in t.shape q s ≡ a) → address_in t.shape q 0 ≤ a
      from a start = omega (arith, start.2)

  module _ (u : Table) (next live met o : ℕ) (k : IsKeeping marked t u q next live met) (first : Some o ≡ first_from (land_at u q) next) (from : next ≤ o) where
    abbrev here : ℕ
    here = address_in t.shape q o

    -- the object that is found is the next one
    pub keeping-at : IsAt marked t q table within u k.swept.done o
    keeping-at = sweeping-at marked t q table within u next live [] k.names k.swept o first

    seen-there : address_in u.shape q o ≡ here
    seen-there = ap (λ (w : Table). address_in w.shape q o) k.swept.table

    -- no other start is in front of it
    least : (s : ℕ) → starts_at (land_at t q) s ≡ true → next ≤ s → (o ≡ s) ⊎ (o < s)
    least s starts behind = by (in-parts s o k.swept.done keeping-at.rest (subst (λ l. is_in s l ≡ true) keeping-at.all starts))
      where
        by : (is_in s k.swept.done ≡ true) ⊎ ((o ≡ s) ⊎ (is_in s keeping-at.rest ≡ true)) → (o ≡ s) ⊎ (o < s)
        by (inl done) = absurd (omega (arith, k.swept.below s done, behind))
        by (inr (inl same)) = inl same
        by (inr (inr rest)) = inr (keeping-at.behind s rest)

    ahead-marked : (a : ℕ) → is_in a k.ahead ≡ true → is_in a marked ≡ true
    ahead-marked a among = subst (λ l. is_in a l ≡ true) (sym k.all) (in-second a k.front k.ahead among)

    -- so each address that is ahead is the object's or behind it
    ahead-from : (a : ℕ) → is_in a k.ahead ≡ true → (here ≡ a) ⊎ (here < a)
    ahead-from a among = by (start-of a (ahead-marked a among))
      where
        by : (s : ℕ) × (starts_at (land_at t q) s ≡ true) × (address_in t.shape q s ≡ a) → (here ≡ a) ⊎ (here < a)
        by start = elim (least start.0 start.1 (omega (arith, start.2, k.behind a among))) [
          | inl same ↦ inl (omega (arith, same, start.2))
          | inr less ↦ inr (omega (arith, less, start.2))
        ]

    head-is : slice_get marked met ≡ slice_get k.ahead 0
    head-is = ap (λ l. slice_get l met) k.all ∙ (ap (slice_get (k.front ++ k.ahead)) k.count ∙ at-parts k.front k.ahead)

    abbrev names : List Name
    names = k.names ++ cons_option (dead_at marked u (address_in u.shape q o)) []

    swept-next : (b : Bool) → is_in here marked ≡ b → (v : Table) (gain : ℕ) → v ≡ cond b u (without_object u here) → gain ≡ cond b (size_at (land_at u q).words o) 0
        → IsSweeping marked t v q (o + 1) (live + gain) [] names
    swept-next b is v gain now more =
        let seen-is = ap (λ a. is_in a marked) seen-there ∙ is in
        sweeping-next marked t q table within u next live [] k.names k.swept o keeping-at v gain names refl
        (now ∙ (ap (λ a. cond b u (without_object u a)) (sym seen-there) ∙ ap (λ c. cond c u (without_object u (address_in u.shape q o))) (sym seen-is)))
        (more ∙ ap (λ c. cond c (size_at (land_at u q).words o) 0) (sym seen-is))

    -- it is kept if it is the next one of the list
    pub keeping-kept : slice_get marked met ≡ Some here → IsKeeping marked t u q (o + 1) (live + size_at (land_at u q).words o) (met + 1)
    keeping-kept is = by k.ahead refl k.ascending (sym head-is ∙ is)
      where
        by : (ahead : List ℕ) → k.ahead ≡ ahead → IsAscending ahead → slice_get ahead 0 ≡ Some here
            → IsKeeping marked t u q (o + 1) (live + size_at (land_at u q).words o) (met + 1)
        by [] none ascending found = absurd (none-some here found)
        by (m ∷ ms) some ascending found =
            let m-is = same_Some m here found in
            let among : is_in here marked ≡ true = ahead-marked here (subst (λ l. is_in here l ≡ true) (sym some) (subst (λ n. is_in n (m ∷ ms) ≡ true) m-is (among-first m ms))) in
            record {
              names = names;
              swept = swept-next true among u (size_at (land_at u q).words o) refl refl;
              front = k.front ++ m ∷ [];
              ahead = ms;
              all = k.all ∙ (ap (λ l. k.front ++ l) some ∙ sym (append_assoc k.front (m ∷ []) ms));
              count = omega (arith, k.count, length-append k.front (m ∷ []));
              before = λ a one. before a m m-is (in-parts a m k.front [] one);
              behind = λ a one. omega (arith, ascending.0 a one, m-is);
              ascending = ascending.1;
            }
          where
            before : (a m : ℕ) → m ≡ here → (is_in a k.front ≡ true) ⊎ ((m ≡ a) ⊎ (false ≡ true)) → a < address_in t.shape q (o + 1)
            before a m m-is (inl one) = omega (arith, k.before a one, from)
            before a m m-is (inr (inl same)) = omega (arith, m-is, same)
            before a m m-is (inr (inr none)) = absurd (false≢true none)

    -- and else it is taken away
    pub keeping-gone : (slice_get marked met ≡ Some here → ⊥) → IsKeeping marked t (without_object u here) q (o + 1) live met
    keeping-gone other = record {
      names = names;
      swept = subst (λ n. IsSweeping marked t (without_object u here) q (o + 1) n [] names) (omega arith)
          (swept-next false apart (without_object u here) 0 refl refl);
      front = k.front;
      ahead = k.ahead;
      all = k.all;
      count = k.count;
      before = λ a one. omega (arith, k.before a one, from);
      behind = λ a one. elim (ahead-from a one) [
        | inl same ↦ absurd (false≢true (sym apart ∙ subst (λ n. is_in n marked ≡ true) (sym same) (ahead-marked a one)))
        | inr less ↦ omega (arith, less)
      ];
      ascending = k.ascending;
    }
      where
        ahead-not : (ahead : List ℕ) → k.ahead ≡ ahead → IsAscending ahead → is_in here ahead ≡ true → ⊥
        ahead-not [] none ascending among = false≢true among
        ahead-not (m ∷ ms) some ascending among = elim (among-cases m here ms among) [
          | inl same ↦ other (head-is ∙ (ap (λ l. slice_get l 0) some ∙ ap Some same))
          | inr later ↦ elim (ahead-from m (subst (λ l. is_in m l ≡ true) (sym some) (among-first m ms))) [
            | inl same ↦ omega (arith, ascending.0 here later, same)
            | inr less ↦ omega (arith, ascending.0 here later, less)
          ]
        ]

        marked-not : is_in here marked ≡ true → ⊥
        marked-not among = elim (in-either here k.front k.ahead (subst (λ l. is_in here l ≡ true) k.all among)) [
          | inl front ↦ omega (arith, k.before here front, from)
          | inr ahead ↦ ahead-not k.ahead refl k.ascending ahead
        ]

        apart : is_in here marked ≡ false
        apart = by (is_in here marked) refl
          where
            by : (b : Bool) → is_in here marked ≡ b → b ≡ false
            by true among = absurd (marked-not among)
            by false none = refl

-- Of a swept region just the marked objects are left.

thing-left : (b : Bool) (o : Option (List ℕ)) → option_and_then thing_in (cond b o None) ≡ cond b (option_and_then thing_in o) None
thing-left true o = refl
thing-left false o = refl

pub swept-inside : (t : Table) (q : ℕ) (marked : List ℕ) → IsTable t → q < t.shape.regions → (a : ℕ) → region_of t.shape a ≡ q
    → things_of (with_swept marked t q) a ≡ cond (is_in a marked) (things_of t a) None
swept-inside t q marked table within a there =
    ap (option_and_then thing_in)
    (ap (λ r. object_at (land_at (with_swept marked t q) r) (offset_of t.shape a)) there
    ∙ (ap (λ (l : Land). object_at l (offset_of t.shape a)) (get_or-set_same t.lands q (left_at marked t q) (empty_land 0 0) (omega (arith, within, table.lands)))
    ∙ (left-object marked t table q (offset_of t.shape a)
    ∙ (ap (λ b. cond (is_in b marked) (object_at (land_at t q) (offset_of t.shape a)) None) (ap (λ r. address_in t.shape r (offset_of t.shape a)) (sym there) ∙ address-is t.shape a)
    ∙ ap (λ r. cond (is_in a marked) (object_at (land_at t r) (offset_of t.shape a)) None) (sym there)))))
    ∙ thing-left (is_in a marked) (objects_of t a)

pub swept-outside : (t : Table) (q : ℕ) (marked : List ℕ) (a : ℕ) → (region_of t.shape a ≡ q → ⊥) → things_of (with_swept marked t q) a ≡ things_of t a
swept-outside t q marked a other =
    ap (λ (l : Land). option_and_then thing_in (object_at l (offset_of t.shape a)))
    (get_or-set_other t.lands q (region_of t.shape a) (left_at marked t q) (empty_land 0 0) other)
