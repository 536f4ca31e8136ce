-- The objects of one region while it is swept.
use Rattle.std.proofs.Common.{◌≡◌, ℕ, ◌+◌, ◌<◌, ◌≤◌, ◌⊎◌, inl, inr, Bool, true, false, cond, eqb, not, List, [], ◌∷◌, ◌++◌, length, Option, Some, None, refl, ap, sym, subst, ◌∙◌, arith, append_assoc, get_or-set_same, length-append}
use Rattle.std.specs.Prelude.{◌&&◌, nat_le, option_and_then, option_map}
use Rattle.std.specs.List.{cons_option, filter, filter_map, find, sum_by}
use Rattle.std.proofs.lemmas.Bool.{false≢true}
use Rattle.std.proofs.lemmas.List.{append-nil, set-set}
use Rattle.std.proofs.lemmas.List.Elements.{filter-append, filter_map-append}
use Rattle.std.proofs.lemmas.List.Sums.{sum_by-append, sum_by-cons}
use Rattle.std.proofs.lemmas.Option.{none-some, same_Some}
use Rattle.bal_base.proofs.Lemmas.{among-cases, among-first, among-later}
use Rattle.bal_layout.specs.Addresses.{address_in, offset_of}
use Rattle.bal_layout.specs.Regions.{is_in}
use Rattle.bal_layout.specs.declared.name.Name.{Name}
use Rattle.bal_region.specs.Changes.{empty_land, without}
use Rattle.bal_region.specs.Land.{Land, Laid, first_from, object_at, size_at, starts_at}
use Rattle.bal_region.proofs.Lemmas.{object-there}
use Rattle.bal_table.specs.Changes.{with_land, without_object}
use Rattle.bal_table.specs.Table.{IsTable, Table, land_at, thing_in, things_of}
use Rattle.bal_table.proofs.Lemmas.{address-offset, address-region, objects-at, start-inside}
use Rattle.bal_words.specs.Things.{Thing}
use Rattle.bal_sweep.specs.Dead.{dead_at, dead_in}
use Rattle.bal_sweep.specs.Sweep.{left_at, words_of}
use Rattle.bal_sweep.specs.Sweeping.{IsSweeping, is_marked}
use Rattle.bal_sweep.proofs.Starts.{find-behind, find-first, in-filter, in-middle, laid-behind, laid-sum, length-some, sum-fewer, without-middle}

and-right : (a b : Bool) → (a && b) ≡ true → b ≡ true
and-right true b h = h
and-right false b h = absurd (false≢true h)

-- other starts in a region
abbrev pub with_starts : Table → ℕ → List ℕ → Table
with_starts t q ss = with_land t q (record (land_at t q) { starts = ss })

module _ (marked : List ℕ) (t : Table) (q : ℕ) (table : IsTable t) (within : q < t.shape.regions) where
  land-starts : (ss : List ℕ) → land_at (with_starts t q ss) q ≡ record (land_at t q) { starts = ss }
  land-starts ss = get_or-set_same t.lands q (record (land_at t q) { starts = ss }) (empty_land 0 0) (omega (arith, within, table.lands))

  -- what starts still is the same
  same-thing : (ss : List ℕ) (at : ℕ) → starts_at (land_at t q) at ≡ true → is_in at ss ≡ true
      → things_of (with_starts t q ss) (address_in t.shape q at) ≡ things_of t (address_in t.shape q at)
  same-thing ss at starts among =
      let inside = start-inside t q at table within starts in
      ap (option_and_then thing_in) (objects-at (with_starts t q ss) q at inside
      ∙ (ap (λ (l : Land). object_at l at) (land-starts ss)
      ∙ (object-there (record (land_at t q) { starts = ss }) at among
      ∙ (sym (object-there (land_at t q) at starts) ∙ sym (objects-at t q at inside)))))

  -- one of them is taken away
  without-starts : (ss : List ℕ) (at : ℕ) → at < t.shape.words
      → without_object (with_starts t q ss) (address_in t.shape q at) ≡ with_starts t q (filter (λ s. not (eqb s at)) ss)
  without-starts ss at inside =
      let u = with_starts t q ss in
      ap (λ r. with_land u r (without (land_at u r) (offset_of t.shape (address_in t.shape q at)))) (address-region t.shape q at inside)
      ∙ (ap (λ o. with_land u q (without (land_at u q) o)) (address-offset t.shape q at inside)
      ∙ (ap (λ (l : Land). with_land u q (without l at)) (land-starts ss)
      ∙ ap (λ (ls : List Land). record t { lands = ls })
      (set-set t.lands q (record (land_at t q) { starts = ss }) (record (land_at t q) { starts = filter (λ s. not (eqb s at)) ss }))))

  -- an object is the next one, behind those that were swept
  pub record IsAt (u : Table) (done : List ℕ) (o : ℕ) : Type 0 where
    pub rest : List ℕ
    pub all : (land_at t q).starts ≡ done ++ o ∷ rest
    pub here : u ≡ with_starts t q (filter (is_marked marked t q) done ++ o ∷ rest)
    pub before : (s : ℕ) → is_in s done ≡ true → s < o
    pub behind : (s : ℕ) → is_in s rest ≡ true → o < s
    pub starts : starts_at (land_at t q) o ≡ true
    pub inside : o < t.shape.words

  -- the marked ones of those before
  left-below : (done : List ℕ) (next : ℕ) → ((s : ℕ) → is_in s done ≡ true → s < next) → (s : ℕ) → is_in s (filter (is_marked marked t q) done) ≡ true → s < next
  left-below done next below s among = below s (and-right (is_marked marked t q s) (is_in s done) (sym (in-filter (is_marked marked t q) done s) ∙ among))

  module _ (u : Table) (next live : ℕ) (before names : List Name) (i : IsSweeping marked t u q next live before names) where
    first-rest : first_from (land_at u q) next ≡ find (λ s. nat_le next s) i.rest
    first-rest =
        ap (λ (w : Table). first_from (land_at w q) next) i.table
        ∙ (ap (λ (l : Land). first_from l next) (land-starts (filter (is_marked marked t q) i.done ++ i.rest))
        ∙ find-behind next (filter (is_marked marked t q) i.done) i.rest (left-below i.done next i.below))

    pub sweeping-at : (o : ℕ) → Some o ≡ first_from (land_at u q) next → IsAt u i.done o
    sweeping-at o is = by i.rest refl (is ∙ first-rest)
      where
        from : (s : ℕ) (ss : List ℕ) → i.rest ≡ s ∷ ss → o ≡ s → IsAt u i.done o
        from s ss rest same =
            let l = land_at t q in
            let region = table.each q within in
            let here : i.rest ≡ o ∷ ss = rest ∙ ap (λ n. n ∷ ss) (sym same) in
            let all : l.starts ≡ i.done ++ o ∷ ss = i.all ∙ ap (λ (r : List ℕ). i.done ++ r) here in
            let starts : starts_at l o ≡ true = subst (λ (r : List ℕ). is_in o r ≡ true) (sym all) (in-middle i.done ss o) in
            record {
              rest = ss;
              all = all;
              here = i.table ∙ ap (λ (r : List ℕ). with_starts t q (filter (is_marked marked t q) i.done ++ r)) here;
              before = λ s among. omega (arith, i.below s among, i.behind o (subst (λ (r : List ℕ). is_in o r ≡ true) (sym here) (in-middle [] ss o)));
              behind = laid-behind l.words 0 i.done o ss l.used (subst (λ (r : List ℕ). Laid l.words 0 r l.used) all region.land.laid);
              starts = starts;
              inside = start-inside t q o table within starts;
            }

        by : (rest : List ℕ) → i.rest ≡ rest → Some o ≡ find (λ s. nat_le next s) i.rest → IsAt u i.done o
        by [] none found = absurd (none-some o (sym (found ∙ ap (λ (r : List ℕ). find (λ s. nat_le next s) r) none)))
        by (s ∷ ss) rest found =
            from s ss rest (same_Some o s (found ∙ (ap (λ (r : List ℕ). find (λ s. nat_le next s) r) rest
            ∙ find-first next s ss (i.behind s (subst (λ (r : List ℕ). is_in s r ≡ true) (sym rest) (in-middle [] ss s))))))

    -- there is room for its name
    pub sweeping-room : (o spare spare_before : ℕ) → IsAt u i.done o → length (land_at t q).starts ≤ spare_before → spare + length names ≡ spare_before + length before → 1 ≤ spare
    sweeping-room o spare spare_before at room kept =
        let some = length-some (λ s. dead_at marked t (address_in t.shape q s)) i.done in
        omega (
          arith,
          room,
          kept,
          some,
          ap (λ (l : List Name). length l) i.dead,
          length-append before (filter_map (λ s. dead_at marked t (address_in t.shape q s)) i.done),
          ap (λ (l : List ℕ). length l) at.all,
          length-append i.done (o ∷ at.rest),
        )

    -- the object is swept: it is left if it is marked, or else it is told and taken away
    module _ (o : ℕ) (at : IsAt u i.done o) where
      abbrev pub here : ℕ
      here = address_in t.shape q o

      -- it stands in the region as it did
      among : is_in o (filter (is_marked marked t q) i.done ++ o ∷ at.rest) ≡ true
      among = in-middle (filter (is_marked marked t q) i.done) at.rest o

      dead-same : dead_at marked u here ≡ dead_at marked t here
      dead-same =
          ap (λ (w : Table). dead_at marked w here) at.here
          ∙ ap (λ (x : Option Thing). cond (is_in here marked) None (option_map (λ (y : Thing). y.name) x))
          (same-thing (filter (is_marked marked t q) i.done ++ o ∷ at.rest) o at.starts among)

      -- those that are left of so many
      left-more : (b : Bool) → is_marked marked t q o ≡ b → filter (is_marked marked t q) (i.done ++ o ∷ []) ≡ filter (is_marked marked t q) i.done ++ cond b (o ∷ []) []
      left-more b is = filter-append (is_marked marked t q) i.done (o ∷ []) ∙ ap (λ c. filter (is_marked marked t q) i.done ++ cond c (o ∷ []) []) is

      module _ (v : Table) (gain : ℕ) (after : List Name) (told : after ≡ names ++ cons_option (dead_at marked u (address_in u.shape q o)) []) where
        shape : address_in u.shape q o ≡ here
        shape = ap (λ (w : Table). address_in w.shape q o) at.here

        step : (b : Bool) → is_marked marked t q o ≡ b → v ≡ cond b u (without_object u here) → gain ≡ cond b (size_at (land_at u q).words o) 0
            → IsSweeping marked t v q (o + 1) (live + gain) before after
        step b is now more = record {
          done = i.done ++ o ∷ [];
          rest = at.rest;
          all = at.all ∙ sym (append_assoc i.done (o ∷ []) at.rest);
          table = now ∙ (swept b is ∙ ap (λ (l : List ℕ). with_starts t q (l ++ at.rest)) (sym (left-more b is)));
          below = λ s one. below s (in-end s i.done one);
          behind = λ s one. omega (arith, at.behind s one);
          alive = alive b is more;
          dead = told ∙ (ap (λ a. names ++ cons_option (dead_at marked u a) []) shape
              ∙ (ap (λ (l : List Name). l ++ cons_option (dead_at marked u here) []) i.dead
              ∙ (append_assoc before (filter_map (λ s. dead_at marked t (address_in t.shape q s)) i.done) (cons_option (dead_at marked u here) [])
              ∙ ap (λ (l : List Name). before ++ l)
              (ap (λ (n : Option Name). filter_map (λ s. dead_at marked t (address_in t.shape q s)) i.done ++ cons_option n []) dead-same
              ∙ sym (filter_map-append (λ s. dead_at marked t (address_in t.shape q s)) i.done (o ∷ []))))));
        }
          where
            l : Land
            l = land_at t q

            left : List ℕ
            left = filter (is_marked marked t q) i.done

            below : (s : ℕ) → (is_in s i.done ≡ true) ⊎ (o ≡ s) → s < o + 1
            below s (inl one) = omega (arith, at.before s one)
            below s (inr same) = omega (arith, same)

            in-end : (s : ℕ) (xs : List ℕ) → is_in s (xs ++ o ∷ []) ≡ true → (is_in s xs ≡ true) ⊎ (o ≡ s)
            in-end s [] one = elim (among-cases o s [] one) [ inl same ↦ inr same | inr none ↦ absurd (false≢true none) ]
            in-end s (x ∷ xs) one = elim (among-cases x s (xs ++ o ∷ []) one) [
              | inl same ↦ inl (subst (λ n. is_in n (x ∷ xs) ≡ true) same (among-first x xs))
              | inr later ↦ elim (in-end s xs later) [ inl one ↦ inl (among-later x s xs one) | inr same ↦ inr same ]
            ]

            swept : (b : Bool) → is_marked marked t q o ≡ b → cond b u (without_object u here) ≡ with_starts t q ((left ++ cond b (o ∷ []) []) ++ at.rest)
            swept true is = at.here ∙ ap (with_starts t q) (sym (append_assoc left (o ∷ []) at.rest))
            swept false is =
                ap (λ (w : Table). without_object w here) at.here
                ∙ (without-starts (left ++ o ∷ at.rest) o at.inside
                ∙ ap (with_starts t q) (without-middle left at.rest o (left-below i.done o at.before) at.behind ∙ ap (λ (r : List ℕ). r ++ at.rest) (sym (append-nil left))))

            words : (land_at u q).words ≡ l.words
            words = ap (λ (w : Table). (land_at w q).words) at.here ∙ ap (λ (m : Land). m.words) (land-starts (left ++ o ∷ at.rest))

            alive : (b : Bool) → is_marked marked t q o ≡ b → gain ≡ cond b (size_at (land_at u q).words o) 0
                → live + gain ≡ sum_by (size_at l.words) (filter (is_marked marked t q) (i.done ++ o ∷ []))
            alive true is more =
                let size = ap (λ (ws : List ℕ). size_at ws o) words in
                let sum = ap (sum_by (size_at l.words)) (left-more true is) ∙ sum_by-append (size_at l.words) left (o ∷ []) in
                omega (arith, i.alive, more, size, sum, sum_by-cons (size_at l.words) o [])
            alive false is more =
                let sum = ap (sum_by (size_at l.words)) (left-more false is) ∙ sum_by-append (size_at l.words) left [] in
                omega (arith, i.alive, more, sum)

        pub sweeping-next : v ≡ cond (is_in (address_in u.shape q o) marked) u (without_object u (address_in u.shape q o))
            → gain ≡ cond (is_in (address_in u.shape q o) marked) (size_at (land_at u q).words o) 0
            → IsSweeping marked t v q (o + 1) (live + gain) before after
        sweeping-next now more =
            step (is_marked marked t q o) refl
            (now ∙ ap (λ a. cond (is_in a marked) u (without_object u a)) shape)
            (more ∙ ap (λ a. cond (is_in a marked) (size_at (land_at u q).words o) 0) shape)

  -- the words that were counted are words of the region
  pub sweeping-live : (u : Table) (next live : ℕ) (before names : List Name) → IsSweeping marked t u q next live before names → live ≤ (land_at t q).used
  sweeping-live u next live before names i =
      let l = land_at t q in
      let region = table.each q within in
      let all : sum_by (size_at l.words) l.starts ≡ sum_by (size_at l.words) i.done + sum_by (size_at l.words) i.rest =
      ap (sum_by (size_at l.words)) i.all ∙ sum_by-append (size_at l.words) i.done i.rest in
      omega (arith, i.alive, sum-fewer (size_at l.words) (is_marked marked t q) i.done, all, laid-sum l.words 0 l.starts l.used region.land.laid)

  -- where none is found any more, all were swept
  module _ (u : Table) (next live : ℕ) (before names : List Name) (i : IsSweeping marked t u q next live before names) (none : None ≡ first_from (land_at u q) next) where
    rest-none : (rest : List ℕ) → i.rest ≡ rest → i.done ≡ (land_at t q).starts
    rest-none [] is = sym (i.all ∙ (ap (λ (r : List ℕ). i.done ++ r) is ∙ append-nil i.done))
    rest-none (s ∷ ss) is = absurd (none-some s (none ∙ (first-rest u next live before names i ∙ (ap (λ (r : List ℕ). find (λ s. nat_le next s) r) is
        ∙ find-first next s ss (i.behind s (subst (λ (r : List ℕ). is_in s r ≡ true) (sym is) (in-middle [] ss s)))))))

    done-all : i.done ≡ (land_at t q).starts
    done-all = rest-none i.rest refl

    gone : (rest : List ℕ) → (land_at t q).starts ≡ i.done ++ rest → rest ≡ []
    gone [] all = refl
    gone (s ∷ ss) all = absurd (omega (arith, ap (λ (l : List ℕ). length l) all, ap (λ (l : List ℕ). length l) done-all, length-append i.done (s ∷ ss)))

    pub swept-table : u ≡ with_land t q (left_at marked t q)
    swept-table =
        i.table ∙ (ap (λ (r : List ℕ). with_starts t q (filter (is_marked marked t q) i.done ++ r)) (gone i.rest i.all)
        ∙ ap (with_starts t q) (append-nil (filter (is_marked marked t q) i.done) ∙ ap (filter (is_marked marked t q)) done-all))

    pub swept-live : live ≡ words_of (left_at marked t q)
    swept-live = i.alive ∙ ap (λ (l : List ℕ). sum_by (size_at (land_at t q).words) (filter (is_marked marked t q) l)) done-all

    pub swept-names : names ≡ before ++ dead_in marked t q
    swept-names = i.dead ∙ ap (λ (l : List ℕ). before ++ filter_map (λ at. dead_at marked t (address_in t.shape q at)) l) done-all

    -- the words that are alive are words of the region
    pub swept-estimate : live ≤ (land_at u q).used
    swept-estimate =
        let same = ap (λ (w : Table). (land_at w q).used) swept-table ∙ ap (λ (l : Land). l.used) (land-starts (filter (is_marked marked t q) (land_at t q).starts)) in
        omega (arith, sweeping-live u next live before names i, same)
