-- The regions that were out may stand in the table again: those with copies, with their ages, and those that were not drawn.
use Rattle.std.proofs.Common.{◌≡◌, ◌<◌, ℕ, zero, suc, Bool, true, false, cond, eqb, List, [], ◌∷◌, ◌++◌, length, map, drop, get_or, Option, Some, None, refl, ap, sym, subst, ◌∙◌, arith}
use Rattle.std.specs.Prelude.{◌↔◌, is_some, option_and_then, slice_get, unwrap_or}
use Rattle.std.specs.List.{AllByRecursion, list_any}
use Rattle.std.proofs.lemmas.Bool.{and_parts, false≢true}
use Rattle.std.proofs.lemmas.List.{get_or-map, length-map}
use Rattle.std.proofs.lemmas.Option.{none-some, same_Some, slice_get-get_or}
use Rattle.bal_base.proofs.Lemmas.{among-first, among-later}
use Rattle.bal_copyfwd.specs.Filled.{Back, MayStand}
use Rattle.bal_copyfwd.specs.Returned.{IsEvacuationOf, backs_of, lent_of}
use Rattle.bal_core.specs.World.{At, Graph}
use Rattle.bal_dest.specs.declared.buffers.Destination.{Destination}
use Rattle.bal_evacuate.proofs.Lemmas.{copies-age, copies-land, copy-is}
use Rattle.bal_evacuate.specs.Course.{Course}
use Rattle.bal_evacuate.specs.Plan.{Plan, words_in}
use Rattle.bal_gather.specs.Lent.{Lent, is_chosen}
use Rattle.bal_gather.specs.Numbers.{is_start, number_of, starts_below, starts_of}
use Rattle.bal_gather.specs.Objects.{words_at}
use Rattle.bal_layout.specs.Regions.{free_regions, is_in}
use Rattle.bal_layout.specs.Shape.{Shape}
use Rattle.bal_layout.specs.declared.header.Header.{Header}
use Rattle.bal_layout.specs.declared.region_state.Role.TheVariants.{Free, Object}
use Rattle.bal_region.proofs.Lemmas.{header-seen, laid-each, object-starts, size-two}
use Rattle.bal_region.specs.Land.{IsLand, Land, header_at, object_at, size_at}
use Rattle.bal_table.proofs.Lemmas.{IsTable-vacated, free-numbered, seen, vacant}
use Rattle.bal_table.specs.Occupied.{vacated}
use Rattle.bal_table.specs.Table.{IsTable, MayStart, Table, land_at, objects_of, thing_in, things_of}
use Rattle.bal_words.proofs.Lemmas.{there}
use Rattle.bal_words.specs.Pieces.{header_in}

-- where an object starts in a region, the region's header there is the one with which its words begin
header-of-object : (l : Land) (at : ℕ) (words : List ℕ) → IsLand l → object_at l at ≡ Some words → header_in words ≡ header_at l.words at
unfolding size_at
header-of-object l at words land is =
    let starts = object-starts l at words is in
    let each = laid-each l.words 0 l.starts l.used at land.laid starts.0 in
    ap header_in (sym starts.1) ∙ header-seen l.words at (size_at l.words at) (size-two l.words at each.1)

-- the parts of a list, and of two lists one behind the other
pub every : {X : Type 0} (P : X → Type 0) (xs : List X) → ((i : ℕ) (x : X) → slice_get xs i ≡ Some x → P x) → AllByRecursion P xs
every P [] each = tt
every P (x ∷ xs) each = (each 0 x refl, every P xs (λ i y at. each (suc i) y at))

pub both : {X : Type 0} (P : X → Type 0) (xs ys : List X) → AllByRecursion P xs → AllByRecursion P ys → AllByRecursion P (xs ++ ys)
both P [] ys first second = second
both P (x ∷ xs) ys first second = (first.0, both P xs ys first.1 second)

pub mapped : {X Y : Type 0} (f : X → Y) (P : Y → Type 0) (xs : List X) → AllByRecursion (λ x. P (f x)) xs → AllByRecursion P (map f xs)
mapped f P [] all = tt
mapped f P (x ∷ xs) all = (all.0, mapped f P xs all.1)

pub behind : {X : Type 0} (P : X → Type 0) (n : ℕ) (xs : List X) → AllByRecursion P xs → AllByRecursion P (drop n xs)
behind P zero xs all = all
behind P (suc n) [] all = tt
behind P (suc n) (x ∷ xs) all = behind P n xs all.1

pub of-those : (P : Land → Type 0) (t : Table) (qs : List ℕ) → ((q : ℕ) → is_in q qs ≡ true → P (land_at t q)) → AllByRecursion P (map (land_at t) qs)
of-those P t [] each = tt
of-those P t (q ∷ qs) each = (each q (among-first q qs), of-those P t qs (λ n among. each n (among-later q n qs among)))

abbrev AreNumbered : Type 0
AreNumbered = (l : Lent) (a k : ℕ) → IsTable l.table → (number_of l a ≡ Some k) ↔ (slice_get (starts_of l) k ≡ Some a)

abbrev pub with_copies : Destination → Back
with_copies d = record { land = d.region; role = Object d.age }

abbrev pub as_spare : Land → Back
as_spare l = record { land = l; role = Free }

chosen-some : (b : Bool) (n k : ℕ) → cond b (Some n) None ≡ Some k → b ≡ true
chosen-some true n k is = refl
chosen-some false n k is = absurd (none-some k is)

module _ (numbered : AreNumbered) (t : Table) (chosen : List ℕ) (p : Plan) (c : Course) (e : IsEvacuationOf t chosen p c) where
  abbrev l : Lent
  l = lent_of t chosen

  abbrev s : Shape
  s = t.shape

  vacated-is : IsTable (vacated t)
  vacated-is = IsTable-vacated t e.table

  -- the header of an object that has a number is one that may start in a region
  header-may : (k : ℕ) (h : Header) → k < length p.graph.words → header_in (words_in p.graph k) ≡ Some h → MayStart s h
  header-may k h less is = by (objects_of (vacated t) a) refl
    where
      few : k < length (starts_of l)
      few =
          let graph : length p.graph.words ≡ length (map (words_at (vacated t)) (starts_of l)) = ap (λ (g : Graph). length g.words) e.graph in
          omega (arith, less, graph, length-map (starts_of l) (words_at (vacated t)))

      a : ℕ
      a = get_or (starts_of l) k 0

      at : slice_get (starts_of l) k ≡ Some a
      at = slice_get-get_or (starts_of l) k 0 few

      start : is_some (things_of (vacated t) a) ≡ true
      start =
          (and_parts (is_chosen l a) (is_some (things_of (vacated t) a)) (chosen-some (is_start l a) (length (starts_below l a)) k ((numbered l a k vacated-is).1 at))).1

      words : words_in p.graph k ≡ words_at (vacated t) a
      words = ap (λ (g : Graph). words_in g k) e.graph ∙ get_or-map (words_at (vacated t)) (starts_of l) k 0 [] few

      by : (o : Option (List ℕ)) → objects_of (vacated t) a ≡ o → MayStart s h
      by None none = absurd (false≢true (sym (ap (λ o. is_some (option_and_then thing_in o)) none) ∙ start))
      by (Some object) some =
          let x = there (things_of (vacated t) a) start in
          let z = seen (vacated t) a x.0 vacated-is x.1 in
          let same : words_in p.graph k ≡ z.object = words ∙ ap (λ o. unwrap_or o []) z.is in
          subst (MayStart s) (same_Some z.header h (sym z.read ∙ (ap header_in (sym same) ∙ is))) z.may

  filled-stands : (j : ℕ) (d : Destination) → At c.buffers.regions j d → MayStand s (with_copies d)
  filled-stands j d at =
      let shape : p.shape ≡ t.shape = e.shape in
      let land = copies-land p c e.copied j d at in
      record {
        words = land.1 ∙ ap (λ (y : Shape). y.words) shape;
        role = copies-age p c e.copied j d at;
        free = λ none. absurd (false≢true (sym none));
        pieces = λ off h starts header.
            let x = copy-is p c e.copied j off d at starts in
            header-may x.0 h x.1 (header-of-object d.region off (words_in p.graph x.0) land.0 x.2 ∙ header);
      }

  spare-stands : (q : ℕ) → is_in q (free_regions t.regions) ≡ true → MayStand s (as_spare (land_at t q))
  spare-stands q among =
      let free = free-numbered t e.table q among in
      let v = vacant t e.table q free.0 free.1 in
      record {
        words = v.words;
        role = tt;
        free = λ none. (v.starts, v.used);
        pieces = λ off h starts header. absurd (false≢true (sym (ap (λ (ss : List ℕ). list_any (λ x. eqb x off) ss) v.starts) ∙ starts));
      }

  pub each-stands : AllByRecursion (MayStand s) (backs_of c)
  each-stands =
      both (MayStand s) (map with_copies c.buffers.regions) (map as_spare c.spares)
      (mapped with_copies (MayStand s) c.buffers.regions (every (λ d. MayStand s (with_copies d)) c.buffers.regions filled-stands))
      (mapped as_spare (MayStand s) c.spares
      (subst (AllByRecursion (λ (y : Land). MayStand s (as_spare y))) (sym (e.spares ∙ ap (drop (length c.buffers.regions)) e.pool))
      (behind (λ (y : Land). MayStand s (as_spare y)) (length c.buffers.regions) (map (land_at t) (free_regions t.regions))
      (of-those (λ (y : Land). MayStand s (as_spare y)) t (free_regions t.regions) spare-stands))))
