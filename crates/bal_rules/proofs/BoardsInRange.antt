-- All that lies on a board lies in its regions, after each event.
use Rattle.std.proofs.Common.{◌≡◌, ◌<◌, ◌≤◌, ◌+◌, ◌==◌, ℕ, zero, suc, List, [], ◌∷◌, Bool, true, false, cond, Option, Some, None, length, map, take, drop, set, refl, ap, sym, subst, ◌∙◌, arith, length-set, eqb-true, inl, inr}
use Rattle.std.specs.Prelude.{IsTrue, IfSome, nat_le, slice_index_or, unwrap_or}
use Rattle.std.specs.List.{AllByRecursion, range_with_len}
use Rattle.std.proofs.lemmas.Bool.{or_cases, false≢true}
use Rattle.std.proofs.lemmas.List.{length-replicate}
use Rattle.std.proofs.lemmas.List.FromFn.{length-map-range_with_len}
use Rattle.bal_base.specs.Numbering.{numbers_from}
use Rattle.bal_layout.specs.Names.{is_before, same_name}
use Rattle.bal_layout.specs.Regions.{all_regions, free_regions, free_region, is_free, is_in, region_at, region_with_object, freed}
use Rattle.bal_layout.specs.Shape.{Shape}
use Rattle.bal_layout.specs.declared.geometry.Want.{Want}
use Rattle.bal_layout.specs.declared.name.Name.{Name}
use Rattle.bal_layout.specs.declared.region_state.RegionState.{RegionState}
use Rattle.bal_layout.specs.declared.region_state.Role.TheVariants as roles
use Rattle.bal_model.specs.declared.config.Config.{Config}
use Rattle.bal_model.specs.declared.event.How.{How}
use Rattle.bal_model.specs.declared.event.How.TheVariants as how
use Rattle.bal_model.specs.declared.event.Kept.{Kept}
use Rattle.bal_model.specs.declared.event.Packed.{Packed}
use Rattle.bal_model.specs.declared.row.Op.{Op}
use Rattle.bal_model.specs.declared.row.Reply.{Reply}
use Rattle.bal_model.specs.declared.row.Reply.TheVariants as reply
use Rattle.bal_model.specs.Entries.{Entry, Spot, row, note, partial, begin, mark, end, global}
use Rattle.bal_model.specs.Plain.{step, graph_after}
use Rattle.bal_rules.specs.After.{after}
use Rattle.bal_rules.specs.Board.{Board, Placed, opening, with_placed, without_names, placed_except}
use Rattle.bal_rules.specs.GlobalEvents.{IsGlobal, after_global, last_packed, next_fit, placed_after_packing, region_after_packing, targets_of_packing}
use Rattle.bal_rules.specs.Interim.{Rule}
use Rattle.bal_rules.specs.MarkEvents.{after_begin, after_mark, after_end, deserted_regions, region_after_sweep}
use Rattle.bal_rules.specs.NoteEvents.{after_note}
use Rattle.bal_rules.specs.PartialEvents.{IsPartial, after_partial, lands_in, names_lost, placed_after_partial, placed_as_kept, region_after_partial, region_as_kept, regions_emptied}
use Rattle.bal_rules.specs.Path.{Turn, Stage, opened, marking, ending, collected, own_at, IsLegal}
use Rattle.bal_rules.specs.Range.{IsPlacedWithin, IsWithinRegions}
use Rattle.bal_rules.specs.Room.{fits_current, spot_for}
use Rattle.bal_rules.specs.RowEvents.{want_of, with_leaves, board_with_object, board_after_reply}
use Rattle.bal_rules.proofs.Each.{each-at, each-drop, each-filter, each-from_map, each-map, each-take}
use Rattle.bal_rules.proofs.PathFacts.{own-event}

-- Numbers of regions.

-- the numbers of those that pass a test are below the length
numbers-below : {A : Type 0} (k n : ℕ) (test : A → Bool) (xs : List A) → k + length xs ≤ n → AllByRecursion (λ (q : ℕ). q < n) (numbers_from k test xs)
numbers-below k n test [] h = tt
numbers-below k n test (x ∷ xs) h = by (test x) (numbers-below (k + 1) n test xs (omega arith))
  where
    by : (b : Bool) → AllByRecursion (λ (q : ℕ). q < n) (numbers_from (k + 1) test xs)
        → AllByRecursion (λ (q : ℕ). q < n) (cond b (k ∷ numbers_from (k + 1) test xs) (numbers_from (k + 1) test xs))
    by true rest = (omega arith, rest)
    by false rest = rest

pub free-below : (n : ℕ) (regions : List RegionState) → length regions ≡ n → AllByRecursion (λ (q : ℕ). q < n) (free_regions regions)
free-below n regions h = numbers-below 0 n (λ (r : RegionState). is_free r.role) regions (omega (arith, h))

pub range-below : (a k n : ℕ) → a + k ≤ n → AllByRecursion (λ (q : ℕ). q < n) (range_with_len a k)
range-below a zero n h = tt
range-below a (suc k) n h = (omega arith, range-below (a + 1) k n (omega arith))

pub all-below : (n : ℕ) (regions : List RegionState) → length regions ≡ n → AllByRecursion (λ (q : ℕ). q < n) (all_regions regions)
all-below n regions h = range-below 0 (length regions) n (omega (arith, h))

-- a number that is in a list has what each of the list has
pub each-in : (P : ℕ → Type 0) (ns : List ℕ) (n : ℕ) → AllByRecursion P ns → IsTrue (is_in n ns) → P n
each-in P [] n h i = absurd (false≢true i)
each-in P (m ∷ ns) n h i = elim (or_cases (m == n) (is_in n ns) i) [
  | inl here ↦ subst P (eqb-true m n here) h.0
  | inr there ↦ each-in P ns n h.1 there
]

-- Rows.

-- where an object may be placed
pub record IsSpotWithin (n : ℕ) (s : Spot) : Type 0 where
  pub region : s.region < n
  pub leaves : AllByRecursion (λ (q : ℕ). q < n) s.leaves

pub spot-within : (s : Shape) (n : ℕ) (regions : List RegionState) (current : Option ℕ) (w : Want) → 0 < n → length regions ≡ n → IfSome current (λ (q : ℕ). q < n)
    → IsSpotWithin n (spot_for s regions current w)
spot-within s n regions current w some count here = by (fits_current s regions current w.words)
  where
    free : AllByRecursion (λ (q : ℕ). q < n) (free_regions regions)
    free = free-below n regions count

    in_current : (o : Option ℕ) → IfSome o (λ (q : ℕ). q < n) → unwrap_or o 0 < n
    in_current None h = some
    in_current (Some q) h = h

    by : (b : Bool) → IsSpotWithin n (cond b (record { region = unwrap_or current 0; leaves = take w.leaves (free_regions regions) })
        (record { region = slice_index_or (free_regions regions) 0 0; leaves = take w.leaves (drop 1 (free_regions regions)) }))
    by true = record { region = in_current current here; leaves = each-take (λ (q : ℕ). q < n) w.leaves (free_regions regions) free }
    by false = record {
      region = each-at (λ (q : ℕ). q < n) (free_regions regions) 0 0 free some;
      leaves = each-take (λ (q : ℕ). q < n) w.leaves (drop 1 (free_regions regions)) (each-drop (λ (q : ℕ). q < n) 1 (free_regions regions) free);
    }

pub each-placed : (P : Placed → Type 0) (p : Placed) (ps : List Placed) → P p → AllByRecursion P ps → AllByRecursion P (with_placed p ps)
each-placed P p [] h k = (h, tt)
each-placed P p (q ∷ qs) h k = by (is_before p.name q.name) (each-placed P p qs h k.1)
  where
    by : (b : Bool) → AllByRecursion P (with_placed p qs) → AllByRecursion P (cond b (p ∷ q ∷ qs) (q ∷ with_placed p qs))
    by true rest = (h, k)
    by false rest = (k.0, rest)

count-leaves : (qs : List ℕ) (regions : List RegionState) → length (with_leaves qs regions) ≡ length regions
count-leaves [] regions = refl
count-leaves (q ∷ qs) regions =
    count-leaves qs (set regions q (record (region_at regions q) { role = roles.Leaf })) ∙ length-set regions q (record (region_at regions q) { role = roles.Leaf })

with-object-within : (n : ℕ) (x : Name) (w : Want) (spot : Spot) (b : Board) → IsWithinRegions n b → IsSpotWithin n spot → IsWithinRegions n (board_with_object x w spot b)
with-object-within n x w spot b h at = record {
  count = count-leaves spot.leaves (set b.regions spot.region r) ∙ length-set b.regions spot.region r ∙ h.count;
  current = now (is_free (region_at b.regions spot.region).role);
  placed = each-placed (IsPlacedWithin n) (record { name = x; region = spot.region; leaves = spot.leaves }) b.present (record { region = at.region; leaves = at.leaves }) h.placed;
}
  where
    r : RegionState
    r = region_with_object w.words (region_at b.regions spot.region)

    now : (f : Bool) → IfSome (cond f (Some spot.region) b.current) (λ (q : ℕ). q < n)
    now true = at.region
    now false = h.current

-- the graph of a board says nothing of its regions
graph-within : (n : ℕ) (b d : Board) → d.regions ≡ b.regions → d.current ≡ b.current → d.present ≡ b.present → IsWithinRegions n b → IsWithinRegions n d
graph-within n b d regions current present h = record {
  count = ap length regions ∙ h.count;
  current = subst (λ (o : Option ℕ). IfSome o (λ (q : ℕ). q < n)) (sym current) h.current;
  placed = subst (AllByRecursion (IsPlacedWithin n)) (sym present) h.placed;
}

reply-within : (n : ℕ) (want : Option Want) (place : Option Spot) (r : Reply) (b : Board) → IsWithinRegions n b → IfSome place (IsSpotWithin n) → IsWithinRegions n (board_after_reply want place r b)
reply-within n None place r b h at = h
reply-within n (Some w) None r b h at = h
reply-within n (Some w) (Some spot) (reply.Name x) b h at = with-object-within n x w spot b h at
reply-within n (Some w) (Some spot) reply.Null b h at = h
reply-within n (Some w) (Some spot) (reply.Number k) b h at = h
reply-within n (Some w) (Some spot) reply.Ok b h at = h
reply-within n (Some w) (Some spot) reply.Nil b h at = h
reply-within n (Some w) (Some spot) reply.Slot b h at = h
reply-within n (Some w) (Some spot) reply.Full b h at = h

row-within : (n : ℕ) (c : Config) (b : Board) (t k : ℕ) (o : Op) (r : Reply) (p : Option Spot) → IsWithinRegions n b → IfSome p (IsSpotWithin n) → IsWithinRegions n (after c b (row t k o r p))
row-within n c b t k o r p h at =
    let next : Board = record b { plain = graph_after b.plain t o r } in
    reply-within n (want_of c.geometry o) p r next (graph-within n b next refl refl refl h) at

pub own-within : (n : ℕ) (rule : Rule) (c : Config) (turn : Turn) (stage : Stage) (b : Board) (e : Entry) → 0 < n → IsWithinRegions n b → own_at rule c turn stage b ≡ Some e → IsWithinRegions n (after c b e)
own-within n rule c turn stage b e some h own =
    let t = turn.row.thread in
    let o = turn.row.op in
    let r = (step b.plain t o).0 in
    own-event (λ (e : Entry). IsWithinRegions n (after c b e)) rule c turn stage b e
    (λ none. row-within n c b t turn.number o r None h tt)
    (λ w asks. row-within n c b t turn.number o r (Some (spot_for c.geometry b.regions b.current w)) h (spot-within c.geometry n b.regions b.current w some h.count h.current))
    (λ w asks full. row-within n c b t turn.number o reply.Full None h tt)
    own

-- Collections.

count-freed : (s : Shape) (qs : List ℕ) (regions : List RegionState) → length (freed s qs regions) ≡ length regions
count-freed s qs regions = length-map-range_with_len _ 0 (length regions)

count-changed : (f : ℕ → RegionState) (regions : List RegionState) → length (map f (all_regions regions)) ≡ length regions
count-changed f regions = length-map-range_with_len f 0 (length regions)

except-within : (n : ℕ) (names : List Name) (present : List Placed) → AllByRecursion (IsPlacedWithin n) present → AllByRecursion (IsPlacedWithin n) (placed_except names present)
except-within n names present h = each-filter (IsPlacedWithin n) _ present h

-- an object that a partial collection kept lies in a region that was free, or where it lay
moved-within : (n : ℕ) (free : List ℕ) (kept : List Kept) → AllByRecursion (λ (q : ℕ). q < n) free → AllByRecursion (λ (k : Kept). IsTrue (lands_in free k.how)) kept
    → (p : Placed) → IsPlacedWithin n p → IsPlacedWithin n (placed_after_partial kept p)
moved-within n free [] below lands p h = h
moved-within n free (k ∷ ks) below lands p h = by (same_name k.name p.name) (moved-within n free ks below lands.1 p h)
  where
    region : (w : How) → IsTrue (lands_in free w) → region_as_kept w p.region < n
    region (how.Copied q) at = each-in (λ (q : ℕ). q < n) free q below at
    region how.Marked at = h.region

    by : (b : Bool) → IsPlacedWithin n (placed_after_partial ks p) → IsPlacedWithin n (cond b (placed_as_kept k p) (placed_after_partial ks p))
    by true rest = record { region = region k.how lands.0; leaves = h.leaves }
    by false rest = rest

partial-within : (n : ℕ) (c : Config) (b : Board) (chosen : List ℕ) (scans : ℕ) (kept : List Kept) → IsWithinRegions n b → IsPartial c b chosen scans kept → IsWithinRegions n (after_partial c b chosen kept)
partial-within n c b chosen scans kept h is = record {
  count = count-freed c.geometry (regions_emptied b chosen kept) (map (region_after_partial c b chosen kept) (all_regions b.regions)) ∙ count-changed (region_after_partial c b chosen kept) b.regions ∙ h.count;
  current = tt;
  placed = each-map (IsPlacedWithin n) (IsPlacedWithin n) (placed_after_partial kept) (moved-within n (free_regions b.regions) kept (free-below n b.regions h.count) is.from_the_pool)
      (placed_except (names_lost b chosen kept) b.present) (except-within n (names_lost b chosen kept) b.present h.placed);
}

without-within : (n : ℕ) (c : Config) (names : List Name) (b : Board) → IsWithinRegions n b → IsWithinRegions n (without_names c names b)
without-within n c names b h = record { count = count-freed c.geometry _ b.regions ∙ h.count; current = h.current; placed = except-within n names b.present h.placed }

end-within : (n : ℕ) (c : Config) (b : Board) (dead : List Name) → IsWithinRegions n b → IsWithinRegions n (after_end c b dead)
end-within n c b dead h =
    let d = without_names c dead b in
    let k = without-within n c dead b h in
    record {
      count = count-freed c.geometry (deserted_regions d) (map (region_after_sweep c d) (all_regions d.regions)) ∙ count-changed (region_after_sweep c d) d.regions ∙ k.count;
      current = k.current;
      placed = k.placed;
    }

-- an object is packed into one of the regions that are given, or into the first of all
next-fit-within : (room n : ℕ) (regions : List ℕ) (filled : ℕ) (ws : List ℕ) → 0 < n → AllByRecursion (λ (q : ℕ). q < n) regions → AllByRecursion (λ (q : ℕ). q < n) (next_fit room regions filled ws)
next-fit-within room n regions filled [] some h = tt
next-fit-within room n regions filled (w ∷ ws) some h =
    by (nat_le (filled + w) room) (next-fit-within room n regions (filled + w) ws some h)
    (next-fit-within room n (drop 1 regions) w ws some (each-drop (λ (q : ℕ). q < n) 1 regions h))
  where
    at : (i : ℕ) → slice_index_or regions i 0 < n
    at i = each-at (λ (q : ℕ). q < n) regions i 0 h some

    by : (b : Bool) → AllByRecursion (λ (q : ℕ). q < n) (next_fit room regions (filled + w) ws) → AllByRecursion (λ (q : ℕ). q < n) (next_fit room (drop 1 regions) w ws)
        → AllByRecursion (λ (q : ℕ). q < n) (cond b (slice_index_or regions 0 0 ∷ next_fit room regions (filled + w) ws) (slice_index_or regions 1 0 ∷ next_fit room (drop 1 regions) w ws))
    by true here next = (at 0, here)
    by false here next = (at 1, next)

pub packed-within : (n : ℕ) (c : Config) (b : Board) (dead : List Name) (packed : List Packed) → 0 < n → IsWithinRegions n b → IsGlobal c b dead packed → AllByRecursion (λ (k : Packed). k.region < n) packed
packed-within n c b dead packed some h is =
    let d = without_names c dead b in
    let k = without-within n c dead b h in
    each-from_map (λ (q : ℕ). q < n) (λ (k : Packed). k.region) packed
    (subst (AllByRecursion (λ (q : ℕ). q < n)) (sym is.by_next_fit)
    (next-fit-within c.geometry.words n (targets_of_packing d) 0 _ some (each-filter (λ (q : ℕ). q < n) _ (all_regions d.regions) (all-below n d.regions k.count))))

repacked-within : (n : ℕ) (packed : List Packed) → AllByRecursion (λ (k : Packed). k.region < n) packed → (p : Placed) → IsPlacedWithin n p → IsPlacedWithin n (placed_after_packing packed p)
repacked-within n [] at p h = h
repacked-within n (k ∷ ks) at p h = by (same_name k.name p.name) (repacked-within n ks at.1 p h)
  where
    by : (b : Bool) → IsPlacedWithin n (placed_after_packing ks p) → IsPlacedWithin n (cond b (record p { region = k.region }) (placed_after_packing ks p))
    by true rest = record { region = at.0; leaves = h.leaves }
    by false rest = rest

last-within : (n : ℕ) (packed : List Packed) → AllByRecursion (λ (k : Packed). k.region < n) packed → IfSome (last_packed packed) (λ (q : ℕ). q < n)
last-within n [] at = tt
last-within n (k ∷ []) at = at.0
last-within n (k ∷ l ∷ ks) at = last-within n (l ∷ ks) at.1

global-within : (n : ℕ) (c : Config) (b : Board) (dead : List Name) (packed : List Packed) → 0 < n → IsWithinRegions n b → IsGlobal c b dead packed → IsWithinRegions n (after_global c b dead packed)
global-within n c b dead packed some h is =
    let d = without_names c dead b in
    let k = without-within n c dead b h in
    let at = packed-within n c b dead packed some h is in
    record {
      count = count-changed (region_after_packing c d packed) d.regions ∙ k.count;
      current = last-within n packed at;
      placed = each-map (IsPlacedWithin n) (IsPlacedWithin n) (placed_after_packing packed) (repacked-within n packed at) d.present k.placed;
    }

note-within : (n : ℕ) (c : Config) (b : Board) (q card : ℕ) → IsWithinRegions n b → IsWithinRegions n (after_note c b q card)
note-within n c b q card h = record { count = length-set b.regions q _ ∙ h.count; current = h.current; placed = h.placed }

-- Each event that may come before a row's own one.
pub legal-within : (n : ℕ) (rule : Rule) (c : Config) (turn : Turn) (stage : Stage) (b : Board) (e : Entry) → 0 < n → IsWithinRegions n b → IsLegal rule c turn stage b e → IsWithinRegions n (after c b e)
legal-within n rule c turn (opened noted) b (note q card holder slot) some h le = note-within n c b q card h
legal-within n rule c turn (opened noted) b (partial chosen scans kept aborts) some h le = partial-within n c b chosen scans kept h le.1.partial
legal-within n rule c turn (opened noted) b (global dead packed) some h le = global-within n c b dead packed some h le.1
legal-within n rule c turn marking b begin some h le = graph-within n b (after_begin b) refl refl refl h
legal-within n rule c turn marking b (mark names) some h le = graph-within n b (after_mark b names) refl refl refl h
legal-within n rule c turn ending b (end dead) some h le = end-within n c b dead h
legal-within n rule c turn collected b (global dead packed) some h le = global-within n c b dead packed some h le.1
legal-within n rule c turn stage b e some h le = absurd le

-- The empty heap.
pub opening-within : (c : Config) → IsWithinRegions c.geometry.regions (opening c)
opening-within c = record { count = length-replicate {A = RegionState} c.geometry.regions free_region; current = tt; placed = tt }
