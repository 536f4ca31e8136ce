-- Ages of regions, and the cards of those that were freed.
use Rattle.std.proofs.Common.{◌≡◌, ◌≤◌, ◌<◌, ◌==◌, not, ℕ, zero, suc, Bool, true, false, cond, List, [], ◌∷◌, Option, Some, None, filter, map, set, length, refl, ap, sym, subst, ◌∙◌, arith, inl, inr, eqb-true}
use Rattle.std.specs.Prelude.{IsTrue}
use Rattle.std.specs.List.{AllByRecursion}
use Rattle.std.proofs.lemmas.Bool.{cases_Bool, cases_lt, false≢true, true≢false}
use Rattle.std.proofs.lemmas.List.{get_or_past}
use Rattle.std.proofs.lemmas.List.FromFn.{get_or-map-range_with_len}
use Rattle.bal_layout.specs.Regions.{age_of, all_regions, free_region, freed, is_eden, is_free, is_in, is_leaf, region_at, region_of_card, region_with_object, without_cards_of}
use Rattle.bal_remember.specs.Remembered.{Remembered, cards, overflowed, with_card}
use Rattle.bal_layout.specs.Shape.{Shape}
use Rattle.bal_layout.specs.declared.geometry.Want.{Want}
use Rattle.bal_layout.specs.declared.name.Name.{Name}
use Rattle.bal_layout.specs.declared.region_state.RegionState.{RegionState}
use Rattle.bal_layout.specs.declared.region_state.Role.TheVariants as roles
use Rattle.bal_model.specs.declared.config.Config.{Config}
use Rattle.bal_model.specs.declared.event.Kept.{Kept}
use Rattle.bal_model.specs.declared.event.Packed.{Packed}
use Rattle.bal_model.specs.declared.row.Reply.{Reply}
use Rattle.bal_model.specs.declared.row.Reply.TheVariants as reply
use Rattle.bal_model.specs.declared.row.Row.{Row}
use Rattle.bal_model.specs.Entries.{Entry, Spot, row, note, partial, begin, mark, end, global}
use Rattle.bal_model.specs.Plain.{graph_after, step}
use Rattle.bal_rules.specs.After.{after}
use Rattle.bal_rules.specs.Board.{Board, Placed, leaves_of, is_empty, placed_among, without_names, words_of_all}
use Rattle.bal_rules.specs.GlobalEvents.{after_global, greatest_age, last_packed, names_packed_into, region_after_packing}
use Rattle.bal_rules.specs.Interim.{Rule}
use Rattle.bal_rules.specs.MarkEvents.{after_end, deserted_regions, is_current, region_after_sweep, without_overflow}
use Rattle.bal_rules.specs.NoteEvents.{after_note}
use Rattle.bal_rules.specs.PartialEvents.{after_partial, destination_age, names_copied_into, names_marked_in, next_age, region_after_partial, regions_emptied}
use Rattle.bal_rules.specs.Path.{Turn, Stage, opened, marking, ending, collected, own_at, IsLegal}
use Rattle.bal_rules.specs.Room.{spot_for}
use Rattle.bal_rules.specs.RowEvents.{want_of, with_leaves, board_after_reply, board_with_object}
use Rattle.bal_rules.specs.Run.{IsRun, board_of}
use Rattle.bal_laws.specs.Regions.{HasNoCardOf, HaveNoCardOf}
use Rattle.bal_rules.proofs.Lemmas.{board_of-more, each-at, each-filter, each-replicate, each-set, journal-keeps, own-event}

-- Changes of regions.

-- what holds of each region that a list is made of
each-made : (P : RegionState → Type 0) (f : ℕ → RegionState) → ((q : ℕ) → P (f q)) → (qs : List ℕ) → AllByRecursion P (map f qs)
each-made P f h [] = tt
each-made P f h (q ∷ qs) = (h q, each-made P f h qs)

-- what holds of a free region, and doesn't speak of cards
module _ (P : RegionState → Type 0) (free : P free_region) (lists : (r : RegionState) (cs : Remembered) → P r → P (record r { remembered = cs })) where
  at-has : (regions : List RegionState) (q : ℕ) → AllByRecursion P regions → P (region_at regions q)
  at-has regions q h = each-at P regions q free_region h free

  freed-has : (s : Shape) (qs : List ℕ) (regions : List RegionState) → AllByRecursion P regions → AllByRecursion P (freed s qs regions)
  freed-has s qs regions h = each-made P _ (λ q. by q (is_in q qs)) (all_regions regions)
    where
      by : (q : ℕ) (b : Bool) → P (cond b free_region (record (region_at regions q) { remembered = without_cards_of s qs (region_at regions q).remembered }))
      by q true = free
      by q false = lists (region_at regions q) (without_cards_of s qs (region_at regions q).remembered) (at-has regions q h)

-- Ages.

abbrev pub IsYoungEnough : RegionState → Type 0
IsYoungEnough r = age_of r.role ≤ 24

abbrev AreYoungEnough : List RegionState → Type 0
AreYoungEnough regions = AllByRecursion IsYoungEnough regions

young-at : (regions : List RegionState) (q : ℕ) → AreYoungEnough regions → IsYoungEnough (region_at regions q)
young-at regions q h = at-has IsYoungEnough (omega arith) (λ r cs k. k) regions q h

young-freed : (s : Shape) (qs : List ℕ) (regions : List RegionState) → AreYoungEnough regions → AreYoungEnough (freed s qs regions)
young-freed s qs regions h = freed-has IsYoungEnough (omega arith) (λ r cs k. k) s qs regions h

young-leaves : (qs : List ℕ) (regions : List RegionState) → AreYoungEnough regions → AreYoungEnough (with_leaves qs regions)
young-leaves [] regions h = h
young-leaves (q ∷ qs) regions h =
    young-leaves qs (set regions q (record (region_at regions q) { role = roles.Leaf })) (each-set IsYoungEnough regions q (record (region_at regions q) { role = roles.Leaf }) h (omega arith))

young-with-object : (x : Name) (w : Want) (spot : Spot) (b : Board) → AreYoungEnough b.regions → AreYoungEnough (board_with_object x w spot b).regions
young-with-object x w spot b h =
    young-leaves spot.leaves (set b.regions spot.region (region_with_object w.words (region_at b.regions spot.region)))
    (each-set IsYoungEnough b.regions spot.region (region_with_object w.words (region_at b.regions spot.region)) h (by (is_free (region_at b.regions spot.region).role)))
  where
    by : (f : Bool) → age_of (cond f (roles.Object 0) (region_at b.regions spot.region).role) ≤ 24
    by true = omega arith
    by false = young-at b.regions spot.region h

young-reply : (want : Option Want) (place : Option Spot) (r : Reply) (b : Board) → AreYoungEnough b.regions → AreYoungEnough (board_after_reply want place r b).regions
young-reply (Some w) (Some spot) (reply.Name x) b h = young-with-object x w spot b h
young-reply want place r b h = h

young-own : (rule : Rule) (c : Config) (turn : Turn) (stage : Stage) (b : Board) (e : Entry) → AreYoungEnough b.regions → own_at rule c turn stage b ≡ Some e → AreYoungEnough (after c b e).regions
young-own rule c turn stage b e h own =
    let t = turn.row.thread in
    let o = turn.row.op in
    let r = (step b.plain t o).0 in
    let next : (q : Reply) (p : Option Spot) → AreYoungEnough (after c b (row t turn.number o q p)).regions =
    λ q p. young-reply (want_of c.geometry o) p q (record b { plain = graph_after b.plain t o q }) h in
    own-event (λ (e : Entry). AreYoungEnough (after c b e).regions) rule c turn stage b e (λ none. next r None) (λ w asks. next r (Some (spot_for c.geometry b.regions b.current w))) (λ w asks full. next reply.Full None) own

young-partial : (c : Config) (b : Board) (chosen : List ℕ) (kept : List Kept) → AreYoungEnough b.regions → AreYoungEnough (after_partial c b chosen kept).regions
young-partial c b chosen kept h =
    young-freed c.geometry (regions_emptied b chosen kept) (map (region_after_partial c b chosen kept) (all_regions b.regions))
    (each-made IsYoungEnough (region_after_partial c b chosen kept) (λ q. by q (is_in q chosen) (not (is_empty (names_copied_into kept q))) (is_eden (region_at b.regions q).role)) (all_regions b.regions))
  where
    older : (n : ℕ) → next_age n ≤ 24
    older n = omega arith

    by : (q : ℕ) (one two three : Bool) → IsYoungEnough (cond one
        (record (region_at b.regions q) { role = roles.Object (next_age (age_of (region_at b.regions q).role)); estimate = words_of_all c b (names_marked_in b kept q) })
        (cond two
        (record { role = roles.Object (destination_age b kept q); used = words_of_all c b (names_copied_into kept q); estimate = words_of_all c b (names_copied_into kept q); remembered = (region_at b.regions q).remembered })
        (cond three (record (region_at b.regions q) { role = roles.Object 1 }) (region_at b.regions q))))
    by q true two three = older (age_of (region_at b.regions q).role)
    by q false true three = older _
    by q false false true = omega arith
    by q false false false = young-at b.regions q h

young-without : (c : Config) (names : List Name) (b : Board) → AreYoungEnough b.regions → AreYoungEnough (without_names c names b).regions
young-without c names b h = young-freed c.geometry (leaves_of (placed_among names b.present)) b.regions h

young-end : (c : Config) (b : Board) (dead : List Name) → AreYoungEnough b.regions → AreYoungEnough (after_end c b dead).regions
young-end c b dead h =
    let d = without_names c dead b in
    young-freed c.geometry (deserted_regions d) (map (region_after_sweep c d) (all_regions d.regions))
    (each-made IsYoungEnough (region_after_sweep c d) (λ q. young-at d.regions q (young-without c dead b h)) (all_regions d.regions))

greatest-young : (b : Board) (ps : List Placed) → AreYoungEnough b.regions → greatest_age b ps ≤ 24
greatest-young b [] h = omega arith
greatest-young b (p ∷ ps) h = let here = young-at b.regions p.region h in let rest = greatest-young b ps h in omega (arith, here, rest)

young-global : (c : Config) (b : Board) (dead : List Name) (packed : List Packed) → AreYoungEnough b.regions → AreYoungEnough (after_global c b dead packed).regions
young-global c b dead packed h = each-made IsYoungEnough (region_after_packing c (without_names c dead b) packed)
    (λ q. by q (is_leaf (region_at (without_names c dead b).regions q).role) (is_empty (names_packed_into packed q)) (is_current (last_packed packed) q)) (all_regions (without_names c dead b).regions)
  where
    k : AreYoungEnough (without_names c dead b).regions
    k = young-without c dead b h

    by : (q : ℕ) (leaf none last : Bool) → IsYoungEnough (cond leaf (record (region_at (without_names c dead b).regions q) { remembered = cards [] })
        (cond none free_region (record {
          role = roles.Object (cond last 0 (greatest_age (without_names c dead b) (placed_among (names_packed_into packed q) (without_names c dead b).present)));
          used = words_of_all c (without_names c dead b) (names_packed_into packed q);
          estimate = words_of_all c (without_names c dead b) (names_packed_into packed q);
          remembered = cards [];
        })))
    by q true none last = young-at (without_names c dead b).regions q k
    by q false true last = omega arith
    by q false false true = omega arith
    by q false false false = greatest-young (without_names c dead b) (placed_among (names_packed_into packed q) (without_names c dead b).present) k

young-legal : (rule : Rule) (c : Config) (turn : Turn) (stage : Stage) (b : Board) (e : Entry) → AreYoungEnough b.regions → IsLegal rule c turn stage b e → AreYoungEnough (after c b e).regions
young-legal rule c turn (opened noted) b (note q card holder slot) h le = each-set IsYoungEnough b.regions q _ h (young-at b.regions q h)
young-legal rule c turn (opened noted) b (partial chosen scans kept aborts) h le = young-partial c b chosen kept h
young-legal rule c turn (opened noted) b (global dead packed) h le = young-global c b dead packed h
young-legal rule c turn marking b begin h le = h
young-legal rule c turn marking b (mark names) h le = h
young-legal rule c turn ending b (end dead) h le = young-end c b dead h
young-legal rule c turn collected b (global dead packed) h le = young-global c b dead packed h
young-legal rule c turn stage b e h le = absurd le

pub run-young : (rule : Rule) (c : Config) (rows : List Row) (entries : List Entry) → IsRun rule c rows entries → AreYoungEnough (board_of c entries).regions
run-young rule c rows entries run =
    journal-keeps rule c rows (λ (es : List Entry). AreYoungEnough (board_of c es).regions)
    (λ turn stage before e h next le. subst (λ (b : Board). AreYoungEnough b.regions) (sym (board_of-more c before e)) (young-legal rule c turn stage (board_of c before) e h le))
    (λ turn stage before e h next own. subst (λ (b : Board). AreYoungEnough b.regions) (sym (board_of-more c before e)) (young-own rule c turn stage (board_of c before) e h own))
    entries (each-replicate IsYoungEnough c.geometry.regions free_region (omega arith)) run

-- Cards.

abbrev HasNoCard : Shape → ℕ → RegionState → Type 0
HasNoCard s q r = HasNoCardOf s q r.remembered

-- fewer cards are still none of the region's
still-clear : (s : Shape) (q : ℕ) (qs : List ℕ) (r : Remembered) → HasNoCardOf s q r → HasNoCardOf s q (without_cards_of s qs r)
still-clear s q qs (cards cs) h = each-filter (λ (card : ℕ). IsTrue (not (region_of_card s card == q))) _ cs h
still-clear s q qs overflowed h = tt

freed-still-clear : (s : Shape) (q : ℕ) (qs : List ℕ) (regions : List RegionState) → HaveNoCardOf s q regions → HaveNoCardOf s q (freed s qs regions)
freed-still-clear s q qs regions h = each-made (HasNoCard s q) _ (λ p. by p (is_in p qs)) (all_regions regions)
  where
    by : (p : ℕ) (b : Bool) → HasNoCard s q (cond b free_region (record (region_at regions p) { remembered = without_cards_of s qs (region_at regions p).remembered }))
    by p true = tt
    by p false = still-clear s q qs (region_at regions p).remembered (each-at (HasNoCard s q) regions p free_region h tt)

-- a list without the cards of some regions has none of one of them
cleared : (s : Shape) (q : ℕ) (qs : List ℕ) (cs : List ℕ) → is_in q qs ≡ true → AllByRecursion (λ (card : ℕ). IsTrue (not (region_of_card s card == q))) (filter (λ card. not (is_in (region_of_card s card) qs)) cs)
cleared s q qs [] h = tt
cleared s q qs (card ∷ cs) h = by (is_in (region_of_card s card) qs) (region_of_card s card == q) refl refl (cleared s q qs cs h)
  where
    by : (a b : Bool) → is_in (region_of_card s card) qs ≡ a → (region_of_card s card == q) ≡ b
        → AllByRecursion (λ (card : ℕ). IsTrue (not (region_of_card s card == q))) (filter (λ card. not (is_in (region_of_card s card) qs)) cs)
        → AllByRecursion (λ (card : ℕ). IsTrue (not (region_of_card s card == q))) (cond (not a) (card ∷ filter (λ card. not (is_in (region_of_card s card) qs)) cs) (filter (λ card. not (is_in (region_of_card s card) qs)) cs))
    by true b e f rest = rest
    by false true e f rest = absurd (false≢true (sym e ∙ ap (λ (n : ℕ). is_in n qs) (eqb-true (region_of_card s card) q f) ∙ h))
    by false false e f rest = (ap not f, rest)

freed-clear : (s : Shape) (q : ℕ) (qs : List ℕ) (regions : List RegionState) → is_in q qs ≡ true → HaveNoCardOf s q (freed s qs regions)
freed-clear s q qs regions h = each-made (HasNoCard s q) _ (λ p. by p (is_in p qs)) (all_regions regions)
  where
    purged : (r : Remembered) → HasNoCardOf s q (without_cards_of s qs r)
    purged (cards cs) = cleared s q qs cs h
    purged overflowed = tt

    by : (p : ℕ) (b : Bool) → HasNoCard s q (cond b free_region (record (region_at regions p) { remembered = without_cards_of s qs (region_at regions p).remembered }))
    by p true = tt
    by p false = purged (region_at regions p).remembered

-- Which regions become free.

abbrev IsTaken : List RegionState → ℕ → Type 0
IsTaken regions q = is_free (region_at regions q).role ≡ false

taken-within : (regions : List RegionState) (q : ℕ) → IsTaken regions q → q < length regions
taken-within regions q h = elim (cases_lt q (length regions)) [
  | inl within ↦ within
  | inr past ↦ absurd (true≢false (sym (ap (λ (r : RegionState). is_free r.role) (get_or_past regions q free_region past)) ∙ h))
]

changed-at : (f : ℕ → RegionState) (regions : List RegionState) (q : ℕ) → q < length regions → region_at (map f (all_regions regions)) q ≡ f q
changed-at f regions q within = get_or-map-range_with_len f 0 (length regions) q q free_region within (omega arith)

-- a change of a list that is no such region's keeps it taken
taken-set : (regions : List RegionState) (i : ℕ) (r : RegionState) (q : ℕ) → IsTaken regions q → (i ≡ q → is_free r.role ≡ false) → IsTaken (set regions i r) q
taken-set [] i r q h new = h
taken-set (x ∷ xs) zero r zero h new = new refl
taken-set (x ∷ xs) zero r (suc q) h new = h
taken-set (x ∷ xs) (suc i) r zero h new = h
taken-set (x ∷ xs) (suc i) r (suc q) h new = taken-set xs i r q h (λ e. new (ap suc e))

taken-leaves : (qs : List ℕ) (regions : List RegionState) (q : ℕ) → IsTaken regions q → IsTaken (with_leaves qs regions) q
taken-leaves [] regions q h = h
taken-leaves (p ∷ qs) regions q h =
    taken-leaves qs (set regions p (record (region_at regions p) { role = roles.Leaf })) q (taken-set regions p (record (region_at regions p) { role = roles.Leaf }) q h (λ e. refl))

taken-with-object : (x : Name) (w : Want) (spot : Spot) (b : Board) (q : ℕ) → IsTaken b.regions q → IsTaken (board_with_object x w spot b).regions q
taken-with-object x w spot b q h =
    let r = region_at b.regions spot.region in
    taken-leaves spot.leaves (set b.regions spot.region (region_with_object w.words r)) q (taken-set b.regions spot.region (region_with_object w.words r) q h (λ e. by (is_free r.role) refl))
  where
    by : (f : Bool) → is_free (region_at b.regions spot.region).role ≡ f → is_free (cond f (roles.Object 0) (region_at b.regions spot.region).role) ≡ false
    by true e = refl
    by false e = e

taken-reply : (want : Option Want) (place : Option Spot) (r : Reply) (b : Board) (q : ℕ) → IsTaken b.regions q → IsTaken (board_after_reply want place r b).regions q
taken-reply (Some w) (Some spot) (reply.Name x) b q h = taken-with-object x w spot b q h
taken-reply want place r b q h = h

-- a taken region that isn't freed stays taken
taken-freed : (s : Shape) (qs : List ℕ) (regions : List RegionState) (q : ℕ) → is_in q qs ≡ false → IsTaken regions q → IsTaken (freed s qs regions) q
taken-freed s qs regions q other h =
    ap (λ (r : RegionState). is_free r.role) (changed-at _ regions q (taken-within regions q h))
    ∙ ap (λ (b : Bool). is_free (cond b free_region (record (region_at regions q) { remembered = without_cards_of s qs (region_at regions q).remembered })).role) other ∙ h

taken-changed : (f : ℕ → RegionState) (regions : List RegionState) (q : ℕ) → is_free (f q).role ≡ false → IsTaken regions q → IsTaken (map f (all_regions regions)) q
taken-changed f regions q keeps h = ap (λ (r : RegionState). is_free r.role) (changed-at f regions q (taken-within regions q h)) ∙ keeps

taken-partial : (c : Config) (b : Board) (chosen : List ℕ) (kept : List Kept) (q : ℕ) → IsTaken b.regions q → is_free (region_after_partial c b chosen kept q).role ≡ false
taken-partial c b chosen kept q h = by (is_in q chosen) (not (is_empty (names_copied_into kept q))) (is_eden (region_at b.regions q).role)
  where
    by : (one two three : Bool) → is_free (cond one
        (record (region_at b.regions q) { role = roles.Object (next_age (age_of (region_at b.regions q).role)); estimate = words_of_all c b (names_marked_in b kept q) })
        (cond two
        (record { role = roles.Object (destination_age b kept q); used = words_of_all c b (names_copied_into kept q); estimate = words_of_all c b (names_copied_into kept q); remembered = (region_at b.regions q).remembered })
        (cond three (record (region_at b.regions q) { role = roles.Object 1 }) (region_at b.regions q)))).role ≡ false
    by true two three = refl
    by false true three = refl
    by false false true = refl
    by false false false = h

-- Each kind of event.

-- a region that is taken and becomes free has no card on any list
abbrev FreesCleanly : Config → Board → Board → ℕ → Type 0
FreesCleanly c b d q = IsTaken b.regions q → is_free (region_at d.regions q).role ≡ true → HaveNoCardOf c.geometry q d.regions

clean-taken : (c : Config) (b d : Board) (q : ℕ) → (IsTaken b.regions q → IsTaken d.regions q) → FreesCleanly c b d q
clean-taken c b d q stays h free = absurd (false≢true (sym (stays h) ∙ free))

clean-partial : (c : Config) (b : Board) (chosen : List ℕ) (kept : List Kept) (q : ℕ) → FreesCleanly c b (after_partial c b chosen kept) q
clean-partial c b chosen kept q h free =
    let qs = regions_emptied b chosen kept in
    let rs = map (region_after_partial c b chosen kept) (all_regions b.regions) in
    elim (cases_Bool (is_in q qs)) [
      | inl freed_now ↦ freed-clear c.geometry q qs rs freed_now
      | inr other ↦ absurd (false≢true (sym (taken-freed c.geometry qs rs q other
          (taken-changed (region_after_partial c b chosen kept) b.regions q (taken-partial c b chosen kept q h) h)) ∙ free))
    ]

-- a sweep keeps lists clear
swept-clear : (c : Config) (d : Board) (q : ℕ) → HaveNoCardOf c.geometry q d.regions → HaveNoCardOf c.geometry q (map (region_after_sweep c d) (all_regions d.regions))
swept-clear c d q h = each-made (HasNoCard c.geometry q) (region_after_sweep c d) (λ p. by (region_at d.regions p).remembered (each-at (HasNoCard c.geometry q) d.regions p free_region h tt)) (all_regions d.regions)
  where
    by : (r : Remembered) → HasNoCardOf c.geometry q r → HasNoCardOf c.geometry q (without_overflow r)
    by (cards cs) k = k
    by overflowed k = tt

clean-end : (c : Config) (b : Board) (dead : List Name) (q : ℕ) → FreesCleanly c b (after_end c b dead) q
clean-end c b dead q h free =
    let leaves = leaves_of (placed_among dead b.present) in
    let d = without_names c dead b in
    let rs = map (region_after_sweep c d) (all_regions d.regions) in
    elim (cases_Bool (is_in q (deserted_regions d))) [
      | inl freed_now ↦ freed-clear c.geometry q (deserted_regions d) rs freed_now
      | inr other ↦ elim (cases_Bool (is_in q leaves)) [
        | inl freed_first ↦ freed-still-clear c.geometry q (deserted_regions d) rs (swept-clear c d q (freed-clear c.geometry q leaves b.regions freed_first))
        | inr neither ↦ (
            let stays : IsTaken d.regions q = taken-freed c.geometry leaves b.regions q neither h in
            absurd (false≢true (sym (taken-freed c.geometry (deserted_regions d) rs q other (taken-changed (region_after_sweep c d) d.regions q stays stays)) ∙ free))
            )
      ]
    ]

-- a global collection leaves no cards at all
clean-global : (c : Config) (b : Board) (dead : List Name) (packed : List Packed) (q : ℕ) → HaveNoCardOf c.geometry q (after_global c b dead packed).regions
clean-global c b dead packed q =
    each-made (HasNoCard c.geometry q) (region_after_packing c d packed) (λ p. by p (is_leaf (region_at d.regions p).role) (is_empty (names_packed_into packed p))) (all_regions d.regions)
  where
    d : Board
    d = without_names c dead b

    by : (p : ℕ) (leaf none : Bool) → HasNoCard c.geometry q (cond leaf (record (region_at (without_names c dead b).regions p) { remembered = cards [] })
        (cond none free_region (record {
          role = roles.Object (cond (is_current (last_packed packed) p) 0 (greatest_age (without_names c dead b) (placed_among (names_packed_into packed p) (without_names c dead b).present)));
          used = words_of_all c (without_names c dead b) (names_packed_into packed p);
          estimate = words_of_all c (without_names c dead b) (names_packed_into packed p);
          remembered = cards [];
        })))
    by p true none = tt
    by p false true = tt
    by p false false = tt

pub frees-cleanly : (c : Config) (b : Board) (e : Entry) (q : ℕ) → is_free (region_at b.regions q).role ≡ false → is_free (region_at (after c b e).regions q).role ≡ true → HaveNoCardOf c.geometry q (after c b e).regions
frees-cleanly c b (row t k o r p) q = clean-taken c b (after c b (row t k o r p)) q (taken-reply (want_of c.geometry o) p r (record b { plain = graph_after b.plain t o r }) q)
frees-cleanly c b (note i card holder slot) q =
    clean-taken c b (after_note c b i card) q (λ h. taken-set b.regions i (record (region_at b.regions i) { remembered = with_card c.cards card (region_at b.regions i).remembered }) q h
    (λ e. ap (λ (n : ℕ). is_free (region_at b.regions n).role) e ∙ h))
frees-cleanly c b (partial chosen scans kept aborts) q = clean-partial c b chosen kept q
frees-cleanly c b begin q = clean-taken c b (after c b begin) q (λ h. h)
frees-cleanly c b (mark names) q = clean-taken c b (after c b (mark names)) q (λ h. h)
frees-cleanly c b (end dead) q = clean-end c b dead q
frees-cleanly c b (global dead packed) q = λ h free. clean-global c b dead packed q
