-- After a row's own event the present objects take what they asked for, and all leaves are theirs: a new object gets what the row
-- asks for, and no other changes its size.
use Rattle.std.proofs.Common.{◌≡◌, ◌<◌, ◌≤◌, ◌+◌, ◌-◌, ◌⊎◌, inl, inr, ℕ, Bool, true, false, cond, ◌&&◌, ◌||◌, IsTrue, List, [], ◌∷◌, Option, Some, None, length, set, take, drop, sym, subst, ◌∙◌, arith}
use Rattle.std.specs.List.{AllByRecursion}
use Rattle.std.specs.Prelude.{nat_eq, nat_le, slice_index_or, unwrap_or}
use Rattle.std.proofs.lemmas.Bool.{cases_Bool, eq-eqb, false≢true, leb-true, or_cases, or_left, or_right}
use Rattle.std.proofs.lemmas.List.{length-drop, length-take-le}
use Rattle.std.proofs.lemmas.List.Folds.{list_any-append}
use Rattle.bal_layout.specs.Names.{is_before}
use Rattle.bal_layout.specs.Regions.{free_regions, is_free, is_in, is_leaf, region_at, region_with_object}
use Rattle.bal_layout.specs.Shape.{Shape, largest_of}
use Rattle.bal_layout.specs.declared.geometry.Want.{Want}
use Rattle.bal_layout.specs.declared.name.Name.{Name}
use Rattle.bal_layout.specs.declared.region_state.RegionState.{RegionState}
use Rattle.bal_layout.specs.declared.region_state.Role.TheVariants as roles
use Rattle.bal_model.proofs.Lemmas.{graph_after-step}
use Rattle.bal_model.specs.Entries.{Entry, Spot}
use Rattle.bal_model.specs.Plain.{State, graph_after, made_by, next_name, step}
use Rattle.bal_model.specs.Spelling.{IsOp}
use Rattle.bal_model.specs.declared.config.Config.{Config}
use Rattle.bal_model.specs.declared.row.Op.{Op}
use Rattle.bal_model.specs.declared.row.Reply.{Reply}
use Rattle.bal_model.specs.declared.row.Reply.TheVariants as reply
use Rattle.bal_rules.specs.After.{after}
use Rattle.bal_rules.specs.Board.{Board, Placed, leaves_of, names_placed, with_placed, words_of_object}
use Rattle.bal_rules.specs.Interim.{Rule}
use Rattle.bal_rules.specs.Occupied.{leaves_of_object}
use Rattle.bal_rules.specs.Path.{Turn, Stage, own_at}
use Rattle.bal_rules.specs.Room.{fits_current, has_hard_room, spot_for}
use Rattle.bal_rules.specs.RowEvents.{after_row, board_after_reply, board_with_object, want_of, with_leaves}
use Rattle.bal_rules.specs.Sound.{IsSound}
use Rattle.bal_rules.proofs.BoardsInRange.{each-placed}
use Rattle.bal_rules.proofs.BoardsOccupied.{IsAsAsked, IsTaken, set-leaf}
use Rattle.bal_rules.proofs.Each.{each-both, each-from_map, each-goes}
use Rattle.bal_rules.proofs.ListFacts.{each-from_among}
use Rattle.bal_rules.proofs.ObjectSizes.{leaves-measure, made-as-asked, measure-step, words-measure}
use Rattle.bal_rules.proofs.PathFacts.{own-event_in_room}

-- Leaves of placed objects.

in-here : (p : Placed) (ps : List Placed) (q : ℕ) → IsTrue (is_in q p.leaves) → IsTrue (is_in q (leaves_of (p ∷ ps)))
in-here p ps q h = list_any-append (λ (m : ℕ). nat_eq m q) p.leaves (leaves_of ps) ∙ or_left (is_in q p.leaves) (is_in q (leaves_of ps)) h

in-there : (p : Placed) (ps : List Placed) (q : ℕ) → IsTrue (is_in q (leaves_of ps)) → IsTrue (is_in q (leaves_of (p ∷ ps)))
in-there p ps q h = list_any-append (λ (m : ℕ). nat_eq m q) p.leaves (leaves_of ps) ∙ or_right (is_in q p.leaves) (is_in q (leaves_of ps)) h

in-cases : (p : Placed) (ps : List Placed) (q : ℕ) → IsTrue (is_in q (leaves_of (p ∷ ps))) → IsTrue (is_in q p.leaves) ⊎ IsTrue (is_in q (leaves_of ps))
in-cases p ps q h = or_cases (is_in q p.leaves) (is_in q (leaves_of ps)) (sym (list_any-append (λ (m : ℕ). nat_eq m q) p.leaves (leaves_of ps)) ∙ h)

-- with one object more there are its leaves and the others
leaf-placed : (p : Placed) (ps : List Placed) (q : ℕ) → IsTrue (is_in q p.leaves) ⊎ IsTrue (is_in q (leaves_of ps)) → IsTrue (is_in q (leaves_of (with_placed p ps)))
leaf-placed p [] q (inl own) = in-here p [] q own
leaf-placed p [] q (inr other) = absurd (false≢true other)
leaf-placed p (r ∷ rs) q which = by (is_before p.name r.name) which (λ which. leaf-placed p rs q which)
  where
    by : (b : Bool) → IsTrue (is_in q p.leaves) ⊎ IsTrue (is_in q (leaves_of (r ∷ rs)))
        → (IsTrue (is_in q p.leaves) ⊎ IsTrue (is_in q (leaves_of rs)) → IsTrue (is_in q (leaves_of (with_placed p rs))))
        → IsTrue (is_in q (leaves_of (cond b (p ∷ r ∷ rs) (r ∷ with_placed p rs))))
    by true (inl own) rest = in-here p (r ∷ rs) q own
    by true (inr other) rest = in-there p (r ∷ rs) q other
    by false (inl own) rest = in-there r (with_placed p rs) q (rest (inl own))
    by false (inr other) rest = elim (in-cases r rs q other) [
      | inl here ↦ in-here r (with_placed p rs) q here
      | inr later ↦ in-there r (with_placed p rs) q (rest (inr later))
    ]

-- a leaf after some regions became leaves is one of these, or was one
leaf-cases : (qs : List ℕ) (regions : List RegionState) (q : ℕ) → IsTrue (is_leaf (region_at (with_leaves qs regions) q).role) → IsTrue (is_in q qs) ⊎ IsTrue (is_leaf (region_at regions q).role)
leaf-cases [] regions q h = inr h
leaf-cases (p ∷ qs) regions q h =
    let r : RegionState = record (region_at regions p) { role = roles.Leaf } in
    elim (leaf-cases qs (set regions p r) q h) [
      | inl later ↦ inl (or_right (nat_eq p q) (is_in q qs) later)
      | inr leaf ↦ (elim (cases_Bool (nat_eq p q)) [
        | inl here ↦ inl (or_left (nat_eq p q) (is_in q qs) here)
        | inr other ↦ inr (set-leaf regions p q r (λ same is. absurd (false≢true (sym other ∙ eq-eqb p q same))) leaf)
      ])
    ]

-- a region that takes an object is a leaf only if it was one
object-leaf : (words : ℕ) (r : RegionState) → IsTrue (is_leaf (region_with_object words r).role) → IsTrue (is_leaf r.role)
object-leaf words r h = by (is_free r.role) h
  where
    by : (b : Bool) → IsTrue (is_leaf (cond b (roles.Object 0) r.role)) → IsTrue (is_leaf r.role)
    by true h = absurd (false≢true h)
    by false h = h

taken-object : (c : Config) (b : Board) (x : Name) (w : Want) (spot : Spot) → IsTaken c b → IsAsAsked c b.plain (record { name = x; region = spot.region; leaves = spot.leaves })
    → IsTaken c (board_with_object x w spot b)
taken-object c b x w spot h new =
    let p : Placed = record { name = x; region = spot.region; leaves = spot.leaves } in
    let r = region_with_object w.words (region_at b.regions spot.region) in
    record {
      asked = each-placed (IsAsAsked c b.plain) p b.present new h.asked;
      each_leaf = λ q leaf. leaf-placed p b.present q (elim (leaf-cases spot.leaves (set b.regions spot.region r) q leaf) [
        | inl own ↦ inl own
        | inr old ↦ inr (h.each_leaf q (set-leaf b.regions spot.region q r
            (λ same is. subst (λ (n : ℕ). IsTrue (is_leaf (region_at b.regions n).role)) same (object-leaf w.words (region_at b.regions spot.region) is)) old))
      ]);
    }

-- where there is hard room, there are as many free regions as leaves are asked for
spot-leaves : (s : Shape) (regions : List RegionState) (current : Option ℕ) (w : Want) → has_hard_room s regions current w ≡ true → length (spot_for s regions current w).leaves ≡ w.leaves
spot-leaves s regions current w room = by (fits_current s regions current w.words) room
  where
    by : (f : Bool) → ((f && nat_le w.leaves (length (free_regions regions))) || nat_le (1 + w.leaves) (length (free_regions regions))) ≡ true
        → length (cond {A = Spot} f (record { region = unwrap_or current 0; leaves = take w.leaves (free_regions regions) })
        (record { region = slice_index_or (free_regions regions) 0 0; leaves = take w.leaves (drop 1 (free_regions regions)) })).leaves ≡ w.leaves
    by true h =
        let many : w.leaves ≤ length (free_regions regions) = elim (or_cases (nat_le w.leaves (length (free_regions regions))) (nat_le (1 + w.leaves) (length (free_regions regions))) h) [
          | inl few ↦ leb-true w.leaves (length (free_regions regions)) few
          | inr more ↦ (let m = leb-true (1 + w.leaves) (length (free_regions regions)) more in omega (arith, m))
        ] in
        length-take-le w.leaves (free_regions regions) many
    by false h =
        let m : 1 + w.leaves ≤ length (free_regions regions) = leb-true (1 + w.leaves) (length (free_regions regions)) h in
        let rest : length (drop 1 (free_regions regions)) ≡ length (free_regions regions) - 1 = length-drop 1 (free_regions regions) in
        length-take-le w.leaves (drop 1 (free_regions regions)) (omega (arith, m, rest))

-- Rows.

taken-step : (c : Config) (b : Board) (t : ℕ) (o : Op) → IsSound b → IsTaken c b → IsTaken c (record b { plain = (step b.plain t o).1 })
taken-step c b t o sound h =
    let s = b.plain in
    let was : Placed → Type 0 = λ p. p.name.ordinal ≤ made_by s p.name.thread in
    let made : AllByRecursion was b.present =
    each-from_map (λ (x : Name). x.ordinal ≤ made_by s x.thread) (λ (p : Placed). p.name) b.present
    (each-from_among (λ (x : Name). x.ordinal ≤ made_by s x.thread) (names_placed b.present) (λ x i. (sound.made x i).last)) in
    record {
      asked = each-goes (λ (p : Placed). IsAsAsked c s p × was p) (IsAsAsked c (step s t o).1)
          (λ p is. record {
            words = subst (λ (n : ℕ). n ≤ largest_of c.geometry) (sym (measure-step (words_of_object c) s t o p.name (words-measure c) is.1)) is.0.words;
            leaves = is.0.leaves ∙ sym (measure-step (leaves_of_object c) s t o p.name (leaves-measure c) is.1);
          }) b.present (each-both (IsAsAsked c s) was b.present h.asked made);
      each_leaf = h.each_leaf;
    }

taken-unplaced : (c : Config) (b : Board) (t : ℕ) (o : Op) (r : Reply) → IsTaken c (record b { plain = graph_after b.plain t o r }) → IsTaken c (after_row c b t o r None)
taken-unplaced c b t o r h = by (want_of c.geometry o)
  where
    by : (want : Option Want) → IsTaken c (board_after_reply want None r (record b { plain = graph_after b.plain t o r }))
    by None = h
    by (Some w) = h

taken-placed : (c : Config) (b : Board) (t : ℕ) (o : Op) (w : Want) → IsSound b → t < length b.plain.mutators → IsOp c.geometry o → IsTaken c b → want_of c.geometry o ≡ Some w
    → has_hard_room c.geometry b.regions b.current w ≡ true → IsTaken c (after_row c b t o (step b.plain t o).0 (Some (spot_for c.geometry b.regions b.current w)))
taken-placed c b t o w sound within is h asks room =
    let s = (step b.plain t o).1 in
    let x = next_name b.plain t in
    let spot = spot_for c.geometry b.regions b.current w in
    let new = made-as-asked c b.plain t o w is within asks in
    let later : IsTaken c (board_with_object x w spot (record b { plain = s })) =
    taken-object c (record b { plain = s }) x w spot (taken-step c b t o sound h) (record {
      words = subst (λ (n : ℕ). n ≤ largest_of c.geometry) (sym new.words) new.small;
      leaves = spot-leaves c.geometry b.regions b.current w room ∙ sym new.leaves;
    }) in
    subst (λ (want : Option Want). IsTaken c (board_after_reply want (Some spot) (step b.plain t o).0 (record b { plain = graph_after b.plain t o (step b.plain t o).0 }))) (sym asks)
    (subst (λ (g : State). IsTaken c (board_after_reply (Some w) (Some spot) (step b.plain t o).0 (record b { plain = g }))) (sym (graph_after-step b.plain t o))
    (subst (λ (r : Reply). IsTaken c (board_after_reply (Some w) (Some spot) r (record b { plain = s }))) (sym new.name) later))

pub own-taken : (rule : Rule) (c : Config) (turn : Turn) (stage : Stage) (b : Board) (e : Entry) → IsSound b → turn.row.thread < length b.plain.mutators → IsOp c.geometry turn.row.op → IsTaken c b
    → own_at rule c turn stage b ≡ Some e → IsTaken c (after c b e)
own-taken rule c turn stage b e sound within is h own =
    let t = turn.row.thread in
    let o = turn.row.op in
    let r = (step b.plain t o).0 in
    own-event_in_room (λ (e : Entry). IsTaken c (after c b e)) rule c turn stage b e
    (λ none. taken-unplaced c b t o r (subst (λ (g : State). IsTaken c (record b { plain = g })) (sym (graph_after-step b.plain t o)) (taken-step c b t o sound h)))
    (λ w asks room. taken-placed c b t o w sound within is h asks room)
    (λ w asks full. taken-unplaced c b t o reply.Full (record { asked = h.asked; each_leaf = h.each_leaf }))
    own
