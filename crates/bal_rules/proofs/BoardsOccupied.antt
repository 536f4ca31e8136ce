-- After each event that may come before a row's own one the present objects take what they asked for, and all leaves are theirs.
use Rattle.std.proofs.Common.{◌≡◌, ◌≤◌, ℕ, zero, suc, Bool, true, false, not, cond, IsTrue, List, [], ◌∷◌, ◌++◌, length, filter, map, set, refl, ap, ap₂, sym, subst, ◌∙◌}
use Rattle.std.specs.List.{AllByRecursion}
use Rattle.std.specs.Prelude.{nat_eq}
use Rattle.std.proofs.lemmas.Bool.{false≢true, or_parts}
use Rattle.std.proofs.lemmas.List.Folds.{list_any-append}
use Rattle.bal_layout.specs.Names.{is_among}
use Rattle.bal_layout.specs.Regions.{all_regions, free_region, is_eden, is_in, is_leaf, region_at}
use Rattle.bal_layout.specs.Shape.{largest_of}
use Rattle.bal_layout.specs.declared.name.Name.{Name}
use Rattle.bal_layout.specs.declared.region_state.RegionState.{RegionState}
use Rattle.bal_model.specs.Entries.{Entry, note, partial, begin, mark, end, global}
use Rattle.bal_model.specs.Plain.{State, object}
use Rattle.bal_model.specs.declared.config.Config.{Config}
use Rattle.bal_model.specs.declared.event.Kept.{Kept}
use Rattle.bal_model.specs.declared.event.Packed.{Packed}
use Rattle.bal_rules.specs.After.{after}
use Rattle.bal_rules.specs.Board.{Board, Placed, is_empty, leaves_of, placed_among, placed_except, without_names, words_of_object}
use Rattle.bal_rules.specs.GlobalEvents.{after_global, names_packed_into, placed_after_packing, region_after_packing}
use Rattle.bal_rules.specs.Interim.{Rule}
use Rattle.bal_rules.specs.MarkEvents.{after_end, deserted_regions, region_after_sweep}
use Rattle.bal_rules.specs.NoteEvents.{after_note}
use Rattle.bal_rules.specs.Occupied.{leaves_of_object}
use Rattle.bal_rules.specs.PartialEvents.{after_partial, names_copied_into, names_lost, names_marked_in, placed_after_partial, region_after_partial, regions_emptied}
use Rattle.bal_rules.specs.Path.{Turn, Stage, opened, marking, ending, collected, IsLegal}
use Rattle.bal_rules.proofs.Collections.{moved-keeps, moved-name, repacked-keeps, repacked-name}
use Rattle.bal_rules.proofs.Each.{each-filter, each-map}
use Rattle.bal_rules.proofs.LeafCounts.{leaf-freed, leaf-mapped, leaf-stays}

-- What a board keeps.

pub record IsAsAsked (c : Config) (s : State) (p : Placed) : Type 0 where
  pub words : words_of_object c (object s p.name) ≤ largest_of c.geometry
  pub leaves : length p.leaves ≡ leaves_of_object c (object s p.name)

abbrev pub AreLeavesOf : List RegionState → List Placed → Type 0
AreLeavesOf regions present = (q : ℕ) → IsTrue (is_leaf (region_at regions q).role) → IsTrue (is_in q (leaves_of present))

pub record IsTaken (c : Config) (b : Board) : Type 0 where
  pub asked : AllByRecursion (IsAsAsked c b.plain) b.present
  pub each_leaf : AreLeavesOf b.regions b.present

-- Objects that move keep their leaves.

pub asked-moved : (c : Config) (s : State) (f : Placed → Placed) → ((p : Placed) → (f p).name ≡ p.name) → ((p : Placed) → (f p).leaves ≡ p.leaves) → (ps : List Placed)
    → AllByRecursion (IsAsAsked c s) ps → AllByRecursion (IsAsAsked c s) (map f ps)
asked-moved c s f names leaves ps h =
    each-map (IsAsAsked c s) (IsAsAsked c s) f
    (λ p is. record {
      words = subst (λ (x : Name). words_of_object c (object s x) ≤ largest_of c.geometry) (sym (names p)) is.words;
      leaves = ap length (leaves p) ∙ (is.leaves ∙ ap (λ (x : Name). leaves_of_object c (object s x)) (sym (names p)));
    }) ps h

leaves-moved : (f : Placed → Placed) → ((p : Placed) → (f p).leaves ≡ p.leaves) → (ps : List Placed) → leaves_of (map f ps) ≡ leaves_of ps
leaves-moved f same [] = refl
leaves-moved f same (p ∷ ps) = ap₂ (λ (xs ys : List ℕ). xs ++ ys) (same p) (leaves-moved f same ps)

repacked-leaves : (packed : List Packed) (p : Placed) → (placed_after_packing packed p).leaves ≡ p.leaves
repacked-leaves = repacked-keeps (λ (p : Placed). p.leaves) (λ p q. refl)

moved-leaves : (kept : List Kept) (p : Placed) → (placed_after_partial kept p).leaves ≡ p.leaves
moved-leaves = moved-keeps (λ (p : Placed). p.leaves) (λ p q. refl)

-- Collections.

-- where the leaves of what is gone are freed, the others are leaves of what stays
taken-without : (c : Config) (gone : List Name) (b : Board) → IsTaken c b → IsTaken c (without_names c gone b)
taken-without c gone b h = record {
  asked = each-filter (IsAsAsked c b.plain) (λ p. not (is_among p.name gone)) b.present h.asked;
  each_leaf = λ q leaf.
      let was = leaf-freed c.geometry (leaves_of (placed_among gone b.present)) b.regions q leaf in
      leaf-stays gone b.present q (h.each_leaf q was.1) was.0;
}

pub set-leaf : (regions : List RegionState) (i q : ℕ) (r : RegionState) → (i ≡ q → IsTrue (is_leaf r.role) → IsTrue (is_leaf (region_at regions q).role)) → IsTrue (is_leaf (region_at (set regions i r) q).role)
    → IsTrue (is_leaf (region_at regions q).role)
set-leaf [] i q r here h = h
set-leaf (x ∷ regions) zero zero r here h = here refl h
set-leaf (x ∷ regions) zero (suc q) r here h = h
set-leaf (x ∷ regions) (suc i) zero r here h = h
set-leaf (x ∷ regions) (suc i) (suc q) r here h = set-leaf regions i q r (λ same. here (ap suc same)) h

taken-note : (c : Config) (b : Board) (q card : ℕ) → IsTaken c b → IsTaken c (after_note c b q card)
taken-note c b q card h = record {
  asked = h.asked;
  each_leaf = λ p leaf. h.each_leaf p (set-leaf b.regions q p _ (λ same is. subst (λ (n : ℕ). IsTrue (is_leaf (region_at b.regions n).role)) same is) leaf);
}

-- the last of four regions, where none of the others is a leaf
last-leaf : (x y z : Bool) (one two three r : RegionState) → IsTrue (is_leaf (cond x one (cond y two (cond z three r))).role)
    → is_leaf one.role ≡ false → is_leaf two.role ≡ false → is_leaf three.role ≡ false → IsTrue (is_leaf r.role)
last-leaf true y z one two three r h a b d = absurd (false≢true (sym a ∙ h))
last-leaf false true z one two three r h a b d = absurd (false≢true (sym b ∙ h))
last-leaf false false true one two three r h a b d = absurd (false≢true (sym d ∙ h))
last-leaf false false false one two three r h a b d = h

partial-leaf : (c : Config) (b : Board) (chosen : List ℕ) (kept : List Kept) (q : ℕ) → IsTrue (is_leaf (region_after_partial c b chosen kept q).role) → IsTrue (is_leaf (region_at b.regions q).role)
partial-leaf c b chosen kept q h =
    last-leaf (is_in q chosen) (not (is_empty (names_copied_into kept q))) (is_eden (region_at b.regions q).role) _ _ _ (region_at b.regions q) h refl refl refl

taken-partial : (c : Config) (b : Board) (chosen : List ℕ) (kept : List Kept) → IsTaken c b → IsTaken c (after_partial c b chosen kept)
taken-partial c b chosen kept h =
    let lost = names_lost b chosen kept in
    let stay = placed_except lost b.present in
    let emptied = filter (λ q. is_empty (names_marked_in b kept q)) chosen in
    let gone = leaves_of (placed_among lost b.present) in
    record {
      asked = asked-moved c b.plain (placed_after_partial kept) (moved-name kept) (moved-leaves kept) stay (each-filter (IsAsAsked c b.plain) (λ p. not (is_among p.name lost)) b.present h.asked);
      each_leaf = λ q leaf.
          let was = leaf-freed c.geometry (regions_emptied b chosen kept) (map (region_after_partial c b chosen kept) (all_regions b.regions)) q leaf in
          let before = partial-leaf c b chosen kept q (leaf-mapped (region_after_partial c b chosen kept) (length b.regions) q was.1) in
          let other = or_parts (is_in q emptied) (is_in q gone) (sym (list_any-append (λ (m : ℕ). nat_eq m q) emptied gone) ∙ was.0) in
          ap (is_in q) (leaves-moved (placed_after_partial kept) (moved-leaves kept) stay) ∙ leaf-stays lost b.present q (h.each_leaf q before) other.1;
    }

taken-end : (c : Config) (b : Board) (dead : List Name) → IsTaken c b → IsTaken c (after_end c b dead)
taken-end c b dead h =
    let d = without_names c dead b in
    let k = taken-without c dead b h in
    record {
      asked = k.asked;
      each_leaf = λ q leaf. k.each_leaf q (leaf-mapped (region_after_sweep c d) (length d.regions) q (leaf-freed c.geometry (deserted_regions d) (map (region_after_sweep c d) (all_regions d.regions)) q leaf).1);
    }

packed-leaf : (x y : Bool) (leaf object : RegionState) → IsTrue (is_leaf (cond x leaf (cond y free_region object)).role) → is_leaf object.role ≡ false → IsTrue x
packed-leaf true y leaf object h a = refl
packed-leaf false true leaf object h a = h
packed-leaf false false leaf object h a = absurd (false≢true (sym a ∙ h))

taken-global : (c : Config) (b : Board) (dead : List Name) (packed : List Packed) → IsTaken c b → IsTaken c (after_global c b dead packed)
taken-global c b dead packed h =
    let d = without_names c dead b in
    let k = taken-without c dead b h in
    record {
      asked = asked-moved c b.plain (placed_after_packing packed) (repacked-name packed) (repacked-leaves packed) d.present k.asked;
      each_leaf = λ q leaf.
          let here = leaf-mapped (region_after_packing c d packed) (length d.regions) q leaf in
          ap (is_in q) (leaves-moved (placed_after_packing packed) (repacked-leaves packed) d.present)
          ∙ k.each_leaf q (packed-leaf (is_leaf (region_at d.regions q).role) (is_empty (names_packed_into packed q)) _ _ here refl);
    }

-- each event that may come before a row's own one
pub legal-taken : (rule : Rule) (c : Config) (turn : Turn) (stage : Stage) (b : Board) (e : Entry) → IsTaken c b → IsLegal rule c turn stage b e → IsTaken c (after c b e)
legal-taken rule c turn (opened noted) b (note q card holder slot) h le = taken-note c b q card h
legal-taken rule c turn (opened noted) b (partial chosen scans kept aborts) h le = taken-partial c b chosen kept h
legal-taken rule c turn (opened noted) b (global dead packed) h le = taken-global c b dead packed h
legal-taken rule c turn marking b begin h le = record { asked = h.asked; each_leaf = h.each_leaf }
legal-taken rule c turn marking b (mark names) h le = record { asked = h.asked; each_leaf = h.each_leaf }
legal-taken rule c turn ending b (end dead) h le = taken-end c b dead h
legal-taken rule c turn collected b (global dead packed) h le = taken-global c b dead packed h
legal-taken rule c turn stage b e h le = absurd le
