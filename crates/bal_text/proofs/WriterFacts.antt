-- How the words of a line come apart into the pieces that are written one by one.
use Rattle.std.proofs.Common.{◌≡◌, ℕ, List, [], ◌∷◌, ◌++◌, Option, Some, None, false, true, length, subst, ap, ◌∙◌, sym, append_assoc, append-nil, codes, map, refl, rules}
use Rattle.std.specs.Prelude.{◌==◌, flat_map}
use Rattle.std.specs.Fmt.{decimal}
use Rattle.std.proofs.lemmas.Bool.{eqb-true}
use Rattle.std.proofs.lemmas.List.{nil_from_length}
use Rattle.std.proofs.lemmas.List.Concat.{flat_map_single}
use Rattle.bal_layout.specs.declared.name.Abort.{Abort}
use Rattle.bal_layout.specs.declared.name.Name.{Name}
use Rattle.bal_model.specs.declared.event.Kept.{Kept}
use Rattle.bal_model.specs.declared.event.Packed.{Packed}
use Rattle.bal_model.specs.declared.row.Op.{Op}
use Rattle.bal_model.specs.declared.row.Reply.{Reply}
use Rattle.bal_model.specs.Entries.{Spot, global, partial, row}
use Rattle.bal_model.specs.Text.{abort_words, kept_word, leaves_words, line, name_word, packed_word, place_words, spaced}
use Rattle.bal_text.specs.Writing.{placed_leaves, region_words, row_front}
use Rattle.bal_text.proofs.LineParts.{row_whole, spaced_two}

-- items that are a word each
spaced_each : {X : Type 0} (word : X → List ℕ) (xs : List X) → spaced (flat_map (λ x. word x ∷ []) xs) ≡ spaced (map word xs)
spaced_each word xs = ap spaced (flat_map_single word xs)

-- the pieces of a global collection's line
pub global_pieces : (dead : List Name) (packed : List Packed)
    → codes "global dead" ++ (spaced (flat_map (λ x. name_word x ∷ []) dead) ++ (codes " packed" ++ (spaced (flat_map (λ k. packed_word k ∷ []) packed) ++ codes "\n")))
    ≡ line (global dead packed)
unfolding line
global_pieces dead packed =
    rw (spaced_each name_word dead, spaced_each packed_word packed, spaced_two (map name_word dead) (codes "packed" ∷ map packed_word packed))
    (search (rules, append_assoc))

regrouped : (p a s n k b c e : List ℕ) → p ++ (a ++ ((s ++ (n ++ k)) ++ (b ++ (c ++ e)))) ≡ (p ++ ((a ++ (s ++ (n ++ (k ++ b)))) ++ c)) ++ e
regrouped p a s n k b c e = simp append_assoc

-- the pieces of a partial collection's line
pub partial_pieces : (chosen : List ℕ) (scans : ℕ) (kept : List Kept) (aborts : List Abort)
    → codes "partial chosen" ++ (spaced (flat_map (λ n. decimal n ∷ []) chosen) ++ ((codes " scans " ++ (decimal scans ++ codes " kept"))
    ++ (spaced (flat_map (λ k. kept_word k ∷ []) kept) ++ (spaced (abort_words aborts) ++ codes "\n"))))
    ≡ line (partial chosen scans kept aborts)
unfolding line
partial_pieces chosen scans kept aborts =
    let first = map decimal chosen in
    let second = codes "scans" ∷ decimal scans ∷ codes "kept" ∷ map kept_word kept in
    rw (spaced_each decimal chosen, spaced_each kept_word kept, spaced_two (first ++ second) (abort_words aborts), spaced_two first second)
    (regrouped (codes "partial chosen") (spaced first) (codes " scans ") (decimal scans) (codes " kept") (spaced (map kept_word kept)) (spaced (abort_words aborts)) (codes "\n"))

-- the words of a place that has no leaves, and of one that has some
place_alone : (p : Option Spot) → placed_leaves p ≡ [] → spaced (place_words p) ≡ spaced (region_words p)
place_alone None none = refl
place_alone (Some spot) none = ap (λ ls. spaced (place_words (Some (record { region = spot.region; leaves = ls })))) none

leaves_behind : (q : ℕ) (leaves : List ℕ) → false ≡ (length leaves == 0)
    → (codes " in " ++ (decimal q ++ [])) ++ (codes " leaves" ++ spaced (map decimal leaves)) ≡ codes " in " ++ (decimal q ++ spaced (leaves_words leaves))
leaves_behind q [] some = cc
leaves_behind q (l ∷ ls) some = rw (append-nil (decimal q)) refl

place_leaves : (p : Option Spot) → false ≡ (length (placed_leaves p) == 0)
    → spaced (region_words p) ++ (codes " leaves" ++ spaced (map decimal (placed_leaves p))) ≡ spaced (place_words p)
place_leaves None some = cc
place_leaves (Some spot) some = leaves_behind spot.region spot.leaves some

no_leaf : (leaves : List ℕ) → true ≡ (length leaves == 0) → leaves ≡ []
no_leaf leaves none = nil_from_length leaves (eqb-true (length leaves) 0 (sym none))

-- a row's line, whose place is one piece of it or more
row_line : (t k : ℕ) (o : Op) (r : Reply) (p : Option Spot) (place : List ℕ) → place ≡ spaced (place_words p)
    → row_front t k o r ++ (place ++ codes "\n") ≡ line (row t k o r p)
row_line t k o r p place is = row_whole t k o r p _ _ _ [] refl (ap (λ l. l ++ codes "\n") is) refl ∙ append-nil (line (row t k o r p))

-- the one piece of a row without leaves
pub row_piece : (t k : ℕ) (o : Op) (r : Reply) (p : Option Spot) (leaves : List ℕ) → leaves ≡ placed_leaves p → true ≡ (length leaves == 0)
    → row_front t k o r ++ spaced (region_words p) ++ codes "\n" ≡ line (row t k o r p)
row_piece t k o r p leaves are none =
    append_assoc (row_front t k o r) (spaced (region_words p)) (codes "\n") ∙ row_line t k o r p _ (sym (place_alone p (sym are ∙ no_leaf leaves none)))

-- the pieces of a row with leaves
pub row_pieces : (t k : ℕ) (o : Op) (r : Reply) (p : Option Spot) (leaves : List ℕ) → leaves ≡ placed_leaves p → false ≡ (length leaves == 0)
    → (row_front t k o r ++ spaced (region_words p) ++ codes " leaves") ++ (spaced (flat_map (λ n. decimal n ∷ []) leaves) ++ codes "\n")
    ≡ line (row t k o r p)
row_pieces t k o r p leaves are some =
    let all = place_leaves p (subst (λ ls. false ≡ (length ls == 0)) are some) in
    let listed = ap (λ ls. spaced (map decimal ls)) are in
    let each = spaced_each decimal leaves ∙ listed in
    ap (λ ls. (row_front t k o r ++ spaced (region_words p) ++ codes " leaves") ++ (ls ++ codes "\n")) each
    ∙ behind (row_front t k o r) (spaced (region_words p)) (codes " leaves") (spaced (map decimal (placed_leaves p))) (codes "\n")
    ∙ row_line t k o r p _ all
  where
    behind : (f a b c e : List ℕ) → (f ++ a ++ b) ++ (c ++ e) ≡ f ++ ((a ++ (b ++ c)) ++ e)
    behind f a b c e = simp append_assoc
