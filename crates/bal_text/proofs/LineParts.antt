-- The parts of lines.
use Rattle.std.proofs.Common.{◌≡◌, ℕ, List, [], ◌∷◌, ◌++◌, append_assoc, codes, map, ap, sym, ◌∙◌}
use Rattle.std.specs.Prelude.{Option}
use Rattle.std.specs.Fmt.{decimal}
use Rattle.std.proofs.lemmas.List.Concat.{flat_map-append}
use Rattle.bal_model.specs.declared.row.Op.{Op}
use Rattle.bal_model.specs.declared.row.Reply.{Reply}
use Rattle.bal_model.specs.Entries.{Entry, Spot, row}
use Rattle.bal_model.specs.Spelling.{op_word, op_numbers}
use Rattle.bal_model.specs.Text.{kind_word, line, more_words, place_words, reply_word, spaced}
use Rattle.bal_text.specs.Writing.{row_front}

-- a line without its line feed
abbrev pub body : Entry → List ℕ
body e = kind_word e ++ spaced (more_words e)

-- a line and what follows it
pub line_parts : (e : Entry) (after : List ℕ) → line e ++ after ≡ body e ++ 10 ∷ after
unfolding line
line_parts e after = append_assoc (body e) (10 ∷ []) after

-- two lists of words, one after the other
pub spaced_two : (xs ys : List (List ℕ)) → spaced (xs ++ ys) ≡ spaced xs ++ spaced ys
spaced_two xs ys = flat_map-append (λ w. 32 ∷ w) xs ys

-- a row's line, from its parts
pub row_whole : (t k : ℕ) (o : Op) (r : Reply) (p : Option Spot) (text rest back after : List ℕ) → text ≡ row_front t k o r ++ rest
    → rest ≡ spaced (place_words p) ++ back → back ≡ 10 ∷ after → text ≡ line (row t k o r p) ++ after
row_whole t k o r p text rest back after front place end =
    let e = row t k o r p in
    let says = decimal t ∷ decimal k ∷ op_word o ∷ map decimal (op_numbers o) in
    let replied = codes "=" ∷ reply_word r ∷ [] in
    let words : more_words e ≡ (says ++ replied) ++ place_words p = sym (append_assoc says replied (place_words p)) in
    let parts : spaced (more_words e) ≡ spaced (says ++ replied) ++ spaced (place_words p) =
    ap spaced words ∙ spaced_two (says ++ replied) (place_words p) in
    let behind : rest ≡ spaced (place_words p) ++ 10 ∷ after = place ∙ ap (λ l. spaced (place_words p) ++ l) end in
    front ∙ ap (λ l. row_front t k o r ++ l) behind ∙ sym (append_assoc (row_front t k o r) (spaced (place_words p)) (10 ∷ after))
    ∙ ap (λ l. (codes "row" ++ l) ++ 10 ∷ after) (sym parts) ∙ sym (line_parts e after)
