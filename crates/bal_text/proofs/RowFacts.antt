-- Rows, read and written.
use Rattle.std.proofs.Common.{◌≡◌, ℕ, ◌^◌, List, [], ◌∷◌, ◌++◌, Option, Some, None, Bool, true, false, codes, map, refl, ap, sym, subst, ◌∙◌, arith, append_assoc, append-nil}
use Rattle.std.specs.List.{AllByRecursion}
use Rattle.std.specs.Option.{option_and_then}
use Rattle.std.specs.Fmt.{decimal}
use Rattle.bal_model.specs.declared.row.Op.{Op}
use Rattle.bal_model.specs.declared.row.Op.TheVariants as op
use Rattle.bal_model.specs.declared.row.Reply.{Reply}
use Rattle.bal_model.specs.Entries.{Entry, Spot, row}
use Rattle.bal_model.specs.Spelling.{op_word, op_numbers}
use Rattle.bal_model.specs.Text.{leaves_words, line, place_words, reply_word, spaced}
use Rattle.bal_text.specs.Lines.{HasLine, IsPlace, IsReply, IsSmall, IsSpot, OpFits, is_placed}
use Rattle.bal_text.specs.Grammar.{answer_at, front_at, numbered_answer_at, place_at, reply_at, reply_words, row_at, spot_at, word_answer_at, word_reply_at}
use Rattle.bal_text.specs.Readings.{after, behind, made}
use Rattle.bal_text.specs.Writing.{row_front}
use Rattle.bal_text.proofs.ItemFacts.{EndsLeaves, reads_leaves}
use Rattle.bal_text.proofs.LineParts.{row_whole, spaced_two}
use Rattle.bal_text.proofs.NumberFacts.{EndsNumber}
use Rattle.bal_text.proofs.Options.{and_then_some, map_some}
use Rattle.bal_text.proofs.PieceFacts.{EndsReply, op_words_of, reads_op, reads_reply, reads_spaced}
use Rattle.bal_text.proofs.Readings.{Anything, IsReading, behind_again, reads_after, reads_ended, reads_followed, reads_made, spelled_again}

-- where an object was placed
abbrev spot_parts : ℕ × List ℕ → Spot
spot_parts p = record { region = p.0; leaves = p.1 }

leaves_begin : (qs : List ℕ) (rest : List ℕ) → EndsLeaves rest → EndsNumber (spaced (leaves_words qs) ++ rest)
leaves_begin [] rest ends = ends.0.0
leaves_begin (q ∷ qs) rest ends = refl

reads_spot : IsReading EndsLeaves IsSpot (λ s. spaced (place_words (Some s))) spot_at
unfolding spot_at
reads_spot =
    reads_made spot_parts IsSpot (λ s. spaced (place_words (Some s)))
    (reads_after (codes " in") (reads_followed (reads_spaced 2047 (omega arith)) reads_leaves (λ qs rest is ends. leaves_begin qs rest ends)))
    (λ p is. is) (λ p. refl) (λ s is. ((s.region, s.leaves), is, refl))

-- the place of a row, if it has one
place_back : (placed : Bool) (p : Option Spot) (rest : List ℕ) → IsPlace placed p → EndsLeaves rest → place_at placed (spaced (place_words p) ++ rest) ≡ Some (p, rest)
place_back true None rest is ends = absurd is
place_back true (Some s) rest is ends = rw (reads_spot.back s rest is ends) refl
place_back false None rest is ends = refl
place_back false (Some s) rest is ends = absurd is

place_again : (placed : Bool) (text : List ℕ) (p : Option Spot) (rest : List ℕ) → place_at placed text ≡ Some (p, rest) → IsPlace placed p × (text ≡ spaced (place_words p) ++ rest)
place_again true text p rest e =
    let (q, found, same) = map_some _ (spot_at text) (p, rest) e in
    subst (λ (z : Option Spot × List ℕ). IsPlace true z.0 × (text ≡ spaced (place_words z.0) ++ z.1)) same (reads_spot.again text q.0 q.1 found)
place_again false text p rest e =
    let same : ◌≡◌ {A = Option Spot × List ℕ} (None, text) (p, rest) = cc in
    subst (λ (z : Option Spot × List ℕ). IsPlace false z.0 × (text ≡ spaced (place_words z.0) ++ z.1)) same (tt, refl)

-- a row up to its answer
abbrev Front : Type 0
Front = ℕ × (ℕ × Op)

abbrev AreOfFront : Front → Type 0
AreOfFront p = IsSmall p.0 × (IsSmall p.1.0 × OpFits p.1.1)

abbrev front_words : Front → List ℕ
front_words p = (codes "row" ++ ((32 ∷ decimal p.0) ++ ((32 ∷ decimal p.1.0) ++ op_words_of p.1.1))) ++ codes " = "

reads_front : IsReading Anything AreOfFront front_words front_at
unfolding front_at
reads_front =
    reads_ended (codes " = ") (reads_after (codes "row") (reads_followed (reads_spaced (2 ^ 32) (omega arith)) (reads_followed (reads_spaced (2 ^ 32) (omega arith))
    reads_op (λ y rest is ends. refl)) (λ y rest is ends. refl))) (λ rest. refl)

-- the front, a reply and what stands after it
grouped : (f t k o s r rest : List ℕ) → ((f ++ (t ++ (k ++ o))) ++ s) ++ (r ++ rest) ≡ (f ++ (t ++ (k ++ (o ++ (s ++ r))))) ++ rest
grouped f t k o s r rest = simp append_assoc

front_is : (t k : ℕ) (o : Op) (r : Reply) (rest : List ℕ) → front_words (t, (k, o)) ++ (reply_word r ++ rest) ≡ row_front t k o r ++ rest
front_is t k o r rest =
    let numbers = map decimal (op_numbers o) in
    let replied = codes "=" ∷ reply_word r ∷ [] in
    let sign : codes " = " ++ reply_word r ≡ spaced replied = ap (λ l. codes " = " ++ l) (sym (append-nil (reply_word r))) in
    let words : (op_word o ++ spaced numbers) ++ (codes " = " ++ reply_word r) ≡ op_word o ++ spaced (numbers ++ replied) =
    append_assoc (op_word o) (spaced numbers) (codes " = " ++ reply_word r) ∙ ap (λ l. op_word o ++ (spaced numbers ++ l)) sign
    ∙ ap (λ l. op_word o ++ l) (sym (spaced_two numbers replied)) in
    grouped (codes "row") (32 ∷ decimal t) (32 ∷ decimal k) (op_words_of o) (codes " = ") (reply_word r) rest
    ∙ ap (λ l. (codes "row" ++ ((32 ∷ decimal t) ++ ((32 ∷ decimal k) ++ (32 ∷ l)))) ++ rest) words

-- no word of a reply is that of a new object
unplaced_words : (o : Op) → AllByRecursion (λ r. is_placed o r ≡ false) reply_words
unplaced_words op.Gc = (refl, (refl, (refl, (refl, (refl, tt)))))
unplaced_words o = (refl, (refl, (refl, (refl, (refl, tt)))))

unplaced : (o : Op) (text : List ℕ) (r : Reply) (rest : List ℕ) → word_reply_at text ≡ Some (r, rest) → is_placed o r ≡ false
unfolding word_reply_at
unplaced o text r rest e = (spelled_again reply_word (λ r. is_placed o r ≡ false) reply_words (unplaced_words o) text r rest e).0

-- so an answer is a reply and its place
answer_parts : (o : Op) (text : List ℕ) → answer_at o text ≡ option_and_then (λ p. made (λ s. (p.0, s)) (place_at (is_placed o p.0)) p.1) (reply_at text)
unfolding answer_at word_answer_at numbered_answer_at reply_at
answer_parts o text = by_word (word_reply_at text) refl where
  by_word : (w : Option (Reply × List ℕ)) → word_reply_at text ≡ w → answer_at o text ≡ option_and_then (λ p. made (λ s. (p.0, s)) (place_at (is_placed o p.0)) p.1) (reply_at text)
  by_word None e = rw e refl
  by_word (Some p) e = rw (e, unplaced o text p.0 p.1 e) refl

-- a reply ends before a place, and before the line's end
place_ends : (p : Option Spot) (rest : List ℕ) → EndsReply (spaced (place_words p) ++ 10 ∷ rest)
place_ends None rest = (refl, refl)
place_ends (Some s) rest = (refl, refl)

-- what no item stands before
feed_ends : (rest : List ℕ) → EndsLeaves (10 ∷ rest)
feed_ends rest = ((refl, refl), refl)

answer_back : (o : Op) (r : Reply) (p : Option Spot) (rest : List ℕ) → IsReply r → IsPlace (is_placed o r) p
    → answer_at o (reply_word r ++ (spaced (place_words p) ++ 10 ∷ rest)) ≡ Some ((r, p), 10 ∷ rest)
answer_back o r p rest is place =
    answer_parts o (reply_word r ++ (spaced (place_words p) ++ 10 ∷ rest)) ∙ rw (reads_reply.back r (spaced (place_words p) ++ 10 ∷ rest) is (place_ends p rest), place_back (is_placed o r) p (10 ∷ rest) place (feed_ends rest)) refl

-- an answer that was read is right, and stands there
record IsAnswer (o : Op) (text : List ℕ) (a : Reply × Option Spot) (rest : List ℕ) : Type 0 where
  is_reply : IsReply a.0
  is_place : IsPlace (is_placed o a.0) a.1
  spelled : text ≡ reply_word a.0 ++ (spaced (place_words a.1) ++ rest)

answer_again : (o : Op) (text : List ℕ) (a : Reply × Option Spot) (rest : List ℕ) → answer_at o text ≡ Some (a, rest) → IsAnswer o text a rest
answer_again o text a rest e =
    let (r, replied, e1) = and_then_some _ (reply_at text) (a, rest) (sym (answer_parts o text) ∙ e) in
    let (p, placed, same) = map_some _ (place_at (is_placed o r.0) r.1) (a, rest) e1 in
    let is = reads_reply.again text r.0 r.1 replied in
    let place = place_again (is_placed o r.0) r.1 p.0 p.1 placed in
    let found : IsAnswer o text (r.0, p.0) p.1 = record { is_reply = is.0; is_place = place.0; spelled = is.1 ∙ ap (λ l. reply_word r.0 ++ l) place.1 } in
    subst (λ (z : (Reply × Option Spot) × List ℕ). IsAnswer o text z.0 z.1) same found

pub row_back : (t k : ℕ) (o : Op) (r : Reply) (p : Option Spot) (rest : List ℕ) → HasLine (row t k o r p) → row_at (line (row t k o r p) ++ rest) ≡ Some (row t k o r p, rest)
unfolding row_at
row_back t k o r p rest is =
    let place = spaced (place_words p) ++ 10 ∷ rest in
    let whole : line (row t k o r p) ++ rest ≡ row_front t k o r ++ place = sym (row_whole t k o r p (row_front t k o r ++ place) place (10 ∷ rest) rest refl refl refl) in
    let front = reads_front.back (t, (k, o)) (reply_word r ++ place) (is.is_thread, (is.is_number, is.fits)) tt in
    ap row_at (whole ∙ sym (front_is t k o r place)) ∙ rw (front, answer_back o r p rest is.is_reply is.is_place) refl

pub row_again : (text : List ℕ) (e : Entry) (rest : List ℕ) → row_at text ≡ Some (e, rest) → HasLine e × (text ≡ line e ++ rest)
unfolding row_at
row_again text e rest found =
    let (p, front, e1) = and_then_some _ (front_at text) (e, rest) found in
    let t = p.0.0 in
    let k = p.0.1.0 in
    let o = p.0.1.1 in
    let (m, answered, e2) = and_then_some _ (made (λ (a : Reply × Option Spot). row t k o a.0 a.1) (answer_at o) p.1) (e, rest) e1 in
    let (after, bare, same) = map_some _ (behind (codes "\n") m.1) (e, rest) e2 in
    let (s, answer, built) = map_some _ (answer_at o p.1) m answered in
    let parts = reads_front.again text p.0 p.1 front in
    let is = answer_again o p.1 s.0 s.1 answer in
    let r = s.0.0 in
    let q = s.0.1 in
    let end : s.1 ≡ 10 ∷ after = ap (λ (z : Entry × List ℕ). z.1) built ∙ behind_again (codes "\n") m.1 after bare in
    let entry : row t k o r q ≡ m.0 = ap (λ (z : Entry × List ℕ). z.0) built in
    let has : HasLine (row t k o r q) = record { is_thread = parts.0.0; is_number = parts.0.1.0; fits = parts.0.1.1; is_reply = is.is_reply; is_place = is.is_place } in
    let spelled : text ≡ row_front t k o r ++ (spaced (place_words q) ++ s.1) =
    parts.1 ∙ ap (λ l. front_words p.0 ++ l) is.spelled ∙ front_is t k o r (spaced (place_words q) ++ s.1) in
    let whole = row_whole t k o r q text (spaced (place_words q) ++ s.1) s.1 after spelled refl end in
    let joined : ◌≡◌ {A = Entry × List ℕ} (row t k o r q, after) (e, rest) = ap (λ (x : Entry). (x, after)) entry ∙ same in
    subst (λ (z : Entry × List ℕ). HasLine z.0 × (text ≡ line z.0 ++ z.1)) joined (has, whole)
