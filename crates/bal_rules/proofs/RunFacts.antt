-- How a run grows, and what it says of the threads' rows.
use Rattle.std.proofs.Common.{◌≡◌, ◌+◌, ℕ, List, [], ◌∷◌, ◌++◌, Bool, true, false, cond, eqb, length, Option, refl, ap, sym, subst, ◌∙◌, append_assoc, arith}
use Rattle.std.proofs.lemmas.List.{append-nil}
use Rattle.std.proofs.lemmas.List.Sums.{fold-append}
use Rattle.std.specs.List.{AllByRecursion}
use Rattle.bal_model.specs.declared.config.Config.{Config}
use Rattle.bal_model.specs.declared.row.Row.{Row}
use Rattle.bal_model.specs.declared.row.Op.{Op}
use Rattle.bal_model.specs.declared.row.Reply.{Reply}
use Rattle.bal_rules.specs.After.{after}
use Rattle.bal_rules.specs.Board.{opening}
use Rattle.bal_model.specs.Entries.{Entry, Spot, executed, row}
use Rattle.bal_rules.specs.Interim.{Rule}
use Rattle.bal_rules.specs.Run.{Piece, MayComeNext, ArePieces, events_of, IsRun, IsWholeRun, board_of, rows_of, done_by}
use Rattle.bal_rules.proofs.PathFacts.{executed-append}
use Rattle.bal_model.proofs.Lemmas.{one_for}

-- one more piece at the end
pieces-more : (rule : Rule) (c : Config) (rows : List Row) (before : List Entry) (pieces : List Piece) (piece : Piece)
    → ArePieces rule c rows before pieces → MayComeNext rule c rows (before ++ events_of pieces) piece → ArePieces rule c rows before (pieces ++ piece ∷ [])
pieces-more rule c rows before [] piece h next = (subst (λ (es : List Entry). MayComeNext rule c rows es piece) (append-nil before) next, tt)
pieces-more rule c rows before (p ∷ ps) piece h next = (
  h.0,
  pieces-more rule c rows (before ++ p.events) ps piece h.1
      (subst (λ (es : List Entry). MayComeNext rule c rows es piece) (sym (append_assoc before p.events (events_of ps))) next),
)

events-more : (pieces : List Piece) (piece : Piece) → events_of (pieces ++ piece ∷ []) ≡ events_of pieces ++ piece.events
events-more [] piece = append-nil piece.events
events-more (p ∷ ps) piece = ap (λ (es : List Entry). p.events ++ es) (events-more ps piece) ∙ sym (append_assoc p.events (events_of ps) piece.events)

whole-more : (pieces : List Piece) (piece : Piece) → AllByRecursion (λ (p : Piece). p.whole ≡ true) pieces → piece.whole ≡ true → AllByRecursion (λ (p : Piece). p.whole ≡ true) (pieces ++ piece ∷ [])
whole-more [] piece h w = (w, tt)
whole-more (p ∷ ps) piece h w = (h.0, whole-more ps piece h.1 w)

-- a run and a piece that may come next are a run
pub IsRun-more : (rule : Rule) (c : Config) (rows : List Row) (entries : List Entry) (piece : Piece) → IsRun rule c rows entries → MayComeNext rule c rows entries piece → IsRun rule c rows (entries ++ piece.events)
IsRun-more rule c rows entries piece run next = record {
  pieces = run.pieces ++ piece ∷ [];
  each_next = pieces-more rule c rows [] run.pieces piece run.each_next (subst (λ (es : List Entry). MayComeNext rule c rows es piece) run.cut next);
  cut = ap (λ (es : List Entry). es ++ piece.events) run.cut ∙ sym (events-more run.pieces piece);
}

-- a whole run and a path that may come next are a whole run
pub IsWholeRun-more : (rule : Rule) (c : Config) (rows : List Row) (entries : List Entry) (piece : Piece) → IsWholeRun rule c rows entries → MayComeNext rule c rows entries piece → piece.whole ≡ true → IsWholeRun rule c rows (entries ++ piece.events)
unfolding IsRun-more
IsWholeRun-more rule c rows entries piece h next w = record {
  run = IsRun-more rule c rows entries piece h.run next;
  whole = whole-more h.run.pieces piece h.whole w;
}

-- the empty journal is a whole run
pub IsWholeRun-none : (rule : Rule) (c : Config) (rows : List Row) → IsWholeRun rule c rows []
IsWholeRun-none rule c rows = record { run = record { pieces = []; each_next = tt; cut = refl }; whole = tt }

-- the board after one more event
pub board_of-more : (c : Config) (entries : List Entry) (e : Entry) → board_of c (entries ++ e ∷ []) ≡ after c (board_of c entries) e
board_of-more c entries e = fold-append (after c) (opening c) entries (e ∷ [])

rows_of-push : (u : ℕ) (rows : List Row) (r : Row) → length (rows_of u (rows ++ r ∷ [])) ≡ length (rows_of u rows) + one_for r.thread u
rows_of-push u [] r = by (eqb r.thread u)
  where
    by : (b : Bool) → length (cond b (r ∷ []) []) ≡ 0 + cond b 1 0
    by true = refl
    by false = refl
rows_of-push u (q ∷ rs) r = by (eqb q.thread u) (rows_of-push u rs r)
  where
    by : (b : Bool) → length (rows_of u (rs ++ r ∷ [])) ≡ length (rows_of u rs) + one_for r.thread u
        → length (cond b (q ∷ rows_of u (rs ++ r ∷ [])) (rows_of u (rs ++ r ∷ []))) ≡ length (cond b (q ∷ rows_of u rs) (rows_of u rs)) + one_for r.thread u
    by true e = omega (arith, e)
    by false e = e

-- a row's event executes the row, so its thread has then done one more
pub done_by-more : (u : ℕ) (entries : List Entry) (t k : ℕ) (o : Op) (r : Reply) (p : Option Spot) → done_by u (entries ++ row t k o r p ∷ []) ≡ done_by u entries + one_for t u
done_by-more u entries t k o r p = ap (λ (rows : List Row). length (rows_of u rows)) (executed-append entries (row t k o r p ∷ [])) ∙ rows_of-push u (executed entries) (record { thread = t; op = o })
