-- What a run replies: as long as no allocation is told that the heap is full, what the plain graph replies.
use Rattle.std.proofs.Common.{◌≡◌, List, [], ◌∷◌, ◌++◌, false, Some, None, refl, ap, sym, subst, ◌∙◌}
use Rattle.std.specs.Prelude.{fold}
use Rattle.std.specs.List.{AllByRecursion}
use Rattle.std.proofs.lemmas.Bool.{cond-false, true≢false}
use Rattle.std.proofs.lemmas.List.{append-nil}
use Rattle.std.proofs.lemmas.List.Sums.{fold-append}
use Rattle.bal_model.specs.declared.config.Config.{Config}
use Rattle.bal_model.specs.declared.row.Reply.{Reply}
use Rattle.bal_model.specs.declared.row.Row.{Row}
use Rattle.bal_rules.specs.After.{after}
use Rattle.bal_rules.specs.Board.{Board}
use Rattle.bal_model.specs.Entries.{Entry, row, executed}
use Rattle.bal_rules.specs.Interim.{Rule}
use Rattle.bal_rules.specs.Path.{Turn, Stage, own_at, IsLegal}
use Rattle.bal_model.specs.Plain.{State, start, step}
use Rattle.bal_rules.specs.Room.{spot_for}
use Rattle.bal_model.specs.Plain.{is_full}
use Rattle.bal_rules.specs.Run.{IsRun, board_of, replies, IsNeverFull}
use Rattle.bal_rules.proofs.Lemmas.{board_of-more, executed-append, executed-legal, graph-legal, graph-row, journal-keeps, legal-no-row, own-event}
use Rattle.bal_laws.specs.Replies.{plain_replies}

replies-append : (xs ys : List Entry) → replies (xs ++ ys) ≡ replies xs ++ replies ys
replies-append [] ys = refl
replies-append (row t k o r p ∷ xs) ys = ap (λ (rs : List Reply). r ∷ rs) (replies-append xs ys)
replies-append (e ∷ xs) ys = replies-append xs ys

-- no event before a row's own one replies
replies-legal : (rule : Rule) (c : Config) (turn : Turn) (stage : Stage) (b : Board) (e : Entry) → IsLegal rule c turn stage b e → replies (e ∷ []) ≡ []
replies-legal rule c turn stage b (row t k o r p) h = absurd (legal-no-row rule c turn stage b t k o r p h)
replies-legal rule c turn stage b e h = refl

each-front : {X : Type 0} (P : X → Type 0) (xs ys : List X) → AllByRecursion P (xs ++ ys) → AllByRecursion P xs
each-front P [] ys h = tt
each-front P (x ∷ xs) ys h = (h.0, each-front P xs ys h.1)

each-behind : {X : Type 0} (P : X → Type 0) (xs ys : List X) → AllByRecursion P (xs ++ ys) → AllByRecursion P ys
each-behind P [] ys h = h
each-behind P (x ∷ xs) ys h = each-behind P xs ys h.1

-- the graph after the plain steps of some rows
abbrev pub graph_of_rows : State → List Row → State
graph_of_rows s rows = fold (λ (s : State) (r : Row). (step s r.thread r.op).1) s rows

plain_replies-more : (s : State) (rows : List Row) (r : Row) → plain_replies s (rows ++ r ∷ []) ≡ plain_replies s rows ++ (step (graph_of_rows s rows) r.thread r.op).0 ∷ []
plain_replies-more s [] r = refl
plain_replies-more s (q ∷ rows) r = ap (λ (rs : List Reply). (step s q.thread q.op).0 ∷ rs) (plain_replies-more (step s q.thread q.op).1 rows r)

-- the graph and the replies are those of the plain steps
record IsPlain (c : Config) (entries : List Entry) : Type 0 where
  graph : (board_of c entries).plain ≡ graph_of_rows start (executed entries)
  replied : replies entries ≡ plain_replies start (executed entries)

-- the event executes a row, and is that of the plain step where it isn't full
record IsStep (c : Config) (turn : Turn) (b : Board) (e : Entry) : Type 0 where
  executes : executed (e ∷ []) ≡ turn.row ∷ []
  replied : IsNeverFull (e ∷ []) → replies (e ∷ []) ≡ (step b.plain turn.row.thread turn.row.op).0 ∷ []
  graph : IsNeverFull (e ∷ []) → (after c b e).plain ≡ (step b.plain turn.row.thread turn.row.op).1

step-own : (rule : Rule) (c : Config) (turn : Turn) (stage : Stage) (b : Board) (e : Entry) → own_at rule c turn stage b ≡ Some e → IsStep c turn b e
step-own rule c turn stage b e own =
    let t = turn.row.thread in
    let o = turn.row.op in
    let r = (step b.plain t o).0 in
    own-event (IsStep c turn b) rule c turn stage b e
    (λ none. record { executes = refl; replied = λ never. refl; graph = λ never. graph-row c b t turn.number o r None ∙ cond-false (is_full r) b.plain (step b.plain t o).1 never.0 })
    (λ w asks. record {
      executes = refl;
      replied = λ never. refl;
      graph = λ never. graph-row c b t turn.number o r (Some (spot_for c.geometry b.regions b.current w)) ∙ cond-false (is_full r) b.plain (step b.plain t o).1 never.0;
    })
    (λ w asks full. record { executes = refl; replied = λ never. absurd (true≢false never.0); graph = λ never. absurd (true≢false never.0) })
    own

plain-legal : (rule : Rule) (c : Config) (turn : Turn) (stage : Stage) (before : List Entry) (e : Entry) → IsPlain c before → IsLegal rule c turn stage (board_of c before) e → IsPlain c (before ++ e ∷ [])
plain-legal rule c turn stage before e h le =
    let b = board_of c before in
    let rows : executed (before ++ e ∷ []) ≡ executed before =
    executed-append before (e ∷ []) ∙ ap (λ (rs : List Row). executed before ++ rs) (executed-legal rule c turn stage b e le) ∙ append-nil (executed before) in
    record {
      graph = ap (λ (b : Board). b.plain) (board_of-more c before e) ∙ graph-legal rule c turn stage b e le ∙ h.graph ∙ ap (graph_of_rows start) (sym rows);
      replied = replies-append before (e ∷ []) ∙ ap (λ (rs : List Reply). replies before ++ rs) (replies-legal rule c turn stage b e le) ∙ append-nil (replies before)
          ∙ h.replied ∙ ap (plain_replies start) (sym rows);
    }

plain-own : (c : Config) (turn : Turn) (before : List Entry) (e : Entry) → IsPlain c before → IsStep c turn (board_of c before) e → IsNeverFull (e ∷ []) → IsPlain c (before ++ e ∷ [])
plain-own c turn before e h is never =
    let b = board_of c before in
    let t = turn.row.thread in
    let o = turn.row.op in
    let rows : executed (before ++ e ∷ []) ≡ executed before ++ turn.row ∷ [] = executed-append before (e ∷ []) ∙ ap (λ (rs : List Row). executed before ++ rs) is.executes in
    let now : graph_of_rows start (executed (before ++ e ∷ [])) ≡ (step (graph_of_rows start (executed before)) t o).1 =
    ap (graph_of_rows start) rows ∙ fold-append (λ (s : State) (r : Row). (step s r.thread r.op).1) start (executed before) (turn.row ∷ []) in
    record {
      graph = ap (λ (b : Board). b.plain) (board_of-more c before e) ∙ is.graph never ∙ ap (λ (s : State). (step s t o).1) h.graph ∙ sym now;
      replied = replies-append before (e ∷ []) ∙ ap (λ (rs : List Reply). replies before ++ rs) (is.replied never) ∙ ap (λ (s : State). replies before ++ (step s t o).0 ∷ []) h.graph
          ∙ ap (λ (rs : List Reply). rs ++ (step (graph_of_rows start (executed before)) t o).0 ∷ []) h.replied
          ∙ sym (plain_replies-more start (executed before) turn.row) ∙ ap (plain_replies start) (sym rows);
    }

run-plain : (rule : Rule) (c : Config) (rows : List Row) (entries : List Entry) → IsRun rule c rows entries → IsNeverFull entries → IsPlain c entries
run-plain rule c rows entries run =
    let never = λ (r : Reply). is_full r ≡ false in
    let split = λ (before : List Entry) (e : Entry) (h : IsNeverFull (before ++ e ∷ [])). subst (AllByRecursion never) (replies-append before (e ∷ [])) h in
    journal-keeps rule c rows (λ (es : List Entry). IsNeverFull es → IsPlain c es)
    (λ turn stage before e h next le full. plain-legal rule c turn stage before e (h (each-front never (replies before) (replies (e ∷ [])) (split before e full))) le)
    (λ turn stage before e h next own full. plain-own c turn before e (h (each-front never (replies before) (replies (e ∷ [])) (split before e full))) (step-own rule c turn stage (board_of c before) e own)
    (each-behind never (replies before) (replies (e ∷ [])) (split before e full)))
    entries (λ full. record { graph = refl; replied = refl }) run

-- a run that is never full replies what the plain graph does
pub run-replies : (rule : Rule) (c : Config) (rows : List Row) (entries : List Entry) → IsRun rule c rows entries → IsNeverFull entries → replies entries ≡ plain_replies start (executed entries)
run-replies rule c rows entries run never = (run-plain rule c rows entries run never).replied

-- so do two of them that execute the same rows, whatever their heaps
pub same-replies : (rule other_rule : Rule) (c other_c : Config) (rows other_rows : List Row) (one other : List Entry)
    → IsRun rule c rows one → IsRun other_rule other_c other_rows other → executed one ≡ executed other → IsNeverFull one → IsNeverFull other → replies one ≡ replies other
same-replies rule other_rule c other_c rows other_rows one other run other_run same never other_never =
    run-replies rule c rows one run never ∙ ap (plain_replies start) same ∙ sym (run-replies other_rule other_c other_rows other other_run other_never)
