-- How rows that were read so far make a trace, or tell that the bytes are none.
use Rattle.std.proofs.Common.{◌≡◌, ◌+◌, ◌++◌, ◌∷◌, ℕ, List, [], length, map, ap, sym, subst, ◌∙◌}
use Rattle.std.specs.List.{AllByRecursion}
use Rattle.std.proofs.lemmas.List.{map-append}
use Rattle.csv.specs.Reading.{Reached, default_config, strip_bom}
use Rattle.csv.specs.declared.parser.State.{State}
use Rattle.csv.specs.declared.parser.State.TheVariants as st
use Rattle.bal_layout.specs.Shape.{Shape}
use Rattle.bal_model.specs.declared.row.Row.{Row}
use Rattle.bal_model.specs.Spelling.{fields}
use Rattle.bal_model.specs.Built.{IsTraceRow}
use Rattle.bal_rows.specs.Trace.{HasBadRecord, IsBadBehind}
use Rattle.bal_rows.specs.declared.cause.RowCause.{RowCause}

-- one row more
all_more : (s : Shape) (rows : List Row) (r : Row) → AllByRecursion (IsTraceRow s) rows → IsTraceRow s r → AllByRecursion (IsTraceRow s) (rows ++ r ∷ [])
all_more s [] r all is = (is, tt)
all_more s (q ∷ rows) r all is = (all.0, all_more s rows r all.1 is)

pub all_rows : (s : Shape) (rows more : List Row) (r : Row) → AllByRecursion (IsTraceRow s) rows → IsTraceRow s r → more ≡ rows ++ r ∷ []
    → AllByRecursion (IsTraceRow s) more
all_rows s rows more r all is e = subst (AllByRecursion (IsTraceRow s)) (sym e) (all_more s rows r all is)

module _ (s : Shape) (bytes : List ℕ) (state : State) (rest : List ℕ) where
  -- the record after some rows spells one more
  pub reads_more : (rows more : List Row) (r : Row) (cells : List (List ℕ)) → cells ≡ fields r → more ≡ rows ++ r ∷ []
      → Reached default_config st.StartRecord (strip_bom bytes) (map fields rows ++ cells ∷ []) state rest
      → Reached default_config st.StartRecord (strip_bom bytes) (map fields more) state rest
  reads_more rows more r cells spelled e reached =
      let Reads : List (List (List ℕ)) → Type 0 = λ rs. Reached default_config st.StartRecord (strip_bom bytes) rs state rest in
      let records = map-append fields rows (r ∷ []) in
      subst Reads (ap (λ f. map fields rows ++ f ∷ []) spelled ∙ sym records ∙ ap (map fields) (sym e)) reached

  -- the record after some rows is bad
  pub bad_record : (rows : List Row) (number : ℕ) (bad : List (List ℕ)) (why : RowCause) → AllByRecursion (IsTraceRow s) rows → number ≡ length rows + 1
      → Reached default_config st.StartRecord (strip_bom bytes) (map fields rows ++ bad ∷ []) state rest
      → IsBadBehind s (length rows) bad why → HasBadRecord s bytes number why
  bad_record rows number bad why all count reached is_bad = record {
    rows = rows;
    each_row = all;
    bad = bad;
    state = state;
    rest = rest;
    reached = reached;
    count = count;
    is_bad = is_bad;
  }
