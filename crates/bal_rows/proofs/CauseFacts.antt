-- A record has one cause at most, and the record of a row has none.
use Rattle.std.proofs.Common.{◌≡◌, ◌<◌, ◌^◌, ◌∷◌, ℕ, List, [], None, Some, length, map, get_or, drop, refl, ap, sym, ◌∙◌, arith}
use Rattle.std.specs.Prelude.{Any}
use Rattle.std.specs.List.{AllByRecursion}
use Rattle.std.specs.Fmt.{decimal}
use Rattle.std.proofs.lemmas.List.{get_or-map, length-map}
use Rattle.std.proofs.lemmas.List.Elements.{All-from_recursion}
use Rattle.bal_layout.specs.Shape.{Shape, largest_of}
use Rattle.bal_model.specs.declared.row.Op.{Op}
use Rattle.bal_model.specs.declared.row.Row.{Row}
use Rattle.bal_model.specs.Spelling.{fields, op_numbers}
use Rattle.bal_model.specs.Built.{IsTraceRow}
use Rattle.bal_rows.specs.Causes.{BeginsWith, HasCause, IsNoNumber, Spells, broken_by, count_behind}
use Rattle.bal_rows.specs.declared.cause.RowCause.{RowCause}
use Rattle.bal_rows.specs.declared.cause.RowCause.TheVariants as cause
use Rattle.bal_rows.proofs.LimitFacts.{none-broken}
use Rattle.bal_rows.proofs.RowFacts.{IsSmall-row, begins-row, fields_injective, length-behind, same_count}

-- where numbers of 64 bits are spelled, each field is a number
all-numbers : (behind : List (List ℕ)) (ns : List ℕ) → behind ≡ map decimal ns → AllByRecursion (λ n. n < 2 ^ 64) ns → Any IsNoNumber behind → ⊥
all-numbers behind ns e small (k, field, within, at, none) =
    let inside : k < length ns = omega (arith, ap length e, length-map ns decimal) in
    none (get_or ns k 0) (All-from_recursion (λ n. n < 2 ^ 64) ns small k 0 inside, sym at ∙ ap (λ l. get_or l k field) e ∙ get_or-map decimal ns k 0 field inside)

-- two operations with which a record begins have as many fields, and the same fields are after them
two-begin : (cells : List (List ℕ)) (o p : Op) (b : BeginsWith cells o) (d : BeginsWith cells p) → (b.behind ≡ d.behind) × (count_behind o ≡ count_behind p)
two-begin cells o p b d =
    (ap (drop 1) (sym b.begins ∙ d.begins), same_count o p (ap (λ l. get_or l 0 []) (sym b.begins ∙ d.begins)))

-- a record has as many fields as its word wants, or not
wrong-count : (cells : List (List ℕ)) (o p : Op) (b : BeginsWith cells o) (d : BeginsWith cells p) → length d.behind ≡ count_behind p → length b.behind ≡ count_behind o
wrong-count cells o p b d right =
    let (behind, counts) = two-begin cells o p b d in
    ap length behind ∙ right ∙ sym counts

-- where the record spells a row each field after the word is a number
no-number : (cells : List (List ℕ)) (o : Op) (b : BeginsWith cells o) (r : Row) → Spells cells r → Any IsNoNumber b.behind → ⊥
no-number cells o b r spells any =
    all-numbers b.behind (r.thread ∷ op_numbers r.op) (length-behind cells r o b spells.spelled).0 spells.numbers any

-- a record spells one row
one-row : (cells : List (List ℕ)) (r q : Row) → Spells cells r → Spells cells q → r ≡ q
one-row cells r q a b = fields_injective r q a.numbers b.numbers (sym a.spelled ∙ b.spelled)

same-limit : (s : Shape) (cells : List (List ℕ)) (r q : Row) (c d : RowCause) → Spells cells r → Spells cells q → broken_by s r ≡ Some c → broken_by s q ≡ Some d → c ≡ d
same-limit s cells r q c d a b e f =
    let same : Some c ≡ Some d = sym e ∙ ap (broken_by s) (one-row cells r q a b) ∙ f in
    cc

-- the first cause of a record is one
pub one-cause : (s : Shape) (cells : List (List ℕ)) (c d : RowCause) → HasCause s cells c → HasCause s cells d → c ≡ d
one-cause s cells cause.TooManyRows d p q = absurd p
one-cause s cells cause.Word cause.TooManyRows p q = absurd q
one-cause s cells cause.Word cause.Word p q = refl
one-cause s cells cause.Word cause.Fields p q = absurd (p q.0 q.1)
one-cause s cells cause.Word cause.Number p q = absurd (p q.0 q.1)
one-cause s cells cause.Word d p q = absurd (p q.0.op (begins-row cells q.0 q.1.spelled))
one-cause s cells cause.Fields cause.TooManyRows p q = absurd q
one-cause s cells cause.Fields cause.Word p q = absurd (q p.0 p.1)
one-cause s cells cause.Fields cause.Fields p q = refl
one-cause s cells cause.Fields cause.Number p q = absurd (p.2 (wrong-count cells p.0 q.0 p.1 q.1 q.2))
one-cause s cells cause.Fields d p q = absurd (p.2 (length-behind cells q.0 p.0 p.1 q.1.spelled).1)
one-cause s cells cause.Number cause.TooManyRows p q = absurd q
one-cause s cells cause.Number cause.Word p q = absurd (q p.0 p.1)
one-cause s cells cause.Number cause.Fields p q = absurd (q.2 (wrong-count cells q.0 p.0 q.1 p.1 p.2))
one-cause s cells cause.Number cause.Number p q = refl
one-cause s cells cause.Number d p q = absurd (no-number cells p.0 p.1 q.0 q.1 p.3)
one-cause s cells c cause.TooManyRows p q = absurd q
one-cause s cells c cause.Word p q = absurd (q p.0.op (begins-row cells p.0 p.1.spelled))
one-cause s cells c cause.Fields p q = absurd (q.2 (length-behind cells p.0 q.0 q.1 p.1.spelled).1)
one-cause s cells c cause.Number p q = absurd (no-number cells q.0 q.1 p.0 p.1 q.3)
one-cause s cells c d p q = same-limit s cells p.0 q.0 c d p.1 q.1 p.2 q.2

-- a row of a trace spells its record
spells-row : (s : Shape) (cells : List (List ℕ)) (r : Row) → largest_of s < 2 ^ 32 → IsTraceRow s r → cells ≡ fields r → Spells cells r
spells-row s cells r small is e = record { spelled = e; numbers = IsSmall-row s r small is.in_range }

no-limit : (s : Shape) (cells : List (List ℕ)) (r q : Row) (why : RowCause) → Spells cells r → Spells cells q → IsTraceRow s r → broken_by s q ≡ Some why → ⊥
no-limit s cells r q why a b is broken =
    let clash : None ≡ Some why = sym (none-broken s r is) ∙ ap (broken_by s) (one-row cells r q a b) ∙ broken in
    cc

-- so a row of a trace has no cause
pub no-cause : (s : Shape) (cells : List (List ℕ)) (r : Row) (why : RowCause) → largest_of s < 2 ^ 32 → IsTraceRow s r → cells ≡ fields r → HasCause s cells why → ⊥
no-cause s cells r cause.TooManyRows small is e h = h
no-cause s cells r cause.Word small is e h = h r.op (begins-row cells r e)
no-cause s cells r cause.Fields small is e h = h.2 (length-behind cells r h.0 h.1 e).1
no-cause s cells r cause.Number small is e h = no-number cells h.0 h.1 r (spells-row s cells r small is e) h.3
no-cause s cells r why small is e h = no-limit s cells r h.0 why (spells-row s cells r small is e) h.1 is h.2
