-- The record that csv reads from a row's plain line: its fields, since none of them has a byte with a meaning of its own.
use Rattle.std.proofs.Common.{◌≡◌, ◌≢◌, ◌<◌, ◌^◌, ◌++◌, ◌∷◌, false, ℕ, List, [], Some, None, length, map, get_or, refl, ap, ◌∙◌, inl, inr, append_assoc, arith}
use Rattle.std.specs.List.{AllByRecursion, list_any}
use Rattle.std.specs.Fmt.{decimal}
use Rattle.std.specs.Str.Parse.{AllDigits}
use Rattle.std.proofs.lemmas.Bool.{ne_eqb}
use Rattle.std.proofs.lemmas.Fmt.{decimal_is_IsNumeral}
use Rattle.std.proofs.lemmas.Str.Parse.{digit_from_value}
use Rattle.csv.specs.Machine.{next_record}
use Rattle.csv.specs.Reading.{default_config, strip_bom}
use Rattle.csv.specs.Writing.{default_writer, needs_byte}
use Rattle.csv.specs.declared.parser.State.TheVariants as st
use Rattle.csv.proofs.RoundTrip.{plain-run, record-same, start-same}
use Rattle.bal_model.specs.declared.row.Op.{Op}
use Rattle.bal_model.specs.declared.row.Op.TheVariants as op
use Rattle.bal_model.specs.declared.row.Row.{Row}
use Rattle.bal_model.specs.Spelling.{fields, op_numbers, op_word}
use Rattle.bal_rows.specs.Plain.{BeginsWithLine, EndsLine, behind_commas}

-- the comma has the greatest of the bytes that mean something to csv: 10, 13, 34 and 44
abbrev IsPlain : List ℕ → Type 0
IsPlain field = AllByRecursion (λ b. 44 < b) field

means_nothing : (b : ℕ) → 44 < b → needs_byte default_writer b ≡ false
means_nothing b above =
    rw (ne_eqb b 44 (λ e. omega (arith, e)), ne_eqb b 34 (λ e. omega (arith, e)), ne_eqb b 13 (λ e. omega (arith, e)), ne_eqb b 10 (λ e. omega (arith, e))) refl

none_needed : (field : List ℕ) → IsPlain field → list_any (needs_byte default_writer) field ≡ false
none_needed [] plain = refl
none_needed (b ∷ field) plain = rw (means_nothing b plain.0) (none_needed field plain.1)

-- a field from its first byte to its last
field-read : (cells : List (List ℕ)) (field tail : List ℕ) → 0 < length field → IsPlain field
    → next_record default_config st.StartField cells [] (field ++ tail) ≡ next_record default_config st.InField cells field tail
field-read cells [] tail some plain = absurd (omega arith)
field-read cells (b ∷ field) tail some plain =
    start-same cells [] b (field ++ tail) (ne_eqb b 34 (λ e. omega (arith, e, plain.0))) ∙ plain-run cells [] (b ∷ field) tail (none_needed (b ∷ field) plain)

-- the same at the start of a record
first-read : (field tail : List ℕ) → 0 < length field → IsPlain field
    → next_record default_config st.StartRecord [] [] (field ++ tail) ≡ next_record default_config st.InField [] field tail
first-read [] tail some plain = absurd (omega arith)
first-read (b ∷ field) tail some plain =
    record-same [] [] b (field ++ tail) (ne_eqb b 13 (λ e. omega (arith, e, plain.0))) (ne_eqb b 10 (λ e. omega (arith, e, plain.0)))
    ∙ field-read [] (b ∷ field) tail some plain

-- a comma ends the field
at-comma : (cells : List (List ℕ)) (field tail : List ℕ)
    → next_record default_config st.InField cells field (44 ∷ tail) ≡ next_record default_config st.StartField (cells ++ field ∷ []) [] tail
unfolding next_record
at-comma cells field tail = refl

-- a line's end ends the record
at-end : (cells : List (List ℕ)) (field end rest : List ℕ) → EndsLine end rest
    → next_record default_config st.InField cells field end ≡ Some (cells ++ field ∷ [], st.StartRecord, rest)
unfolding next_record
at-end cells field end rest (inl feed) = rw feed refl
at-end cells field end rest (inr last) = rw (last.0, last.1) refl

-- fields after commas, up to a line's end
behind-read : (more cells : List (List ℕ)) (field end rest : List ℕ) → AllByRecursion (λ f. (0 < length f) × IsPlain f) more → EndsLine end rest
    → next_record default_config st.InField cells field (behind_commas more ++ end) ≡ Some (cells ++ field ∷ more, st.StartRecord, rest)
behind-read [] cells field end rest plain ends = at-end cells field end rest ends
behind-read (next ∷ more) cells field end rest plain ends =
    let text : behind_commas (next ∷ more) ++ end ≡ 44 ∷ (next ++ (behind_commas more ++ end)) = append_assoc (44 ∷ next) (behind_commas more) end in
    ap (next_record default_config st.InField cells field) text
    ∙ at-comma cells field (next ++ (behind_commas more ++ end))
    ∙ field-read (cells ++ field ∷ []) next (behind_commas more ++ end) plain.0.0 plain.0.1
    ∙ behind-read more (cells ++ field ∷ []) next end rest plain.1 ends
    ∙ ap (λ f. Some (f, st.StartRecord, rest)) (append_assoc cells (field ∷ []) (next ∷ more))

-- the digits of a number
digits-above : (digits : List ℕ) → AllDigits 10 digits → IsPlain digits
digits-above [] all = tt
digits-above (b ∷ digits) all = (omega (arith, digit_from_value b all.0), digits-above digits all.1)

digits-plain : (n : ℕ) → n < 2 ^ 64 → (0 < length (decimal n)) × IsPlain (decimal n)
digits-plain n small =
    let numeral = (decimal_is_IsNumeral n small).0 in
    (numeral.0, digits-above (decimal n) numeral.1)

numbers-plain : (ns : List ℕ) → AllByRecursion (λ n. n < 2 ^ 64) ns → AllByRecursion (λ f. (0 < length f) × IsPlain f) (map decimal ns)
numbers-plain [] small = tt
numbers-plain (n ∷ ns) small = (digits-plain n small.0, numbers-plain ns small.1)

-- a word has letters
word-plain : (o : Op) → (0 < length (op_word o)) × IsPlain (op_word o)
word-plain (op.New a b c) = (omega arith, (omega arith, (omega arith, (omega arith, tt))))
word-plain (op.Arr a b) = (omega arith, (omega arith, (omega arith, (omega arith, tt))))
word-plain (op.Store a b c) = (omega arith, (omega arith, (omega arith, (omega arith, (omega arith, (omega arith, tt))))))
word-plain (op.Load a b c) = (omega arith, (omega arith, (omega arith, (omega arith, (omega arith, tt)))))
word-plain (op.Put a b c) = (omega arith, (omega arith, (omega arith, (omega arith, tt))))
word-plain (op.Get a b) = (omega arith, (omega arith, (omega arith, (omega arith, tt))))
word-plain (op.GStore a b) = (omega arith, (omega arith, (omega arith, (omega arith, (omega arith, (omega arith, (omega arith, tt)))))))
word-plain (op.GLoad a b) = (omega arith, (omega arith, (omega arith, (omega arith, (omega arith, (omega arith, tt))))))
word-plain (op.Drop a) = (omega arith, (omega arith, (omega arith, (omega arith, (omega arith, tt)))))
word-plain op.Gc = (omega arith, (omega arith, (omega arith, tt)))

-- so a row's plain line is its record
pub line-read : (text : List ℕ) (r : Row) (rest : List ℕ) → BeginsWithLine text r rest
    → next_record default_config st.StartRecord [] [] text ≡ Some (fields r, st.StartRecord, rest)
line-read text r rest begins =
    let word = word-plain r.op in
    let cells = map decimal (r.thread ∷ op_numbers r.op) in
    let numbers = numbers-plain (r.thread ∷ op_numbers r.op) begins.numbers in
    ap (next_record default_config st.StartRecord [] []) (begins.line ∙ append_assoc (op_word r.op) (behind_commas cells) begins.end)
    ∙ first-read (op_word r.op) (behind_commas cells ++ begins.end) word.0 word.1
    ∙ behind-read cells [] (op_word r.op) begins.end rest numbers begins.ends

-- a text that does not begin with 0xEF has no byte order mark at its front
pub no-mark : (text : List ℕ) → (0 < length text → get_or text 0 0 ≢ 239) → strip_bom text ≡ text
unfolding strip_bom
no-mark [] other = refl
no-mark (a ∷ []) other = refl
no-mark (a ∷ b ∷ []) other = refl
no-mark (a ∷ b ∷ c ∷ rest) other = rw (ne_eqb a 239 (other (omega arith))) refl

-- after the last line there is no record
pub no-more : (text : List ℕ) → length text ≡ 0 → next_record default_config st.StartRecord [] [] text ≡ None
unfolding next_record
no-more [] none = refl
no-more (b ∷ text) none = absurd (omega (arith, none))
