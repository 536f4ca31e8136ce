-- How the fields of a record spell a row.
use Rattle.std.proofs.Common.{◌≡◌, ◌+◌, ◌<◌, ◌^◌, ◌∷◌, Bool, true, false, ℕ, List, [], Option, Some, zero, suc, length, map, get_or, set, take, drop, refl, ap, sym, ◌∙◌, arith, length-drop}
use Rattle.std.specs.Prelude.{All, find, ◌==◌, ◌&&◌}
use Rattle.std.specs.List.{AllByRecursion}
use Rattle.std.specs.Fmt.{decimal}
use Rattle.std.proofs.lemmas.Fmt.{decimal_injective}
use Rattle.std.proofs.lemmas.List.{get_or-drop, length-map, map-append, take_more, take_more_set}
use Rattle.csv.specs.Records.{field_at}
use Rattle.bal_layout.specs.Shape.{Shape, largest_of}
use Rattle.bal_model.specs.declared.row.Op.{Op}
use Rattle.bal_model.specs.declared.row.Op.TheVariants as op
use Rattle.bal_model.specs.declared.row.Row.{Row}
use Rattle.bal_model.specs.Spelling.{IsOp, IsRow, fields, op_numbers, op_word, spelling, word_of}
use Rattle.bal_rows.specs.Causes.{BeginsWith, Spells, count_behind}
use Rattle.bal_rows.specs.Words.{count_of, op_from, row_from}
use Rattle.bal_model.specs.declared.row.Word.{Word}
use Rattle.bal_model.specs.declared.row.Word.TheVariants as word

-- a word's operation is spelled so
pub word-from : (w : Word) (a b c : ℕ) → word_of (op_from w a b c) ≡ w
word-from word.Gc a b c = refl
word-from w a b c = refl

-- and takes as many numbers
pub count-from : (w : Word) (a b c : ℕ) → count_behind (op_from w a b c) ≡ count_of w
count-from word.Gc a b c = refl
count-from w a b c = refl

-- an operation is that of its word and its numbers
op_from-numbers : (o : Op) → op_from (word_of o) (get_or (op_numbers o) 0 0) (get_or (op_numbers o) 1 0) (get_or (op_numbers o) 2 0) ≡ o
op_from-numbers op.Gc = refl
op_from-numbers o = refl

abbrev pub same_bytes : List ℕ → List ℕ → Bool
same_bytes [] [] = true
same_bytes [] (y ∷ ys) = false
same_bytes (x ∷ xs) [] = false
same_bytes (x ∷ xs) (y ∷ ys) = (x == y) && same_bytes xs ys

-- the word that is spelled so
abbrev pub word_at : List ℕ → Option Word
word_at bytes = find (λ w. same_bytes (spelling w) bytes) (word.New ∷ word.Arr ∷ word.Store ∷ word.Load ∷ word.Put ∷ word.Get ∷ word.GStore ∷ word.GLoad ∷ word.Drop ∷ word.Gc ∷ [])

pub word_at-spelling : (w : Word) → word_at (spelling w) ≡ Some w
word_at-spelling word.Gc = refl
word_at-spelling w = refl

spelling_injective : (w v : Word) → spelling w ≡ spelling v → w ≡ v
spelling_injective w v e =
    let same : Some w ≡ Some v = sym (word_at-spelling w) ∙ ap word_at e ∙ word_at-spelling v in
    cc

pub fields-row_from : (w : Word) (t a b c : ℕ) → fields (row_from w t a b c) ≡ spelling w ∷ map decimal (take (count_of w) (t ∷ a ∷ b ∷ c ∷ []))
fields-row_from word.Gc t a b c = refl
fields-row_from w t a b c = refl

count-word_of : (o : Op) → count_behind o ≡ count_of (word_of o)
count-word_of op.Gc = refl
count-word_of o = refl

-- operations with one word have as many fields after it
pub same_count : (o p : Op) → op_word o ≡ op_word p → count_behind o ≡ count_behind p
same_count o p words =
    let kinds = spelling_injective (word_of o) (word_of p) (words) in
    count-word_of o ∙ ap count_of kinds ∙ sym (count-word_of p)

-- each number of the row fits 64 bits
abbrev pub IsSmall : Row → Type 0
IsSmall r = AllByRecursion (λ n. n < 2 ^ 64) (r.thread ∷ op_numbers r.op)

IsSmall-op : (s : Shape) (o : Op) → largest_of s < 2 ^ 32 → IsOp s o → AllByRecursion (λ n. n < 2 ^ 64) (op_numbers o)
IsSmall-op s (op.New a b c) small h = (omega (arith, h.0), (omega (arith, h.1), (omega (arith, h.1), tt)))
IsSmall-op s (op.Arr a b) small h = (omega (arith, h.0), (omega (arith, h.1), tt))
IsSmall-op s (op.Store a b c) small h = (omega (arith, h.0), (omega (arith, h.1), (omega (arith, h.2), tt)))
IsSmall-op s (op.Load a b c) small h = (omega (arith, h.0), (omega (arith, h.1), (omega (arith, h.2), tt)))
IsSmall-op s (op.Put a b c) small h = (omega (arith, h.0), (omega (arith, h.1), (h.2, tt)))
IsSmall-op s (op.Get a b) small h = (omega (arith, h.0), (omega (arith, h.1), tt))
IsSmall-op s (op.GStore a b) small h = (omega (arith, h.0), (omega (arith, h.1), tt))
IsSmall-op s (op.GLoad a b) small h = (omega (arith, h.0), (omega (arith, h.1), tt))
IsSmall-op s (op.Drop a) small h = (omega arith, tt)
IsSmall-op s op.Gc small h = tt

pub IsSmall-row : (s : Shape) (r : Row) → largest_of s < 2 ^ 32 → IsRow s r → IsSmall r
IsSmall-row s r small h = (omega (arith, h.0), IsSmall-op s r.op small h.1)

pub IsSmall-row_from : (w : Word) (t a b c : ℕ) → t < 2 ^ 64 → a < 2 ^ 64 → b < 2 ^ 64 → c < 2 ^ 64 → IsSmall (row_from w t a b c)
IsSmall-row_from word.New t a b c h i j k = (h, (i, (j, (k, tt))))
IsSmall-row_from word.Arr t a b c h i j k = (h, (i, (j, tt)))
IsSmall-row_from word.Store t a b c h i j k = (h, (i, (j, (k, tt))))
IsSmall-row_from word.Load t a b c h i j k = (h, (i, (j, (k, tt))))
IsSmall-row_from word.Put t a b c h i j k = (h, (i, (j, (k, tt))))
IsSmall-row_from word.Get t a b c h i j k = (h, (i, (j, tt)))
IsSmall-row_from word.GStore t a b c h i j k = (h, (i, (j, tt)))
IsSmall-row_from word.GLoad t a b c h i j k = (h, (i, (j, tt)))
IsSmall-row_from word.Drop t a b c h i j k = (h, (i, tt))
IsSmall-row_from word.Gc t a b c h i j k = (h, tt)

-- numbers that fit are spelled in one way
decimals_injective : (ns ms : List ℕ) → AllByRecursion (λ n. n < 2 ^ 64) ns → AllByRecursion (λ n. n < 2 ^ 64) ms → map decimal ns ≡ map decimal ms → ns ≡ ms
decimals_injective [] [] h i e = refl
decimals_injective [] (m ∷ ms) h i e = cc
decimals_injective (n ∷ ns) [] h i e = cc
decimals_injective (n ∷ ns) (m ∷ ms) h i e =
    let heads : decimal n ≡ decimal m = cc in
    let tails : map decimal ns ≡ map decimal ms = cc in
    let first = decimal_injective n m h.0 i.0 heads in
    let others = decimals_injective ns ms h.1 i.1 tails in
    cc

same_op : (o p : Op) → word_of o ≡ word_of p → op_numbers o ≡ op_numbers p → o ≡ p
same_op o p kinds numbers = sym (op_from-numbers o) ∙ rw (kinds, numbers) (op_from-numbers p)

same_row : (t u : ℕ) (o p : Op) → t ≡ u → o ≡ p → ◌≡◌ {A = Row} (record { thread = t; op = o }) (record { thread = u; op = p })
same_row t u o p threads ops = cc

-- so no two rows are spelled alike
pub fields_injective : (r q : Row) → IsSmall r → IsSmall q → fields r ≡ fields q → r ≡ q
fields_injective r q small_r small_q e =
    let words : op_word r.op ≡ op_word q.op = cc in
    let kinds = spelling_injective (word_of r.op) (word_of q.op) (words) in
    let behind : map decimal (r.thread ∷ op_numbers r.op) ≡ map decimal (q.thread ∷ op_numbers q.op) = cc in
    let numbers = decimals_injective (r.thread ∷ op_numbers r.op) (q.thread ∷ op_numbers q.op) small_r small_q behind in
    let threads : r.thread ≡ q.thread = cc in
    let others : op_numbers r.op ≡ op_numbers q.op = cc in
    same_row r.thread q.thread r.op q.op threads (same_op r.op q.op kinds others)

-- one field more is read
pub read_more : (fs : List (List ℕ)) (ns : List ℕ) (i n : ℕ) → i + 1 < length fs → i < length ns → get_or fs (i + 1) [] ≡ decimal n
    → take i (drop 1 fs) ≡ map decimal (take i ns) → take (i + 1) (drop 1 fs) ≡ map decimal (take (i + 1) (set ns i n))
read_more fs ns i n within room e so_far =
    let behind = length-drop 1 fs in
    let at : get_or (drop 1 fs) i [] ≡ decimal n = get_or-drop 1 fs i [] ∙ ap (λ k. get_or fs k []) (omega arith) ∙ e in
    let more = take_more (drop 1 fs) i [] (omega arith) in
    let new = take_more_set ns i n room in
    more ∙ rw (so_far, at) (sym (ap (map decimal) new ∙ map-append decimal (take i ns) (n ∷ [])))

-- a field that is there is read, whatever stands for one that is not
pub field-is : (fields : List (List ℕ)) (i : ℕ) (field other : List ℕ) → field_at fields i ≡ Some field → get_or fields i other ≡ field
unfolding field_at
field-is [] i field other e = cc
field-is (f ∷ fs) zero field other e = cc
field-is (f ∷ fs) (suc i) field other e = field-is fs i field other e

pub field-some : (fields : List (List ℕ)) (field : List ℕ) → field_at fields 0 ≡ Some field → 0 < length fields
unfolding field_at
field-some [] field e = cc
field-some (f ∷ fs) field e = omega arith

-- the record has this word, and these numbers after it
pub record IsRead (fs : List (List ℕ)) (w : Word) (ns : List ℕ) : Type 0 where
  pub some : 0 < length fs
  pub head : get_or fs 0 [] ≡ spelling w
  pub four : length ns ≡ 4
  pub small : All (λ n. n < 2 ^ 64) ns
  pub behind : drop 1 fs ≡ map decimal (take (count_of w) ns)

-- the row of a word and its numbers
abbrev pub row_read : Word → List ℕ → Row
row_read w ns = row_from w (get_or ns 0 0) (get_or ns 1 0) (get_or ns 2 0) (get_or ns 3 0)

-- it is spelled by the record
pub fields-read : (fs : List (List ℕ)) (w : Word) (ns : List ℕ) → 0 < length fs → get_or fs 0 [] ≡ spelling w → length ns ≡ 4
    → drop 1 fs ≡ map decimal (take (count_of w) ns) → fs ≡ fields (row_read w ns)
fields-read [] w ns some head four behind = absurd (omega arith)
fields-read (f ∷ fs) w [] some head four behind = absurd (omega arith)
fields-read (f ∷ fs) w (t ∷ []) some head four behind = absurd (omega arith)
fields-read (f ∷ fs) w (t ∷ a ∷ []) some head four behind = absurd (omega arith)
fields-read (f ∷ fs) w (t ∷ a ∷ b ∷ []) some head four behind = absurd (omega arith)
fields-read (f ∷ fs) w (t ∷ a ∷ b ∷ c ∷ []) some head four behind = let e = fields-row_from w t a b c in cc
fields-read (f ∷ fs) w (t ∷ a ∷ b ∷ c ∷ d ∷ ds) some head four behind = absurd (omega arith)

-- with numbers of 64 bits
pub spells-read : (fs : List (List ℕ)) (w : Word) (ns : List ℕ) → IsRead fs w ns → Spells fs (row_read w ns)
spells-read fs w ns read =
    let four = read.four in
    record {
      spelled = fields-read fs w ns read.some read.head read.four read.behind;
      numbers = IsSmall-row_from w _ _ _ _ (read.small 0 0 (omega arith)) (read.small 1 0 (omega arith)) (read.small 2 0 (omega arith)) (read.small 3 0 (omega arith));
    }

-- the word is the first field, and the numbers are those after it
pub is-read : (fs : List (List ℕ)) (field : List ℕ) (w : Word) (ns : List ℕ) (count : ℕ) → field_at fs 0 ≡ Some field → field ≡ spelling w → count ≡ count_of w
    → (length ns ≡ 4) × All (λ n. n < 2 ^ 64) ns × (drop 1 fs ≡ map decimal (take count ns)) → IsRead fs w ns
is-read fs field w ns count at word same numbers = record {
  some = field-some fs field at;
  head = field-is fs 0 field [] at ∙ word;
  four = numbers.0;
  small = numbers.1;
  behind = numbers.2 ∙ ap (λ k. map decimal (take k ns)) same;
}

-- a record with a field is its first field and those after it
pub cut-first : (fs : List (List ℕ)) → 0 < length fs → fs ≡ get_or fs 0 [] ∷ drop 1 fs
cut-first [] some = absurd (omega arith)
cut-first (f ∷ fs) some = refl

-- a record that begins with a word begins with its operations
abbrev pub begins : (fs : List (List ℕ)) (w : Word) → 0 < length fs → get_or fs 0 [] ≡ spelling w → BeginsWith fs (op_from w 0 0 0)
begins fs w some head = record {
  behind = drop 1 fs;
  begins = cut-first fs some ∙ ap (λ f. f ∷ drop 1 fs) (head ∙ ap spelling (sym (word-from w 0 0 0)));
}

-- a record that begins with an operation has its word first
pub first-word : (fs : List (List ℕ)) (o : Op) → BeginsWith fs o → (0 < length fs) × (get_or fs 0 [] ≡ spelling (word_of o))
first-word fs o b = (omega (arith, ap length b.begins), ap (λ l. get_or l 0 []) b.begins)

-- a row's fields begin with its operation
pub begins-row : (cells : List (List ℕ)) (r : Row) → cells ≡ fields r → BeginsWith cells r.op
begins-row cells r e = record { behind = map decimal (r.thread ∷ op_numbers r.op); begins = e }

-- and are as many as it wants
pub length-behind : (cells : List (List ℕ)) (r : Row) (o : Op) (b : BeginsWith cells o) → cells ≡ fields r
    → (b.behind ≡ map decimal (r.thread ∷ op_numbers r.op)) × (length b.behind ≡ count_behind o)
length-behind cells r o b e =
    let words : op_word o ≡ op_word r.op = ap (λ l. get_or l 0 []) (sym b.begins ∙ e) in
    let behind : b.behind ≡ map decimal (r.thread ∷ op_numbers r.op) = ap (drop 1) (sym b.begins ∙ e) in
    (behind, omega (arith, ap length behind, length-map (r.thread ∷ op_numbers r.op) decimal, same_count o r.op words))
