-- Names, replies and operations, read and written.
use Rattle.std.proofs.Common.{◌≡◌, ℕ, ◌^◌, ◌<◌, ◌≤◌, List, [], ◌∷◌, ◌++◌, Option, Some, None, Bool, true, false, inl, inr, codes, map, refl, ap, sym, subst, ◌∙◌, arith, rules, tests, append_assoc, get_or}
use Rattle.std.specs.Prelude.{◌==◌, nat_lt, option_map, if◌then◌else◌}
use Rattle.std.specs.Char.{is_ascii_digit}
use Rattle.std.specs.Fmt.{decimal}
use Rattle.bal_layout.specs.declared.name.Name.{Name}
use Rattle.bal_model.specs.declared.row.Op.{Op}
use Rattle.bal_model.specs.declared.row.Op.TheVariants as op
use Rattle.bal_model.specs.declared.row.Reply.{Reply}
use Rattle.bal_model.specs.declared.row.Reply.TheVariants as reply
use Rattle.bal_model.specs.Spelling.{op_word, op_numbers, op_of, spelling, word_of}
use Rattle.bal_model.specs.Text.{name_word, reply_word, spaced}
use Rattle.bal_model.specs.declared.row.Word.{Word}
use Rattle.bal_model.specs.declared.row.Word.TheVariants as word
use Rattle.bal_text.specs.Lines.{IsName, IsReply, OpFits}
use Rattle.std.specs.Option.{option_or}
use Rattle.bal_text.specs.Grammar.{limits, name_at, name_from, number_at, numbered_reply_at, numbers_at, op_at, op_words, reply_at, reply_words, spaced_at, spaced_name_at, value_at, word_at, word_reply_at}
use Rattle.bal_text.specs.Readings.{after, behind, made, spelled}
use Rattle.bal_text.proofs.NumberFacts.{EndsNumber, IsBelow, no_value, reads_number, reads_value}
use Rattle.bal_text.proofs.Options.{and_then_some, map_some, or_some}
use Rattle.bal_text.proofs.Readings.{IsReading, reads_after, reads_made, spelled_again}

-- a number after a space
pub reads_spaced : (limit : ℕ) → limit ≤ 2 ^ 64 → IsReading EndsNumber (IsBelow limit) (λ n. 32 ∷ decimal n) (spaced_at limit)
reads_spaced limit small = reads_after (codes " ") (reads_number limit small)

-- the name of a thread's object
abbrev IsNameOf : ℕ → Name → Type 0
IsNameOf thread x = IsName x × (x.thread ≡ thread)

abbrev ordinal_word : Name → List ℕ
ordinal_word x = codes "." ++ decimal x.ordinal

reads_ordinal : IsReading EndsNumber (IsBelow (2 ^ 32)) (λ n. codes "." ++ decimal n) (after (codes ".") (number_at (2 ^ 32)))
reads_ordinal = reads_after (codes ".") (reads_number (2 ^ 32) (omega arith))

module _ (thread : ℕ) where
  abbrev named : ℕ → Name
  named n = record { thread = thread; ordinal = n }

  reads_named : thread < 2 ^ 32 → IsReading EndsNumber (IsNameOf thread) ordinal_word (made named (after (codes ".") (number_at (2 ^ 32))))
  reads_named small = reads_made named (IsNameOf thread) ordinal_word reads_ordinal (λ n is. ((small, is), refl)) (λ n. refl) each where
    each : (x : Name) → IsNameOf thread x → (n : ℕ) × (n < 2 ^ 32) × (named n ≡ x)
    each x is = (x.ordinal, is.0.1, ap (λ t. record { thread = t; ordinal = x.ordinal }) (sym is.1))

  from_back : (x : Name) (rest : List ℕ) → IsNameOf thread x → EndsNumber rest → name_from thread (ordinal_word x ++ rest) ≡ Some (x, rest)
  from_back x rest is ends =
      let small : thread < 2 ^ 32 = subst (λ t. t < 2 ^ 32) is.1 is.0.0 in
      let test : nat_lt thread (2 ^ 32) ≡ true = search (rules, tests, small) in
      rw test ((reads_named small).back x rest is ends)

  from_again : (text : List ℕ) (x : Name) (rest : List ℕ) → name_from thread text ≡ Some (x, rest) → IsNameOf thread x × (text ≡ ordinal_word x ++ rest)
  from_again text x rest e = by_test (nat_lt thread (2 ^ 32)) refl e where
    by_test : (t : Bool) → nat_lt thread (2 ^ 32) ≡ t → (if t then made named (after (codes ".") (number_at (2 ^ 32))) text else None) ≡ Some (x, rest)
        → IsNameOf thread x × (text ≡ ordinal_word x ++ rest)
    by_test true small e = (reads_named (search (rules, tests, small))).again text x rest e
    by_test false large e = cc

  -- after a thread's number
  reads_from : IsReading EndsNumber (IsNameOf thread) ordinal_word (name_from thread)
  reads_from = record { back = from_back; again = from_again }

  -- no name is there without its point
  from_none : (text : List ℕ) → behind (codes ".") text ≡ None → name_from thread text ≡ None
  from_none text none = by_test (nat_lt thread (2 ^ 32)) where
    by_test : (t : Bool) → (if t then made named (after (codes ".") (number_at (2 ^ 32))) text else None) ≡ None
    by_test true = rw none refl
    by_test false = refl

-- a name in its two parts
name_parts : (x : Name) (rest : List ℕ) → name_word x ++ rest ≡ decimal x.thread ++ (ordinal_word x ++ rest)
name_parts x rest = ap (λ l. l ++ rest) (append_assoc (decimal x.thread) (codes ".") (decimal x.ordinal)) ∙ append_assoc (decimal x.thread) (ordinal_word x) rest

name_back : (x : Name) (rest : List ℕ) → IsName x → EndsNumber rest → name_at (name_word x ++ rest) ≡ Some (x, rest)
unfolding name_at
name_back x rest is ends =
    rw (name_parts x rest, reads_value.back x.thread (ordinal_word x ++ rest) (omega (arith, is.0)) refl)
    ((reads_from x.thread).back x rest (is, refl) ends)

name_again : (text : List ℕ) (x : Name) (rest : List ℕ) → name_at text ≡ Some (x, rest) → IsName x × (text ≡ name_word x ++ rest)
unfolding name_at
name_again text x rest e =
    let (p, number, e1) = and_then_some _ (value_at text) (x, rest) e in
    let thread = reads_value.again text p.0 p.1 number in
    let is = (reads_from p.0).again p.1 x rest e1 in
    (is.0.0, thread.1 ∙ ap (λ l. decimal p.0 ++ l) is.1 ∙ ap (λ t. decimal t ++ (ordinal_word x ++ rest)) (sym is.0.1) ∙ sym (name_parts x rest))

-- names
pub reads_name : IsReading EndsNumber IsName name_word name_at
reads_name = record { back = name_back; again = name_again }

-- where no digit stands after a space there is neither a number nor a name
pub no_spaced : (limit : ℕ) (text : List ℕ) → EndsNumber text → spaced_at limit (32 ∷ text) ≡ None
no_spaced limit text ends = rw (no_value text ends) refl

pub no_spaced_name : (text : List ℕ) → EndsNumber text → spaced_name_at (32 ∷ text) ≡ None
unfolding spaced_name_at name_at
no_spaced_name text ends = rw (no_value text ends) refl

-- a reply ends where neither a digit nor a point stands
abbrev pub EndsReply : List ℕ → Type 0
EndsReply rest = EndsNumber rest × (behind (codes ".") rest ≡ None)

-- a number begins with a digit, and no word of a reply does
digit_first : (text : List ℕ) (n : ℕ) (rest : List ℕ) → value_at text ≡ Some (n, rest) → is_ascii_digit (get_or text 0 0) ≡ true
digit_first text n rest found = by_test (is_ascii_digit (get_or text 0 0)) refl where
  by_test : (t : Bool) → is_ascii_digit (get_or text 0 0) ≡ t → is_ascii_digit (get_or text 0 0) ≡ true
  by_test true e = e
  by_test false e =
      let clash : ◌≡◌ {A = Option (ℕ × List ℕ)} None (Some (n, rest)) = sym (no_value text e) ∙ found in
      cc

another : (b c : ℕ) → is_ascii_digit b ≡ true → is_ascii_digit c ≡ false → (b == c) ≡ false
another b c digit other = by_test (b == c) refl where
  by_test : (t : Bool) → (b == c) ≡ t → (b == c) ≡ false
  by_test true e =
      let same : b ≡ c = search (rules, tests) in
      let clash : true ≡ false = sym digit ∙ ap is_ascii_digit same ∙ other in
      cc
  by_test false e = e

no_word : (text : List ℕ) → is_ascii_digit (get_or text 0 0) ≡ true → spelled reply_word reply_words text ≡ None
no_word [] digit = cc
no_word (b ∷ text) digit = rw (another b 111 digit refl, another b 110 digit refl, another b 115 digit refl, another b 102 digit refl) refl

reply_back : (r : Reply) (rest : List ℕ) → IsReply r → EndsReply rest → reply_at (reply_word r ++ rest) ≡ Some (r, rest)
unfolding reply_at word_reply_at
reply_back (reply.Name x) rest is ends =
    let thread = reads_value.back x.thread (ordinal_word x ++ rest) (omega (arith, is.0)) refl in
    let word = no_word (decimal x.thread ++ (ordinal_word x ++ rest)) (digit_first _ _ _ thread) in
    rw (name_parts x rest, word, thread, (reads_from x.thread).back x rest (is, refl) ends.0) refl
reply_back (reply.Number n) rest is ends =
    let number = reads_value.back n rest is ends.0 in
    rw (no_word (decimal n ++ rest) (digit_first _ _ _ number), number, from_none n rest ends.1) refl
reply_back r rest is ends = refl

abbrev IsReplyAt : List ℕ → Reply × List ℕ → Type 0
IsReplyAt text z = IsReply z.0 × (text ≡ reply_word z.0 ++ z.1)

numbered_parts : (text : List ℕ) (p : ℕ × List ℕ) (z : Reply × List ℕ) (o : Option (Name × List ℕ)) → (p.0 < 2 ^ 64) × (text ≡ decimal p.0 ++ p.1) → name_from p.0 p.1 ≡ o
    → option_or (option_map (λ q. (reply.Name q.0, q.1)) o) (Some (reply.Number p.0, p.1)) ≡ Some z → IsReplyAt text z
numbered_parts text p z None is found e =
    let same : ◌≡◌ {A = Reply × List ℕ} (reply.Number p.0, p.1) z = cc in
    subst (IsReplyAt text) same is
numbered_parts text p z (Some q) is found e =
    let same : ◌≡◌ {A = Reply × List ℕ} (reply.Name q.0, q.1) z = cc in
    let name = (reads_from p.0).again p.1 q.0 q.1 found in
    let whole : text ≡ name_word q.0 ++ q.1 =
    is.1 ∙ ap (λ l. decimal p.0 ++ l) name.1 ∙ ap (λ t. decimal t ++ (ordinal_word q.0 ++ q.1)) (sym name.0.1) ∙ sym (name_parts q.0 q.1) in
    subst (IsReplyAt text) same (name.0.0, whole)

numbered_again : (text : List ℕ) (r : Reply) (rest : List ℕ) → numbered_reply_at text ≡ Some (r, rest) → IsReply r × (text ≡ reply_word r ++ rest)
numbered_again text r rest e =
    let (p, number, found) = and_then_some _ (value_at text) (r, rest) e in
    numbered_parts text p (r, rest) (name_from p.0 p.1) (reads_value.again text p.0 p.1 number) refl found

reply_again : (text : List ℕ) (r : Reply) (rest : List ℕ) → reply_at text ≡ Some (r, rest) → IsReply r × (text ≡ reply_word r ++ rest)
unfolding reply_at word_reply_at
reply_again text r rest e =
    elim (or_some _ _ (r, rest) e) [
      | inl word ↦ spelled_again reply_word IsReply reply_words (tt, (tt, (tt, (tt, (tt, tt))))) text r rest word
      | inr numbered ↦ numbered_again text r rest numbered
    ]

-- replies
pub reads_reply : IsReading EndsReply IsReply reply_word reply_at
reads_reply = record { back = reply_back; again = reply_again }

-- numbers, each below its limit
abbrev AllBelow : List ℕ → List ℕ → Type 0
AllBelow [] [] = Unit {0}
AllBelow (l ∷ ls) (n ∷ ns) = (n < l) × AllBelow ls ns
AllBelow ls ns = ⊥

abbrev AllSmall : List ℕ → Type 0
AllSmall [] = Unit {0}
AllSmall (l ∷ ls) = (l ≤ 2 ^ 64) × AllSmall ls

abbrev number_words : List ℕ → List ℕ
number_words ns = spaced (map decimal ns)

numbers_begin : (ns : List ℕ) (rest : List ℕ) → EndsNumber rest → EndsNumber (number_words ns ++ rest)
numbers_begin [] rest ends = ends
numbers_begin (n ∷ ns) rest ends = refl

numbers_back : (ls : List ℕ) → AllSmall ls → (ns : List ℕ) (rest : List ℕ) → AllBelow ls ns → EndsNumber rest → numbers_at ls (number_words ns ++ rest) ≡ Some (ns, rest)
numbers_back [] small [] rest is ends = refl
numbers_back [] small (n ∷ ns) rest is ends = absurd is
numbers_back (l ∷ ls) small [] rest is ends = absurd is
numbers_back (l ∷ ls) small (n ∷ ns) rest is ends =
    rw (append_assoc (decimal n) (number_words ns) rest, (reads_number l small.0).back n (number_words ns ++ rest) is.0 (numbers_begin ns rest ends), numbers_back ls small.1 ns rest is.1 ends) refl

numbers_again : (ls : List ℕ) → AllSmall ls → (text : List ℕ) (ns : List ℕ) (rest : List ℕ) → numbers_at ls text ≡ Some (ns, rest) → AllBelow ls ns × (text ≡ number_words ns ++ rest)
numbers_again [] small text ns rest e =
    let same : ◌≡◌ {A = List ℕ × List ℕ} ([], text) (ns, rest) = cc in
    subst (λ (z : List ℕ × List ℕ). AllBelow [] z.0 × (text ≡ number_words z.0 ++ z.1)) same (tt, refl)
numbers_again (l ∷ ls) small text ns rest e =
    let (p, found, same) = map_some _ _ (ns, rest) e in
    let (q, first, e1) = and_then_some _ (spaced_at l text) p found in
    let (t, later, joined) = map_some _ (numbers_at ls q.1) p e1 in
    let one = (reads_spaced l small.0).again text q.0 q.1 first in
    let more = numbers_again ls small.1 q.1 t.0 t.1 later in
    let whole : text ≡ number_words (q.0 ∷ t.0) ++ t.1 = one.1 ∙ ap (λ l. 32 ∷ (decimal q.0 ++ l)) more.1 ∙ ap (λ l. 32 ∷ l) (sym (append_assoc (decimal q.0) (number_words t.0) t.1)) in
    let both : ◌≡◌ {A = List ℕ × List ℕ} (q.0 ∷ t.0, t.1) (ns, rest) = ap (λ (z : (ℕ × List ℕ) × List ℕ). (z.0.0 ∷ z.0.1, z.1)) joined ∙ same in
    subst (λ (z : List ℕ × List ℕ). AllBelow (l ∷ ls) z.0 × (text ≡ number_words z.0 ++ z.1)) both ((one.0, more.0), whole)

all_small : (w : Word) → AllSmall (limits w)
all_small word.New = (omega arith, (omega arith, (omega arith, tt)))
all_small word.Arr = (omega arith, (omega arith, tt))
all_small word.Store = (omega arith, (omega arith, (omega arith, tt)))
all_small word.Load = (omega arith, (omega arith, (omega arith, tt)))
all_small word.Put = (omega arith, (omega arith, (omega arith, tt)))
all_small word.Get = (omega arith, (omega arith, tt))
all_small word.GStore = (omega arith, (omega arith, tt))
all_small word.GLoad = (omega arith, (omega arith, tt))
all_small word.Drop = (omega arith, tt)
all_small word.Gc = tt

-- an operation's word and numbers, after a space
abbrev pub op_words_of : Op → List ℕ
op_words_of o = 32 ∷ (op_word o ++ number_words (op_numbers o))

word_back : (o : Op) (rest : List ℕ) → word_at (32 ∷ (op_word o ++ rest)) ≡ Some (word_of o, rest)
unfolding word_at
word_back op.Gc rest = refl
word_back o rest = refl

fits_below : (o : Op) → OpFits o → AllBelow (limits (word_of o)) (op_numbers o)
fits_below (op.Put a b c) is = (is.0, (is.1, (is.2, tt)))
fits_below op.Gc is = tt
fits_below o is = is

of_back : (o : Op) → op_of (word_of o) (op_numbers o) ≡ Some o
of_back op.Gc = refl
of_back o = refl

op_back : (o : Op) (rest : List ℕ) → OpFits o → EndsNumber rest → op_at (op_words_of o ++ rest) ≡ Some (o, rest)
unfolding op_at
op_back o rest is ends =
    rw (
      append_assoc (op_word o) (number_words (op_numbers o)) rest,
      word_back o (number_words (op_numbers o) ++ rest),
      numbers_back (limits (word_of o)) (all_small (word_of o)) (op_numbers o) rest (fits_below o is) ends,
      of_back o,
    ) refl

-- what a word and its numbers tell of their operation
abbrev IsOpOf : Word → List ℕ → Op → Type 0
IsOpOf w ns o = OpFits o × (spelling w ≡ op_word o) × (ns ≡ op_numbers o)

of_again : (w : Word) (ns : List ℕ) (o : Op) → AllBelow (limits w) ns → op_of w ns ≡ Some o → IsOpOf w ns o
of_again word.New (a ∷ b ∷ c ∷ []) o is e = let same : op.New a b c ≡ o = cc in subst (IsOpOf word.New (a ∷ b ∷ c ∷ [])) same (is, refl, refl)
of_again word.Arr (a ∷ b ∷ []) o is e = let same : op.Arr a b ≡ o = cc in subst (IsOpOf word.Arr (a ∷ b ∷ [])) same (is, refl, refl)
of_again word.Store (a ∷ b ∷ c ∷ []) o is e = let same : op.Store a b c ≡ o = cc in subst (IsOpOf word.Store (a ∷ b ∷ c ∷ [])) same (is, refl, refl)
of_again word.Load (a ∷ b ∷ c ∷ []) o is e = let same : op.Load a b c ≡ o = cc in subst (IsOpOf word.Load (a ∷ b ∷ c ∷ [])) same (is, refl, refl)
of_again word.Put (a ∷ b ∷ c ∷ []) o is e =
    let same : op.Put a b c ≡ o = cc in subst (IsOpOf word.Put (a ∷ b ∷ c ∷ [])) same ((is.0, is.1.0, is.1.1.0), refl, refl)
of_again word.Get (a ∷ b ∷ []) o is e = let same : op.Get a b ≡ o = cc in subst (IsOpOf word.Get (a ∷ b ∷ [])) same (is, refl, refl)
of_again word.GStore (a ∷ b ∷ []) o is e = let same : op.GStore a b ≡ o = cc in subst (IsOpOf word.GStore (a ∷ b ∷ [])) same (is, refl, refl)
of_again word.GLoad (a ∷ b ∷ []) o is e = let same : op.GLoad a b ≡ o = cc in subst (IsOpOf word.GLoad (a ∷ b ∷ [])) same (is, refl, refl)
of_again word.Drop (a ∷ []) o is e = let same : op.Drop a ≡ o = cc in subst (IsOpOf word.Drop (a ∷ [])) same (is, refl, refl)
of_again word.Gc [] o is e = let same : op.Gc ≡ o = cc in subst (IsOpOf word.Gc []) same (tt, refl, refl)
of_again w ns o is e = cc

op_again : (text : List ℕ) (o : Op) (rest : List ℕ) → op_at text ≡ Some (o, rest) → OpFits o × (text ≡ op_words_of o ++ rest)
unfolding op_at word_at
op_again text o rest e =
    let (p, front, e1) = and_then_some _ (word_at text) (o, rest) e in
    let (q, later, e2) = and_then_some _ (numbers_at (limits p.0) p.1) (o, rest) e1 in
    let (x, found, same) = map_some _ (op_of p.0 q.0) (o, rest) e2 in
    let word = (spelled_again (λ w. 32 ∷ spelling w) (λ w. Unit {0}) op_words (tt, (tt, (tt, (tt, (tt, (tt, (tt, (tt, (tt, (tt, tt)))))))))) text p.0 p.1 front).1 in
    let numbers = numbers_again (limits p.0) (all_small p.0) p.1 q.0 q.1 later in
    let is = of_again p.0 q.0 x numbers.0 found in
    let whole : text ≡ op_words_of x ++ q.1 =
    word ∙ ap (λ l. 32 ∷ (l ++ p.1)) is.1 ∙ ap (λ l. 32 ∷ (op_word x ++ l)) (numbers.1 ∙ ap (λ ns. number_words ns ++ q.1) is.2)
    ∙ ap (λ l. 32 ∷ l) (sym (append_assoc (op_word x) (number_words (op_numbers x)) q.1)) in
    subst (λ (z : Op × List ℕ). OpFits z.0 × (text ≡ op_words_of z.0 ++ z.1)) same (is.0, whole)

-- operations
pub reads_op : IsReading EndsNumber OpFits op_words_of op_at
reads_op = record { back = op_back; again = op_again }
