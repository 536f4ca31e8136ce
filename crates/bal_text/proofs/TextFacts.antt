-- Texts, line by line.
use Rattle.std.proofs.Common.{◌≡◌, ℕ, ◌+◌, ◌<◌, ◌≤◌, List, [], ◌∷◌, ◌++◌, Option, Some, None, true, false, length, refl, ap, sym, subst, ◌∙◌, arith, append_assoc, length-append, map}
use Rattle.std.specs.Prelude.{◌==◌}
use Rattle.std.specs.List.{AllByRecursion}
use Rattle.std.proofs.lemmas.List.{append-nil, length-map}
use Rattle.std.proofs.lemmas.List.Concat.{flat_map-append}
use Rattle.bal_model.specs.declared.event.Event.{Event}
use Rattle.bal_model.specs.Entries.{Entry, entry_of}
use Rattle.bal_model.specs.Text.{line, journal_text}
use Rattle.bal_text.specs.Lines.{HasLine}
use Rattle.bal_text.specs.Grammar.{begin_at, collection_at, end_at, first_of, global_at, mark_at, note_at, partial_at, front_at, row_at}
use Rattle.bal_text.specs.Texts.{HasBadLine}
use Rattle.bal_text.proofs.LineParts.{body, line_parts}
use Rattle.bal_text.proofs.LineFacts.{first_again, first_back}

-- no text begins with two lines
line_once : (e f : Entry) (t u : List ℕ) → HasLine e → HasLine f → line e ++ t ≡ line f ++ u → (e ≡ f) × (t ≡ u)
line_once e f t u is are same =
    let found : ◌≡◌ {A = Option (Entry × List ℕ)} (Some (e, t)) (Some (f, u)) = sym (first_back e t is) ∙ ap first_of same ∙ first_back f u are in
    let parts : ◌≡◌ {A = Entry × List ℕ} (e, t) (f, u) = cc in
    (ap (λ (p : Entry × List ℕ). p.0) parts, ap (λ (p : Entry × List ℕ). p.1) parts)

-- a line is not empty
nothing_first : first_of [] ≡ None
unfolding first_of row_at front_at note_at collection_at partial_at begin_at mark_at end_at global_at
nothing_first = refl

line_some : (e : Entry) (t : List ℕ) → HasLine e → [] ≡ line e ++ t → ⊥
line_some e t is none =
    let found : ◌≡◌ {A = Option (Entry × List ℕ)} None (Some (e, t)) = sym nothing_first ∙ ap first_of none ∙ first_back e t is in
    cc

-- two journals of one text are the same
pub one_journal : (es fs : List Entry) → AllByRecursion HasLine es → AllByRecursion HasLine fs → journal_text es ≡ journal_text fs → es ≡ fs
one_journal [] [] is are same = refl
one_journal [] (f ∷ fs) is are same = absurd (line_some f (journal_text fs) are.0 same)
one_journal (e ∷ es) [] is are same = absurd (line_some e (journal_text es) is.0 (sym same))
one_journal (e ∷ es) (f ∷ fs) is are same =
    let first = line_once e f (journal_text es) (journal_text fs) is.0 are.0 same in
    let rest = one_journal es fs is.1 are.1 first.1 in
    let head : e ≡ f = first.0 in
    cc

-- no event's line begins the text
abbrev pub BeginsWithNone : List ℕ → Type 0
BeginsWithNone rest = (e : Entry) (after : List ℕ) → HasLine e → rest ≡ line e ++ after → ⊥

-- a journal has no bad line
pub no_bad_line : (es front : List Entry) (rest : List ℕ) → AllByRecursion HasLine es → AllByRecursion HasLine front → journal_text es ≡ journal_text front ++ rest
    → (rest ≡ [] → ⊥) → BeginsWithNone rest → ⊥
no_bad_line [] [] rest is are same more why = more (sym same)
no_bad_line (e ∷ es) [] rest is are same more why = why e (journal_text es) is.0 (sym same)
no_bad_line [] (f ∷ front) rest is are same more why = line_some f (journal_text front ++ rest) are.0 (same ∙ append_assoc (line f) (journal_text front) rest)
no_bad_line (e ∷ es) (f ∷ front) rest is are same more why =
    let first = line_once e f (journal_text es) (journal_text front ++ rest) is.0 are.0 (same ∙ append_assoc (line f) (journal_text front) rest) in
    no_bad_line es front rest is.1 are.1 first.1 more why

-- two texts that are the same have equally many lines in front of a bad one
pub same_front : (es fs : List Entry) (t u : List ℕ) → AllByRecursion HasLine es → AllByRecursion HasLine fs → journal_text es ++ t ≡ journal_text fs ++ u
    → BeginsWithNone t → BeginsWithNone u → length es ≡ length fs
same_front [] [] t u is are same one other = refl
same_front [] (f ∷ fs) t u is are same one other = absurd (one f (journal_text fs ++ u) are.0 (same ∙ append_assoc (line f) (journal_text fs) u))
same_front (e ∷ es) [] t u is are same one other = absurd (other e (journal_text es ++ t) is.0 (sym same ∙ append_assoc (line e) (journal_text es) t))
same_front (e ∷ es) (f ∷ fs) t u is are same one other =
    let first = line_once e f (journal_text es ++ t) (journal_text fs ++ u) is.0 are.0 (sym (append_assoc (line e) (journal_text es) t) ∙ same ∙ append_assoc (line f) (journal_text fs) u) in
    omega (arith, same_front es fs t u is.1 are.1 first.1 one other)

-- a text of which no first line is read begins with none
pub none_begins : (rest : List ℕ) → first_of rest ≡ None → BeginsWithNone rest
none_begins rest none e after is same =
    let clash : ◌≡◌ {A = Option (Entry × List ℕ)} None (Some (e, after)) = sym none ∙ ap first_of same ∙ first_back e after is in
    cc

-- some lines are read, and the rest is not
pub record IsReadTo (text : List ℕ) (entries : List Entry) (rest : List ℕ) : Type 0 where
  pub each : AllByRecursion HasLine entries
  pub spelled : text ≡ journal_text entries ++ rest
  pub few : length entries + length rest ≤ length text

-- what stands after a first line is shorter than the text
pub behind_shorter : (rest : List ℕ) (e : Entry) (behind : List ℕ) → first_of rest ≡ Some (e, behind) → length behind < length rest
behind_shorter rest e behind first =
    let is = first_again rest e behind first in
    omega (arith, ap length (is.1 ∙ line_parts e behind), length-append (body e) (10 ∷ behind))

-- one entry more
all_more : (es : List Entry) (e : Entry) → AllByRecursion HasLine es → HasLine e → AllByRecursion HasLine (es ++ e ∷ [])
all_more [] e all is = (is, tt)
all_more (f ∷ es) e all is = (all.0, all_more es e all.1 is)

-- one line more is read
pub read_more : (text : List ℕ) (es more : List Entry) (e : Entry) (rest behind : List ℕ) → IsReadTo text es rest → first_of rest ≡ Some (e, behind)
    → more ≡ es ++ e ∷ [] → IsReadTo text more behind
read_more text es more e rest behind so_far first grown =
    let is = first_again rest e behind first in
    let texts : journal_text (es ++ e ∷ []) ≡ journal_text es ++ line e = flat_map-append line es (e ∷ []) ∙ ap (λ l. journal_text es ++ l) (append-nil (line e)) in
    let spelled : text ≡ journal_text (es ++ e ∷ []) ++ behind =
    so_far.spelled ∙ ap (λ l. journal_text es ++ l) is.1 ∙ sym (append_assoc (journal_text es) (line e) behind) ∙ ap (λ l. l ++ behind) (sym texts) in
    let few = so_far.few in
    let shorter = behind_shorter rest e behind first in
    subst (λ l. IsReadTo text l behind) (sym grown) (record {
      each = all_more es e so_far.each is.0;
      spelled = spelled;
      few = omega (arith, length-append es (e ∷ []));
    })

-- the line after those that are read is no event's
pub bad_line : (text : List ℕ) (events : List Event) (rest : List ℕ) (n : ℕ) → IsReadTo text (map entry_of events) rest → n ≡ length events
    → false ≡ (length rest == 0) → BeginsWithNone rest → HasBadLine text (n + 1)
bad_line text events rest n so_far count some why = record {
  front = map entry_of events;
  rest = rest;
  each = so_far.each;
  spelled = so_far.spelled;
  number = ap (λ k. k + 1) (count ∙ sym (length-map events entry_of));
  more = λ none. let clash : false ≡ true = some ∙ ap (λ l. length l == 0) none in cc;
  why = why;
}
