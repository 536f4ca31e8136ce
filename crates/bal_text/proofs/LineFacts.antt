-- Lines, read and written.
use Rattle.std.proofs.Common.{◌≡◌, ℕ, ◌^◌, ◌<◌, List, [], ◌∷◌, ◌++◌, Option, Some, None, inl, inr, codes, map, refl, ap, sym, subst, ◌∙◌, arith, append_assoc, append-nil}
use Rattle.std.specs.Prelude.{nat_lt}
use Rattle.std.specs.Fmt.{decimal}
use Rattle.std.specs.List.{AllByRecursion}
use Rattle.bal_layout.specs.declared.name.Abort.{Abort}
use Rattle.bal_layout.specs.declared.name.Name.{Name}
use Rattle.bal_model.specs.declared.event.Kept.{Kept}
use Rattle.bal_model.specs.declared.event.Packed.{Packed}
use Rattle.bal_model.specs.Entries.{Entry, row, note, partial, begin, mark, end, global}
use Rattle.bal_layout.specs.Names.{is_before}
use Rattle.bal_model.specs.Text.{abort_words, kept_word, line, name_word, name_words, packed_word, spaced}
use Rattle.bal_text.specs.Lines.{HasLine, IsCause, IsKept, IsName, IsPacked, IsRegion, IsRising, IsSmall, is_cause_before, is_kept_before}
use Rattle.std.specs.Option.{option_or}
use Rattle.bal_text.specs.Grammar.{aborts_at, begin_at, cause_at, collection_at, end_at, first_of, front_at, global_at, kept_at, mark_at, note_at, packed_at, partial_at, row_at, scans_at, spaced_at, spaced_name_at}
use Rattle.bal_text.specs.Readings.{after, behind, ended, followed, items, made, rising}
use Rattle.bal_text.proofs.ItemFacts.{EndsAborts, EndsList, reads_aborts, reads_chosen, reads_dead, reads_kepts, reads_names, reads_packeds, reads_spaced_name}
use Rattle.bal_text.proofs.LineParts.{spaced_two}
use Rattle.bal_text.proofs.NumberFacts.{EndsNumber}
use Rattle.bal_text.proofs.Options.{and_then_some, map_some, or_some}
use Rattle.bal_text.proofs.PieceFacts.{no_spaced, no_spaced_name, reads_spaced}
use Rattle.bal_text.proofs.Readings.{Anything, IsReading, behind_again, reads_after, reads_before, reads_ended, reads_followed}
use Rattle.bal_text.proofs.RowFacts.{row_again, row_back}

abbrev IsFirst : List ℕ → Entry × List ℕ → Type 0
IsFirst text z = HasLine z.0 × (text ≡ line z.0 ++ z.1)

-- the line of a kind of events, which are made of what is read before the line feed
module _ {A : Type 0} {Ends : List ℕ → Type 0} {Is : A → Type 0} {write : A → List ℕ} {read : List ℕ → Option (A × List ℕ)} (r : IsReading Ends Is write read)
    (make : A → Entry) (ends : (rest : List ℕ) → Ends (10 ∷ rest)) (spells : (x : A) → write x ++ codes "\n" ≡ line (make x)) where
  made_line_back : (x : A) (rest : List ℕ) → Is x → ended (codes "\n") (made make read) (line (make x) ++ rest) ≡ Some (make x, rest)
  made_line_back x rest is =
      let front : line (make x) ++ rest ≡ write x ++ 10 ∷ rest = ap (λ l. l ++ rest) (sym (spells x)) ∙ append_assoc (write x) (codes "\n") rest in
      ap (ended (codes "\n") (made make read)) front ∙ rw (r.back x (10 ∷ rest) is (ends rest)) refl

  made_line_again : ((x : A) → Is x → HasLine (make x)) → (text : List ℕ) (e : Entry) (rest : List ℕ) → ended (codes "\n") (made make read) text ≡ Some (e, rest) → IsFirst text (e, rest)
  made_line_again fits text e rest found =
      let (m, built, e1) = and_then_some _ (made make read text) (e, rest) found in
      let (after, bare, same) = map_some _ (behind (codes "\n") m.1) (e, rest) e1 in
      let (p, piece, of) = map_some _ (read text) m built in
      let is = r.again text p.0 p.1 piece in
      let end : p.1 ≡ 10 ∷ after = ap (λ (z : Entry × List ℕ). z.1) of ∙ behind_again (codes "\n") m.1 after bare in
      let entry : make p.0 ≡ m.0 = ap (λ (z : Entry × List ℕ). z.0) of in
      let whole : text ≡ line (make p.0) ++ after =
      is.1 ∙ ap (λ l. write p.0 ++ l) end ∙ sym (append_assoc (write p.0) (codes "\n") after) ∙ ap (λ l. l ++ after) (spells p.0) in
      let joined : ◌≡◌ {A = Entry × List ℕ} (make p.0, after) (e, rest) = ap (λ (x : Entry). (x, after)) entry ∙ same in
      subst (IsFirst text) joined (fits p.0 is.0, whole)

-- notes
abbrev Noted : Type 0
Noted = ℕ × (ℕ × (Name × ℕ))

abbrev noted : Noted → Entry
noted p = note p.0 p.1.0 p.1.1.0 p.1.1.1

abbrev IsNoted : Noted → Type 0
IsNoted p = IsRegion p.0 × ((p.1.0 < 2 ^ 18) × (IsName p.1.1.0 × IsSmall p.1.1.1))

abbrev note_words : Noted → List ℕ
note_words p = codes "note" ++ ((32 ∷ decimal p.0) ++ ((32 ∷ decimal p.1.0) ++ ((32 ∷ name_word p.1.1.0) ++ (32 ∷ decimal p.1.1.1))))

reads_note : IsReading EndsNumber IsNoted note_words (after (codes "note") (followed (spaced_at 2047) (followed (spaced_at (2 ^ 18)) (followed spaced_name_at (spaced_at (2 ^ 32))))))
reads_note =
    reads_after (codes "note") (reads_followed (reads_spaced 2047 (omega arith)) (reads_followed (reads_spaced (2 ^ 18) (omega arith))
    (reads_followed reads_spaced_name (reads_spaced (2 ^ 32) (omega arith)) (λ y rest is ends. refl)) (λ y rest is ends. refl)) (λ y rest is ends. refl))

note_spells : (p : Noted) → note_words p ++ codes "\n" ≡ line (noted p)
unfolding line
note_spells p = ap (λ l. (codes "note" ++ ((32 ∷ decimal p.0) ++ ((32 ∷ decimal p.1.0) ++ ((32 ∷ name_word p.1.1.0) ++ l)))) ++ codes "\n") (sym (append-nil (32 ∷ decimal p.1.1.1)))

note_back : (p : Noted) (rest : List ℕ) → IsNoted p → note_at (line (noted p) ++ rest) ≡ Some (noted p, rest)
unfolding note_at
note_back = made_line_back reads_note noted (λ rest. refl) note_spells

note_again : (text : List ℕ) (e : Entry) (rest : List ℕ) → note_at text ≡ Some (e, rest) → IsFirst text (e, rest)
unfolding note_at
note_again = made_line_again reads_note noted (λ rest. refl) note_spells (λ p is. record { is_region = is.0; is_card = is.1.0; is_holder = is.1.1.0; is_slot = is.1.1.1 })

-- steps of a mark cycle
mark_spells : (names : List Name) → (codes "mark" ++ spaced (name_words names)) ++ codes "\n" ≡ line (mark names)
unfolding line
mark_spells names = refl

reads_mark : IsReading (EndsList spaced_name_at) (AllByRecursion IsName) (λ xs. codes "mark" ++ spaced (name_words xs)) (after (codes "mark") (items spaced_name_at))
reads_mark = reads_after (codes "mark") reads_names

name_ends : (rest : List ℕ) → EndsList spaced_name_at (10 ∷ rest)
unfolding spaced_name_at
name_ends rest = (refl, refl)

mark_back : (names : List Name) (rest : List ℕ) → AllByRecursion IsName names → mark_at (line (mark names) ++ rest) ≡ Some (mark names, rest)
unfolding mark_at
mark_back = made_line_back reads_mark mark name_ends mark_spells

mark_again : (text : List ℕ) (e : Entry) (rest : List ℕ) → mark_at text ≡ Some (e, rest) → IsFirst text (e, rest)
unfolding mark_at
mark_again = made_line_again reads_mark mark name_ends mark_spells (λ names is. is)

-- ends of a mark cycle
end_spells : (dead : List Name) → (codes "end dead" ++ spaced (name_words dead)) ++ codes "\n" ≡ line (end dead)
unfolding line
end_spells dead = refl

reads_end : IsReading (EndsList spaced_name_at) (IsRising IsName is_before) (λ xs. codes "end dead" ++ spaced (name_words xs)) (after (codes "end dead") (rising is_before spaced_name_at))
reads_end = reads_after (codes "end dead") reads_dead

end_back : (dead : List Name) (rest : List ℕ) → IsRising IsName is_before dead → end_at (line (end dead) ++ rest) ≡ Some (end dead, rest)
unfolding end_at
end_back = made_line_back reads_end end name_ends end_spells

end_again : (text : List ℕ) (e : Entry) (rest : List ℕ) → end_at text ≡ Some (e, rest) → IsFirst text (e, rest)
unfolding end_at
end_again = made_line_again reads_end end name_ends end_spells (λ dead is. is)

-- global collections
abbrev Swept : Type 0
Swept = List Name × List Packed

abbrev swept : Swept → Entry
swept p = global p.0 p.1

abbrev IsSwept : Swept → Type 0
IsSwept p = IsRising IsName is_before p.0 × AllByRecursion IsPacked p.1

abbrev global_words : Swept → List ℕ
global_words p = codes "global dead" ++ (spaced (name_words p.0) ++ (codes " packed" ++ spaced (map packed_word p.1)))

packed_begins : (rest : List ℕ) → EndsList spaced_name_at (codes " packed" ++ rest)
packed_begins rest = (refl, no_spaced_name (codes "packed" ++ rest) refl)

packed_ends : (rest : List ℕ) → EndsList packed_at (10 ∷ rest)
unfolding packed_at spaced_name_at
packed_ends rest = (refl, refl)

reads_global : IsReading (EndsList packed_at) IsSwept global_words (after (codes "global dead") (followed (rising is_before spaced_name_at) (after (codes " packed") (items packed_at))))
reads_global = reads_after (codes "global dead") (reads_followed reads_dead (reads_after (codes " packed") reads_packeds) (λ y rest is ends. packed_begins (spaced (map packed_word y) ++ rest)))

global_spells : (p : Swept) → global_words p ++ codes "\n" ≡ line (swept p)
unfolding line
global_spells p = ap (λ l. (codes "global dead" ++ l) ++ codes "\n") (sym (spaced_two (name_words p.0) (codes "packed" ∷ map packed_word p.1)))

global_back : (p : Swept) (rest : List ℕ) → IsSwept p → global_at (line (swept p) ++ rest) ≡ Some (swept p, rest)
unfolding global_at
global_back = made_line_back reads_global swept packed_ends global_spells

global_again : (text : List ℕ) (e : Entry) (rest : List ℕ) → global_at text ≡ Some (e, rest) → IsFirst text (e, rest)
unfolding global_at
global_again = made_line_again reads_global swept packed_ends global_spells (λ p is. is)

-- partial collections
abbrev Evacuated : Type 0
Evacuated = List ℕ × (ℕ × (List Kept × List Abort))

abbrev evacuated : Evacuated → Entry
evacuated p = partial p.0 p.1.0 p.1.1.0 p.1.1.1

abbrev IsEvacuated : Evacuated → Type 0
IsEvacuated p = IsRising IsRegion nat_lt p.0 × (IsSmall p.1.0 × (IsRising IsKept is_kept_before p.1.1.0 × IsRising IsCause is_cause_before p.1.1.1))

abbrev scans_words : ℕ → List ℕ
scans_words n = (codes " scans" ++ (32 ∷ decimal n)) ++ codes " kept"

reads_scans : IsReading Anything IsSmall scans_words scans_at
unfolding scans_at
reads_scans = reads_ended (codes " kept") (reads_after (codes " scans") (reads_spaced (2 ^ 32) (omega arith))) (λ rest. refl)

abbrev partial_words : Evacuated → List ℕ
partial_words p =
    codes "partial chosen" ++ (spaced (map decimal p.0) ++ (scans_words p.1.0 ++ (spaced (map kept_word p.1.1.0) ++ spaced (abort_words p.1.1.1))))

-- causes, or the line's end, end what was kept
abbrev EndsKept : List ℕ → Type 0
EndsKept rest = EndsAborts rest × (kept_at rest ≡ None)

no_kept : (text : List ℕ) → EndsNumber text → kept_at (32 ∷ text) ≡ None
unfolding kept_at
no_kept text ends = rw (no_spaced_name text ends) refl

aborts_begin : (cs : List Abort) (rest : List ℕ) → EndsKept rest → EndsList kept_at (spaced (abort_words cs) ++ rest)
aborts_begin [] rest ends = (ends.0.0.0, ends.1)
aborts_begin (c ∷ cs) rest ends = (refl, no_kept _ refl)

kept_ends : (rest : List ℕ) → EndsKept (10 ∷ rest)
unfolding cause_at kept_at spaced_name_at
kept_ends rest = (((refl, refl), refl), refl)

reads_partial : IsReading EndsKept IsEvacuated partial_words (after (codes "partial chosen") (followed (rising nat_lt (spaced_at 2047)) (followed scans_at (followed (rising is_kept_before kept_at) aborts_at))))
reads_partial =
    reads_after (codes "partial chosen") (reads_followed reads_chosen (reads_followed reads_scans
    (reads_followed reads_kepts (reads_before EndsKept reads_aborts (λ rest ends. ends.0)) (λ cs rest is ends. aborts_begin cs rest ends)) (λ y rest is ends. tt))
    (λ y rest is ends. (refl, no_spaced 2047 _ refl)))

partial_spells : (p : Evacuated) → partial_words p ++ codes "\n" ≡ line (evacuated p)
unfolding line
partial_spells p =
    let first = map decimal p.0 in
    let scans = p.1.0 in
    let kept = map kept_word p.1.1.0 in
    let second = codes "scans" ∷ decimal scans ∷ codes "kept" ∷ kept in
    let causes = abort_words p.1.1.1 in
    rw (spaced_two (first ++ second) causes, spaced_two first second)
    (regrouped (codes "partial chosen") (spaced first) (codes " scans") (32 ∷ decimal scans) (codes " kept") (spaced kept) (spaced causes) (codes "\n"))
  where
    regrouped : (p c s n k l a e : List ℕ) → (p ++ (c ++ (((s ++ n) ++ k) ++ (l ++ a)))) ++ e ≡ (p ++ ((c ++ (s ++ (n ++ (k ++ l)))) ++ a)) ++ e
    regrouped p c s n k l a e = simp append_assoc

partial_back : (p : Evacuated) (rest : List ℕ) → IsEvacuated p → partial_at (line (evacuated p) ++ rest) ≡ Some (evacuated p, rest)
unfolding partial_at
partial_back = made_line_back reads_partial evacuated kept_ends partial_spells

partial_again : (text : List ℕ) (e : Entry) (rest : List ℕ) → partial_at text ≡ Some (e, rest) → IsFirst text (e, rest)
unfolding partial_at
partial_again =
    made_line_again reads_partial evacuated kept_ends partial_spells (λ p is. record { are_chosen = is.0; is_count = is.1.0; are_kept = is.1.1.0; are_causes = is.1.1.1 })

-- the beginning of a mark cycle
begin_again : (text : List ℕ) (e : Entry) (rest : List ℕ) → begin_at text ≡ Some (e, rest) → IsFirst text (e, rest)
unfolding begin_at line
begin_again text e rest found =
    let (after, bare, same) = map_some begun (behind (codes "begin\n") text) (e, rest) found in
    subst (IsFirst text) same (tt, behind_again (codes "begin\n") text after bare)
  where
    begun : List ℕ → Entry × List ℕ
    begun rest = (begin, rest)

-- a first line is read as the event that it is of
pub first_back : (e : Entry) (rest : List ℕ) → HasLine e → first_of (line e ++ rest) ≡ Some (e, rest)
unfolding first_of collection_at row_at front_at note_at partial_at begin_at mark_at end_at line
first_back (row t k o r p) rest is = rw (row_back t k o r p rest is) refl
first_back (note q c x s) rest is = rw (note_back (q, (c, (x, s))) rest (is.is_region, (is.is_card, (is.is_holder, is.is_slot)))) refl
first_back (partial chosen scans kept aborts) rest is =
    rw (partial_back (chosen, (scans, (kept, aborts))) rest (is.are_chosen, (is.is_count, (is.are_kept, is.are_causes)))) refl
first_back begin rest is = refl
first_back (mark names) rest is = rw (mark_back names rest is) refl
first_back (end dead) rest is = rw (end_back dead rest is) refl
first_back (global dead packed) rest is = rw (global_back (dead, packed) rest is) refl

-- and as no other
collection_again : (text : List ℕ) (e : Entry) (rest : List ℕ) → collection_at text ≡ Some (e, rest) → IsFirst text (e, rest)
unfolding collection_at
collection_again text e rest found =
    elim (or_some (partial_at text) (option_or (begin_at text) (option_or (mark_at text) (option_or (end_at text) (global_at text)))) (e, rest) found) [
      | inl one ↦ partial_again text e rest one
      | inr later ↦ elim (or_some (begin_at text) (option_or (mark_at text) (option_or (end_at text) (global_at text))) (e, rest) later) [
        | inl one ↦ begin_again text e rest one
        | inr later ↦ elim (or_some (mark_at text) (option_or (end_at text) (global_at text)) (e, rest) later) [
          | inl one ↦ mark_again text e rest one
          | inr later ↦ elim (or_some (end_at text) (global_at text) (e, rest) later) [
            | inl one ↦ end_again text e rest one
            | inr one ↦ global_again text e rest one
          ]
        ]
      ]
    ]

pub first_again : (text : List ℕ) (e : Entry) (rest : List ℕ) → first_of text ≡ Some (e, rest) → HasLine e × (text ≡ line e ++ rest)
unfolding first_of
first_again text e rest found =
    elim (or_some (row_at text) (option_or (note_at text) (collection_at text)) (e, rest) found) [
      | inl one ↦ row_again text e rest one
      | inr later ↦ elim (or_some (note_at text) (collection_at text) (e, rest) later) [
        | inl one ↦ note_again text e rest one
        | inr one ↦ collection_again text e rest one
      ]
    ]
