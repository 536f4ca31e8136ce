-- The items of lists and the lists of a line, read and written.
use Rattle.std.proofs.Common.{◌≡◌, ℕ, ◌≤◌, List, [], ◌∷◌, ◌++◌, Option, Some, None, Bool, inl, inr, codes, length, map, refl, ap, sym, subst, ◌∙◌, arith, append_assoc, append-nil}
use Rattle.std.specs.Prelude.{flat_map, nat_lt, option_map}
use Rattle.std.specs.Fmt.{decimal}
use Rattle.std.specs.List.{AllByRecursion}
use Rattle.bal_layout.specs.declared.name.Abort.{Abort}
use Rattle.bal_layout.specs.declared.name.Abort.TheVariants as abort
use Rattle.bal_layout.specs.declared.name.Name.{Name}
use Rattle.bal_model.specs.declared.event.How.{How}
use Rattle.bal_model.specs.declared.event.How.TheVariants as how
use Rattle.bal_model.specs.declared.event.Kept.{Kept}
use Rattle.bal_model.specs.declared.event.Packed.{Packed}
use Rattle.bal_layout.specs.Names.{is_before}
use Rattle.bal_model.specs.Text.{abort_words, cause_words, how_word, kept_word, leaves_words, name_word, name_words, packed_word, spaced}
use Rattle.bal_text.specs.Lines.{IsCause, IsHow, IsKept, IsName, IsPacked, IsRegion, IsRising, IsWorker, ascends, is_cause_before, is_kept_before}
use Rattle.bal_text.specs.Grammar.{aborts_at, cause_at, copied_at, how_at, kept_at, leaves_at, number_at, packed_at, spaced_at, spaced_name_at}
use Rattle.bal_text.specs.Readings.{after, behind, followed, items, made, rising}
use Rattle.bal_text.proofs.LineParts.{spaced_two}
use Rattle.bal_text.proofs.NumberFacts.{EndsNumber, reads_number}
use Rattle.bal_text.proofs.Options.{map_some, or_some}
use Rattle.bal_text.proofs.PieceFacts.{reads_name, reads_spaced}
use Rattle.bal_text.proofs.Readings.{IsReading, behind_again, if_some, reads_after, reads_followed, made_again, made_back, reads_as, reads_items, reads_like, reads_made, reads_only, reads_optional}

-- a name after a space
pub reads_spaced_name : IsReading EndsNumber IsName (λ x. 32 ∷ name_word x) spaced_name_at
unfolding spaced_name_at
reads_spaced_name = reads_after (codes " ") reads_name

-- how an object was kept: a copy by a worker, or a mark
abbrev IsHowOf : How × ℕ → Type 0
IsHowOf p = IsHow p.0 × IsWorker p.1

abbrev how_of : How × ℕ → List ℕ
how_of p = how_word p.0 p.1

abbrev copy_word : ℕ × ℕ → List ℕ
copy_word p = codes "c" ++ (decimal p.0 ++ (codes ">" ++ decimal p.1))

reads_copy : IsReading EndsNumber (λ p. IsWorker p.0 × IsRegion p.1) copy_word (after (codes "c") (followed (number_at 32) (after (codes ">") (number_at 2047))))
reads_copy =
    reads_after (codes "c") (reads_followed (reads_number 32 (omega arith)) (reads_after (codes ">") (reads_number 2047 (omega arith))) (λ y rest is ends. refl))

copy_is : (q w : ℕ) → copy_word (w, q) ≡ how_word (how.Copied q) w
copy_is q w = ap (λ l. 99 ∷ l) (sym (append_assoc (decimal w) (codes ">") (decimal q)))

abbrev copied : ℕ × ℕ → How × ℕ
copied p = (how.Copied p.1, p.0)

abbrev marked : ℕ → How × ℕ
marked w = (how.Marked, w)

how_back : (p : How × ℕ) (rest : List ℕ) → IsHowOf p → EndsNumber rest → how_at (how_of p ++ rest) ≡ Some (p, rest)
unfolding how_at
how_back (how.Copied q, w) rest is ends =
    let front : how_word (how.Copied q) w ++ rest ≡ copy_word (w, q) ++ rest = ap (λ l. l ++ rest) (sym (copy_is q w)) in
    ap how_at front ∙ rw (reads_copy.back (w, q) rest (is.1, is.0) ends) refl
how_back (how.Marked, w) rest is ends = rw ((reads_number 32 (omega arith)).back w rest is.1 ends) refl

how_again : (text : List ℕ) (p : How × ℕ) (rest : List ℕ) → how_at text ≡ Some (p, rest) → IsHowOf p × (text ≡ how_of p ++ rest)
unfolding how_at
how_again text p rest e =
    elim (or_some (copied_at text) (made marked (after (codes "m") (number_at 32)) text) (p, rest) e) [
      | inl copy ↦ made_again copied IsHowOf how_of reads_copy (λ q is. (is.1, is.0)) (λ q. copy_is q.1 q.0) text p rest copy
      | inr mark ↦ made_again marked IsHowOf how_of (reads_after (codes "m") (reads_number 32 (omega arith))) (λ w is. (tt, is)) (λ w. refl) text p rest mark
    ]

reads_how : IsReading EndsNumber IsHowOf how_of how_at
reads_how = record { back = how_back; again = how_again }

-- kept objects
abbrev kept_parts : Name × (How × ℕ) → Kept
kept_parts p = record { name = p.0; how = p.1.0; worker = p.1.1 }

pub reads_kept : IsReading EndsNumber IsKept (λ k. 32 ∷ kept_word k) kept_at
unfolding kept_at
reads_kept =
    reads_made kept_parts IsKept (λ k. 32 ∷ kept_word k) (reads_followed reads_spaced_name (reads_after (codes ":") reads_how) (λ y rest is ends. refl))
    (λ p is. (is.0, is.1.0, is.1.1)) (λ p. ap (λ l. 32 ∷ l) (sym (append_assoc (name_word p.0) (codes ":") (how_of p.1))))
    (λ k is. ((k.name, (k.how, k.worker)), (is.0, (is.1, is.2)), refl))

-- packed objects
abbrev packed_parts : Name × ℕ → Packed
packed_parts p = record { name = p.0; region = p.1 }

pub reads_packed : IsReading EndsNumber IsPacked (λ k. 32 ∷ packed_word k) packed_at
unfolding packed_at
reads_packed =
    reads_made packed_parts IsPacked (λ k. 32 ∷ packed_word k) (reads_followed reads_spaced_name (reads_after (codes ">") (reads_number 2047 (omega arith))) (λ y rest is ends. refl))
    (λ p is. (is.0, is.1)) (λ p. ap (λ l. 32 ∷ l) (sym (append_assoc (name_word p.0) (codes ">") (decimal p.1))))
    (λ k is. ((k.name, k.region), (is.0, is.1), refl))

-- causes of an abort
abbrev cause_of : Abort → List ℕ
cause_of c = spaced (cause_words c)

-- the number of a worker that wished is the word's last
wished_is : (w : ℕ) → codes " wished" ++ (32 ∷ decimal w) ≡ cause_of (abort.Wished w)
wished_is w = ap (λ l. codes " wished " ++ l) (sym (append-nil (decimal w)))

reads_wished : IsReading EndsNumber IsWorker (λ w. codes " wished" ++ (32 ∷ decimal w)) (after (codes " wished") (spaced_at 32))
reads_wished = reads_after (codes " wished") (reads_spaced 32 (omega arith))

cause_back : (c : Abort) (rest : List ℕ) → IsCause c → EndsNumber rest → cause_at (cause_of c ++ rest) ≡ Some (c, rest)
unfolding cause_at
cause_back (abort.Wished w) rest is ends = rw (made_back abort.Wished IsCause cause_of reads_wished (λ v fits. fits) wished_is w rest is ends) refl
cause_back abort.Drained rest is ends = refl

cause_again : (text : List ℕ) (c : Abort) (rest : List ℕ) → cause_at text ≡ Some (c, rest) → IsCause c × (text ≡ cause_of c ++ rest)
unfolding cause_at
cause_again text c rest e =
    elim (or_some (option_map drained (behind (codes " drained") text)) (made abort.Wished (after (codes " wished") (spaced_at 32)) text) (c, rest) e) [
      | inl bare ↦
          let (end, found, same) = map_some drained (behind (codes " drained") text) (c, rest) bare in
          subst (λ (z : Abort × List ℕ). IsCause z.0 × (text ≡ cause_of z.0 ++ z.1)) same (tt, behind_again (codes " drained") text end found)
      | inr wish ↦ made_again abort.Wished IsCause cause_of reads_wished (λ v fits. fits) wished_is text c rest wish
    ]
  where
    drained : List ℕ → Abort × List ℕ
    drained rest = (abort.Drained, rest)

reads_cause : IsReading EndsNumber IsCause cause_of cause_at
reads_cause = record { back = cause_back; again = cause_again }

-- what items are written as, one after the other
spaced_each : {X : Type 0} (word : X → List ℕ) (xs : List X) → flat_map (λ x. 32 ∷ word x) xs ≡ spaced (map word xs)
spaced_each word [] = refl
spaced_each word (x ∷ xs) = ap (λ l. 32 ∷ (word x ++ l)) (spaced_each word xs)

spaced_causes : (cs : List Abort) → flat_map cause_of cs ≡ spaced (flat_map cause_words cs)
spaced_causes [] = refl
spaced_causes (c ∷ cs) = ap (λ l. cause_of c ++ l) (spaced_causes cs) ∙ sym (spaced_two (cause_words c) (flat_map cause_words cs))

-- a list ends where no digit stands and no item can be read
abbrev pub EndsList : {A : Type 0} → (List ℕ → Option (A × List ℕ)) → List ℕ → Type 0
EndsList read rest = EndsNumber rest × (read rest ≡ None)

module _ {A : Type 0} {Is : A → Type 0} {word : A → List ℕ} {read : List ℕ → Option (A × List ℕ)} (r : IsReading EndsNumber Is (λ x. 32 ∷ word x) read) where
  -- lists of words, and such that ascend
  pub reads_words : IsReading (EndsList read) (AllByRecursion Is) (λ xs. spaced (map word xs)) (items read)
  reads_words = reads_as (λ xs. spaced (map word xs)) (spaced_each word) (reads_items r (λ x rest. refl) (λ x. omega arith))

  pub reads_rising : (before : A → A → Bool) → IsReading (EndsList read) (IsRising Is before) (λ xs. spaced (map word xs)) (rising before read)
  reads_rising before = reads_like (IsRising Is before) (reads_only (ascends before) reads_words) (λ xs is. (is.each, is.up)) (λ xs is. record { each = is.0; up = is.1 })

pub reads_chosen : IsReading (EndsList (spaced_at 2047)) (IsRising IsRegion nat_lt) (λ qs. spaced (map decimal qs)) (rising nat_lt (spaced_at 2047))
reads_chosen = reads_rising (reads_spaced 2047 (omega arith)) nat_lt

pub reads_dead : IsReading (EndsList spaced_name_at) (IsRising IsName is_before) (λ xs. spaced (name_words xs)) (rising is_before spaced_name_at)
reads_dead = reads_rising reads_spaced_name is_before

pub reads_kepts : IsReading (EndsList kept_at) (IsRising IsKept is_kept_before) (λ ks. spaced (map kept_word ks)) (rising is_kept_before kept_at)
reads_kepts = reads_rising reads_kept is_kept_before

-- leaves, with the word in front of them
leaves_are : (qs : List ℕ) → if_some (codes " leaves") (λ qs. spaced (map decimal qs)) qs ≡ spaced (leaves_words qs)
leaves_are [] = refl
leaves_are (q ∷ qs) = refl

abbrev pub EndsLeaves : List ℕ → Type 0
EndsLeaves rest = EndsList (spaced_at 2047) rest × (behind (codes " leaves") rest ≡ None)

pub reads_leaves : IsReading EndsLeaves (AllByRecursion IsRegion) (λ qs. spaced (leaves_words qs)) leaves_at
unfolding leaves_at
reads_leaves = reads_as (λ qs. spaced (leaves_words qs)) leaves_are (reads_optional (codes " leaves") (reads_words (reads_spaced 2047 (omega arith))) tt)

-- causes, with the word in front of them
aborts_are : (cs : List Abort) → if_some (codes " abort") (flat_map cause_of) cs ≡ spaced (abort_words cs)
aborts_are [] = refl
aborts_are (c ∷ cs) = ap (λ l. codes " abort" ++ l) (spaced_causes (c ∷ cs))

abbrev pub EndsAborts : List ℕ → Type 0
EndsAborts rest = EndsList cause_at rest × (behind (codes " abort") rest ≡ None)

reads_causes : IsReading (EndsList cause_at) (IsRising IsCause is_cause_before) (flat_map cause_of) (rising is_cause_before cause_at)
reads_causes =
    reads_like (IsRising IsCause is_cause_before) (reads_only (ascends is_cause_before) (reads_items reads_cause begins some)) (λ xs is. (is.each, is.up)) (λ xs is. record { each = is.0; up = is.1 })
  where
    begins : (c : Abort) (rest : List ℕ) → EndsNumber (cause_of c ++ rest)
    begins (abort.Wished w) rest = refl
    begins abort.Drained rest = refl

    some : (c : Abort) → 1 ≤ length (cause_of c)
    some (abort.Wished w) = omega arith
    some abort.Drained = omega arith

pub reads_aborts : IsReading EndsAborts (IsRising IsCause is_cause_before) (λ cs. spaced (abort_words cs)) aborts_at
unfolding aborts_at
reads_aborts = reads_as (λ cs. spaced (abort_words cs)) aborts_are (reads_optional (codes " abort") reads_causes (record { each = tt; up = refl }))

-- packed objects and the names of a mark stand in any order
pub reads_packeds : IsReading (EndsList packed_at) (AllByRecursion IsPacked) (λ ks. spaced (map packed_word ks)) (items packed_at)
reads_packeds = reads_words reads_packed

pub reads_names : IsReading (EndsList spaced_name_at) (AllByRecursion IsName) (λ xs. spaced (name_words xs)) (items spaced_name_at)
reads_names = reads_words reads_spaced_name
