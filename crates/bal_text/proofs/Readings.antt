-- Readings that give exactly what is spelled, and how they are put together.
use Rattle.std.proofs.Common.{◌≡◌, ℕ, ◌+◌, ◌≤◌, List, [], ◌∷◌, ◌++◌, Option, Some, None, Bool, true, false, inl, inr, length, refl, ap, sym, subst, ◌∙◌, arith, rules, tests, append_assoc, append-nil, length-append, suc, zero, ◌-◌, ◌<◌, drop, take, get_or, take_all}
use Rattle.std.specs.Prelude.{◌==◌, flat_map, if◌then◌else◌}
use Rattle.std.specs.List.{AllByRecursion}
use Rattle.std.proofs.Math.ListN.{get_or-append}
use Rattle.std.proofs.lemmas.List.{take-append-drop, take_rest}
use Rattle.std.specs.Option.{option_map_or}
use Rattle.bal_text.specs.Readings.{after, behind, ended, followed, items, items_at, items_upto, made, only, optional, has_some, spelled}
use Rattle.bal_text.proofs.Options.{and_then_some, map_some, only_some, or_some}

-- what begins with some bytes, and what is after them
pub behind_back : (bytes rest : List ℕ) → behind bytes (bytes ++ rest) ≡ Some rest
behind_back [] rest = refl
behind_back (b ∷ bytes) rest =
    let same : (b == b) ≡ true = search (rules, tests) in
    rw same (behind_back bytes rest)

pub behind_again : (bytes text rest : List ℕ) → behind bytes text ≡ Some rest → text ≡ bytes ++ rest
behind_again [] text rest e = let same : text ≡ rest = cc in same
behind_again (b ∷ bytes) [] rest e = cc
behind_again (b ∷ bytes) (c ∷ text) rest e = by_test (c == b) refl e (behind_again bytes text rest) where
  by_test : (t : Bool) → (c == b) ≡ t → (if t then behind bytes text else None) ≡ Some rest → (behind bytes text ≡ Some rest → text ≡ bytes ++ rest) → c ∷ text ≡ b ∷ (bytes ++ rest)
  by_test true same e more =
      let first : c ≡ b = search (rules, tests) in
      rw first (ap (λ l. b ∷ l) (more e))
  by_test false other e more = cc

-- a text that is too short does not begin with them, nor does one with another byte among the first
module _ (bytes text : List ℕ) where
  none_behind : ((rest : List ℕ) → text ≡ bytes ++ rest → ⊥) → None ≡ behind bytes text
  none_behind other = by_reading (behind bytes text) refl where
    by_reading : (o : Option (List ℕ)) → behind bytes text ≡ o → None ≡ behind bytes text
    by_reading None e = sym e
    by_reading (Some rest) e = absurd (other rest (behind_again bytes text rest e))

  pub behind_short : length text < length bytes → None ≡ behind bytes text
  behind_short short = none_behind (λ rest same. omega (arith, short, ap length same, length-append bytes rest))

  pub behind_other : (at : ℕ) → at < length bytes → (get_or text at 0 ≡ get_or bytes at 0 → ⊥) → None ≡ behind bytes text
  behind_other at within other = none_behind (λ rest same. other (ap (λ l. get_or l at 0) same ∙ get_or-append bytes rest 0 at within))

  -- and one whose first bytes are the same does
  pub behind_same : (at : ℕ) → length bytes ≤ at → at ≤ length bytes → take at text ≡ take at bytes
      → Some (take (length text - length bytes) (drop (length bytes) text)) ≡ behind bytes text
  behind_same at past within same =
      let n = length bytes in
      let end : at ≡ n = omega (arith, past, within) in
      let front : take n text ≡ bytes = ap (λ k. take k text) (sym end) ∙ same ∙ take_all at bytes past in
      let whole : text ≡ bytes ++ drop n text = sym (take-append-drop n text) ∙ ap (λ l. l ++ drop n text) front in
      ap Some (take_rest text n) ∙ sym (ap (behind bytes) whole ∙ behind_back bytes (drop n text))

-- read gives x, and the rest after it, where x is written so, is right, and ends there; and it gives nothing else
pub record IsReading {A : Type 0} (Ends : List ℕ → Type 0) (Is : A → Type 0) (write : A → List ℕ) (read : List ℕ → Option (A × List ℕ)) : Type 0 where
  pub back : (x : A) (rest : List ℕ) → Is x → Ends rest → read (write x ++ rest) ≡ Some (x, rest)
  pub again : (text : List ℕ) (x : A) (rest : List ℕ) → read text ≡ Some (x, rest) → Is x × (text ≡ write x ++ rest)

-- it does not matter what stands after
abbrev pub Anything : List ℕ → Type 0
Anything rest = Unit {0}

-- the same, of what is right said otherwise, and of how it is written
pub reads_like : {A : Type 0} {Ends : List ℕ → Type 0} {Is : A → Type 0} {write : A → List ℕ} {read : List ℕ → Option (A × List ℕ)} (Is' : A → Type 0)
    → IsReading Ends Is write read → ((x : A) → Is' x → Is x) → ((x : A) → Is x → Is' x) → IsReading Ends Is' write read
reads_like Is' r from to = record {
  back = λ x rest is ends. r.back x rest (from x is) ends;
  again = λ text x rest e. let is = r.again text x rest e in (to x is.0, is.1);
}

pub reads_as : {A : Type 0} {Ends : List ℕ → Type 0} {Is : A → Type 0} {write : A → List ℕ} {read : List ℕ → Option (A × List ℕ)} (write' : A → List ℕ)
    → ((x : A) → write x ≡ write' x) → IsReading Ends Is write read → IsReading Ends Is write' read
reads_as write' same r = record {
  back = λ x rest is ends. rw (sym (same x)) (r.back x rest is ends);
  again = λ text x rest e. let is = r.again text x rest e in (is.0, is.1 ∙ ap (λ l. l ++ rest) (same x));
}

-- and where more is asked of what stands after
pub reads_before : {A : Type 0} {Ends : List ℕ → Type 0} {Is : A → Type 0} {write : A → List ℕ} {read : List ℕ → Option (A × List ℕ)} (Ends' : List ℕ → Type 0)
    → IsReading Ends Is write read → ((rest : List ℕ) → Ends' rest → Ends rest) → IsReading Ends' Is write read
reads_before Ends' r ends = record { back = λ x rest is more. r.back x rest is (ends rest more); again = r.again }

-- a piece after bytes
pub reads_after : {A : Type 0} {Ends : List ℕ → Type 0} {Is : A → Type 0} {write : A → List ℕ} {read : List ℕ → Option (A × List ℕ)} (bytes : List ℕ)
    → IsReading Ends Is write read → IsReading Ends Is (λ x. bytes ++ write x) (after bytes read)
reads_after {A} {Ends} {Is} {write} {read} bytes r = record { back = back; again = again } where
  back : (x : A) (rest : List ℕ) → Is x → Ends rest → after bytes read ((bytes ++ write x) ++ rest) ≡ Some (x, rest)
  back x rest is ends = rw (append_assoc bytes (write x) rest, behind_back bytes (write x ++ rest)) (r.back x rest is ends)

  again : (text : List ℕ) (x : A) (rest : List ℕ) → after bytes read text ≡ Some (x, rest) → Is x × (text ≡ (bytes ++ write x) ++ rest)
  again text x rest e =
      let (mid, front, e1) = and_then_some read (behind bytes text) (x, rest) e in
      let is = r.again mid x rest e1 in
      (is.0, behind_again bytes text mid front ∙ ap (λ l. bytes ++ l) is.1 ∙ sym (append_assoc bytes (write x) rest))

-- two pieces, of which the second ends the first
pub reads_followed : {A B : Type 0} {Ends Ends' : List ℕ → Type 0} {Is : A → Type 0} {Is' : B → Type 0} {write : A → List ℕ} {write' : B → List ℕ}
    {read : List ℕ → Option (A × List ℕ)} {read' : List ℕ → Option (B × List ℕ)} → IsReading Ends Is write read → IsReading Ends' Is' write' read'
    → ((y : B) (rest : List ℕ) → Is' y → Ends' rest → Ends (write' y ++ rest))
    → IsReading Ends' (λ p. Is p.0 × Is' p.1) (λ p. write p.0 ++ write' p.1) (followed read read')
reads_followed {A} {B} {Ends} {Ends'} {Is} {Is'} {write} {write'} {read} {read'} r s joint = record { back = back; again = again } where
  back : (p : A × B) (rest : List ℕ) → Is p.0 × Is' p.1 → Ends' rest → followed read read' ((write p.0 ++ write' p.1) ++ rest) ≡ Some (p, rest)
  back p rest is ends =
      rw (append_assoc (write p.0) (write' p.1) rest, r.back p.0 (write' p.1 ++ rest) is.0 (joint p.1 rest is.1 ends), s.back p.1 rest is.1 ends) refl

  again : (text : List ℕ) (p : A × B) (rest : List ℕ) → followed read read' text ≡ Some (p, rest) → (Is p.0 × Is' p.1) × (text ≡ (write p.0 ++ write' p.1) ++ rest)
  again text p rest e =
      let (q, first, e1) = and_then_some _ (read text) (p, rest) e in
      let (t, second, same) = map_some _ (read' q.1) (p, rest) e1 in
      let one = r.again text q.0 q.1 first in
      let two = s.again q.1 t.0 t.1 second in
      let whole : text ≡ (write q.0 ++ write' t.0) ++ t.1 = one.1 ∙ ap (λ l. write q.0 ++ l) two.1 ∙ sym (append_assoc (write q.0) (write' t.0) t.1) in
      subst (λ (z : (A × B) × List ℕ). (Is z.0.0 × Is' z.0.1) × (text ≡ (write z.0.0 ++ write' z.0.1) ++ z.1)) same ((one.0, two.0), whole)

-- what is made of a piece
module _ {A B : Type 0} {Ends : List ℕ → Type 0} {Is : A → Type 0} {write : A → List ℕ} {read : List ℕ → Option (A × List ℕ)}
    (make : A → B) (Is' : B → Type 0) (write' : B → List ℕ) (r : IsReading Ends Is write read) (fits : (x : A) → Is x → Is' (make x)) (spells : (x : A) → write x ≡ write' (make x)) where
  pub made_back : (x : A) (rest : List ℕ) → Is x → Ends rest → made make read (write' (make x) ++ rest) ≡ Some (make x, rest)
  made_back x rest is ends = rw (sym (spells x), r.back x rest is ends) refl

  pub made_again : (text : List ℕ) (y : B) (rest : List ℕ) → made make read text ≡ Some (y, rest) → Is' y × (text ≡ write' y ++ rest)
  made_again text y rest e =
      let (p, found, same) = map_some _ (read text) (y, rest) e in
      let is = r.again text p.0 p.1 found in
      subst (λ (z : B × List ℕ). Is' z.0 × (text ≡ write' z.0 ++ z.1)) same (fits p.0 is.0, is.1 ∙ ap (λ l. l ++ p.1) (spells p.0))

  -- where each is made of some piece
  pub reads_made : ((y : B) → Is' y → (x : A) × Is x × (make x ≡ y)) → IsReading Ends Is' write' (made make read)
  reads_made each = record { back = back; again = made_again } where
    back : (y : B) (rest : List ℕ) → Is' y → Ends rest → made make read (write' y ++ rest) ≡ Some (y, rest)
    back y rest is ends =
        let (x, is_x, same) = each y is in
        subst (λ z. made make read (write' z ++ rest) ≡ Some (z, rest)) same (made_back x rest is_x ends)

-- a piece that passes a test
pub reads_only : {A : Type 0} {Ends : List ℕ → Type 0} {Is : A → Type 0} {write : A → List ℕ} {read : List ℕ → Option (A × List ℕ)} (test : A → Bool)
    → IsReading Ends Is write read → IsReading Ends (λ x. Is x × (test x ≡ true)) write (only test read)
reads_only {A} {Ends} {Is} {write} {read} test r = record { back = back; again = again } where
  back : (x : A) (rest : List ℕ) → Is x × (test x ≡ true) → Ends rest → only test read (write x ++ rest) ≡ Some (x, rest)
  back x rest is ends = rw (r.back x rest is.0 ends, is.1) refl

  again : (text : List ℕ) (x : A) (rest : List ℕ) → only test read text ≡ Some (x, rest) → (Is x × (test x ≡ true)) × (text ≡ write x ++ rest)
  again text x rest e =
      let (found, passes) = only_some (λ (p : A × List ℕ). test p.0) (read text) (x, rest) e in
      let is = r.again text x rest found in
      ((is.0, passes), is.1)

-- a piece that bytes end
pub reads_ended : {A : Type 0} {Ends : List ℕ → Type 0} {Is : A → Type 0} {write : A → List ℕ} {read : List ℕ → Option (A × List ℕ)} (bytes : List ℕ)
    → IsReading Ends Is write read → ((rest : List ℕ) → Ends (bytes ++ rest)) → IsReading Anything Is (λ x. write x ++ bytes) (ended bytes read)
reads_ended {A} {Ends} {Is} {write} {read} bytes r joint = record { back = back; again = again } where
  back : (x : A) (rest : List ℕ) → Is x → Anything rest → ended bytes read ((write x ++ bytes) ++ rest) ≡ Some (x, rest)
  back x rest is ends = rw (append_assoc (write x) bytes rest, r.back x (bytes ++ rest) is (joint rest), behind_back bytes rest) refl

  again : (text : List ℕ) (x : A) (rest : List ℕ) → ended bytes read text ≡ Some (x, rest) → Is x × (text ≡ (write x ++ bytes) ++ rest)
  again text x rest e =
      let (p, found, e1) = and_then_some _ (read text) (x, rest) e in
      let (end, bare, same) = map_some _ (behind bytes p.1) (x, rest) e1 in
      let is = r.again text p.0 p.1 found in
      let whole : text ≡ (write p.0 ++ bytes) ++ end =
      is.1 ∙ ap (λ l. write p.0 ++ l) (behind_again bytes p.1 end bare) ∙ sym (append_assoc (write p.0) bytes end) in
      subst (λ (z : A × List ℕ). Is z.0 × (text ≡ (write z.0 ++ bytes) ++ z.1)) same (is.0, whole)

-- one of some things that are spelled, each of which is right
pub spelled_again : {A : Type 0} (spelling : A → List ℕ) (Is : A → Type 0) (xs : List A) → AllByRecursion Is xs
    → (text : List ℕ) (x : A) (rest : List ℕ) → spelled spelling xs text ≡ Some (x, rest) → Is x × (text ≡ spelling x ++ rest)
spelled_again spelling Is [] all text x rest e = cc
spelled_again {A} spelling Is (y ∷ xs) all text x rest e =
    elim (or_some _ (spelled spelling xs text) (x, rest) e) [
      | inl found ↦
          let (end, bare, same) = map_some _ (behind (spelling y) text) (x, rest) found in
          subst (λ (z : A × List ℕ). Is z.0 × (text ≡ spelling z.0 ++ z.1)) same (all.0, behind_again (spelling y) text end bare)
      | inr later ↦ spelled_again spelling Is xs all.1 text x rest later
    ]

-- items that were taken before others
abbrev pub with_front : {A : Type 0} → List A → List A × List ℕ → List A × List ℕ
with_front xs p = (xs ++ p.0, p.1)

-- at first none was
pub none_taken : {A : Type 0} (read : List ℕ → Option (A × List ℕ)) (text : List ℕ) (xs : List A) (n : ℕ) → xs ≡ [] → n ≡ length text - 0 → items_at read text ≡ with_front xs (items_upto n read text)
none_taken read text xs n empty all = let m : length text ≡ n = omega (arith, all) in rw empty (ap (λ k. items_upto k read text) m)

-- then one more is, or none is left
module _ {A : Type 0} (read : List ℕ → Option (A × List ℕ)) (whole : List A × List ℕ) (xs : List A) (k i : ℕ) (rest : List ℕ) (within : i < k)
    (so_far : whole ≡ with_front xs (items_upto (k - i) read rest)) where
  step : k - i ≡ suc (k - (i + 1))
  step = omega (arith, within)

  pub one_more : (x : A) (after : List ℕ) → read rest ≡ Some (x, after) → whole ≡ with_front (xs ++ x ∷ []) (items_upto (k - (i + 1)) read after)
  one_more x after found =
      let more = items_upto (k - (i + 1)) read after in
      so_far ∙ ap (λ n. with_front xs (items_upto n read rest)) step ∙ rw found (ap (λ l. (l, more.1)) (sym (append_assoc xs (x ∷ []) more.0)))

  pub no_more : read rest ≡ None → (xs, rest) ≡ whole
  no_more none = sym (so_far ∙ ap (λ n. with_front xs (items_upto n read rest)) step ∙ rw none (ap (λ l. (l, rest)) (append-nil xs)))

-- or all places are used
pub no_room : {A : Type 0} (read : List ℕ → Option (A × List ℕ)) (whole : List A × List ℕ) (xs : List A) (k i : ℕ) (rest : List ℕ) → k ≤ i
    → whole ≡ with_front xs (items_upto (k - i) read rest) → (xs, rest) ≡ whole
no_room read whole xs k i rest past so_far =
    let none : k - i ≡ 0 = omega (arith, past) in
    sym (so_far ∙ ap (λ n. with_front xs (items_upto n read rest)) none ∙ ap (λ l. (l, rest)) (append-nil xs))

-- lists of items, each of which ends what stands before it
module _ {A : Type 0} {Ends : List ℕ → Type 0} {Is : A → Type 0} {write : A → List ℕ} {read : List ℕ → Option (A × List ℕ)} (r : IsReading Ends Is write read)
    (begins : (x : A) (rest : List ℕ) → Ends (write x ++ rest)) (some : (x : A) → 1 ≤ length (write x)) where
  list_begins : (xs : List A) (rest : List ℕ) → Ends rest → Ends (flat_map write xs ++ rest)
  list_begins [] rest ends = ends
  list_begins (x ∷ xs) rest ends = subst Ends (sym (append_assoc (write x) (flat_map write xs) rest)) (begins x (flat_map write xs ++ rest))

  upto_back : (n : ℕ) (xs : List A) (rest : List ℕ) → AllByRecursion Is xs → Ends rest → read rest ≡ None → length xs ≤ n
      → items_upto n read (flat_map write xs ++ rest) ≡ (xs, rest)
  upto_back zero [] rest all ends none few = refl
  upto_back (suc n) [] rest all ends none few = rw none refl
  upto_back zero (x ∷ xs) rest all ends none few = absurd (omega (arith, few))
  upto_back (suc n) (x ∷ xs) rest all ends none few =
      rw (append_assoc (write x) (flat_map write xs) rest, r.back x (flat_map write xs ++ rest) all.0 (list_begins xs rest ends), upto_back n xs rest all.1 ends none (omega (arith, few))) refl

  abbrev AreAgain : List ℕ → List A × List ℕ → Type 0
  AreAgain text z = AllByRecursion Is z.0 × (text ≡ flat_map write z.0 ++ z.1)

  upto_again : (n : ℕ) (text : List ℕ) → AreAgain text (items_upto n read text)
  upto_again zero text = (tt, refl)
  upto_again (suc n) text = by_first (read text) refl (upto_again n) where
    so_read : Option (A × List ℕ) → List A × List ℕ
    so_read o = option_map_or (λ p. (p.0 ∷ (items_upto n read p.1).0, (items_upto n read p.1).1)) o ([], text)

    by_first : (o : Option (A × List ℕ)) → read text ≡ o → ((rest : List ℕ) → AreAgain rest (items_upto n read rest)) → AreAgain text (so_read o)
    by_first None e again = (tt, refl)
    by_first (Some p) e again =
        let first = r.again text p.0 p.1 e in
        let more = again p.1 in (
          (first.0, more.0),
          first.1 ∙ ap (λ l. write p.0 ++ l) more.1 ∙ sym (append_assoc (write p.0) (flat_map write (items_upto n read p.1).0) (items_upto n read p.1).1),
        )

  count : (xs : List A) (rest : List ℕ) → length xs ≤ length (flat_map write xs ++ rest)
  count [] rest = omega arith
  count (x ∷ xs) rest =
      omega (arith, some x, count xs rest, ap length (append_assoc (write x) (flat_map write xs) rest), length-append (write x) (flat_map write xs ++ rest))

  pub reads_items : IsReading (λ rest. Ends rest × (read rest ≡ None)) (AllByRecursion Is) (flat_map write) (items read)
  reads_items = record { back = back; again = again } where
    back : (xs : List A) (rest : List ℕ) → AllByRecursion Is xs → Ends rest × (read rest ≡ None) → items read (flat_map write xs ++ rest) ≡ Some (xs, rest)
    back xs rest all ends = ap Some (upto_back (length (flat_map write xs ++ rest)) xs rest all ends.0 ends.1 (count xs rest))

    again : (text : List ℕ) (xs : List A) (rest : List ℕ) → items read text ≡ Some (xs, rest) → AllByRecursion Is xs × (text ≡ flat_map write xs ++ rest)
    again text xs rest e =
        let same : items_at read text ≡ (xs, rest) = cc in
        subst (λ (z : List A × List ℕ). AllByRecursion Is z.0 × (text ≡ flat_map write z.0 ++ z.1)) same (upto_again (length text) text)

-- bytes and a list that is not empty, or none of both
abbrev pub if_some : {A : Type 0} → List ℕ → (List A → List ℕ) → List A → List ℕ
if_some bytes write [] = []
if_some bytes write (x ∷ xs) = bytes ++ write (x ∷ xs)

pub reads_optional : {A : Type 0} {Ends : List ℕ → Type 0} {Is : List A → Type 0} {write : List A → List ℕ} {read : List ℕ → Option (List A × List ℕ)} (bytes : List ℕ)
    → IsReading Ends Is write read → Is [] → IsReading (λ rest. Ends rest × (behind bytes rest ≡ None)) Is (if_some bytes write) (optional bytes read)
reads_optional {A} {Ends} {Is} {write} {read} bytes r empty = record { back = back; again = again } where
  back : (xs : List A) (rest : List ℕ) → Is xs → Ends rest × (behind bytes rest ≡ None) → optional bytes read (if_some bytes write xs ++ rest) ≡ Some (xs, rest)
  back [] rest is ends = rw ends.1 refl
  back (x ∷ xs) rest is ends =
      rw (append_assoc bytes (write (x ∷ xs)) rest, behind_back bytes (write (x ∷ xs) ++ rest), r.back (x ∷ xs) rest is ends.0) refl

  written : (text : List ℕ) (mid : List ℕ) (xs : List A) (rest : List ℕ) → text ≡ bytes ++ mid → mid ≡ write xs ++ rest → has_some xs ≡ true → text ≡ if_some bytes write xs ++ rest
  written text mid [] rest front end some = cc
  written text mid (x ∷ xs) rest front end some = front ∙ ap (λ l. bytes ++ l) end ∙ sym (append_assoc bytes (write (x ∷ xs)) rest)

  so_read : List ℕ → Option (List ℕ) → Option (List A × List ℕ)
  so_read text o = option_map_or (λ rest. only has_some read rest) o (Some ([], text))

  by_front : (text : List ℕ) (xs : List A) (rest : List ℕ) (o : Option (List ℕ)) → behind bytes text ≡ o → so_read text o ≡ Some (xs, rest) → Is xs × (text ≡ if_some bytes write xs ++ rest)
  by_front text xs rest None e f =
      let same : ◌≡◌ {A = List A × List ℕ} ([], text) (xs, rest) = cc in
      subst (λ (z : List A × List ℕ). Is z.0 × (text ≡ if_some bytes write z.0 ++ z.1)) same (empty, refl)
  by_front text xs rest (Some mid) e f =
      let is = (reads_only has_some r).again mid xs rest f in
      (is.0.0, written text mid xs rest (behind_again bytes text mid e) is.1 is.0.1)

  again : (text : List ℕ) (xs : List A) (rest : List ℕ) → optional bytes read text ≡ Some (xs, rest) → Is xs × (text ≡ if_some bytes write xs ++ rest)
  again text xs rest e = by_front text xs rest (behind bytes text) refl e
