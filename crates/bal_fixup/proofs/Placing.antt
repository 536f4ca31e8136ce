-- References that are mended place by place.
use Rattle.std.proofs.Common.{◌≡◌, ◌<◌, ℕ, zero, suc, ◌+◌, Bool, true, false, List, [], ◌∷◌, Option, None, Some, get_or, set, take, length, inl, inr, refl, ap, sym, subst, ◌∙◌, ◌⊎◌, arith, eq-eqb, eqb-true}
use Rattle.std.specs.Prelude.{◌&&◌, ◌||◌, IsTrue, unwrap_or, nat_eq}
use Rattle.std.proofs.lemmas.List.Folds.{list_any-append}
use Rattle.std.proofs.lemmas.Bool.{false≢true, ne_eqb, true≢false}
use Rattle.std.proofs.lemmas.List.{get_or-set_other, get_or-set_same, set-get_or, take_more}
use Rattle.std.proofs.lemmas.Nat.{div_below}
use Rattle.bal_base.specs.Bits.{IsAscending}
use Rattle.bal_base.proofs.Lemmas.{among-cases, among-first, among-later}
use Rattle.bal_cards.specs.Cards.{Cards, with_dirty}
use Rattle.bal_fixup.specs.Dirtied.{with_dirty_places}
use Rattle.bal_fixup.specs.Mended.{HasSameStarts}
use Rattle.bal_fixup.specs.Placed.{AreSlots, with_mended, with_mended_at}
use Rattle.bal_fixup.proofs.Objects.{Adds}
use Rattle.bal_fixup.proofs.Stay.{same-none, same-then, same-written}
use Rattle.bal_layout.specs.Addresses.{address_in, card_of, offset_of, region_of}
use Rattle.bal_layout.specs.Regions.{is_in}
use Rattle.bal_region.specs.Land.{Land}
use Rattle.bal_region.specs.Changes.{empty_land, with_word}
use Rattle.bal_table.specs.Changes.{with_word_at}
use Rattle.bal_table.specs.Slots.{IsSlot}
use Rattle.bal_table.specs.Table.{IsTable, Table, land_at, word_at}
use Rattle.bal_table.proofs.Lemmas.{IsTable-written, Lies, address-is, slot-below, slot-lies_at}
use Rattle.bal_words.specs.Moved.{word_to}
use Rattle.bal_words.proofs.Lemmas.{same-or}

or-false : (a b : Bool) → (a || b) ≡ false → (a ≡ false) × (b ≡ false)
or-false true b h = absurd (true≢false h)
or-false false b h = (refl, h)

-- a word that is written anew stays
pub written-same : (t : Table) (p : ℕ) → with_word_at t p (word_at t p) ≡ t
written-same t p =
    let r = region_of t.shape p in
    let o = offset_of t.shape p in
    ap (λ (ws : List ℕ). record t { lands = set t.lands r (record (land_at t r) { words = ws }) }) (set-get_or (land_at t r).words o 0)
    ∙ ap (λ (ls : List Land). record t { lands = ls }) (set-get_or t.lands r (empty_land 0 0))

-- which word is written, if one is
pub mended-is : (to : ℕ → ℕ) (t u : Table) (p word read : ℕ) (answer : Option ℕ) → read ≡ word_at t p → unwrap_or answer read ≡ word_to to read
    → answer ≡ Some word → u ≡ with_word_at t p word → u ≡ with_mended_at to t p
mended-is to t u p word read answer same mended is written =
    written ∙ ap (with_word_at t p) (sym (ap (λ (o : Option ℕ). unwrap_or o read) is) ∙ (mended ∙ ap (word_to to) same))

pub mended-none : (to : ℕ → ℕ) (t : Table) (p read : ℕ) (answer : Option ℕ) → read ≡ word_at t p → unwrap_or answer read ≡ word_to to read
    → answer ≡ None → t ≡ with_mended_at to t p
mended-none to t p read answer same mended is =
    sym (written-same t p)
    ∙ ap (with_word_at t p) (sym same ∙ (sym (ap (λ (o : Option ℕ). unwrap_or o read) is) ∙ (mended ∙ ap (word_to to) same)))

-- One place.

module _ (to : ℕ → ℕ) (t : Table) (p : ℕ) (table : IsTable t) (slot : (a : ℕ) × (i : ℕ) × IsSlot t a i p) where
  abbrev lies : Lies t slot.0 slot.1 p
  lies = slot-lies_at t slot.0 slot.1 p table slot.2

  abbrev now : Table
  now = with_mended_at to t p

  pub table-mended : IsTable now
  table-mended = IsTable-written t p (word_to to (word_at t p)) table lies.address lies.writable

  pub same-mended : HasSameStarts t now
  same-mended = subst (λ q. HasSameStarts t (with_word_at t q (word_to to (word_at t p)))) slot.2.at
      (same-written t slot.0 slot.1 (word_to to (word_at t p)) table (slot-below t slot.0 slot.1 p table slot.2))

  -- the word at another place stays
  pub word-kept : (q : ℕ) → (q ≡ p → ⊥) → word_at now q ≡ word_at t q
  word-kept q other = elim (same-or (region_of t.shape q) r) [
    | inr apart ↦ ap (λ (l : Land). get_or l.words (offset_of t.shape q) 0) (get_or-set_other t.lands r (region_of t.shape q) land (empty_land 0 0) apart)
    | inl here ↦
        ap (λ n. get_or (land_at now n).words (offset_of t.shape q) 0) here
        ∙ (ap (λ (l : Land). get_or l.words (offset_of t.shape q) 0) (get_or-set_same t.lands r land (empty_land 0 0) inside)
        ∙ (get_or-set_other (land_at t r).words (offset_of t.shape p) (offset_of t.shape q) (word_to to (word_at t p)) 0
        (λ same. other (sym (address-is t.shape q) ∙ (ap (λ n. address_in t.shape n (offset_of t.shape q)) here ∙ (ap (address_in t.shape r) same ∙ address-is t.shape p))))
        ∙ ap (λ n. get_or (land_at t n).words (offset_of t.shape q) 0) (sym here)))
  ]
    where
      r : ℕ
      r = region_of t.shape p

      land : Land
      land = with_word (land_at t r) (offset_of t.shape p) (word_to to (word_at t p))

      inside : r < length t.lands
      inside = omega (arith, table.lands, div_below p t.shape.words t.shape.regions (omega (arith, table.shape.fewest_words)) lies.address)

-- Some places, one after the other.

-- the other slots are slots still
pub slots-left : (t u : Table) (p : ℕ) (ps : List ℕ) → HasSameStarts t u → AreSlots t (p ∷ ps) → AreSlots u ps
slots-left t u p ps same slots q among =
    let s = slots q (among-later p q ps among) in
    (s.0, s.1, (same.slots s.0 s.1 q).1 s.2)

pub all-mended : (to : ℕ → ℕ) (t : Table) (ps : List ℕ) → IsTable t → AreSlots t ps
    → IsTable (with_mended to ps t) × HasSameStarts t (with_mended to ps t) × ((q : ℕ) → is_in q ps ≡ false → word_at (with_mended to ps t) q ≡ word_at t q)
all-mended to t [] table slots = (table, same-none t, λ q out. refl)
all-mended to t (p ∷ ps) table slots =
    let slot = slots p (among-first p ps) in
    let now = with_mended_at to t p in
    let rest = all-mended to now ps (table-mended to t p table slot) (slots-left t now p ps (same-mended to t p table slot) slots) in (
      rest.0,
      same-then t now (with_mended to ps now) (same-mended to t p table slot) rest.1,
      λ q out. rest.2 q (or-false (nat_eq p q) (is_in q ps) out).1
          ∙ word-kept to t p table slot q (λ e. false≢true (sym (or-false (nat_eq p q) (is_in q ps) out).0 ∙ eq-eqb p q (sym e))),
    )

-- Those before one are some of them, and it is not among them.

in-take : (n : ℕ) (ps : List ℕ) (q : ℕ) → IsTrue (is_in q (take n ps)) → IsTrue (is_in q ps)
in-take zero ps q among = absurd (false≢true among)
in-take (suc n) [] q among = absurd (false≢true among)
in-take (suc n) (p ∷ ps) q among = elim (among-cases p q (take n ps) among) [
  | inl here ↦ subst (λ k. IsTrue (is_in k (p ∷ ps))) here (among-first p ps)
  | inr later ↦ among-later p q ps (in-take n ps q later)
]

pub slots-before : (t : Table) (n : ℕ) (ps : List ℕ) → AreSlots t ps → AreSlots t (take n ps)
slots-before t n ps slots q among = slots q (in-take n ps q among)

pub is-among : (n : ℕ) (ps : List ℕ) → n < length ps → IsTrue (is_in (get_or ps n 0) ps)
is-among n [] less = absurd (omega (arith, less))
is-among zero (p ∷ ps) less = among-first p ps
is-among (suc n) (p ∷ ps) less = among-later p (get_or ps n 0) ps (is-among n ps (omega (arith, less)))

pub not-before : (n : ℕ) (ps : List ℕ) → IsAscending ps → n < length ps → is_in (get_or ps n 0) (take n ps) ≡ false
not-before n [] up less = absurd (omega (arith, less))
not-before zero (p ∷ ps) up less = refl
not-before (suc n) (p ∷ ps) up less =
    let above : p < get_or ps n 0 = up.0 (get_or ps n 0) (is-among n ps (omega (arith, less))) in
    ap (λ b. b || is_in (get_or ps n 0) (take n ps)) (ne_eqb p (get_or ps n 0) (λ e. omega (arith, e, above)))
    ∙ not-before n ps up.1 (omega (arith, less))

-- The cards have their shape still.
pub dirty-shape : (ps : List ℕ) (c : Cards) → (with_dirty_places ps c).shape ≡ c.shape
dirty-shape [] c = refl
dirty-shape (p ∷ ps) c = dirty-shape ps (with_dirty (card_of p) c)

-- One more of a list, which was not among those before.
pub in-more : (qs : List ℕ) (n q : ℕ) → n < length qs → is_in q (take (n + 1) qs) ≡ (is_in q (take n qs) || nat_eq (get_or qs n 0) q)
in-more qs n q less =
    ap (is_in q) (take_more qs n 0 less)
    ∙ (list_any-append (λ m. nat_eq m q) (take n qs) (get_or qs n 0 ∷ [])
    ∙ ap (λ b. is_in q (take n qs) || b) (by (nat_eq (get_or qs n 0) q)))
  where
    by : (b : Bool) → (b || false) ≡ b
    by true = refl
    by false = refl

flip : (m n : ℕ) → nat_eq m n ≡ nat_eq n m
flip m n = elim (same-or m n) [
  | inl same ↦ eq-eqb m n same ∙ sym (eq-eqb n m (sym same))
  | inr other ↦ ne_eqb m n other ∙ sym (ne_eqb n m (λ e. other (sym e)))
]

pub in-adds : (qs : List ℕ) (n r : ℕ) → IsAscending qs → n < length qs → Adds (is_in r (take n qs)) (nat_eq r (get_or qs n 0)) (is_in r (take (n + 1) qs))
in-adds qs n r up less =
    let q = get_or qs n 0 in
    (in-more qs n r less ∙ ap (λ b. is_in r (take n qs) || b) (flip q r), apart (nat_eq r q) refl)
  where
    apart : (b : Bool) → nat_eq r (get_or qs n 0) ≡ b → (is_in r (take n qs) && b) ≡ false
    apart true same = ap (λ b. b && true) (subst (λ k. is_in k (take n qs) ≡ false) (sym (eqb-true r (get_or qs n 0) same)) (not-before n qs up less))
    apart false other = by (is_in r (take n qs))
      where
        by : (b : Bool) → (b && false) ≡ false
        by true = refl
        by false = refl

pub in-cases : (qs : List ℕ) (n q : ℕ) → n < length qs → IsTrue (is_in q (take (n + 1) qs)) → IsTrue (is_in q (take n qs)) ⊎ (q ≡ get_or qs n 0)
in-cases qs n q less among = by (is_in q (take n qs)) refl (nat_eq (get_or qs n 0) q) refl
  where
    by : (b : Bool) → is_in q (take n qs) ≡ b → (d : Bool) → nat_eq (get_or qs n 0) q ≡ d → IsTrue (is_in q (take n qs)) ⊎ (q ≡ get_or qs n 0)
    by true before d own = inl before
    by false before true own = inr (sym (eqb-true (get_or qs n 0) q own))
    by false before false own = absurd (false≢true (sym (in-more qs n q less ∙ (ap (λ b. b || nat_eq (get_or qs n 0) q) before ∙ own)) ∙ among))

pub in-before : (qs : List ℕ) (n q : ℕ) → n < length qs → IsTrue (is_in q (take n qs)) → IsTrue (is_in q (take (n + 1) qs))
in-before qs n q less among = in-more qs n q less ∙ ap (λ b. b || nat_eq (get_or qs n 0) q) among

pub in-last : (qs : List ℕ) (n : ℕ) → n < length qs → IsTrue (is_in (get_or qs n 0) (take (n + 1) qs))
in-last qs n less =
    in-more qs n (get_or qs n 0) less
    ∙ (ap (λ b. is_in (get_or qs n 0) (take n qs) || b) (eq-eqb (get_or qs n 0) (get_or qs n 0) refl) ∙ by (is_in (get_or qs n 0) (take n qs)))
  where
    by : (b : Bool) → (b || true) ≡ true
    by true = refl
    by false = refl
