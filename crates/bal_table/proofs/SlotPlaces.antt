-- Which slots lie where.
use Rattle.std.proofs.Common.{◌≡◌, ℕ, ◌+◌, ◌-◌, ◌*◌, ◌<◌, ◌≤◌, Bool, true, false, cond, List, [], ◌∷◌, ◌++◌, length, Option, Some, None, refl, ap, sym, subst, ◌∙◌, arith}
use Rattle.std.specs.Prelude.{◌&&◌, ◌↔◌, IsTrue, is_some, nat_le, nat_lt, option_and_then, option_map, slice_get, map}
use Rattle.std.specs.List.{Contains, cons_option, filter, filter_map, range_with_len}
use Rattle.std.proofs.lemmas.Bool.{false≢true, lt-ltb}
use Rattle.std.proofs.lemmas.Bool.Decides.{nat_tests}
use Rattle.std.proofs.lemmas.Option.{none-some, same_Some}
use Rattle.bal_base.specs.Bits.{IsAscending}
use Rattle.bal_base.proofs.Lemmas.{filter-ascends, member-below, member-passes, member-there}
use Rattle.bal_layout.specs.Addresses.{IsAddress, card_of, region_of}
use Rattle.bal_layout.specs.Regions.{is_in}
use Rattle.bal_layout.specs.declared.header.Header.{Header}
use Rattle.bal_words.specs.Pieces.{header_in, thing_of}
use Rattle.bal_words.specs.Things.{Thing}
use Rattle.bal_words.proofs.Lemmas.{there}
use Rattle.bal_table.specs.Changes.{MayBeWritten}
use Rattle.bal_table.specs.Slots.{IsSlot, card_places, slot_at, slot_in, slots_between, slots_on}
use Rattle.bal_table.specs.declared.slots.Slot.{Slot}
use Rattle.bal_table.specs.Table.{IsTable, Table, holder_at, refs_in, slot_place, thing_in, things_of, value_place, word_at}
use Rattle.bal_table.proofs.Found.{at-found, found-at, found-join, found-none, found-numbers}
use Rattle.bal_table.proofs.Seen.{seen, seen-refs, value-place}
use Rattle.bal_table.proofs.SlotWords.{number-lies, reference-lies, word-region}

-- A slot, and the object that has it.

-- a slot's object is a thing that has so many references
pub slot-thing : (t : Table) (a i p : ℕ) → IsTable t → IsSlot t a i p → (x : Thing) × ((things_of t a ≡ Some x) × (i < length x.refs))
slot-thing t a i p table s =
    let x : Thing = thing_of s.header s.object [] in
    let is : things_of t a ≡ Some x = ap (option_and_then thing_in) s.is ∙ ap (option_map (λ (h : Header). thing_of h s.object [])) s.read in
    let z = seen t a x table is in
    let object : z.object ≡ s.object = same_Some z.object s.object (sym z.is ∙ s.is) in
    let header : z.header ≡ s.header = same_Some z.header s.header (sym z.read ∙ (ap header_in object ∙ s.read)) in
    (x, (is, omega (arith, s.within, seen-refs t a x z, ap (λ (h : Header). h.refs) header)))

-- and each reference of an object has a slot
pub thing-slot : (t : Table) (a i : ℕ) (x : Thing) → IsTable t → things_of t a ≡ Some x → i < length x.refs → IsSlot t a i (slot_place t a i)
thing-slot t a i x table is within =
    let z = seen t a x table is in
    record { object = z.object; header = z.header; is = z.is; read = z.read; within = omega (arith, within, seen-refs t a x z); at = refl }

-- it lies in the region of its object
pub slot-region : (t : Table) (a i p : ℕ) → IsTable t → IsSlot t a i p → region_of t.shape p ≡ region_of t.shape a
slot-region t a i p table s =
    let x = slot-thing t a i p table s in
    let z = seen t a x.0 table x.1.0 in
    ap (region_of t.shape) (sym s.at) ∙ word-region t a (2 + i) z.object table z.is (omega (arith, z.size, x.1.1, seen-refs t a x.0 z))

-- what is known of a slot: its place is an address that may be written, where its object's reference is read, and a word of
-- no other object
pub record Lies (t : Table) (a i p : ℕ) : Type 0 where
  pub thing : Thing
  pub is : things_of t a ≡ Some thing
  pub within : i < length thing.refs
  pub address : IsAddress t.shape p
  pub writable : MayBeWritten t p
  pub read : slice_get thing.refs i ≡ Some (word_at t p)
  pub held : holder_at t p ≡ Some a

pub slot-lies_at : (t : Table) (a i p : ℕ) → IsTable t → IsSlot t a i p → Lies t a i p
slot-lies_at t a i p table s =
    let x = slot-thing t a i p table s in
    let lies = reference-lies t a i x.0 table x.1.0 x.1.1 in
    subst (Lies t a i) s.at (record {
      thing = x.0;
      is = x.1.0;
      within = x.1.1;
      address = lies.0;
      writable = lies.1;
      read = lies.2;
      held = lies.3;
    })

-- a slot has a place of its own
pub slot-own : (t : Table) (a b i j p : ℕ) → IsTable t → IsSlot t a i p → IsSlot t b j p → (a ≡ b) × (i ≡ j)
slot-own t a b i j p table s u =
    let same : a ≡ b = same_Some a b (sym (slot-lies_at t a i p table s).held ∙ (slot-lies_at t b j p table u).held) in
    (same, omega (arith, same, s.at, u.at))

-- at which no number lies
pub slot-no_number : (t : Table) (a i p b j : ℕ) (y : Thing) → IsTable t → IsSlot t a i p → things_of t b ≡ Some y → j < length y.values → value_place t b j ≡ p → ⊥
slot-no_number t a i p b j y table s is within at =
    let lies = slot-lies_at t a i p table s in
    let number = number-lies t b j y table is within in
    let held : holder_at t p ≡ Some b = subst (λ q. holder_at t q ≡ Some b) at number.3 in
    let same : a ≡ b = same_Some a b (sym lies.held ∙ held) in
    let thing : lies.thing ≡ y = same_Some lies.thing y (sym lies.is ∙ (ap (things_of t) same ∙ is)) in
    let z = seen t b y table is in
    omega (arith, s.at, at, value-place t b j y z is, seen-refs t b y z, lies.within, same, ap (λ (x : Thing). length x.refs) thing)

-- the slots of an object ascend
pub slot-ascends : (t : Table) (a i j p r : ℕ) → IsSlot t a i p → IsSlot t a j r → i < j → p < r
slot-ascends t a i j p r s u less = omega (arith, s.at, u.at, less)

-- The slot at a place.

both-true : (a b : Bool) → (a && b) ≡ true → (a ≡ true) × (b ≡ true)
both-true true b h = (refl, h)
both-true false b h = absurd (false≢true h)

le-from : (a b : ℕ) → nat_le a b ≡ true → a ≤ b
le-from a b h = grind (arith, nat_tests)

lt-from : (a b : ℕ) → nat_lt a b ≡ true → a < b
lt-from a b h = grind (arith, nat_tests)

le-true : (a b : ℕ) → a ≤ b → nat_le a b ≡ true
le-true a b h = grind (arith, nat_tests)

-- a slot that is found in its holder is one
found-slot : (t : Table) (p : ℕ) (o : Option ℕ) (s : Slot) → IsTable t → slot_in t p o ≡ Some s → IsSlot t s.holder s.number p
found-slot t p None s table is = absurd (none-some s is)
found-slot t p (Some a) s table is = by (nat_le (a + 2) p && nat_lt (p - (a + 2)) (length (refs_in (things_of t a)))) refl is
  where
    here : Slot
    here = record { holder = a; number = p - (a + 2) }

    slot : (o : Option Thing) → things_of t a ≡ o → a + 2 ≤ p → p - (a + 2) < length (refs_in o) → IsSlot t a (p - (a + 2)) p
    slot None known from within = absurd (omega (arith, within))
    slot (Some x) known from within =
        let at : slot_place t a (p - (a + 2)) ≡ p = omega (arith, from) in
        subst (IsSlot t a (p - (a + 2))) at (thing-slot t a (p - (a + 2)) x table known within)

    by : (b : Bool) → (nat_le (a + 2) p && nat_lt (p - (a + 2)) (length (refs_in (things_of t a)))) ≡ b
        → cond b (Some (record { holder = a; number = p - (a + 2) })) None ≡ Some s → IsSlot t s.holder s.number p
    by false fails is = absurd (none-some s is)
    by true holds is =
        let both = both-true (nat_le (a + 2) p) (nat_lt (p - (a + 2)) (length (refs_in (things_of t a)))) holds in
        let one = slot (things_of t a) refl (le-from (a + 2) p both.0) (lt-from (p - (a + 2)) (length (refs_in (things_of t a))) both.1) in
        subst (λ (u : Slot). IsSlot t u.holder u.number p) (same_Some (record { holder = a; number = p - (a + 2) }) s is) one

pub slot_at-is : (t : Table) (p : ℕ) (s : Slot) → IsTable t → slot_at t p ≡ Some s → IsSlot t s.holder s.number p
slot_at-is t p s table is = found-slot t p (holder_at t p) s table is

-- and a slot is found
pub slot_at-there : (t : Table) (a i p : ℕ) → IsTable t → IsSlot t a i p → slot_at t p ≡ Some (record { holder = a; number = i })
slot_at-there t a i p table s =
    let lies = slot-lies_at t a i p table s in
    let number : p - (a + 2) ≡ i = omega (arith, s.at) in
    let refs : length (refs_in (things_of t a)) ≡ length lies.thing.refs = ap (λ (o : Option Thing). length (refs_in o)) lies.is in
    ap (slot_in t p) lies.held
    ∙ (ap (λ b. cond (b && nat_lt (p - (a + 2)) (length (refs_in (things_of t a)))) (Some (record { holder = a; number = p - (a + 2) })) None)
    (le-true (a + 2) p (omega (arith, s.at)))
    ∙ (ap (λ b. cond b (Some (record { holder = a; number = p - (a + 2) })) None)
    (lt-ltb (p - (a + 2)) (length (refs_in (things_of t a))) (omega (arith, number, refs, lies.within)))
    ∙ ap (λ n. Some (record { holder = a; number = n })) number))

pub slot_at-both : (t : Table) (p : ℕ) (s : Slot) → IsTable t → (slot_at t p ≡ Some s) ↔ IsSlot t s.holder s.number p
slot_at-both t p s table = (slot_at-is t p s table, λ is. slot_at-there t s.holder s.number p table is)

-- The slots between two addresses.

-- those before an address in between come first
pub between-join : (t : Table) (from mid to : ℕ) → from ≤ mid → mid ≤ to → slots_between t from to ≡ slots_between t from mid ++ slots_between t mid to
unfolding slots_between
between-join t from mid to before behind =
    let all : to - from ≡ (mid - from) + (to - mid) = omega arith in
    let cut : from + (mid - from) ≡ mid = omega arith in
    ap (λ n. filter_map (slot_at t) (range_with_len from n)) all
    ∙ (found-join (slot_at t) from (mid - from) (to - mid)
    ∙ ap (λ a. filter_map (slot_at t) (range_with_len from (mid - from)) ++ filter_map (slot_at t) (range_with_len a (to - mid))) cut)

-- there may be none
pub between-none : (t : Table) (from to : ℕ) → ((p : ℕ) → from ≤ p → p < to → slot_at t p ≡ None) → slots_between t from to ≡ []
unfolding slots_between
between-none t from to none = found-none (slot_at t) from (to - from) (λ p least most. none p least (omega arith))

-- and there may be one
between-one : (t : Table) (p : ℕ) (s : Slot) → slot_at t p ≡ Some s → slots_between t p (p + 1) ≡ s ∷ []
unfolding slots_between
between-one t p s is =
    let one : p + 1 - p ≡ 1 = omega arith in
    ap (λ n. filter_map (slot_at t) (range_with_len p n)) one ∙ ap (λ (o : Option Slot). cons_option o []) is

pub between-more : (t : Table) (from p : ℕ) (s : Slot) → from ≤ p → slot_at t p ≡ Some s → slots_between t from (p + 1) ≡ slots_between t from p ++ s ∷ []
between-more t from p s before is =
    between-join t from p (p + 1) before (omega arith) ∙ ap (λ (l : List Slot). slots_between t from p ++ l) (between-one t p s is)

-- a slot is among them exactly if it lies there
between-contains : (t : Table) (from to : ℕ) (s : Slot) → IsTable t
    → Contains (slots_between t from to) s ↔ ((p : ℕ) × (IsSlot t s.holder s.number p × (from ≤ p) × (p < to)))
unfolding slots_between
between-contains t from to s table = (
  λ among. let f = found-at (slot_at t) from (to - from) s among in (f.0, (slot_at-is t f.0 s table f.1.0, f.1.1, omega (arith, f.1.1, f.1.2))),
  λ is. at-found (slot_at t) from (to - from) is.0 s (slot_at-there t s.holder s.number is.0 table is.1.0) is.1.1 (omega (arith, is.1.1, is.1.2)),
)

-- a slot tells its place
told : (t : Table) → IsTable t → (p : ℕ) (s : Slot) → slot_at t p ≡ Some s → slot_place t s.holder s.number ≡ p
told t table p s is = (slot_at-is t p s table is).at

-- the slots between two addresses, by their places
abbrev places : Table → ℕ → ℕ → List ℕ
places t from to = map (λ (s : Slot). slot_place t s.holder s.number) (slots_between t from to)

-- these are the addresses at which one lies
places-are : (t : Table) (from to : ℕ) → IsTable t → places t from to ≡ filter (λ p. is_some (slot_at t p)) (range_with_len from (to - from))
unfolding slots_between
places-are t from to table = found-numbers (slot_at t) (λ (s : Slot). slot_place t s.holder s.number) (told t table) (range_with_len from (to - from))

places-both : (t : Table) (from to p : ℕ) → IsTable t → IsTrue (is_in p (places t from to)) ↔ ((s : Slot) × (IsSlot t s.holder s.number p × (from ≤ p) × (p < to)))
places-both t from to p table = (listed, back)
  where
    listed : is_in p (places t from to) ≡ true → (s : Slot) × (IsSlot t s.holder s.number p × (from ≤ p) × (p < to))
    listed among =
        let passing = subst (λ ps. is_in p ps ≡ true) (places-are t from to table) among in
        let found = member-passes (λ q. is_some (slot_at t q)) from (to - from) p passing in
        let below = member-below (λ q. is_some (slot_at t q)) from (to - from) p passing in
        let s = there (slot_at t p) found.0 in
        (s.0, (slot_at-is t p s.0 table s.1, found.1, omega (arith, found.1, below)))

    back : (s : Slot) × (IsSlot t s.holder s.number p × (from ≤ p) × (p < to)) → is_in p (places t from to) ≡ true
    back (s, (is, least, most)) =
        subst (λ ps. is_in p ps ≡ true) (sym (places-are t from to table))
        (member-there (λ q. is_some (slot_at t q)) from (to - from) p least (omega arith) (ap is_some (slot_at-there t s.holder s.number p table is)))

-- and they ascend
places-ascend : (t : Table) (from to : ℕ) → IsTable t → IsAscending (places t from to)
places-ascend t from to table = subst IsAscending (sym (places-are t from to table)) (filter-ascends (λ p. is_some (slot_at t p)) from (to - from))

-- The slots on a card.

-- those that are listed are exactly the slots that lie there
pub card-both : (t : Table) (card p : ℕ) → IsTable t
    → IsTrue (is_in p (card_places t card)) ↔ ((s : Slot) × (IsSlot t s.holder s.number p × (card_of p ≡ card)))
card-both t card p table =
    let both = places-both t (64 * card) (64 * card + 64) p table in (
      λ among. let s = both.0 among in (s.0, (s.1.0, omega (arith, s.1.1, s.1.2))),
      λ s. both.1 (s.0, (s.1.0, omega (arith, s.1.1), omega (arith, s.1.1))),
    )

pub card-ascends : (t : Table) (card : ℕ) → IsTable t → IsAscending (card_places t card)
card-ascends t card table = places-ascend t (64 * card) (64 * card + 64) table

-- a slot is among those on a card exactly if it lies there
pub card-contains : (t : Table) (card : ℕ) (s : Slot) → IsTable t
    → Contains (slots_on t card) s ↔ ((p : ℕ) × (IsSlot t s.holder s.number p × (card_of p ≡ card)))
card-contains t card s table =
    let both = between-contains t (64 * card) (64 * card + 64) s table in (
      λ among. let is = both.0 among in (is.0, (is.1.0, omega (arith, is.1.1, is.1.2))),
      λ is. both.1 (is.0, (is.1.0, omega (arith, is.1.1), omega (arith, is.1.1))),
    )

-- its place is on that card
pub card-place : (t : Table) (card : ℕ) (s : Slot) → IsTable t → Contains (slots_on t card) s
    → IsSlot t s.holder s.number (slot_place t s.holder s.number) × (card_of (slot_place t s.holder s.number) ≡ card)
card-place t card s table among =
    let is = (card-contains t card s table).0 among in
    subst (λ p. IsSlot t s.holder s.number p × (card_of p ≡ card)) (sym is.1.0.at) is.1
