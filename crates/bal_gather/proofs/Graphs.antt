-- The objects of the chosen regions as a graph.
use Rattle.std.proofs.Common.{◌≡◌, ℕ, zero, suc, ◌<◌, ◌≤◌, inl, inr, Bool, true, false, List, [], length, map, get_or, Option, Some, refl, ap, sym, subst, ◌∙◌, arith}
use Rattle.std.specs.Prelude.{◌↔◌, IsSome, IsTrue, is_some, option_map, slice_get, unwrap_or}
use Rattle.std.proofs.lemmas.Bool.{cases_lt, false≢true}
use Rattle.std.proofs.lemmas.List.{get_or-map, get_or_past, length-map}
use Rattle.std.proofs.lemmas.Option.{get_or_from_slice_get, none-some, same_Some, slice_get-get_or, slice_get-map, slice_get_within}
use Rattle.bal_core.specs.Start.{IsGraph, IsObject}
use Rattle.bal_core.specs.World.{slots_in}
use Rattle.bal_layout.specs.Addresses.{offset_of, region_of}
use Rattle.bal_layout.specs.Header.{IsHeaderOf, header_of, size_in}
use Rattle.bal_layout.specs.References.{word_of}
use Rattle.bal_layout.specs.Regions.{age_of}
use Rattle.bal_layout.specs.declared.header.Header.{Header}
use Rattle.bal_layout.specs.declared.region_state.Role.{Role}
use Rattle.bal_layout.specs.declared.region_state.Role.TheVariants as roles
use Rattle.bal_plan.specs.Plan as heap
use Rattle.bal_plan.proofs.Lemmas.{sized}
use Rattle.bal_region.specs.Land.{size_by}
use Rattle.bal_region.proofs.Lemmas.{object-seen, size-header}
use Rattle.bal_table.specs.Table.{IsRole, IsTable, Table, land_at, refs_in, role_at, slot_place, things_of, word_at}
use Rattle.bal_table.proofs.Lemmas.{reference-there, seen}
use Rattle.bal_words.specs.Shown.{Finds}
use Rattle.bal_words.proofs.Lemmas.{there}
use Rattle.bal_gather.specs.Lent.{Lent, is_chosen}
use Rattle.bal_gather.specs.Numbers.{number_of, starts_of}
use Rattle.bal_gather.specs.Objects.{age_at, graph_of, number_behind, targets_at, words_at}
use Rattle.bal_gather.proofs.Listed.{at-number, number-place}
use Rattle.bal_gather.proofs.Numbering.{number-here, number-outside}

-- the slots of the object that starts at an address are those of its number
pub slots-of : (l : Lent) (k a : ℕ) → slice_get (starts_of l) k ≡ Some a → slots_in (graph_of l).targets k ≡ targets_at l a
slots-of l k a is =
    get_or-map (targets_at l) (starts_of l) k 0 [] (slice_get_within (starts_of l) k a is) ∙ ap (targets_at l) (get_or_from_slice_get (starts_of l) k a 0 is)

-- and what each holds is told by its word
pub slot-holds : (l : Lent) (k a slot word : ℕ) → IsTable l.table → slice_get (starts_of l) k ≡ Some a → slot < length (slots_in (graph_of l).targets k)
    → word ≡ word_at l.table (slot_place l.table a slot) → slice_get (slots_in (graph_of l).targets k) slot ≡ Some (number_behind l word)
slot-holds l k a slot word table is within read =
    let refs = refs_in (things_of l.table a) in
    let slots = slots-of l k a is in
    let less : slot < length refs = omega (arith, within, ap (λ (xs : List (Option ℕ)). length xs) slots, length-map refs (number_behind l)) in
    ap (λ (xs : List (Option ℕ)). slice_get xs slot) slots
    ∙ (slice_get-map (number_behind l) refs slot ∙ ap (option_map (number_behind l)) ((reference-there l.table a slot table less).2 ∙ ap Some (sym read)))

-- What an evacuation asks of them.

read-somewhere : {A : Type 0} (f : ℕ → A) (xs : List ℕ) (k : ℕ) (y : A) → slice_get (map f xs) k ≡ Some y → (k < length xs) × (f (get_or xs k 0) ≡ y)
read-somewhere f xs k y is =
    let within : k < length xs = omega (arith, slice_get_within (map f xs) k y is, length-map xs f) in
    (within, same_Some (f (get_or xs k 0)) y (sym (slice_get-map f xs k ∙ ap (option_map f) (slice_get-get_or xs k 0 within)) ∙ is))

role-young : (r : Role) → IsRole r → age_of r ≤ 24
role-young roles.Free is = omega arith
role-young (roles.Object age) is = is
role-young roles.Leaf is = absurd is

-- the region of an object is one of the table's
region-there : (t : Table) (a : ℕ) → IsTable t → heap.IsObject t a → region_of t.shape a < t.shape.regions
region-there t a table object = (sized t a table object).region

-- an object begins with a header of its size, and is no larger than the largest may be
words-there : ((h : Header) (first second : ℕ) → header_of first second ≡ Some h → IsHeaderOf h first second)
    → (t : Table) (a : ℕ) → IsTable t → heap.IsObject t a → IsObject t.shape (words_at t a)
words-there once t a table object =
    let x = there (things_of t a) object in
    let s = seen t a x.0 table x.1 in
    let q = region_of t.shape a in
    let region = table.each q (region-there t a table object) in
    let land = (object-seen (land_at t q) (offset_of t.shape a) region.land s.object s.is).1 in
    let size : size_in t.shape.words s.header ≡ length s.object
    = ap (λ n. size_in n s.header) (sym region.words) ∙ (ap (size_by (length (land_at t q).words)) (sym s.read) ∙ land.size) in
    subst (IsObject t.shape) (sym (ap (λ (o : Option (List ℕ)). unwrap_or o []) s.is)) (record {
      header = s.header;
      is = once s.header (get_or s.object 0 0) (get_or s.object 1 0) s.read;
      size = size;
      smallest = omega (arith, size, size-header t.shape.words s.header);
      largest = omega (arith, size, s.may.small);
    })

-- a slot holds none but objects with numbers
number-within : (l : Lent) (word k : ℕ) → IsTable l.table → number_behind l word ≡ Some k → k < length (starts_of l)
number-within l zero k table is = absurd (none-some k is)
number-within l (suc a) k table is = slice_get_within (starts_of l) k a ((number-place l a k table).0 is)

pub graph-is : ((h : Header) (first second : ℕ) → header_of first second ≡ Some h → IsHeaderOf h first second) → (l : Lent) → IsTable l.table → IsGraph l.table.shape (graph_of l)
graph-is once l table = record {
  words = length-map (starts_of l) (words_at l.table) ∙ sym (length-map (starts_of l) (age_at l.table));
  targets = length-map (starts_of l) (targets_at l) ∙ sym (length-map (starts_of l) (age_at l.table));
  oldest = λ k age is.
      let at = read-somewhere (age_at l.table) (starts_of l) k age is in
      let a = get_or (starts_of l) k 0 in
      omega (
        arith,
        at.1,
        role-young (role_at l.table (region_of l.table.shape a)) (table.each (region_of l.table.shape a) (region-there l.table a table (at-number l k at.0).0)).role,
      );
  objects = λ k words is.
      let at = read-somewhere (words_at l.table) (starts_of l) k words is in
      subst (IsObject l.table.shape) at.1 (words-there once l.table (get_or (starts_of l) k 0) table (at-number l k at.0).0);
  slots = λ j i k is.
      let within = held j i k is in
      omega (arith, within, length-map (starts_of l) (age_at l.table));
}
  where
    held : (j i k : ℕ) → slice_get (slots_in (graph_of l).targets j) i ≡ Some (Some k) → k < length (starts_of l)
    held j i k is = elim (cases_lt j (length (starts_of l))) [
      | inl within ↦
          let slots = slots-of l j (get_or (starts_of l) j 0) (slice_get-get_or (starts_of l) j 0 within) in
          let refs = refs_in (things_of l.table (get_or (starts_of l) j 0)) in
          let at = read-somewhere (number_behind l) refs i (Some k) (sym (ap (λ (xs : List (Option ℕ)). slice_get xs i) slots) ∙ is) in
          number-within l (get_or refs i 0) k table at.1
      | inr past ↦ absurd (none-some (Some k)
          (sym (ap (λ (xs : List (Option ℕ)). slice_get xs i) (get_or_past (graph_of l).targets j [] (omega (arith, past, length-map (starts_of l) (targets_at l))))) ∙ is))
    ]

-- What a reference is told as.

pub reference-told : (l : Lent) (a : ℕ) → IsTable l.table → Finds (things_of l.table) (word_of a) → IsSome (number_behind l (word_of a)) ↔ IsTrue (is_chosen l a)
reference-told l a table found = (back, λ chosen. ap is_some (number-here l a chosen found))
  where
    back : is_some (number_of l a) ≡ true → is_chosen l a ≡ true
    back some = by (is_chosen l a) refl
      where
        by : (b : Bool) → is_chosen l a ≡ b → is_chosen l a ≡ true
        by true is = is
        by false is = absurd (false≢true (sym (ap is_some (number-outside l a is)) ∙ some))
