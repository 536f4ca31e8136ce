-- Heaps on which a compaction is tried, as they are made, and the graph that they show.
use Rattle.std.proofs.Common.{◌≡◌, ℕ, zero, suc, ◌+◌, ◌-◌, ◌<◌, ◌≤◌, ◌⊎◌, inl, inr, Bool, true, false, cond, List, [], ◌∷◌, length, replicate, set, Option, Some, None, refl, ap, sym, subst, ◌∙◌, arith}
use Rattle.std.specs.Prelude.{◌&&◌, MatchOption, nat_eq}
use Rattle.std.proofs.lemmas.Bool.{and_parts, eq-eqb, eqb-true}
use Rattle.std.proofs.lemmas.Option.{get_or_from_slice_get, none-some, same_Some}
use Rattle.bal_barrier.specs.Flush.{LeadToObjects}
use Rattle.bal_compact.specs.Trials.{IsTrial}
use Rattle.bal_layout.specs.Addresses.{address_in}
use Rattle.bal_layout.specs.Graph.{Graph, Object}
use Rattle.bal_layout.specs.Names.{same_name}
use Rattle.bal_layout.specs.Regions.{free_region, region_at, region_with_object}
use Rattle.bal_layout.specs.Shape.{IsShape, Shape}
use Rattle.bal_layout.specs.declared.name.Name.{Name}
use Rattle.bal_layout.specs.declared.region_state.RegionState.{RegionState}
use Rattle.bal_layout.specs.declared.region_state.Role.{Role}
use Rattle.bal_remember.specs.Remembered.{cards}
use Rattle.bal_table.specs.Changes.{empty_table, with_new, with_role, with_word_at}
use Rattle.bal_table.specs.Table.{IsPiece, IsTable, Table, land_at, slot_place, things_of, word_at}
use Rattle.bal_table.proofs.Lemmas.{reference-lies, thing-none, thing-placed, thing-referred, thing-slot}
use Rattle.bal_words.specs.Shown.{Finds, Shows, object_of}
use Rattle.bal_words.specs.Things.{Thing, Things, Updated, blank_thing, with_ref}
use Rattle.bal_words.proofs.Lemmas.{same-or, same_parts}

-- What is remembered.

AreBare : List RegionState → Type 0
AreBare rs = (q : ℕ) → (region_at rs q).remembered ≡ cards []

bare-free : (n : ℕ) → AreBare (replicate n free_region)
unfolding AreBare
bare-free zero q = refl
bare-free (suc n) zero = refl
bare-free (suc n) (suc q) = bare-free n q

bare-set : (rs : List RegionState) (q : ℕ) (r : RegionState) → r.remembered ≡ cards [] → AreBare rs → AreBare (set rs q r)
unfolding AreBare
bare-set [] q r is bare p = bare p
bare-set (x ∷ xs) zero r is bare zero = is
bare-set (x ∷ xs) zero r is bare (suc p) = bare (suc p)
bare-set (x ∷ xs) (suc q) r is bare zero = bare zero
bare-set (x ∷ xs) (suc q) r is bare (suc p) = bare-set xs q r is (λ n. bare (suc n)) p

-- How they are made.

pub trial-empty : (s : Shape) → IsShape s → LeadToObjects (empty_table s) → IsTrial (empty_table s)
unfolding AreBare
trial-empty s shape found = record {
  named = λ a x is. absurd (none-some x (sym (thing-none s a shape) ∙ is));
  found = found;
  lists = bare-free s.regions;
}

-- what regions are used for says nothing of references
abbrev pub SaysNothing : Type 0
SaysNothing = (t : Table) (regions : List RegionState) (current : Option ℕ) → LeadToObjects t → LeadToObjects (record t { regions = regions; current = current })

pub trial-taken : SaysNothing → (t u : Table) (o : Option ℕ) (role : Role) → MatchOption o (u ≡ t) (λ q. u ≡ with_role t q role) → IsTrial t → IsTrial u
unfolding AreBare
trial-taken states t u None role is trial = subst IsTrial (sym is) trial
trial-taken states t u (Some q) role is trial =
    let r = record (region_at t.regions q) { role = role } in
    subst IsTrial (sym is) (record {
      named = trial.named;
      found = states t (set t.regions q r) t.current trial.found;
      lists = bare-set t.regions q r (trial.lists q) trial.lists;
    })

-- where the next object is placed
abbrev pub next_place : Table → ℕ → ℕ
next_place t q = address_in t.shape q (land_at t q).used

pub trial-new : (t : Table) (q first second words : ℕ) (p : IsPiece t.shape first second words) → IsTable t → q < t.shape.regions
    → (land_at t q).used + words ≤ t.shape.words → p.header.name ≡ record { thread = 0; ordinal = next_place t q + 1 }
    → LeadToObjects (with_new t q first second words) → IsTrial t → IsTrial (with_new t q first second words)
unfolding AreBare
trial-new t q first second words p table within fits name found trial = record {
  named = λ a x is. named a x is (same-or a (next_place t q));
  found = found;
  lists = bare-set t.regions q (region_with_object words (region_at t.regions q)) (trial.lists q) trial.lists;
}
  where
    update : Updated (things_of t) (things_of (with_new t q first second words)) (next_place t q) (Some (blank_thing p.header.name p.header.kind p.header.refs p.header.values))
    update = thing-placed t q first second words p table within fits

    named : (a : ℕ) (x : Thing) → things_of (with_new t q first second words) a ≡ Some x → (a ≡ next_place t q) ⊎ (a ≡ next_place t q → ⊥) → x.name ≡ record { thread = 0; ordinal = a + 1 }
    named a x is (inl here) =
        let x-is = same_Some (blank_thing p.header.name p.header.kind p.header.refs p.header.values) x (sym update.here ∙ (ap (things_of (with_new t q first second words)) (sym here) ∙ is)) in
        let same : record { thread = 0; ordinal = next_place t q + 1 } ≡ record { thread = 0; ordinal = a + 1 } = ap (λ n. record { thread = 0; ordinal = n + 1 }) (sym here) in
        ap (λ (y : Thing). y.name) (sym x-is) ∙ (name ∙ same)
    named a x is (inr other) = trial.named a x (sym (update.elsewhere a other) ∙ is)

pub trial-referred : (t : Table) (a slot word : ℕ) (x : Thing) → IsTable t → things_of t a ≡ Some x → slot < length x.refs
    → LeadToObjects (with_word_at t (slot_place t a slot) word) → IsTrial t → IsTrial (with_word_at t (slot_place t a slot) word)
trial-referred t a slot word x table is within found trial = record {
  named = λ b y stands. named b y stands (same-or b a);
  found = found;
  lists = trial.lists;
}
  where
    update : Updated (things_of t) (things_of (with_word_at t (slot_place t a slot) word)) a (Some (with_ref slot word x))
    update = thing-referred t a slot word x table is within

    named : (b : ℕ) (y : Thing) → things_of (with_word_at t (slot_place t a slot) word) b ≡ Some y → (b ≡ a) ⊎ (b ≡ a → ⊥) → y.name ≡ record { thread = 0; ordinal = b + 1 }
    named b y stands (inl here) =
        let y-is = same_Some (with_ref slot word x) y (sym update.here ∙ (ap (things_of (with_word_at t (slot_place t a slot) word)) (sym here) ∙ stands)) in
        ap (λ (z : Thing). z.name) (sym y-is) ∙ trial.named b x (ap (things_of t) here ∙ is)
    named b y stands (inr other) = trial.named b y (sym (update.elsewhere b other) ∙ stands)

-- What they show.

-- the object of a name, if it is the one that starts there
object_named : Things → Name → Option Thing → Option Object
object_named things n None = None
object_named things n (Some x) = cond (same_name x.name n) (Some (object_of things x)) None

module _ (t : Table) (table : IsTable t) (trial : IsTrial t) where
  graph : Graph
  graph n = object_named (things_of t) n (things_of t (n.ordinal - 1))

  pub trial-shows : (g : Graph) × Shows (things_of t) g
  unfolding graph object_named
  trial-shows = (
    graph,
    record {
      each = λ a x is.
          let at : x.name.ordinal - 1 ≡ a = omega (arith, ap (λ (n : Name). n.ordinal) (trial.named a x is)) in
          ap (object_named (things_of t) x.name) (ap (things_of t) at ∙ is)
          ∙ ap (λ b. cond b (Some (object_of (things_of t) x)) None) (named-same x.name);
      every = λ n o is. every n o (things_of t (n.ordinal - 1)) refl is;
      once = λ a b x y one two same. omega (
        arith,
        ap (λ (n : Name). n.ordinal) (trial.named a x one),
        ap (λ (n : Name). n.ordinal) (trial.named b y two),
        ap (λ (n : Name). n.ordinal) same,
      );
      found = λ a x is k d less.
          let slot = thing-slot t a k x table is less in
          let lies = reference-lies t a k x table is less in
          subst (Finds (things_of t)) (sym (get_or_from_slice_get x.refs k (word_at t (slot_place t a k)) d lies.2)) (trial.found.each a k (slot_place t a k) slot);
    },
  )
    where
      named-same : (n : Name) → same_name n n ≡ true
      named-same n = ap (λ b. b && nat_eq n.ordinal n.ordinal) (eq-eqb n.thread n.thread refl) ∙ eq-eqb n.ordinal n.ordinal refl

      every : (n : Name) (o : Object) (s : Option Thing) → things_of t (n.ordinal - 1) ≡ s → object_named (things_of t) n s ≡ Some o
          → (a : ℕ) × ((x : Thing) × (things_of t a ≡ Some x) × (x.name ≡ n))
      every n o None at is = absurd (none-some o is)
      every n o (Some x) at is = by (same_name x.name n) refl is
        where
          by : (b : Bool) → same_name x.name n ≡ b → cond b (Some (object_of (things_of t) x)) None ≡ Some o
              → (a : ℕ) × ((x : Thing) × (things_of t a ≡ Some x) × (x.name ≡ n))
          by false other is = absurd (none-some o is)
          by true same is =
              let parts = and_parts (nat_eq x.name.thread n.thread) (nat_eq x.name.ordinal n.ordinal) same in
              (n.ordinal - 1, (x, at, same_parts x.name n (eqb-true x.name.thread n.thread parts.0) (eqb-true x.name.ordinal n.ordinal parts.1)))
