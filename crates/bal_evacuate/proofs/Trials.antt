-- An evacuation of the trials' objects may begin.
use Rattle.std.proofs.Common.{◌≡◌, ◌+◌, ◌-◌, ◌<◌, ◌≤◌, ℕ, zero, suc, inl, inr, Bool, true, false, List, [], ◌∷◌, ◌++◌, length, replicate, Option, Some, None, refl, ap, sym, subst, ◌∙◌, arith}
use Rattle.std.specs.Prelude.{nat_lt, if◌then◌else◌, slice_get}
use Rattle.std.specs.Option.{option_map}
use Rattle.std.proofs.lemmas.Bool.{ltb-true}
use Rattle.std.proofs.lemmas.List.{length-append, length-map, length-replicate}
use Rattle.std.proofs.lemmas.Option.{get_or_from_slice_get, none-some, same_Some, slice_get-map}
use Rattle.bal_layout.specs.Header.{IsHeader}
use Rattle.bal_core.specs.Start.{IsGraph, IsObject}
use Rattle.bal_core.specs.World.{At, Graph, slots_in}
use Rattle.bal_core.proofs.Lemmas.{at-push-cases}
use Rattle.bal_region.specs.Land.{Land}
use Rattle.bal_evacuate.specs.Plan.{IsBare, MayEvacuate, numbers_of}
use Rattle.bal_evacuate.specs.Trials.{IsTrial, below, graph_of_trial, header_of_size, slots_of_trial, small, words_of_size}
use Rattle.bal_evacuate.proofs.Lists.{at-mapped}

-- an object of a trial
pub object-of : (size : ℕ) → 4 ≤ size → size ≤ 32 → IsObject small (words_of_size size)
object-of size least most =
    let long : length (words_of_size size) ≡ size = (let rest : length (replicate {A = ℕ} (size - 2) 0) ≡ size - 2 = length-replicate {A = ℕ} (size - 2) 0 in omega (arith, rest, least)) in
    record {
      header = header_of_size size;
      is = record { limits = limits; first_is = refl; second_is = refl };
      size = (let values : 2 + 2 + (size - 4) ≡ size = omega (arith, least) in values ∙ sym long);
      smallest = omega (arith, long, least);
      largest = omega (arith, long, most);
    }
  where
    limits : IsHeader (header_of_size size)
    limits = record { refs = omega arith; values = omega (arith, most); thread = omega arith; first_ordinal = omega arith; last_ordinal = omega arith }

pub zeros-of : (size : ℕ) → 2 ≤ size → replicate {A = ℕ} size 0 ≡ 0 ∷ 0 ∷ replicate (size - 2) 0
zeros-of zero some = absurd (omega (arith, some))
zeros-of (suc zero) some = absurd (omega (arith, some))
zeros-of (suc (suc n)) some = let same : n ≡ suc (suc n) - 2 = omega arith in ap (λ (m : ℕ). 0 ∷ 0 ∷ replicate {A = ℕ} m 0) same

each : {X : Type 0} (n : ℕ) (x y : X) (k : ℕ) → At (replicate n x) k y → x ≡ y
each zero x y k at = absurd (none-some y at)
each (suc n) x y zero at = same_Some x y at
each (suc n) x y (suc k) at = each n x y k at

-- the slots of an object
pub slots-at : (count : ℕ) (slots : List (Option ℕ × Option ℕ)) (j : ℕ) (pair : Option ℕ × Option ℕ) → At slots j pair
    → slots_in (slots_of_trial count slots) j ≡ below count pair.0 ∷ below count pair.1 ∷ []
slots-at count slots j pair at =
    get_or_from_slice_get (slots_of_trial count slots) j (below count pair.0 ∷ below count pair.1 ∷ []) []
    (at-mapped (λ (x : Option ℕ × Option ℕ). below count x.0 ∷ below count x.1 ∷ []) slots j pair at)

below-is : (count : ℕ) (o : Option ℕ) (k : ℕ) → below count o ≡ Some k → k < count
below-is count None k is = absurd (none-some k is)
below-is count (Some m) k is = by (nat_lt m count) refl is
  where
    by : (b : Bool) → nat_lt m count ≡ b → (if b then Some m else None) ≡ Some k → k < count
    by true less same = subst (λ n. n < count) (same_Some m k same) (ltb-true m count less)
    by false less same = absurd (none-some k same)

held-below : (count : ℕ) (slots : List (Option ℕ × Option ℕ)) (j i k : ℕ) → At (slots_in (slots_of_trial count slots) j) i (Some k) → k < count
held-below count [] j i k at = absurd (none-some (Some k) at)
held-below count (pair ∷ slots) (suc j) i k at = held-below count slots j i k at
held-below count (pair ∷ slots) zero zero k at = below-is count pair.0 k (same_Some (below count pair.0) (Some k) at)
held-below count (pair ∷ slots) zero (suc zero) k at = below-is count pair.1 k (same_Some (below count pair.1) (Some k) at)
held-below count (pair ∷ slots) zero (suc (suc i)) k at = absurd (none-some (Some k) at)

module _ (count age : ℕ) (first other : List ℕ) (slots : List (Option ℕ × Option ℕ)) (is : IsTrial count first other age) (same : count ≡ length slots) where
  abbrev g : Graph
  g = graph_of_trial count age first other slots

  many : length g.ages ≡ count
  many = length-replicate count age

  graph : IsGraph small g
  graph = record {
    words = (let rest : length (replicate (count - 1) other) ≡ count - 1 = length-replicate (count - 1) other in
        let some : 1 ≤ count = is.some in
        omega (arith, rest, some, many));
    targets = (let long : length g.targets ≡ length slots
        = length-map slots (λ (pair : Option ℕ × Option ℕ). below count pair.0 ∷ below count pair.1 ∷ []) in omega (arith, long, same, many));
    oldest = λ k x at. subst (λ a. a ≤ 24) (each count age x k at) is.age;
    objects = objects;
    slots = λ j i k at. let less : k < count = held-below count slots j i k at in omega (arith, less, many);
  }
    where
      objects : (k : ℕ) (words : List ℕ) → At g.words k words → IsObject small words
      objects zero words at = subst (IsObject small) (same_Some first words at) is.first
      objects (suc k) words at = subst (IsObject small) (each (count - 1) other words k at) is.other

  -- regions that are numbered from 1 on
  pub may-evacuate : (roots : List ℕ) (pool : List Land) (regions : ℕ) (limit : Option ℕ) → regions ≤ 3
      → ((i k : ℕ) → At roots i k → k < count)
      → ((i : ℕ) (l : Land) → At pool i l → (l.number ≡ i + 1) × (i < regions) × IsBare small l)
      → MayEvacuate (record { shape = small; graph = g; roots = roots; pool = pool; limit = limit })
  may-evacuate roots pool regions limit few held bare = record {
    start = record {
      graph = graph;
      held = λ i k at. let less : k < count = held i k at in omega (arith, less, many);
      regions = λ i q at. let n = numbered i q at in omega (arith, n.0, n.1, few);
      distinct = λ i j q one two. let n = numbered i q one in let m = numbered j q two in omega (arith, n.0, m.0);
      one = omega arith;
      most = omega arith;
    };
    bare = λ i l at. let b = bare i l at in ((let number : l.number ≡ i + 1 = b.0 in let less : i < regions = b.1 in omega (arith, number, less, few)), b.2);
  }
    where
      numbered : (i q : ℕ) → At (numbers_of pool) i q → (q ≡ i + 1) × (i < regions)
      numbered i q at = by (slice_get pool i) refl
        where
          mapped : option_map (λ (l : Land). l.number) (slice_get pool i) ≡ Some q
          mapped = sym (slice_get-map (λ (l : Land). l.number) pool i) ∙ at

          by : (o : Option Land) → slice_get pool i ≡ o → (q ≡ i + 1) × (i < regions)
          by None none = absurd (none-some q (sym (ap (option_map (λ (l : Land). l.number)) none) ∙ mapped))
          by (Some l) some =
              let b = bare i l some in
              let number : l.number ≡ q = same_Some l.number q (sym (ap (option_map (λ (l : Land). l.number)) some) ∙ mapped) in
              (sym number ∙ b.0, b.1)

-- one region more in a pool
pub record ArePooled (count : ℕ) (pool : List Land) (place : ℕ) : Type 0 where
  pub many : length pool ≡ place
  pub each : (i : ℕ) (l : Land) → At pool i l → (l.number ≡ i + 1) × (i < count) × IsBare small l

pub pooled-none : (count : ℕ) → ArePooled count [] 0
pooled-none count = record { many = refl; each = λ i l at. absurd (none-some l at) }

pub pooled-next : (count : ℕ) (pool : List Land) (place : ℕ) (l : Land) → ArePooled count pool place → place < count
    → l ≡ record { number = place + 1; words = replicate 256 0; starts = []; used = 0 } → ArePooled count (pool ++ l ∷ []) (place + 1)
pooled-next count pool place l before less is = record {
  many = length-append pool (l ∷ []) ∙ ap (λ n. n + 1) before.many;
  each = λ i m at. elim (at-push-cases pool l m i at) [
    | inl old ↦ before.each i m old
    | inr new ↦
        let place_is : i ≡ place = new.0 ∙ before.many in
        let number : m.number ≡ place + 1 = ap (λ (x : Land). x.number) (new.1 ∙ is) in (
          omega (arith, place_is, number),
          omega (arith, place_is, less),
          subst (IsBare small) (sym (new.1 ∙ is)) (record { starts = refl; used = refl; words = length-replicate {A = ℕ} 256 0 }),
        )
  ];
}

pub two-roots : (one two count : ℕ) → one < count → two < count → (i k : ℕ) → At (one ∷ two ∷ []) i k → k < count
two-roots one two count first second zero k at = subst (λ n. n < count) (same_Some one k at) first
two-roots one two count first second (suc zero) k at = subst (λ n. n < count) (same_Some two k at) second
two-roots one two count first second (suc (suc i)) k at = absurd (none-some k at)
