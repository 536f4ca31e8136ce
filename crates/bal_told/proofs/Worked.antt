-- The small evacuation is all that the laws ask for: so they speak of something.
use Rattle.std.proofs.Common.{◌≡◌, ◌≤◌, ◌<◌, ◌+◌, ◌⊎◌, ◌||◌, inl, inr, ℕ, zero, suc, Bool, true, false, IsTrue, List, [], ◌∷◌, Some, refl, ap, sym, subst, ◌∙◌, arith}
use Rattle.std.proofs.lemmas.Bool.{false≢true, or_cases}
use Rattle.std.proofs.lemmas.List.Sorted.{IsPermutation-refl}
use Rattle.std.proofs.lemmas.Option.{none-some, same_Some}
use Rattle.bal_layout.specs.Names.{is_among, same_name}
use Rattle.bal_layout.specs.Shape.{IsShape}
use Rattle.bal_layout.specs.declared.name.Name.{Name}
use Rattle.bal_core.specs.World.{At, IsRoot, IsWorld, slots_of}
use Rattle.bal_core.specs.Core.{Fits}
use Rattle.bal_core.specs.Rest.{EndsWalk, IsWalk}
use Rattle.bal_core.specs.Steps.{told}
use Rattle.bal_core.specs.Finished.{AreCauses, AreCopies, AreRegions, AreSurvivors, Evacuation, IsEvacuated, Receives, Survives, copies_by, drawn_by, filled, won_by}
use Rattle.bal_core.specs.declared.event.Decision.{Decision}
use Rattle.bal_core.specs.declared.event.Decision.TheVariants as decision
use Rattle.bal_core.specs.declared.row.Drawn.{Drawn}
use Rattle.bal_core.specs.declared.row.Told.{Told}
use Rattle.bal_model.proofs.Lemmas.{same_name-eq}
use Rattle.bal_told.specs.OnBoard.{IsObjectOf, IsOfBoard}
use Rattle.bal_told.specs.Whole.{AreWalksOf, IsWhole, MayCollect}
use Rattle.bal_told.specs.Worked.{copied_and_marked, first, kept_of_them, one_copy, one_eden, second, two_objects}
use Rattle.bal_told.proofs.Alone.{whole-alone}
use Rattle.bal_told.proofs.Lists.{each-at_place}

-- The world.

no-target : (j i k : ℕ) → At (slots_of two_objects j) i (Some k) → ⊥
no-target zero i k at = none-some (Some k) at
no-target (suc zero) i k at = none-some (Some k) at
no-target (suc (suc j)) i k at = none-some (Some k) at

root-is : (k : ℕ) → IsRoot two_objects k → (k ≡ 0) ⊎ (k ≡ 1)
root-is k (zero, at) = inl (sym (same_Some 0 k at))
root-is k (suc zero, at) = inr (sym (same_Some 1 k at))
root-is k (suc (suc i), at) = absurd (none-some k at)

in-pool : (i q : ℕ) → At (1 ∷ 2 ∷ 3 ∷ []) i q → (q ≡ i + 1) × (q < 4)
in-pool zero q at = let is = same_Some 1 q at in (omega (arith, is), omega (arith, is))
in-pool (suc zero) q at = let is = same_Some 2 q at in (omega (arith, is), omega (arith, is))
in-pool (suc (suc zero)) q at = let is = same_Some 3 q at in (omega (arith, is), omega (arith, is))
in-pool (suc (suc (suc i))) q at = absurd (none-some q at)

shape : IsShape two_objects.shape
shape = record {
  fewest_regions = omega arith;
  most_regions = omega arith;
  fewest_words = omega arith;
  most_words = omega arith;
  power_of_two = refl;
  words_in_all = omega arith;
}

world : IsWorld two_objects
world = record {
  shape = shape;
  ages = refl;
  names = refl;
  targets = refl;
  oldest = λ k age at. each-at_place (λ (a : ℕ). a ≤ 24) (0 ∷ 0 ∷ []) k age (omega arith, (omega arith, tt)) at;
  smallest = λ k size at. each-at_place (λ (a : ℕ). 2 ≤ a) (4 ∷ 4 ∷ []) k size (omega arith, (omega arith, tt)) at;
  largest = λ k size at. each-at_place (λ (a : ℕ). a ≤ 32) (4 ∷ 4 ∷ []) k size (omega arith, (omega arith, tt)) at;
  roots = λ k root. elim (root-is k root) [ inl is ↦ omega (arith, is) | inr is ↦ omega (arith, is) ];
  slots = λ j k points. absurd (no-target j points.0 k points.1);
  regions = λ i q at. (in-pool i q at).1;
  distinct = λ i j q at there. let one = (in-pool i q at).0 in let two = (in-pool j q there).0 in omega (arith, one, two);
}

-- What survives.

abbrev e : Evacuation
e = copied_and_marked

abbrev only_draw : Drawn
only_draw = record { ordinal = 0; region = 1; age = 1 }

survivor-is : (n i k : ℕ) (d : Decision) → Survives e n i k d
    → ((n ≡ 0) × (i ≡ 0) × (k ≡ 0) × (d ≡ decision.Copied 256)) ⊎ ((n ≡ 0) × (i ≡ 1) × (k ≡ 1) × (d ≡ decision.Marked))
survivor-is zero zero k d at =
    let is = same_Some (told 0 (decision.Copied 256)) (told k d) at in
    inl (refl, refl, sym (ap (λ (t : Told). t.object) is), sym (ap (λ (t : Told). t.decision) is))
survivor-is zero (suc zero) k d at =
    let is = same_Some (told 1 decision.Marked) (told k d) at in
    inr (refl, refl, sym (ap (λ (t : Told). t.object) is), sym (ap (λ (t : Told). t.decision) is))
survivor-is zero (suc (suc i)) k d at = absurd (none-some (told k d) at)
survivor-is (suc n) i k d at = absurd (none-some (told k d) at)

is_copy : Decision → Bool
is_copy (decision.Copied a) = true
is_copy decision.Marked = false

address_of : Decision → ℕ
address_of (decision.Copied a) = a
address_of decision.Marked = 0

copy-is : (n i k a : ℕ) → Survives e n i k (decision.Copied a) → (n ≡ 0) × (i ≡ 0) × (k ≡ 0) × (a ≡ 256)
unfolding is_copy address_of
copy-is n i k a here = elim (survivor-is n i k (decision.Copied a) here) [
  | inl one ↦ (one.0, one.1, one.2, ap address_of one.3)
  | inr other ↦ absurd (false≢true (sym (ap is_copy other.3)))
]

end-is : (k : ℕ) (before : List ℕ) → IsWalk two_objects (k ∷ before) → (k ≡ 0) ⊎ (k ≡ 1)
end-is k [] root = root-is k root
end-is k (j ∷ before) walk = absurd (no-target j walk.0.0 k walk.0.1)

first-ends : EndsWalk two_objects 0
first-ends = ([], (0, refl))

second-ends : EndsWalk two_objects 1
second-ends = ([], (1, refl))

survivors : AreSurvivors e
survivors = record {
  kept = λ k walk. elim (end-is k walk.0 walk.1) [
    | inl is ↦ (0, 0, decision.Copied 256, ap (λ m. Some (told m (decision.Copied 256))) (sym is))
    | inr is ↦ (0, 1, decision.Marked, ap (λ m. Some (told m decision.Marked)) (sym is))
  ];
  walked = λ n i k d here. elim (survivor-is n i k d here) [
    | inl is ↦ subst (EndsWalk two_objects) (sym is.2) first-ends
    | inr is ↦ subst (EndsWalk two_objects) (sym is.2) second-ends
  ];
  once = λ n m i j k d f one two. elim (survivor-is n i k d one) [
    | inl is ↦ elim (survivor-is m j k f two) [
      | inl too ↦ (is.0 ∙ sym too.0, is.1 ∙ sym too.1)
      | inr other ↦ absurd (let zero_is = is.2 in let one_is = other.2 in omega (arith, zero_is, one_is))
    ]
    | inr is ↦ elim (survivor-is m j k f two) [
      | inl other ↦ absurd (let one_is = is.2 in let zero_is = other.2 in omega (arith, zero_is, one_is))
      | inr too ↦ (is.0 ∙ sym too.0, is.1 ∙ sym too.1)
    ]
  ];
}

-- The copy and its region.

fits : Fits two_objects (drawn_by e 0) (won_by e 0) 0 0 256
fits = record { place = 0; drawn = only_draw; drew = refl; region = refl; age = refl; offset = refl; within = omega arith }

copies : AreCopies e
copies = record {
  fits = λ n i k a here.
      let is = copy-is n i k a here in
      subst (λ m. Fits two_objects (drawn_by e m) (won_by e m) i k a) (sym is.0)
      (subst (λ m. Fits two_objects (drawn_by e 0) (won_by e 0) m k a) (sym is.1)
      (subst (λ m. Fits two_objects (drawn_by e 0) (won_by e 0) 0 m a) (sym is.2)
      (subst (λ m. Fits two_objects (drawn_by e 0) (won_by e 0) 0 0 m) (sym is.3) fits)));
  apart = λ n m i j k l a b one two other. absurd (other ((copy-is n i k a one).2 ∙ sym (copy-is m j l b two).2));
}

draw-is : (n i : ℕ) (d : Drawn) → Receives e n i d → (n ≡ 0) × (i ≡ 0) × (only_draw ≡ d)
draw-is zero zero d at = (refl, refl, same_Some only_draw d at)
draw-is zero (suc i) d at = absurd (none-some d at)
draw-is (suc n) i d at = absurd (none-some d at)

filled-is : (n i : ℕ) (d : Drawn) → Receives e n i d → filled e n d ≡ 4
filled-is n i d here =
    let is = draw-is n i d here in
    subst (λ m. filled e m d ≡ 4) (sym is.0) (subst (λ (f : Drawn). filled e 0 f ≡ 4) is.2 refl)

regions : AreRegions e
regions = record {
  taken = omega arith;
  drawn = λ n i d here. subst (λ (f : Drawn). (f.ordinal < 1) × At (1 ∷ 2 ∷ 3 ∷ []) f.ordinal f.region × (f.age ≤ 24)) (draw-is n i d here).2
      (omega arith, refl, omega arith);
  all = λ o below. (0, 0, only_draw, refl, omega (arith, below));
  once = λ n m i j d f one two same.
      let is = draw-is n i d one in
      let too = draw-is m j f two in
      (is.0 ∙ sym too.0, is.1 ∙ sym too.1);
  room = λ n i d here. let is = filled-is n i d here in omega (arith, is);
}

wish-is : (n : ℕ) → At (true ∷ []) n true → n ≡ 0
wish-is zero at = refl
wish-is (suc n) at = absurd (none-some true at)

causes : AreCauses e
causes = record {
  marked = λ n i k here. inr (0, refl);
  wished = λ n at. let is = wish-is n at in omega (arith, is);
  drained = λ is. absurd (false≢true is);
}

evacuated : IsEvacuated e
evacuated = record { world = world; crew = refl; survivors = survivors; copies = copies; regions = regions; causes = causes }

copies-few : (n : ℕ) → copies_by e n ≤ 1
copies-few zero = let is : copies_by e 0 ≡ 1 = refl in omega (arith, is)
copies-few (suc n) = let is : copies_by e (suc n) ≡ 0 = refl in omega (arith, is)

-- The board.

name-is : (i : ℕ) (x : Name) → At (first ∷ second ∷ []) i x → ((i ≡ 0) × (first ≡ x)) ⊎ ((i ≡ 1) × (second ≡ x))
name-is zero x at = inl (refl, same_Some first x at)
name-is (suc zero) x at = inr (refl, same_Some second x at)
name-is (suc (suc i)) x at = absurd (none-some x at)

among-is : (x : Name) → IsTrue (is_among x (first ∷ second ∷ [])) → (first ≡ x) ⊎ (second ≡ x)
among-is x among = elim (or_cases (same_name x first) (same_name x second || false) among) [
  | inl one ↦ inl (sym (same_name-eq x first one))
  | inr rest ↦ elim (or_cases (same_name x second) false rest) [
    | inl two ↦ inr (sym (same_name-eq x second two))
    | inr none ↦ absurd (false≢true none)
  ]
]

first-object : IsObjectOf one_copy one_eden (0 ∷ []) e 0 first
first-object = record { placed = record { name = first; region = 0; leaves = [] }; present = refl; lies = refl; age = refl; words = refl }

second-object : IsObjectOf one_copy one_eden (0 ∷ []) e 1 second
second-object = record { placed = record { name = second; region = 0; leaves = [] }; present = refl; lies = refl; age = refl; words = refl }

board : IsOfBoard one_copy one_eden (0 ∷ []) e
board = record {
  shape = refl;
  pool = refl;
  inside = λ k x at. elim (name-is k x at) [
    | inl is ↦
        subst (λ m. IsObjectOf one_copy one_eden (0 ∷ []) e m x) (sym is.0) (subst (IsObjectOf one_copy one_eden (0 ∷ []) e 0) is.1 first-object)
    | inr is ↦
        subst (λ m. IsObjectOf one_copy one_eden (0 ∷ []) e m x) (sym is.0) (subst (IsObjectOf one_copy one_eden (0 ∷ []) e 1) is.1 second-object)
  ];
  all = λ x among. elim (among-is x among) [ inl is ↦ (0, ap Some is) | inr is ↦ (1, ap Some is) ];
  distinct = λ j k x one two. elim (name-is j x one) [
    | inl is ↦ elim (name-is k x two) [
      | inl too ↦ is.0 ∙ sym too.0
      | inr other ↦ absurd (let same = ap (λ (y : Name). y.ordinal) (is.1 ∙ sym other.1) in omega (arith, same))
    ]
    | inr is ↦ elim (name-is k x two) [
      | inl other ↦ absurd (let same = ap (λ (y : Name). y.ordinal) (is.1 ∙ sym other.1) in omega (arith, same))
      | inr too ↦ is.0 ∙ sym too.0
    ]
  ];
}

pub whole : IsWhole one_copy one_eden (0 ∷ []) e kept_of_them
whole =
    whole-alone one_copy one_eden (0 ∷ []) e kept_of_them evacuated
    (record { tight = λ n i j d f one two less same. absurd (let is = (draw-is n i d one).1 in let too = (draw-is n j f two).1 in omega (arith, is, too, less)) })
    (record {
      copied = λ n most is. let one = same_Some 1 most is in let few : copies_by e n ≤ 1 = copies-few n in omega (arith, one, few);
      wished = λ n at. subst (λ m. Some 1 ≡ Some (copies_by e m)) (sym (wish-is n at)) refl;
    })
    (record { marked = λ aborted. (0, 1, 1, refl) })
    (record { filled = λ n i d here. let is = filled-is n i d here in omega (arith, is) }) board
    (record { same = IsPermutation-refl kept_of_them; ascending = (refl, tt) }) refl

pub begins : MayCollect one_copy one_eden (0 ∷ [])
begins = record { workers = omega arith; ascending = (refl, tt); the_choice = refl; all_flushed = (refl, (refl, (refl, (refl, tt)))) }

pub walks : AreWalksOf one_eden (0 ∷ []) e
walks = record {
  ends = λ x. (
    λ among. elim (among-is x among) [ inl is ↦ (0, ap Some is, first-ends) | inr is ↦ (1, ap Some is, second-ends) ],
    λ walked. elim (name-is walked.0 x walked.1) [
      | inl is ↦ subst (λ (y : Name). IsTrue (is_among y (first ∷ second ∷ []))) is.1 refl
      | inr is ↦ subst (λ (y : Name). IsTrue (is_among y (first ∷ second ∷ []))) is.1 refl
    ],
  );
}
