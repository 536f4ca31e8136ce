-- Names that ascend are distinct. So if each of them is in a list that is no longer, the list has no others.
use Rattle.std.proofs.Common.{◌≡◌, ◌≤◌, ◌||◌, inl, inr, Bool, true, false, List, [], ◌∷◌, length, refl, ap, sym, subst, arith}
use Rattle.std.specs.Cmp.{IsEquivalence}
use Rattle.std.specs.List.{AllByRecursion, IsDistinct}
use Rattle.std.specs.Prelude.{IsTrue}
use Rattle.std.proofs.lemmas.Bool.{cases_Bool, false≢true, or_cases}
use Rattle.std.proofs.lemmas.List.{length-map}
use Rattle.std.proofs.lemmas.Map.Keys.{IsDistinct-cons}
use Rattle.std.proofs.lemmas.Map.Made.{length-le_from_is_member}
use Rattle.bal_layout.specs.Names.{is_among, is_before, same_name}
use Rattle.bal_layout.specs.declared.name.Name.{Name}
use Rattle.bal_model.specs.declared.config.Config.{Config}
use Rattle.bal_model.specs.declared.event.Packed.{Packed}
use Rattle.bal_model.proofs.Lemmas.{same-flips, same_name-eq, same_name-refl}
use Rattle.bal_rules.specs.Board.{Board, names_placed}
use Rattle.bal_rules.specs.GlobalEvents.{IsGlobal, names_packed, survivors}
use Rattle.bal_rules.specs.Sound.{IsAscending, IsSound}
use Rattle.bal_rules.proofs.Each.{each-goes}
use Rattle.bal_rules.proofs.ListFacts.{all-among, ascending-after, ascending-filter, ascending-rest, before-cases}

pub same-laws : IsEquivalence same_name
same-laws = record {
  refl = same_name-refl;
  symm = same-flips;
  congr = λ x y z h. ap (λ (a : Name). same_name a z) (same_name-eq x y h);
}

-- a name isn't before itself
pub before-other : (x y : Name) → IsTrue (is_before x y) → same_name x y ≡ false
before-other x y h = elim (cases_Bool (same_name x y)) [
  | inl same ↦ (
      let e = same_name-eq x y same in
      absurd (elim (before-cases x y h) [
        | inl lower ↦ omega (arith, ap (λ (a : Name). a.thread) e)
        | inr lower ↦ omega (arith, lower.1, ap (λ (a : Name). a.ordinal) e)
      ])
      )
  | inr other ↦ other
]

pub distinct-ascending : (xs : List Name) → IsAscending xs → IsDistinct same_name xs
unfolding IsDistinct
distinct-ascending [] h = tt
distinct-ascending (x ∷ xs) h =
    (each-goes (λ (y : Name). IsTrue (is_before x y)) (λ (y : Name). same_name x y ≡ false) (before-other x) xs (ascending-after x xs h), distinct-ascending xs (ascending-rest x xs h))

-- what isn't among names is other than each of them
apart-each : (y : Name) (xs : List Name) → is_among y xs ≡ false → AllByRecursion (λ (x : Name). same_name y x ≡ false) xs
apart-each y [] h = tt
apart-each y (x ∷ xs) h = by (same_name y x) (is_among y xs) refl refl h (apart-each y xs)
  where
    by : (a b : Bool) → same_name y x ≡ a → is_among y xs ≡ b → (a || b) ≡ false
        → (is_among y xs ≡ false → AllByRecursion (λ (x : Name). same_name y x ≡ false) xs) → AllByRecursion (λ (x : Name). same_name y x ≡ false) (x ∷ xs)
    by true b e f h rest = absurd (false≢true (sym h))
    by false true e f h rest = absurd (false≢true (sym h))
    by false false e f h rest = (e, rest f)

-- each of the names that ascend is among the others, and there are no more others: so these are among the names
pub filled-up : (xs ys : List Name) → IsAscending xs → AllByRecursion (λ (x : Name). IsTrue (is_among x ys)) xs → length ys ≤ length xs
    → (y : Name) → IsTrue (is_among y ys) → IsTrue (is_among y xs)
filled-up xs ys up each few y here = elim (cases_Bool (is_among y xs)) [
  | inl among ↦ among
  | inr missing ↦ (
      let more : length (y ∷ xs) ≤ length ys = length-le_from_is_member same-laws (y ∷ xs) ys
      (IsDistinct-cons same_name y xs (apart-each y xs missing) (distinct-ascending xs up))
      (λ q h. elim (or_cases (same_name q y) (is_among q xs) h) [
        | inl same ↦ subst (λ (a : Name). is_among a ys ≡ true) (sym (same_name-eq q y same)) here
        | inr among ↦ all-among (λ (x : Name). IsTrue (is_among x ys)) xs q each among
      ]) in
      absurd (omega (arith, more, few))
      )
]

-- so what a global collection packs are the survivors
pub packed-survive : (c : Config) (b : Board) (dead : List Name) (packed : List Packed) → IsSound b → IsGlobal c b dead packed
    → (x : Name) → IsTrue (is_among x (names_packed packed)) → IsTrue (is_among x (survivors b))
packed-survive c b dead packed sound h =
    filled-up (survivors b) (names_packed packed) (ascending-filter _ (names_placed b.present) sound.ascending) h.each_packed
    (omega (arith, h.as_many, length-map packed (λ (k : Packed). k.name)))
