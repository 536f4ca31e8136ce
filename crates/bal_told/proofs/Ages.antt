-- The age of a region of copies: that of the draw, and so the one that the rules give it.
use Rattle.std.proofs.Common.{◌≡◌, ◌+◌, ◌<◌, ◌≤◌, ◌⊎◌, ℕ, inl, inr, Bool, true, false, cond, IsTrue, List, [], ◌∷◌, map, min, refl, ap, sym, subst, ◌∙◌, arith}
use Rattle.std.specs.Prelude.{Some, if◌then◌else◌, nat_lt}
use Rattle.std.specs.List.{AllByRecursion}
use Rattle.std.proofs.lemmas.Bool.{false≢true, ltb-false, ltb-true, or_cases}
use Rattle.std.proofs.lemmas.Option.{none-some, same_Some}
use Rattle.bal_layout.specs.Names.{is_among, same_name}
use Rattle.bal_layout.specs.Regions as regions
use Rattle.bal_layout.specs.Regions.{region_at}
use Rattle.bal_layout.specs.declared.name.Name.{Name}
use Rattle.bal_core.specs.World.{age_of}
use Rattle.bal_core.specs.Steps as steps
use Rattle.bal_core.specs.Finished.{Evacuation, Receives, filled}
use Rattle.bal_core.specs.declared.row.Drawn.{Drawn}
use Rattle.bal_model.proofs.Lemmas.{is_among-head, same_name-eq, same_name-refl}
use Rattle.bal_model.specs.declared.config.Config.{Config}
use Rattle.bal_model.specs.declared.event.Kept.{Kept}
use Rattle.bal_rules.proofs.Lemmas.{all-among, each-map}
use Rattle.bal_rules.specs.Board.{Board, Placed, place_of, placed_among, words_of_all}
use Rattle.bal_rules.specs.Packing.{first_or_zero, workers_into}
use Rattle.bal_rules.specs.PartialEvents.{age_of_first, age_of_name, destination_age, names_copied_into, next_age}
use Rattle.bal_told.specs.OnBoard.{IsObjectOf}
use Rattle.bal_told.specs.Whole.{IsWhole}
use Rattle.bal_told.proofs.Copies.{IsCopyIn, copies_into, each-copy, same-draw, words-copied}

-- an age grows alike for the workers and in the rules
pub next-ages : (age : ℕ) → steps.next_age age ≡ next_age age
next-ages age = by (nat_lt age 24) refl
  where
    by : (t : Bool) → nat_lt age 24 ≡ t → (if t then age + 1 else 24) ≡ min (age + 1) 24
    by true is = let less : age < 24 = ltb-true age 24 is in omega (arith, less)
    by false is = let past : 24 ≤ age = ltb-false age 24 is in omega (arith, past)

-- a copy of the object of this name gets this age
abbrev pub IsAged : Board → List Placed → ℕ → Name → Type 0
IsAged b present age x = (p : Placed) × (place_of present x ≡ Some p) × (next_age (regions.age_of (region_at b.regions p.region).role) ≡ age)

-- if all copies of some names get one age, the first of these names has it
first-age : (b : Board) (age : ℕ) (names : List Name) (present : List Placed) → ((z : Name) → IsTrue (is_among z names) → IsAged b present age z)
    → (x : Name) → IsTrue (is_among x names) → next_age (age_of_first b (placed_among names present)) ≡ age
first-age b age names [] h x among = absurd (let none = h x among in none-some none.0 none.1)
first-age b age names (p ∷ present) h x among = by (is_among p.name names) refl (λ g. first-age b age names present g x among)
  where
    -- who stands first is that one
    head : (q : Placed) (t : Bool) → t ≡ true → (if t then Some p else place_of present p.name) ≡ Some q → p ≡ q
    head q true is found = same_Some p q found
    head q false is found = absurd (false≢true is)

    -- one that is not first stands among the others
    tail : (z : Name) (q : Placed) (t : Bool) → (t ≡ true → IsTrue (is_among p.name names)) → is_among p.name names ≡ false
        → (if t then Some p else place_of present z) ≡ Some q → place_of present z ≡ Some q
    tail z q true here none found = absurd (false≢true (sym none ∙ here refl))
    tail z q false here none found = found

    by : (t : Bool) → is_among p.name names ≡ t
        → (((z : Name) → IsTrue (is_among z names) → IsAged b present age z) → next_age (age_of_first b (placed_among names present)) ≡ age)
        → next_age (age_of_first b (cond t (p ∷ placed_among names present) (placed_among names present))) ≡ age
    by true is rest =
        let of = h p.name is in
        ap (λ (q : Placed). next_age (regions.age_of (region_at b.regions q.region).role)) (head of.0 (same_name p.name p.name) (same_name-refl p.name) of.1) ∙ of.2
    by false is rest = rest (λ z there.
        let of = h z there in
        (of.0, tail z of.0 (same_name p.name z) (λ same. subst (λ (y : Name). IsTrue (is_among y names)) (sym (same_name-eq p.name z same)) there) is of.1, of.2))

pub aged-name : (b : Board) (age : ℕ) (x : Name) → IsAged b b.present age x → next_age (age_of_name b x) ≡ age
aged-name b age x aged = first-age b age (x ∷ []) b.present only x (is_among-head x [])
  where
    only : (z : Name) → IsTrue (is_among z (x ∷ [])) → IsAged b b.present age z
    only z there = elim (or_cases (same_name z x) false there) [
      | inl same ↦ subst (IsAged b b.present age) (sym (same_name-eq z x same)) aged
      | inr none ↦ absurd (false≢true none)
    ]

-- copies lie in a region: a worker drew it, all of them are that worker's, and it has their age and their words
pub record IsFilled (c : Config) (b : Board) (e : Evacuation) (kept : List Kept) (q : ℕ) : Type 0 where
  pub worker : ℕ
  pub order : ℕ
  pub drawn : Drawn
  pub drew : Receives e worker order drawn
  pub region : drawn.region ≡ q
  pub workers : AllByRecursion (λ (n : ℕ). n ≡ worker) (workers_into kept q)
  pub first : first_or_zero (workers_into kept q) ≡ worker
  pub aged : AllByRecursion (IsAged b b.present drawn.age) (names_copied_into kept q)
  pub age : destination_age b kept q ≡ drawn.age
  pub words : words_of_all c b (names_copied_into kept q) ≡ filled e worker drawn

module _ (c : Config) (b : Board) (chosen : List ℕ) (e : Evacuation) (kept : List Kept) (whole : IsWhole c b chosen e kept) where
  copy-aged : (n i : ℕ) (d : Drawn) → Receives e n i d → (k : Kept) → IsCopyIn e d.region k → IsAged b b.present d.age k.name
  copy-aged n i d here k copy =
      let o : IsObjectOf c b chosen e copy.object k.name = whole.board.inside copy.object k.name copy.name in (
        o.placed,
        o.present,
        ap next_age o.age ∙ sym (next-ages (age_of e.world copy.object)) ∙ sym copy.age
            ∙ ap (λ (f : Drawn). f.age) (same-draw c b chosen e kept whole n i d here k copy).1,
      )

  -- of a region that was drawn and has a copy
  pub filled-by : (n i : ℕ) (d : Drawn) → Receives e n i d → (k : Kept) (ks : List Kept) → k ∷ ks ≡ copies_into kept d.region
      → IsFilled c b e kept d.region
  filled-by n i d here k ks some = record {
    worker = n;
    order = i;
    drawn = d;
    drew = here;
    region = refl;
    workers = each-map (IsCopyIn e d.region) (λ (m : ℕ). m ≡ n) (λ (l : Kept). l.worker)
        (λ l copy. (same-draw c b chosen e kept whole n i d here l copy).0) (copies_into kept d.region) each;
    first = ap (λ (l : List Kept). first_or_zero (map (λ (k : Kept). k.worker) l)) (sym some)
        ∙ (same-draw c b chosen e kept whole n i d here k (subst (AllByRecursion (IsCopyIn e d.region)) (sym some) each).0).0;
    aged = ages;
    age = first-age b d.age (names_copied_into kept d.region) b.present
        (λ z there. all-among (IsAged b b.present d.age) (names_copied_into kept d.region) z ages there) k.name
        (subst (λ (l : List Kept). IsTrue (is_among k.name (map (λ (k : Kept). k.name) l))) some (is_among-head k.name (map (λ (k : Kept). k.name) ks)));
    words = words-copied c b chosen e kept whole n i d here;
  }
    where
      each : AllByRecursion (IsCopyIn e d.region) (copies_into kept d.region)
      each = each-copy c b chosen e kept whole d.region

      ages : AllByRecursion (IsAged b b.present d.age) (names_copied_into kept d.region)
      ages =
          each-map (IsCopyIn e d.region) (IsAged b b.present d.age) (λ (l : Kept). l.name) (copy-aged n i d here) (copies_into kept d.region) each

  -- a region has no copies, or they are one worker's
  pub none-or_filled : (q : ℕ) → ([] ≡ copies_into kept q) ⊎ IsFilled c b e kept q
  none-or_filled q = by (copies_into kept q) refl (each-copy c b chosen e kept whole q)
    where
      by : (ks : List Kept) → ks ≡ copies_into kept q → AllByRecursion (IsCopyIn e q) ks → ([] ≡ copies_into kept q) ⊎ IsFilled c b e kept q
      by [] none each = inl none
      by (k ∷ ks) some each =
          let copy : IsCopyIn e q k = each.0 in
          inr (subst (IsFilled c b e kept) copy.region
          (filled-by k.worker copy.order copy.drawn copy.drew k ks (some ∙ ap (copies_into kept) (sym copy.region))))
