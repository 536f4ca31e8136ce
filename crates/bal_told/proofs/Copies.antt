-- The copies in one region, as the journal's list tells them: they are those of the worker that drew it, they have the region's
-- age, and their words are what that worker put there.
use Rattle.std.proofs.Common.{◌≡◌, ◌<◌, ◌==◌, ℕ, inl, inr, Bool, cond, IsTrue, List, [], length, filter, refl, ap, sym, subst, ◌∙◌, arith}
use Rattle.std.specs.Prelude.{if◌then◌else◌}
use Rattle.std.specs.List.{AllByRecursion, sum_by}
use Rattle.std.proofs.lemmas.Bool.{cases_Bool, cases_lt, eqb-true, false≢true}
use Rattle.std.proofs.lemmas.List.{get_or_past}
use Rattle.std.proofs.lemmas.List.Sums.{sum-map}
use Rattle.std.proofs.lemmas.Option.{same_Some, slice_get_within}
use Rattle.bal_layout.specs.Addresses.{region_of}
use Rattle.bal_core.specs.World.{At, age_of, size_of}
use Rattle.bal_core.specs.Core.{Fits}
use Rattle.bal_core.specs.Steps as steps
use Rattle.bal_core.specs.Steps.{told, used, words_put}
use Rattle.bal_core.specs.Finished.{Evacuation, Receives, Survives, drawn_by, filled, won_by}
use Rattle.bal_core.specs.declared.event.Decision.{Decision}
use Rattle.bal_core.specs.declared.event.Decision.TheVariants as decision
use Rattle.bal_core.specs.declared.row.Drawn.{Drawn}
use Rattle.bal_core.specs.declared.row.Told.{Told}
use Rattle.bal_model.specs.declared.config.Config.{Config}
use Rattle.bal_model.specs.declared.event.Kept.{Kept}
use Rattle.bal_rules.proofs.Lemmas.{each-both, each-filter, each-goes}
use Rattle.bal_rules.specs.Board.{Board, words_of, words_of_all}
use Rattle.bal_rules.specs.PartialEvents.{is_copied_to, names_copied_into, names_kept}
use Rattle.bal_told.specs.Telling.{how_of, name_in, told_as}
use Rattle.bal_told.specs.Whole.{IsWhole}
use Rattle.bal_told.proofs.Lists.{each-passes, sum-filter, sum-none, sum-of_map, sum-same}
use Rattle.bal_told.proofs.Survivors.{IsSurvivor, each-survivor, name-at, object-of, sum-by_one}

-- the copies in a region
abbrev pub copies_into : List Kept → ℕ → List Kept
copies_into kept q = filter (λ k. is_copied_to k.how q) kept

-- the words of some of the list
pub words-of_filter : (c : Config) (b : Board) (p : Kept → Bool) (kept : List Kept)
    → words_of_all c b (names_kept (filter p kept)) ≡ sum_by (λ (k : Kept). cond (p k) (words_of c b k.name) 0) kept
words-of_filter c b p kept =
    sum-map (words_of c b) (names_kept (filter p kept))
    ∙ sum-of_map (words_of c b) (λ (k : Kept). k.name) (filter p kept)
    ∙ sum-filter (λ (k : Kept). words_of c b k.name) p kept

-- one of the list is a copy in this region, which its worker drew for the copy's age
pub record IsCopyIn (e : Evacuation) (q : ℕ) (k : Kept) : Type 0 where
  pub object : ℕ
  pub name : At e.world.names object k.name
  pub order : ℕ
  pub drawn : Drawn
  pub drew : Receives e k.worker order drawn
  pub region : drawn.region ≡ q
  pub age : drawn.age ≡ steps.next_age (age_of e.world object)

module _ (c : Config) (b : Board) (chosen : List ℕ) (e : Evacuation) (kept : List Kept) (whole : IsWhole c b chosen e kept) where
  is-copy : (q n i k : ℕ) (d : Decision) → Survives e n i k d → IsTrue (is_copied_to (how_of e.world.shape d) q)
      → IsCopyIn e q (told_as e.world.shape e.world.names n (told k d))
  is-copy q n i k decision.Marked here to = absurd (false≢true to)
  is-copy q n i k (decision.Copied a) here to =
      let f : Fits e.world (drawn_by e n) (won_by e n) i k a = whole.evacuated.copies.fits n i k a here in
      record {
        object = k;
        name = name-at c b chosen e kept whole n i k (decision.Copied a) here;
        order = f.place;
        drawn = f.drawn;
        drew = f.drew;
        region = sym f.region ∙ eqb-true (region_of e.world.shape a) q to;
        age = f.age;
      }

  pub copy-in : (q : ℕ) (k : Kept) → IsSurvivor e k → IsTrue (is_copied_to k.how q) → IsCopyIn e q k
  copy-in q k s to =
      subst (IsCopyIn e q) (sym s.is)
      (is-copy q k.worker s.place s.told.object s.told.decision s.won (subst (λ (l : Kept). IsTrue (is_copied_to l.how q)) s.is to))

  pub each-copy : (q : ℕ) → AllByRecursion (IsCopyIn e q) (copies_into kept q)
  each-copy q =
      each-goes (λ (k : Kept). IsSurvivor e k × IsTrue (is_copied_to k.how q)) (IsCopyIn e q) (λ k h. copy-in q k h.0 h.1) (copies_into kept q)
      (each-both (IsSurvivor e) (λ (k : Kept). IsTrue (is_copied_to k.how q)) (copies_into kept q)
      (each-filter (IsSurvivor e) (λ k. is_copied_to k.how q) kept (each-survivor c b chosen e kept whole))
      (each-passes (λ k. is_copied_to k.how q) kept))

  -- it is a copy of the worker that drew the region, in that draw
  pub same-draw : (n i : ℕ) (d : Drawn) → Receives e n i d → (k : Kept) → (copy : IsCopyIn e d.region k) → (k.worker ≡ n) × (copy.drawn ≡ d)
  same-draw n i d here k copy =
      let once = whole.evacuated.regions.once k.worker n copy.order i copy.drawn d copy.drew here copy.region in
      let there : At (drawn_by e n) i copy.drawn =
      subst (λ j. At (drawn_by e n) j copy.drawn) once.1 (subst (λ m. At (drawn_by e m) copy.order copy.drawn) once.0 copy.drew) in
      (once.0, same_Some copy.drawn d (sym there ∙ here))

  -- who drew something is of the crew
  pub drawer-within : (n i : ℕ) (d : Drawn) → Receives e n i d → n < length e.won
  drawer-within n i d here = elim (cases_lt n (length e.drawn)) [
    | inl less ↦ let same : length e.drawn ≡ length e.won = whole.evacuated.crew in omega (arith, less, same)
    | inr past ↦
        let none : i < length (drawn_by e n) = slice_get_within (drawn_by e n) i d here in
        let empty : length (drawn_by e n) ≡ 0 = ap length (get_or_past e.drawn n [] past) in
        absurd (omega (arith, none, empty))
  ]

  -- what is told of a decision has as many words as it put into the region
  words-told : (q n i k : ℕ) (d : Decision) → Survives e n i k d
      → cond (is_copied_to (how_of e.world.shape d) q) (words_of c b (name_in e.world.names k)) 0 ≡ words_put e.world q k d
  words-told q n i k decision.Marked here = refl
  words-told q n i k (decision.Copied a) here =
      ap (λ (m : ℕ). if region_of e.world.shape a == q then m else 0) (object-of c b chosen e kept whole n i k (decision.Copied a) here).words

  -- another worker put nothing there
  put-none : (n i : ℕ) (d : Drawn) → Receives e n i d → (m j k : ℕ) (f : Decision) → (m ≡ n → ⊥) → Survives e m j k f
      → words_put e.world d.region k f ≡ 0
  put-none n i d here m j k decision.Marked other there = refl
  put-none n i d here m j k (decision.Copied a) other there = elim (cases_Bool (region_of e.world.shape a == d.region)) [
    | inl same ↦
        let f : Fits e.world (drawn_by e m) (won_by e m) j k a = whole.evacuated.copies.fits m j k a there in
        absurd (other (whole.evacuated.regions.once m n f.place i f.drawn d f.drew here (sym f.region ∙ eqb-true (region_of e.world.shape a) d.region same)).0)
    | inr elsewhere ↦ ap (λ (t : Bool). if t then size_of e.world k else 0) elsewhere
  ]

  -- the words of the copies in a region that was drawn
  pub words-copied : (n i : ℕ) (d : Drawn) → Receives e n i d → words_of_all c b (names_copied_into kept d.region) ≡ filled e n d
  words-copied n i d here =
      words-of_filter c b (λ k. is_copied_to k.how d.region) kept
      ∙ sum-by_one c b chosen e kept whole f n (drawer-within n i d here)
      (λ m other. sum-of_map f (told_as e.world.shape e.world.names m) (won_by e m) ∙ sum-none _ (won_by e m) (none m other))
      ∙ sum-same (λ (t : Told). f (told_as e.world.shape e.world.names n t)) (λ (t : Told). words_put e.world d.region t.object t.decision) (won_by e n)
      (λ j t at. words-told d.region n j t.object t.decision at)
    where
      f : Kept → ℕ
      f k = cond (is_copied_to k.how d.region) (words_of c b k.name) 0

      none : (m : ℕ) → (m ≡ n → ⊥) → (j : ℕ) (t : Told) → At (won_by e m) j t → f (told_as e.world.shape e.world.names m t) ≡ 0
      none m other j t at = words-told d.region m j t.object t.decision at ∙ put-none n i d here m j t.object t.decision other at
