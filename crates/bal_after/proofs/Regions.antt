-- What each region is after the collection, where it is not freed: one that was drawn has the copies that its worker put there.
use Rattle.std.proofs.Common.{◌≡◌, ◌≤◌, ◌<◌, ◌+◌, ℕ, zero, suc, Bool, true, false, not, cond, IsTrue, List, [], ◌∷◌, ◌++◌, filter, length, refl, ap, ap₂, sym, subst, ◌∙◌, arith}
use Rattle.std.specs.Prelude.{if◌then◌else◌}
use Rattle.std.specs.List.{AllByRecursion, Contains, sum_by}
use Rattle.std.proofs.lemmas.Bool.{false_from_ne_true, false≢true}
use Rattle.std.proofs.lemmas.List.{append-nil}
use Rattle.std.proofs.lemmas.List.Elements.{All-contains_itself, recursion_from_All}
use Rattle.std.proofs.lemmas.List.Sums.{sum-map, sum_by-cons}
use Rattle.std.proofs.lemmas.Option.{slice_get-get_or, slice_get_within}
use Rattle.bal_base.specs.Numbering.{numbers_from}
use Rattle.bal_layout.specs.Names.{is_among}
use Rattle.bal_layout.specs.Regions.{is_free, is_in, region_at}
use Rattle.bal_layout.specs.declared.name.Name.{Name}
use Rattle.bal_layout.specs.declared.region_state.RegionState.{RegionState}
use Rattle.bal_core.specs.World.{At, IsWorld, World, size_of}
use Rattle.bal_core.specs.Finished.{Evacuation, Receives, filled}
use Rattle.bal_core.specs.declared.row.Drawn.{Drawn}
use Rattle.bal_model.specs.declared.config.Config.{Config}
use Rattle.bal_model.specs.declared.event.Kept.{Kept}
use Rattle.bal_rules.proofs.Lemmas.{each-filter, each-goes, each-in}
use Rattle.bal_rules.specs.Board.{Board, Placed, is_empty, leaves_of, placed_among, words_of, words_of_all}
use Rattle.bal_rules.specs.PartialEvents.{names_copied_into, names_kept, names_lost, names_marked_in, region_after_partial, regions_emptied}
use Rattle.bal_told.proofs.Lemmas.{IsCopyIn, age-drawn, at-in, copies_into, each-copy, words-copied}
use Rattle.bal_told.specs.Whole.{IsWhole}
use Rattle.bal_after.specs.Asked.{AreInUse, GotNoCopy, HasNoLeaves, passed_by, with_copies}

-- No leaves.

leaves-none : (ps : List Placed) → AllByRecursion (λ (p : Placed). p.leaves ≡ []) ps → leaves_of ps ≡ []
leaves-none [] none = refl
leaves-none (p ∷ ps) none = ap₂ (λ (l m : List ℕ). l ++ m) none.0 (leaves-none ps none.1)

pub emptied-marked : (b : Board) (chosen : List ℕ) (kept : List Kept) → HasNoLeaves b
    → regions_emptied b chosen kept ≡ filter (λ q. is_empty (names_marked_in b kept q)) chosen
emptied-marked b chosen kept none =
    ap (λ (l : List ℕ). filter (λ q. is_empty (names_marked_in b kept q)) chosen ++ l)
    (leaves-none (placed_among (names_lost b chosen kept) b.present)
    (each-filter (λ (p : Placed). p.leaves ≡ []) (λ p. is_among p.name (names_lost b chosen kept)) b.present
    (each-goes (Contains b.present) (λ (p : Placed). p.leaves ≡ []) none b.present
    (recursion_from_All (Contains b.present) b.present (All-contains_itself b.present)))))
    ∙ append-nil (filter (λ q. is_empty (names_marked_in b kept q)) chosen)

-- The free regions.

abbrev IsFreeFrom : List RegionState → ℕ → ℕ → Type 0
IsFreeFrom rs n q = (i : ℕ) × (q ≡ n + i) × IsTrue (is_free (region_at rs i).role)

each-free : (n : ℕ) (rs : List RegionState) → AllByRecursion (IsFreeFrom rs n) (numbers_from n (λ (r : RegionState). is_free r.role) rs)
each-free n [] = tt
each-free n (r ∷ rs) =
    by (is_free r.role) refl
    (each-goes (IsFreeFrom rs (n + 1)) (IsFreeFrom (r ∷ rs) n)
    (λ q free. let same : q ≡ n + 1 + free.0 = free.1 in (suc free.0, omega (arith, same), free.2))
    (numbers_from (n + 1) (λ (r : RegionState). is_free r.role) rs) (each-free (n + 1) rs))
  where
    by : (t : Bool) → is_free r.role ≡ t
        → AllByRecursion (IsFreeFrom (r ∷ rs) n) (numbers_from (n + 1) (λ (r : RegionState). is_free r.role) rs)
        → AllByRecursion (IsFreeFrom (r ∷ rs) n)
        (cond t (n ∷ numbers_from (n + 1) (λ (r : RegionState). is_free r.role) rs) (numbers_from (n + 1) (λ (r : RegionState). is_free r.role) rs))
    by true is rest = ((zero, omega arith, is), rest)
    by false is rest = rest

is-free : (rs : List RegionState) (q : ℕ) → IsFreeFrom rs 0 q → IsTrue (is_free (region_at rs q).role)
is-free rs q free =
    let same : q ≡ 0 + free.0 = free.1 in
    let here : free.0 ≡ q = omega (arith, same) in
    subst (λ i. IsTrue (is_free (region_at rs i).role)) here free.2

-- Which of three a region becomes.

second-of : {X : Type 0} (t u : Bool) (a b c : X) → t ≡ false → u ≡ false → (if t then a else if not u then b else c) ≡ b
second-of true u a b c is some = absurd (false≢true (sym is))
second-of false true a b c is some = absurd (false≢true (sym some))
second-of false false a b c is some = refl

third-of : {X : Type 0} (t u : Bool) (a b c : X) → t ≡ false → u ≡ true → (if t then a else if not u then b else c) ≡ c
third-of true u a b c is none = absurd (false≢true (sym is))
third-of false true a b c is none = refl
third-of false false a b c is none = absurd (false≢true none)

has-some : (c : Config) (b : Board) (names : List Name) → 1 ≤ words_of_all c b names → is_empty names ≡ false
has-some c b [] some = absurd (let less : 1 ≤ 0 = some in omega (arith, less))
has-some c b (x ∷ names) some = refl

-- an object has words
size-some : (w : World) → IsWorld w → (k : ℕ) (x : Name) → At w.names k x → 1 ≤ size_of w k
size-some w is k x at =
    let less : k < length w.names = slice_get_within w.names k x at in
    let same : length w.names ≡ length w.sizes = is.names in
    let two : 2 ≤ size_of w k = is.smallest k (size_of w k) (slice_get-get_or w.sizes k 0 (omega (arith, less, same))) in
    omega (arith, two)

module _ (c : Config) (b : Board) (chosen : List ℕ) (e : Evacuation) (kept : List Kept) (whole : IsWhole c b chosen e kept) where
  -- a region that was drawn was free
  drawn-free : (n i : ℕ) (d : Drawn) → Receives e n i d → IsTrue (is_free (region_at b.regions d.region).role)
  drawn-free n i d here =
      let drawn = whole.evacuated.regions.drawn n i d here in
      is-free b.regions d.region
      (each-in (IsFreeFrom b.regions 0) (numbers_from 0 (λ (r : RegionState). is_free r.role) b.regions) d.region (each-free 0 b.regions)
      (subst (λ (qs : List ℕ). IsTrue (is_in d.region qs)) whole.board.pool (at-in e.world.pool d.ordinal d.region drawn.1)))

  pub region-drawn : AreInUse b chosen → (n i : ℕ) (d : Drawn) → Receives e n i d → 1 ≤ filled e n d
      → region_after_partial c b chosen kept d.region ≡ with_copies d.age (filled e n d) (region_at b.regions d.region)
  region-drawn in_use n i d here some =
      let words : words_of_all c b (names_copied_into kept d.region) ≡ filled e n d = words-copied c b chosen e kept whole n i d here in
      second-of (is_in d.region chosen) (is_empty (names_copied_into kept d.region)) _ _ _
      (false_from_ne_true (is_in d.region chosen) (λ is. false≢true (sym (in_use d.region is) ∙ drawn-free n i d here)))
      (has-some c b (names_copied_into kept d.region) (omega (arith, some, words)))
      ∙ ap₂ (λ (age words : ℕ). with_copies age words (region_at b.regions d.region)) (age-drawn c b chosen e kept whole n i d here some) words

  -- a region with a copy was drawn, and filled
  no-copies : (q : ℕ) → GotNoCopy e q → names_copied_into kept q ≡ []
  no-copies q other = by (copies_into kept q) refl (each-copy c b chosen e kept whole q)
    where
      by : (ks : List Kept) → ks ≡ copies_into kept q → AllByRecursion (IsCopyIn e q) ks → names_copied_into kept q ≡ []
      by [] none each = ap names_kept (sym none)
      by (k ∷ ks) some each =
          let copy : IsCopyIn e q k = each.0 in
          let words : words_of_all c b (names_copied_into kept q) ≡ filled e k.worker copy.drawn
          = ap (λ r. words_of_all c b (names_copied_into kept r)) (sym copy.region)
          ∙ words-copied c b chosen e kept whole k.worker copy.order copy.drawn copy.drew in
          let all : words_of_all c b (names_copied_into kept q) ≡ words_of c b k.name + sum_by (words_of c b) (names_kept ks)
          = ap (λ (l : List Kept). words_of_all c b (names_kept l)) (sym some)
          ∙ sum-map (words_of c b) (names_kept (k ∷ ks)) ∙ sum_by-cons (words_of c b) k.name (names_kept ks) in
          let same : words_of c b k.name ≡ size_of e.world copy.object = (whole.board.inside copy.object k.name copy.name).words in
          let least : 1 ≤ size_of e.world copy.object = size-some e.world whole.evacuated.world copy.object k.name copy.name in
          absurd (other k.worker copy.order copy.drawn copy.drew copy.region (omega (arith, words, all, same, least)))

  pub region-other : (q : ℕ) → is_in q chosen ≡ false → GotNoCopy e q
      → region_after_partial c b chosen kept q ≡ passed_by (region_at b.regions q)
  region-other q outside other =
      third-of (is_in q chosen) (is_empty (names_copied_into kept q)) _ _ _ outside (ap is_empty (no-copies q other))
