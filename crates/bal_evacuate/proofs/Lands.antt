-- What copies make of a region.
use Rattle.std.proofs.Common.{◌≡◌, ◌+◌, ◌==◌, ℕ, zero, suc, Bool, true, false, List, [], ◌∷◌, ◌++◌, length, Some, refl, ap, sym, ◌∙◌, arith}
use Rattle.std.specs.Prelude.{if◌then◌else◌}
use Rattle.std.proofs.Math.ListN.{get_or-map}
use Rattle.std.proofs.lemmas.Bool.{eq-eqb, ne_eqb}
use Rattle.std.proofs.lemmas.List.Sums.{sum_by-cons}
use Rattle.bal_layout.specs.Addresses.{region_of}
use Rattle.bal_core.specs.declared.event.Decision.{Decision}
use Rattle.bal_core.specs.declared.event.Decision.TheVariants as decision
use Rattle.bal_core.specs.declared.row.Told.{Told}
use Rattle.bal_core.specs.Steps.{told, used, words_put}
use Rattle.bal_core.specs.World.{At, World, size_of}
use Rattle.bal_region.specs.Changes.{with_object}
use Rattle.bal_region.specs.Land.{Land}
use Rattle.bal_evacuate.specs.Plan.{Plan, land_with_copies, with_decided, words_in, world_for}

-- an object's size is that of its words
pub size-is : (p : Plan) (k : ℕ) → size_of (world_for p) k ≡ length (words_in p.graph k)
size-is p k = get_or-map length p.graph.words k []

module _ (p : Plan) where
  abbrev w : World
  w = world_for p

  -- One decision.

  pub put-here : (k a : ℕ) (l : Land) → region_of p.shape a ≡ l.number → with_decided p k (decision.Copied a) l ≡ with_object l (words_in p.graph k)
  put-here k a l here = ap (λ b. if b then with_object l (words_in p.graph k) else l) (eq-eqb _ _ here)

  pub put-elsewhere : (k : ℕ) (d : Decision) (l : Land) → ((a : ℕ) → d ≡ decision.Copied a → region_of p.shape a ≡ l.number → ⊥) → with_decided p k d l ≡ l
  put-elsewhere k (decision.Copied a) l other = ap (λ b. if b then with_object l (words_in p.graph k) else l) (ne_eqb _ _ (other a refl))
  put-elsewhere k decision.Marked l other = refl

  put-number : (k : ℕ) (d : Decision) (l : Land) → (with_decided p k d l).number ≡ l.number
  put-number k (decision.Copied a) l = by (region_of p.shape a == l.number)
    where
      by : (b : Bool) → (if b then with_object l (words_in p.graph k) else l).number ≡ l.number
      by true = refl
      by false = refl
  put-number k decision.Marked l = refl

  put-used : (k : ℕ) (d : Decision) (l : Land) → (with_decided p k d l).used ≡ l.used + words_put w l.number k d
  put-used k (decision.Copied a) l = by (region_of p.shape a == l.number)
    where
      by : (b : Bool) → (if b then with_object l (words_in p.graph k) else l).used ≡ l.used + (if b then size_of w k else 0)
      by true = ap (λ n. l.used + n) (sym (size-is p k))
      by false = omega arith
  put-used k decision.Marked l = omega arith

  -- All of them.

  pub number-kept : (won : List Told) (l : Land) → (land_with_copies p won l).number ≡ l.number
  unfolding land_with_copies
  number-kept [] l = refl
  number-kept (t ∷ won) l = number-kept won (with_decided p t.object t.decision l) ∙ put-number t.object t.decision l

  pub used-filled : (won : List Told) (l : Land) → (land_with_copies p won l).used ≡ l.used + used w l.number won
  unfolding land_with_copies
  used-filled [] l = omega arith
  used-filled (t ∷ won) l =
      let next : Land = with_decided p t.object t.decision l in
      let rest : (land_with_copies p won next).used ≡ next.used + used w l.number won
      = used-filled won next ∙ ap (λ q. next.used + used w q won) (put-number t.object t.decision l) in
      let first : next.used ≡ l.used + words_put w l.number t.object t.decision = put-used t.object t.decision l in
      let sum : used w l.number (t ∷ won) ≡ words_put w l.number t.object t.decision + used w l.number won
      = sum_by-cons (λ (x : Told). words_put w l.number x.object x.decision) t won in
      omega (arith, rest, first, sum)

  pub copies-push : (won : List Told) (t : Told) (l : Land) → land_with_copies p (won ++ t ∷ []) l ≡ with_decided p t.object t.decision (land_with_copies p won l)
  unfolding land_with_copies
  copies-push [] t l = refl
  copies-push (x ∷ won) t l = copies-push won t (with_decided p x.object x.decision l)

  -- no copy goes to a region
  pub copies-none : (won : List Told) (l : Land) → ((i k a : ℕ) → At won i (told k (decision.Copied a)) → region_of p.shape a ≡ l.number → ⊥)
      → land_with_copies p won l ≡ l
  unfolding land_with_copies
  copies-none [] l none = refl
  copies-none (t ∷ won) l none =
      let same : with_decided p t.object t.decision l ≡ l
      = put-elsewhere t.object t.decision l (λ a is. none zero t.object a (ap (λ d. Some (told t.object d)) is)) in
      ap (land_with_copies p won) same ∙ copies-none won l (λ i k a at. none (suc i) k a at)
