-- No two copies overlap.
use Rattle.std.proofs.Common.{◌≡◌, ◌⊎◌, ◌+◌, ◌*◌, ◌/◌, ◌%◌, ◌<◌, ◌≤◌, ℕ, inl, inr, List, length, take, get_or, ap, sym, subst, ◌∙◌, arith}
use Rattle.std.specs.Prelude.{if◌then◌else◌, slice_get}
use Rattle.std.proofs.lemmas.Bool.{cases_order, eq-eqb}
use Rattle.std.proofs.lemmas.List.{take-take}
use Rattle.std.proofs.lemmas.List.Sums.{sum_by-take-le}
use Rattle.std.proofs.Math.Nat.{div-add-mod, mul-add, mul-le-mul_left}
use Rattle.std.proofs.lemmas.Option.{get_or_from_slice_get, same_Some, slice_get_within}
use Rattle.bal_layout.specs.Addresses.{offset_of, region_of}
use Rattle.bal_core.specs.declared.event.Decision.TheVariants as decision
use Rattle.bal_core.specs.declared.row.Told.{Told}
use Rattle.bal_core.specs.declared.row.Drawn.{Drawn}
use Rattle.bal_core.specs.World.{At, State, World, row_of, size_of}
use Rattle.bal_core.specs.Steps.{told, used, words_put}
use Rattle.bal_core.specs.Core.{Fits, IsCore, Wins}
use Rattle.bal_core.specs.Finished.{AreApart}
use Rattle.bal_core.proofs.Bounds.{used-next}
use Rattle.bal_core.proofs.Bounds.{used-next}

-- copies in a lower region and in a higher one
below-apart : (a b r size : ℕ) → a / r < b / r → a % r + size ≤ r → a + size ≤ b
below-apart a b r size less within =
    let one : r * (a / r) + a % r ≡ a = div-add-mod a r in
    let two : r * (b / r) + b % r ≡ b = div-add-mod b r in
    let more : r * (a / r + 1) ≤ r * (b / r) = mul-le-mul_left r (omega (arith, less)) in
    let next : r * (a / r + 1) ≡ r * (a / r) + r * 1 = mul-add r (a / r) 1 in
    let unit : r * 1 ≡ r = omega arith in
    omega (arith, one, two, more, next, unit, within)

-- copies in one region, of which the first ends before the other begins
inside-apart : (a b r size : ℕ) → a / r ≡ b / r → a % r + size ≤ b % r → a + size ≤ b
inside-apart a b r size same within =
    let one : r * (a / r) + a % r ≡ a = div-add-mod a r in
    let two : r * (b / r) + b % r ≡ b = div-add-mod b r in
    let whole : r * (a / r) ≡ r * (b / r) = ap (λ q. r * q) same in
    omega (arith, one, two, whole, within)

-- two won by one worker, one after the other, into one region
module _ (w : World) (draws : List Drawn) (won : List Told) where
  used-grows : (region i j : ℕ) → i ≤ j → used w region (take i won) ≤ used w region (take j won)
  used-grows region i j most =
      subst (λ l. used w region l ≤ used w region (take j won)) (take-take i j won most)
      (sum_by-take-le (λ t. words_put w region t.object t.decision) (take j won) i)

  earlier-apart : (i j k l a b : ℕ) → i < j → At won i (told k (decision.Copied a)) → Fits w draws won i k a → Fits w draws won j l b
      → region_of w.shape a ≡ region_of w.shape b → a + size_of w k ≤ b
  earlier-apart i j k l a b less at first second same =
      let region : ℕ = first.drawn.region in
      let inside : i < length won = slice_get_within won i (told k (decision.Copied a)) at in
      let item : get_or won i (told k (decision.Copied a)) ≡ told k (decision.Copied a)
      = get_or_from_slice_get won i (told k (decision.Copied a)) (told k (decision.Copied a)) at in
      let next : used w region (take (i + 1) won) ≡ used w region (take i won) + words_put w region k (decision.Copied a)
      = used-next w won region i (told k (decision.Copied a)) inside
      ∙ ap (λ (x : Told). used w region (take i won) + words_put w region x.object x.decision) item in
      let put : words_put w region k (decision.Copied a) ≡ size_of w k
      = ap (λ q. if q then size_of w k else 0) (eq-eqb (region_of w.shape a) region first.region) in
      let grows : used w region (take (i + 1) won) ≤ used w region (take j won) = used-grows region (i + 1) j (omega (arith, less)) in
      let here : offset_of w.shape a ≡ used w region (take i won) = first.offset in
      let there : offset_of w.shape b ≡ used w region (take j won)
      = second.offset ∙ ap (λ q. used w q (take j won)) (sym second.region ∙ sym same ∙ first.region) in
      inside-apart a b w.shape.words (size_of w k) same (omega (arith, next, put, grows, here, there))

-- copies into one region are those of one worker, into one of its regions
pub region-once : (s : State) → IsCore s → (n m p q : ℕ) (d e : Drawn) → At (row_of s n).drawn p d → At (row_of s m).drawn q e → d.region ≡ e.region
    → (n ≡ m) × (p ≡ q)
region-once s core n m p q d e one two same =
    core.drawn.once n m p q d e one two
    (core.world.distinct d.ordinal e.ordinal e.region (subst (At s.world.pool d.ordinal) same (core.drawn.drawn n p d one).1) (core.drawn.drawn m q e two).1)

pub copies-apart : (s : State) → IsCore s → (n m i j k l a b : ℕ) → Wins s n i k (decision.Copied a) → Wins s m j l (decision.Copied b)
    → (k ≡ l → ⊥) → AreApart a (size_of s.world k) b (size_of s.world l)
copies-apart s core n m i j k l a b one two other = by (cases_order (region_of s.world.shape a) (region_of s.world.shape b))
  where
    w : World
    w = s.world

    first : Fits w (row_of s n).drawn (row_of s n).won i k a
    first = core.packed.fits n i k a one

    second : Fits w (row_of s m).drawn (row_of s m).won j l b
    second = core.packed.fits m j l b two

    here : (p : ℕ) → p ≡ n → At (row_of s p).won j (told l (decision.Copied b)) → Fits w (row_of s p).drawn (row_of s p).won j l b
        → region_of w.shape a ≡ region_of w.shape b → (i ≡ j) ⊎ ((i < j) ⊎ (j < i)) → AreApart a (size_of w k) b (size_of w l)
    here p is won fits same (inl at) =
        absurd (other (ap (λ (x : Told). x.object)
        (same_Some (told k (decision.Copied a)) (told l (decision.Copied b))
        (sym one ∙ ap (slice_get (row_of s n).won) at ∙ subst (λ o. At (row_of s o).won j (told l (decision.Copied b))) is won))))
    here p is won fits same (inr (inl less)) =
        inl (earlier-apart w (row_of s n).drawn (row_of s n).won i j k l a b less one first
        (subst (λ o. Fits w (row_of s o).drawn (row_of s o).won j l b) is fits) same)
    here p is won fits same (inr (inr less)) =
        inr (earlier-apart w (row_of s n).drawn (row_of s n).won j i l k b a less
        (subst (λ o. At (row_of s o).won j (told l (decision.Copied b))) is won)
        (subst (λ o. Fits w (row_of s o).drawn (row_of s o).won j l b) is fits) first (sym same))

    by : (region_of w.shape a ≡ region_of w.shape b) ⊎ ((region_of w.shape a < region_of w.shape b) ⊎ (region_of w.shape b < region_of w.shape a))
        → AreApart a (size_of w k) b (size_of w l)
    by (inl same) =
        let whose = region-once s core n m first.place second.place first.drawn second.drawn first.drew second.drew
        (sym first.region ∙ same ∙ second.region) in
        here m (sym whose.0) two second same (cases_order i j)
    by (inr (inl less)) = inl (below-apart a b w.shape.words (size_of w k) less first.within)
    by (inr (inr less)) = inr (below-apart b a w.shape.words (size_of w l) less second.within)
