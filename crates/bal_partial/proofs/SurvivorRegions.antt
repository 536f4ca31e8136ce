-- The regions in which survivors lie, as they become members of a set, one after the other.
use Rattle.std.proofs.Common.{◌≡◌, ◌+◌, ◌<◌, ◌≤◌, ◌⊎◌, ℕ, inl, inr, List, [], length, take, get_or, Some, refl, ap, sym, subst, ◌∙◌, arith}
use Rattle.std.specs.Prelude.{◌↔◌, IsTrue, filter}
use Rattle.std.specs.List.{range_with_len}
use Rattle.std.proofs.Math.Nat.{div-lt_iff_lt-mul}
use Rattle.std.proofs.lemmas.Bool.{cases_lt, false≢true}
use Rattle.std.proofs.lemmas.List.{take_more}
use Rattle.std.proofs.lemmas.Option.{none-some, same_Some}
use Rattle.bal_base.specs.Bits.{is_member, with_member}
use Rattle.bal_base.proofs.Lemmas.{member-passes, member-there, member-with}
use Rattle.bal_core.specs.World.{At}
use Rattle.bal_core.specs.Steps.{told}
use Rattle.bal_core.specs.declared.event.Decision.{Decision}
use Rattle.bal_core.specs.declared.event.Decision.TheVariants as decision
use Rattle.bal_core.specs.declared.row.Told.{Told}
use Rattle.bal_layout.specs.Addresses.{IsAddress, region_of}
use Rattle.bal_layout.specs.Regions.{is_in}
use Rattle.bal_layout.specs.Shape.{IsShape, Shape}
use Rattle.bal_table.proofs.Lemmas.{in-end}
use Rattle.bal_partial.specs.Evacuating.{HasCopy, region_of_copy}

-- The regions of copies.

copy-region : (s : Shape) (d : Decision) (q : ℕ) → region_of_copy s d ≡ Some q → (a : ℕ) × (d ≡ decision.Copied a) × (region_of s a ≡ q)
copy-region s (decision.Copied a) q is = (a, refl, same_Some (region_of s a) q is)
copy-region s decision.Marked q is = absurd (none-some q is)

-- the members are those of before, and the regions of the copies among the first so many decisions
abbrev pub HaveCopies : Shape → List Told → ℕ → List ℕ → List ℕ → Type 0
HaveCopies s won end old now = (q : ℕ) → IsTrue (is_member now q) ↔ (HasCopy s won end q ⊎ IsTrue (is_member old q))

pub copies-none : (s : Shape) (won : List Told) (old : List ℕ) → HaveCopies s won 0 old old
copies-none s won old q = (λ among. inr among, back)
  where
    back : HasCopy s won 0 q ⊎ IsTrue (is_member old q) → IsTrue (is_member old q)
    back (inl copy) = absurd (let before : copy.place < 0 = copy.before in omega (arith, before))
    back (inr among) = among

pub copies-more : (s : Shape) (won : List Told) (i : ℕ) (old so now : List ℕ) (t : Told) → At won i t → HaveCopies s won i old so
    → ((q : ℕ) → IsTrue (is_member now q) ↔ ((region_of_copy s t.decision ≡ Some q) ⊎ IsTrue (is_member so q))) → HaveCopies s won (i + 1) old now
copies-more s won i old so now t at before more q = (λ among. there ((more q).0 among), back)
  where
    later : HasCopy s won i q → HasCopy s won (i + 1) q
    later copy =
        let less : copy.place < i = copy.before in
        record {
          place = copy.place;
          object = copy.object;
          address = copy.address;
          before = omega (arith, less);
          won_is = copy.won_is;
          here = copy.here;
        }

    earlier : HasCopy s won i q ⊎ IsTrue (is_member old q) → HasCopy s won (i + 1) q ⊎ IsTrue (is_member old q)
    earlier (inl copy) = inl (later copy)
    earlier (inr among) = inr among

    there : (region_of_copy s t.decision ≡ Some q) ⊎ IsTrue (is_member so q) → HasCopy s won (i + 1) q ⊎ IsTrue (is_member old q)
    there (inl here) =
        let copy = copy-region s t.decision q here in
        inl (record {
          place = i;
          object = t.object;
          address = copy.0;
          before = omega arith;
          won_is = at ∙ ap (λ d. Some (told t.object d)) copy.1;
          here = copy.2;
        })
    there (inr among) = earlier ((before q).0 among)

    by : (copy : HasCopy s won (i + 1) q) → (copy.place < i) ⊎ (copy.place ≡ i) → (region_of_copy s t.decision ≡ Some q) ⊎ IsTrue (is_member so q)
    by copy (inl less) = inr ((before q).1 (inl (record {
      place = copy.place;
      object = copy.object;
      address = copy.address;
      before = less;
      won_is = copy.won_is;
      here = copy.here;
    })))
    by copy (inr same) =
        let is : t ≡ told copy.object (decision.Copied copy.address)
        = same_Some t (told copy.object (decision.Copied copy.address))
        (sym at ∙ subst (λ j. At won j (told copy.object (decision.Copied copy.address))) same copy.won_is) in
        inl (ap (λ (u : Told). region_of_copy s u.decision) is ∙ ap Some copy.here)

    last : (copy : HasCopy s won (i + 1) q) → (copy.place < i) ⊎ (copy.place ≡ i)
    last copy = elim (cases_lt copy.place i) [
      | inl less ↦ inl less
      | inr past ↦ let less : copy.place < i + 1 = copy.before in inr (omega (arith, past, less))
    ]

    back : HasCopy s won (i + 1) q ⊎ IsTrue (is_member old q) → IsTrue (is_member now q)
    back (inl copy) = (more q).1 (by copy (last copy))
    back (inr among) = (more q).1 (inr ((before q).1 (inr among)))

-- The regions of marked objects.

-- an object lies in this region
abbrev pub LiesIn : Shape → List ℕ → ℕ → Type 0
LiesIn s addresses q = (a : ℕ) × IsTrue (is_in a addresses) × (region_of s a ≡ q)

abbrev pub HaveMarked : Shape → List ℕ → List ℕ → List ℕ → Type 0
HaveMarked s addresses old now = (q : ℕ) → IsTrue (is_member now q) ↔ (LiesIn s addresses q ⊎ IsTrue (is_member old q))

pub marked-none : (s : Shape) (old : List ℕ) → HaveMarked s [] old old
marked-none s old q = (λ among. inr among, back)
  where
    back : LiesIn s [] q ⊎ IsTrue (is_member old q) → IsTrue (is_member old q)
    back (inl lies) = absurd (false≢true lies.1)
    back (inr among) = among

front-cases : (xs : List ℕ) (i n : ℕ) → i < length xs → IsTrue (is_in n (take (i + 1) xs)) ↔ ((n ≡ get_or xs i 0) ⊎ IsTrue (is_in n (take i xs)))
front-cases xs i n within =
    subst (λ (l : List ℕ). IsTrue (is_in n l) ↔ ((n ≡ get_or xs i 0) ⊎ IsTrue (is_in n (take i xs)))) (sym (take_more xs i 0 within)) (in-end (take i xs) (get_or xs i 0) n)

pub marked-more : (s : Shape) (addresses : List ℕ) (i : ℕ) (old so : List ℕ) → i < length addresses → HaveMarked s (take i addresses) old so
    → HaveMarked s (take (i + 1) addresses) old (with_member (region_of s (get_or addresses i 0)) so)
marked-more s addresses i old so within before q = (λ among. there ((member-with x q so).0 among), back)
  where
    x : ℕ
    x = region_of s (get_or addresses i 0)

    earlier : LiesIn s (take i addresses) q ⊎ IsTrue (is_member old q) → LiesIn s (take (i + 1) addresses) q ⊎ IsTrue (is_member old q)
    earlier (inl lies) = inl (lies.0, (front-cases addresses i lies.0 within).1 (inr lies.1), lies.2)
    earlier (inr among) = inr among

    there : (x ≡ q) ⊎ IsTrue (is_member so q) → LiesIn s (take (i + 1) addresses) q ⊎ IsTrue (is_member old q)
    there (inl same) = inl (get_or addresses i 0, (front-cases addresses i (get_or addresses i 0) within).1 (inl refl), same)
    there (inr among) = earlier ((before q).0 among)

    by : (a : ℕ) → region_of s a ≡ q → (a ≡ get_or addresses i 0) ⊎ IsTrue (is_in a (take i addresses)) → (x ≡ q) ⊎ IsTrue (is_member so q)
    by a lies (inl same) = inl (ap (region_of s) (sym same) ∙ lies)
    by a lies (inr front) = inr ((before q).1 (inl (a, front, lies)))

    back : LiesIn s (take (i + 1) addresses) q ⊎ IsTrue (is_member old q) → IsTrue (is_member (with_member x so) q)
    back (inl lies) = (member-with x q so).1 (by lies.0 lies.2 ((front-cases addresses i lies.0 within).0 lies.1))
    back (inr among) = (member-with x q so).1 (inr ((before q).1 (inr among)))

-- All of them in order.

address-region : (s : Shape) (a : ℕ) → IsShape s → IsAddress s a → region_of s a < s.regions
address-region s a shape is = let words : 256 ≤ s.words = shape.fewest_words in let some : 0 < s.words = omega (arith, words) in (div-lt_iff_lt-mul some).1 is

module _ (s : Shape) (shape : IsShape s) (won : List Told) (marked : List ℕ)
    (copies : (i k a : ℕ) → At won i (told k (decision.Copied a)) → IsAddress s a) (lie : (a : ℕ) → IsTrue (is_in a marked) → IsAddress s a)
    (first second : List ℕ) (have : HaveCopies s won (length won) [] first) (more : HaveMarked s marked first second) where
  within : (q : ℕ) → HasCopy s won (length won) q ⊎ LiesIn s marked q → q < s.regions
  within q (inl copy) = subst (λ n. n < s.regions) copy.here (address-region s copy.address shape (copies copy.place copy.object copy.address copy.won_is))
  within q (inr lies) = subst (λ n. n < s.regions) lies.2 (address-region s lies.0 shape (lie lies.0 lies.1))

  without : (q : ℕ) → HasCopy s won (length won) q ⊎ IsTrue (is_member [] q) → HasCopy s won (length won) q ⊎ LiesIn s marked q
  without q (inl copy) = inl copy
  without q (inr none) = absurd (false≢true none)

  there : (q : ℕ) → LiesIn s marked q ⊎ IsTrue (is_member first q) → HasCopy s won (length won) q ⊎ LiesIn s marked q
  there q (inl lies) = inr lies
  there q (inr among) = without q ((have q).0 among)

  back : (q : ℕ) → HasCopy s won (length won) q ⊎ LiesIn s marked q → IsTrue (is_member second q)
  back q (inl copy) = (more q).1 (inr ((have q).1 (inl copy)))
  back q (inr lies) = (more q).1 (inl lies)

  pub just-listed : (q : ℕ) → IsTrue (is_in q (filter (is_member second) (range_with_len 0 s.regions))) ↔ (HasCopy s won (length won) q ⊎ LiesIn s marked q)
  just-listed q = (
    λ among. there q ((more q).0 (member-passes (is_member second) 0 s.regions q among).0),
    λ either. member-there (is_member second) 0 s.regions q (omega arith) (let less : q < s.regions = within q either in omega (arith, less)) (back q either),
  )
