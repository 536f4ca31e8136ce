-- The drawn regions by their places.
use Rattle.std.proofs.Common.{◌≡◌, ◌+◌, ◌<◌, ℕ, zero, suc, Bool, true, false, List, [], ◌∷◌, ◌++◌, length, set, Some, refl, ap, sym, subst, ◌∙◌, arith}
use Rattle.std.specs.Prelude.{◌||◌}
use Rattle.std.specs.List.{list_any}
use Rattle.std.proofs.lemmas.Option.{none-some, same_Some}
use Rattle.bal_core.specs.declared.row.Drawn.{Drawn}
use Rattle.bal_core.specs.World.{At}
use Rattle.bal_dest.specs.Buffers.{destination_at}
use Rattle.bal_dest.specs.declared.buffers.Destination.{Destination}
use Rattle.bal_evacuate.specs.Course.{drawn_from}

-- a region as it was drawn
abbrev pub drawn_as : ℕ → Destination → Drawn
drawn_as ordinal d = record { ordinal = ordinal; region = d.region.number; age = d.age }

pub length-drawn : (n : ℕ) (ds : List Destination) → length (drawn_from n ds) ≡ length ds
unfolding drawn_from
length-drawn n [] = refl
length-drawn n (d ∷ ds) = ap suc (length-drawn (n + 1) ds)

pub drawn-at : (n : ℕ) (ds : List Destination) (i : ℕ) → i < length ds → At (drawn_from n ds) i (drawn_as (n + i) (destination_at ds i))
unfolding drawn_from
drawn-at n [] i less = absurd (omega (arith, less))
drawn-at n (d ∷ ds) zero less = ap (λ m. Some (drawn_as m d)) (omega arith)
drawn-at n (d ∷ ds) (suc i) less =
    let same : n + 1 + i ≡ n + suc i = omega arith in
    subst (λ m. At (drawn_from (n + 1) ds) i (drawn_as m (destination_at ds i))) same (drawn-at (n + 1) ds i (omega (arith, less)))

within : (n : ℕ) (ds : List Destination) (i : ℕ) (x : Drawn) → At (drawn_from n ds) i x → i < length ds
unfolding drawn_from
within n [] i x here = absurd (none-some x here)
within n (d ∷ ds) zero x here = omega arith
within n (d ∷ ds) (suc i) x here = let less : i < length ds = within (n + 1) ds i x here in omega (arith, less)

-- a drawn region is that of its place
pub drawn-is : (ds : List Destination) (i : ℕ) (x : Drawn) → At (drawn_from 0 ds) i x → (i < length ds) × (x ≡ drawn_as i (destination_at ds i))
drawn-is ds i x at =
    let less : i < length ds = within 0 ds i x at in
    let zero_on : 0 + i ≡ i = omega arith in
    (less, same_Some x (drawn_as i (destination_at ds i)) (sym at ∙ subst (λ m. At (drawn_from 0 ds) i (drawn_as m (destination_at ds i))) zero_on (drawn-at 0 ds i less)))

pub drawn-push : (n : ℕ) (ds : List Destination) (d : Destination) → drawn_from n (ds ++ d ∷ []) ≡ drawn_from n ds ++ drawn_as (n + length ds) d ∷ []
unfolding drawn_from
drawn-push n [] d = ap (λ m. drawn_as m d ∷ []) (omega arith)
drawn-push n (e ∷ ds) d =
    let same : n + 1 + length ds ≡ n + length (e ∷ ds) = omega arith in
    ap (λ l. drawn_as n e ∷ l) (drawn-push (n + 1) ds d ∙ ap (λ m. drawn_from (n + 1) ds ++ drawn_as m d ∷ []) same)

-- another land with that number, for that age
pub drawn-set : (n : ℕ) (ds : List Destination) (place : ℕ) (x : Destination) → x.age ≡ (destination_at ds place).age
    → x.region.number ≡ (destination_at ds place).region.number → drawn_from n (set ds place x) ≡ drawn_from n ds
unfolding drawn_from
drawn-set n [] place x age number = refl
drawn-set n (d ∷ ds) zero x age number =
    ap (λ q. record { ordinal = n; region = q; age = x.age } ∷ drawn_from (n + 1) ds) number
    ∙ ap (λ a. record { ordinal = n; region = d.region.number; age = a } ∷ drawn_from (n + 1) ds) age
drawn-set n (d ∷ ds) (suc place) x age number = ap (λ l. drawn_as n d ∷ l) (drawn-set (n + 1) ds place x age number)

-- an item that passes settles the test
pub any-from : {X : Type 0} (p : X → Bool) (xs : List X) (i : ℕ) (x : X) → At xs i x → p x ≡ true → list_any p xs ≡ true
any-from p [] i x at passes = absurd (none-some x at)
any-from p (y ∷ xs) zero x at passes = ap (λ b. b || list_any p xs) (ap p (same_Some y x at) ∙ passes)
any-from p (y ∷ xs) (suc i) x at passes = by (p y) (any-from p xs i x at passes)
  where
    by : (b : Bool) → list_any p xs ≡ true → (b || list_any p xs) ≡ true
    by true any = refl
    by false any = any
