-- What a reading says that was put together from others.
use Rattle.std.proofs.Common.{◌≡◌, Option, Some, None, Bool, true, false, inl, inr, ◌⊎◌, refl, ap, sym, ◌∙◌}
use Rattle.std.specs.Prelude.{option_map, if◌then◌else◌}
use Rattle.std.specs.Option.{option_and_then, option_or}

-- what was made of a reading's result
pub map_some : {A B : Type 0} (f : A → B) (x : Option A) (b : B) → option_map f x ≡ Some b → (a : A) × (x ≡ Some a) × (f a ≡ b)
map_some f None b e = cc
map_some f (Some a) b e =
    let same : f a ≡ b = cc in
    (a, refl, same)

-- a reading of what another gave
pub and_then_some : {A B : Type 0} (f : A → Option B) (x : Option A) (b : B) → option_and_then f x ≡ Some b → (a : A) × (x ≡ Some a) × (f a ≡ Some b)
and_then_some f None b e = cc
and_then_some f (Some a) b e = (a, refl, e)

passed : {A : Type 0} (t : Bool) (x b : A) → (if t then Some x else None) ≡ Some b → (x ≡ b) × (t ≡ true)
passed true x b e = let same : x ≡ b = cc in (same, refl)
passed false x b e = cc

-- what was read passes the test
pub only_some : {A : Type 0} (test : A → Bool) (x : Option A) (b : A) → option_and_then (λ a. if test a then Some a else None) x ≡ Some b → (x ≡ Some b) × (test b ≡ true)
only_some test None b e = cc
only_some test (Some a) b e =
    let p = passed (test a) a b e in
    (ap Some p.0, sym (ap test p.0) ∙ p.1)

-- one of two readings gave it
pub or_some : {A : Type 0} (x y : Option A) (b : A) → option_or x y ≡ Some b → (x ≡ Some b) ⊎ (y ≡ Some b)
or_some None y b e = inr e
or_some (Some a) y b e = inl e
