-- Facts with a test that decides them, and how larger ones are made of them: what a test computes at a journal is then a
-- proof, or a refutation.
use Rattle.std.proofs.Common.{◌≡◌, ◌≤◌, ◌<◌, ℕ, List, [], ◌∷◌, Bool, true, false, ◌&&◌, ◌==◌, Option, Some, None, refl, ap, sym, ◌∙◌, arith}
use Rattle.std.specs.Prelude.{⊤, IsTrue, nat_lt, nat_le}
use Rattle.std.specs.Bool.{Decides}
use Rattle.std.specs.List.{AllByRecursion}
use Rattle.std.proofs.lemmas.Bool.Decides.{Decides-and, Decides-eqb, Decides-ltb, Decides-like, nat_tests}

pub record Decided (P : Type 0) : Type 0 where
  pub test : Bool
  pub decides : Decides test P

-- where the test passes the fact holds
pub proof_of : {P : Type 0} (d : Decided P) → d.test ≡ true → P
proof_of d h = d.decides.0 h

-- Facts on numbers and tests.

pub always-true : Decides true ⊤
always-true = (λ h. tt, λ h. refl)

pub never-true : Decides false ⊥
never-true = (λ h. cc, λ h. absurd h)

pub test-true : (b : Bool) → Decides b (IsTrue b)
test-true b = (λ h. h, λ h. h)

pub le-decides : (m n : ℕ) → Decides (nat_le m n) (m ≤ n)
le-decides m n = (λ h. grind (arith, nat_tests, h), λ h. grind (arith, nat_tests, h))

abbrev pub always : Decided ⊤
always = record { test = true; decides = always-true }

abbrev pub never : Decided ⊥
never = record { test = false; decides = never-true }

abbrev pub is_true : (b : Bool) → Decided (IsTrue b)
is_true b = record { test = b; decides = test-true b }

abbrev pub at_most : (m n : ℕ) → Decided (m ≤ n)
at_most m n = record { test = nat_le m n; decides = le-decides m n }

abbrev pub below : (m n : ℕ) → Decided (m < n)
below m n = record { test = nat_lt m n; decides = Decides-ltb m n }

-- Larger facts.

abbrev pub both : {P Q : Type 0} → Decided P → Decided Q → Decided (P × Q)
both p q = record { test = p.test && q.test; decides = Decides-and p.test q.test p.decides q.decides }

-- the same fact in other words
abbrev pub like : {P Q : Type 0} → (P → Q) → (Q → P) → Decided P → Decided Q
like there back p = record { test = p.test; decides = Decides-like p.test there back p.decides }

-- a fact of each item of a list
abbrev pub each : {X : Type 0} {P : X → Type 0} → ((x : X) → Decided (P x)) → (xs : List X) → Decided (AllByRecursion P xs)
each d [] = always
each d (x ∷ xs) = both (d x) (each d xs)

-- Equality.

-- a test of equality
pub record Equality (A : Type 0) : Type 0 where
  pub same : A → A → Bool
  pub decides : (x y : A) → Decides (same x y) (x ≡ y)

abbrev pub equal : {A : Type 0} → Equality A → (x y : A) → Decided (x ≡ y)
equal a x y = record { test = a.same x y; decides = a.decides x y }

abbrev pub numbers : Equality ℕ
numbers = record { same = λ m n. m == n; decides = Decides-eqb }

-- pairs
pub pair_same : {A B : Type 0} (a : Equality A) (b : Equality B) (x y : A × B) → Decides (a.same x.0 y.0 && b.same x.1 y.1) (x ≡ y)
pair_same {A = A} {B = B} a b x y =
    Decides-like _ (λ (h : (x.0 ≡ y.0) × (x.1 ≡ y.1)). ap (λ (a : A). (a, x.1)) h.0 ∙ ap (λ (b : B). (y.0, b)) h.1) (λ (h : x ≡ y). (ap (λ p. p.0) h, ap (λ p. p.1) h)) (Decides-and _ _ (a.decides x.0 y.0) (b.decides x.1 y.1))

abbrev pub pairs : {A B : Type 0} → Equality A → Equality B → Equality (A × B)
pairs a b = record { same = λ x y. a.same x.0 y.0 && b.same x.1 y.1; decides = pair_same a b }

-- lists
abbrev pub same_items : {A : Type 0} → (A → A → Bool) → List A → List A → Bool
same_items same [] [] = true
same_items same [] (y ∷ ys) = false
same_items same (x ∷ xs) [] = false
same_items same (x ∷ xs) (y ∷ ys) = same x y && same_items same xs ys

pub list_same : {A : Type 0} (a : Equality A) (xs ys : List A) → Decides (same_items a.same xs ys) (xs ≡ ys)
list_same a [] [] = (λ h. refl, λ h. refl)
list_same a [] (y ∷ ys) = (λ h. cc, λ h. cc)
list_same a (x ∷ xs) [] = (λ h. cc, λ h. cc)
list_same a (x ∷ xs) (y ∷ ys) = Decides-like _ (λ h. cc) (λ h. (cc, cc)) (Decides-and _ _ (a.decides x y) (list_same a xs ys))

abbrev pub lists : {A : Type 0} → Equality A → Equality (List A)
lists a = record { same = same_items a.same; decides = list_same a }

-- what may be missing
abbrev pub same_option : {A : Type 0} → (A → A → Bool) → Option A → Option A → Bool
same_option same None None = true
same_option same None (Some y) = false
same_option same (Some x) None = false
same_option same (Some x) (Some y) = same x y

pub option_same : {A : Type 0} (a : Equality A) (x y : Option A) → Decides (same_option a.same x y) (x ≡ y)
option_same a None None = (λ h. refl, λ h. refl)
option_same a None (Some y) = (λ h. cc, λ h. cc)
option_same a (Some x) None = (λ h. cc, λ h. cc)
option_same a (Some x) (Some y) = Decides-like _ (λ h. cc) (λ h. cc) (a.decides x y)

abbrev pub options : {A : Type 0} → Equality A → Equality (Option A)
options a = record { same = same_option a.same; decides = option_same a }

-- what has a code that can be read back is equal where its code is
pub code_same : {A B : Type 0} (b : Equality B) (code : A → B) (read : B → A) (back : (x : A) → read (code x) ≡ x) (x y : A) → Decides (b.same (code x) (code y)) (x ≡ y)
code_same b code read back x y =
    Decides-like _ (λ (h : code x ≡ code y). sym (back x) ∙ ap read h ∙ back y) (λ (h : x ≡ y). ap code h) (b.decides (code x) (code y))

abbrev pub coded : {A B : Type 0} → Equality B → (code : A → B) (read : B → A) → ((x : A) → read (code x) ≡ x) → Equality A
coded b code read back = record { same = λ x y. b.same (code x) (code y); decides = code_same b code read back }
