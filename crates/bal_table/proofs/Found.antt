-- What is found at the numbers of a range.
use Rattle.std.proofs.Common.{◌≡◌, ℕ, zero, suc, ◌+◌, ◌-◌, ◌<◌, ◌≤◌, inl, inr, cond, List, [], ◌∷◌, ◌++◌, map, Option, Some, None, refl, ap, sym, subst, ◌∙◌, arith}
use Rattle.std.specs.Prelude.{is_some}
use Rattle.std.specs.List.{Contains, cons_option, filter, filter_map, range_with_len}
use Rattle.std.proofs.lemmas.List.Elements.{Contains-append_cases, Contains-append_left, Contains-append_right, Contains-push, Contains-push_cases, filter_map-append}

-- a range that is cut in two
range-join : (a n m : ℕ) → range_with_len a (n + m) ≡ range_with_len a n ++ range_with_len (a + n) m
range-join a zero m =
    let all : 0 + m ≡ m = omega arith in
    let from : a ≡ a + 0 = omega arith in
    ap (range_with_len a) all ∙ ap (λ b. range_with_len b m) from
range-join a (suc n) m =
    let all : suc n + m ≡ suc (n + m) = omega arith in
    let from : a + 1 + n ≡ a + suc n = omega arith in
    ap (range_with_len a) all ∙ ap (λ (l : List ℕ). a ∷ l) (range-join (a + 1) n m ∙ ap (λ b. range_with_len (a + 1) n ++ range_with_len b m) from)

module _ {X : Type 0} (h : ℕ → Option X) where
  -- in a range that is cut in two
  pub found-join : (a n m : ℕ) → filter_map h (range_with_len a (n + m)) ≡ filter_map h (range_with_len a n) ++ filter_map h (range_with_len (a + n) m)
  found-join a n m = ap (filter_map h) (range-join a n m) ∙ filter_map-append h (range_with_len a n) (range_with_len (a + n) m)

  -- what is found is at one of the numbers
  pub found-at : (a n : ℕ) (x : X) → Contains (filter_map h (range_with_len a n)) x → (p : ℕ) × ((h p ≡ Some x) × (a ≤ p) × (p < a + n))
  found-at a zero x among = absurd (omega (arith, among.1))
  found-at a (suc n) x among =
      by (λ later. let f = found-at (a + 1) n x later in (f.0, (f.1.0, omega (arith, f.1), omega (arith, f.1)))) (h a) refl among
    where
      by : (Contains (filter_map h (range_with_len (a + 1) n)) x → (p : ℕ) × ((h p ≡ Some x) × (a ≤ p) × (p < a + suc n))) → (o : Option X) → h a ≡ o
          → Contains (cons_option o (filter_map h (range_with_len (a + 1) n))) x → (p : ℕ) × ((h p ≡ Some x) × (a ≤ p) × (p < a + suc n))
      by rest None here among = rest among
      by rest (Some y) here among = elim (Contains-append_cases (y ∷ []) (filter_map h (range_with_len (a + 1) n)) x among) [
        | inl first ↦ elim (Contains-push_cases [] y x first) [ inl none ↦ absurd (omega (arith, none.1)) | inr same ↦ (a, (here ∙ ap Some same, omega arith, omega arith)) ]
        | inr later ↦ rest later
      ]

  -- and what is at one of them is found
  pub at-found : (a n p : ℕ) (x : X) → h p ≡ Some x → a ≤ p → p < a + n → Contains (filter_map h (range_with_len a n)) x
  at-found a n p x there from to =
      let rest : ℕ = a + n - (p + 1) in
      let cut : (p - a) + suc rest ≡ n = omega arith in
      let place : a + (p - a) ≡ p = omega arith in
      let before : List X = filter_map h (range_with_len a (p - a)) in
      let behind : List X = filter_map h (range_with_len (a + (p - a) + 1) rest) in
      let whole : filter_map h (range_with_len a n) ≡ before ++ cons_option (h (a + (p - a))) behind =
      ap (λ k. filter_map h (range_with_len a k)) (sym cut) ∙ found-join a (p - a) (suc rest) in
      let here : before ++ cons_option (h (a + (p - a))) behind ≡ before ++ x ∷ behind = ap (λ (o : Option X). before ++ cons_option o behind) (ap h place ∙ there) in
      subst (λ (l : List X). Contains l x) (sym (whole ∙ here))
      (Contains-append_right before (x ∷ behind) x (Contains-append_left (x ∷ []) behind x (Contains-push [] x)))

  -- the numbers at which something is found, where each is told by what is found there
  pub found-numbers : (f : X → ℕ) → ((p : ℕ) (x : X) → h p ≡ Some x → f x ≡ p) → (ps : List ℕ) → map f (filter_map h ps) ≡ filter (λ p. is_some (h p)) ps
  found-numbers f told [] = refl
  found-numbers f told (p ∷ ps) = by (found-numbers f told ps) (h p) refl
    where
      by : map f (filter_map h ps) ≡ filter (λ q. is_some (h q)) ps → (o : Option X) → h p ≡ o
          → map f (cons_option o (filter_map h ps)) ≡ cond (is_some o) (p ∷ filter (λ q. is_some (h q)) ps) (filter (λ q. is_some (h q)) ps)
      by rest None here = rest
      by rest (Some x) here = ap (λ n. n ∷ map f (filter_map h ps)) (told p x here) ∙ ap (λ (l : List ℕ). p ∷ l) rest

  -- nothing is found
  pub found-none : (a n : ℕ) → ((p : ℕ) → a ≤ p → p < a + n → h p ≡ None) → filter_map h (range_with_len a n) ≡ []
  found-none a zero none = refl
  found-none a (suc n) none =
      ap (λ (o : Option X). cons_option o (filter_map h (range_with_len (a + 1) n))) (none a (omega arith) (omega arith))
      ∙ found-none (a + 1) n (λ p from to. none p (omega arith) (omega arith))
