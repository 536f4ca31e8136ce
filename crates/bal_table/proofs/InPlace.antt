-- A list that is filtered in place, while each number that stays is changed.
use Rattle.std.proofs.Common.{◌≡◌, ℕ, ◌+◌, ◌<◌, ◌≤◌, Bool, true, false, cond, List, [], ◌∷◌, ◌++◌, length, length-set, take, take_all, drop, set, get_or, map, ap, sym, ◌∙◌, arith}
use Rattle.std.proofs.lemmas.List.{append-nil, drop-set-lt, drop_more, get_or-set_same, map-append, take-set-le, take_more}
use Rattle.std.proofs.lemmas.List.Elements.{filter_more}
use Rattle.std.specs.List.{filter}

-- ys began as xs. What passes in the first i of xs stands changed in the first k places of ys, and from i on ys is as it was
pub record IsInPlace (p : ℕ → Bool) (f : ℕ → ℕ) (xs ys : List ℕ) (k i : ℕ) : Type 0 where
  pub front : take k ys ≡ map f (filter p (take i xs))
  pub rest : drop i ys ≡ drop i xs
  pub behind : k ≤ i
  pub within : i ≤ length xs
  pub long : length ys ≡ length xs

module _ (p : ℕ → Bool) (f : ℕ → ℕ) (xs ys : List ℕ) (k i : ℕ) (h : IsInPlace p f xs ys k i) where
  pub in-place-all : length xs ≤ i → take k ys ≡ map f (filter p xs)
  in-place-all all = h.front ∙ ap (λ (l : List ℕ). map f (filter p l)) (take_all i xs all)

  module _ (x : ℕ) (inside : i < length ys) (is : x ≡ get_or ys i x) where
    both : x ∷ drop (i + 1) ys ≡ get_or xs i x ∷ drop (i + 1) xs
    both = let long = h.long in ap (λ y. y ∷ drop (i + 1) ys) is ∙ (sym (drop_more ys i x inside) ∙ (h.rest ∙ drop_more xs i x (omega (arith, inside, long))))

    -- one more is read
    step : (b : Bool) → p x ≡ b → map f (filter p (take (i + 1) xs)) ≡ take k ys ++ map f (cond b (x ∷ []) [])
    step b e =
        let long = h.long in
        let read : get_or xs i x ≡ x = sym (ap (λ (l : List ℕ). get_or l 0 x) both) in
        ap (map f) (filter_more p xs i x (omega (arith, inside, long)))
        ∙ (map-append f (filter p (take i xs)) (cond (p (get_or xs i x)) (get_or xs i x ∷ []) [])
        ∙ (ap (λ (l : List ℕ). l ++ map f (cond (p (get_or xs i x)) (get_or xs i x ∷ []) [])) (sym h.front)
        ∙ (ap (λ y. take k ys ++ map f (cond (p y) (y ∷ []) [])) read ∙ ap (λ c. take k ys ++ map f (cond c (x ∷ []) [])) e)))

    pub in-place-no : p x ≡ false → IsInPlace p f xs ys k (i + 1)
    in-place-no e =
        let long = h.long in
        let behind = h.behind in
        record {
          front = sym (step false e ∙ append-nil (take k ys));
          rest = ap (drop 1) both;
          behind = omega (arith, behind);
          within = omega (arith, inside, long);
          long = h.long;
        }

    pub in-place-yes : p x ≡ true → IsInPlace p f xs (set ys k (f x)) (k + 1) (i + 1)
    in-place-yes e =
        let long = h.long in
        let behind = h.behind in
        record {
          front = take_more (set ys k (f x)) k 0 (omega (arith, inside, behind, length-set ys k (f x)))
              ∙ (ap (λ (l : List ℕ). l ++ get_or (set ys k (f x)) k 0 ∷ []) (take-set-le k ys k (f x) (omega arith))
              ∙ (ap (λ n. take k ys ++ n ∷ []) (get_or-set_same ys k (f x) 0 (omega (arith, inside, behind))) ∙ sym (step true e)));
          rest = drop-set-lt (i + 1) ys k (f x) (omega (arith, behind)) ∙ ap (drop 1) both;
          behind = omega (arith, behind);
          within = omega (arith, inside, long);
          long = length-set ys k (f x) ∙ h.long;
        }
