-- Objects that lie one after the other.
use Rattle.std.proofs.Common.{◌≡◌, ℕ, zero, suc, ◌+◌, ◌<◌, ◌≤◌, ◌⊎◌, inl, inr, Bool, true, false, cond, eqb, List, [], ◌∷◌, ◌++◌, length, get_or, Option, Some, None, refl, ap, subst, ◌∙◌, arith}
use Rattle.std.specs.Prelude.{◌||◌, IsSome}
use Rattle.std.specs.List.{filter, list_any}
use Rattle.std.proofs.lemmas.Bool.{eq-eqb, eqb-true, false≢true}
use Rattle.bal_layout.specs.declared.header.Header.{Header}
use Rattle.bal_layout.specs.declared.name.Kind.{Kind}
use Rattle.bal_layout.specs.declared.name.Kind.TheVariants.{Plain, Array, Spine}
use Rattle.bal_layout.specs.Header.{header_of, size_of_parts}
use Rattle.bal_region.specs.Land.{Laid, header_at, size_at, size_by}

-- an object has a header and a name at least
size-parts : (room : ℕ) (kind : Kind) (refs values : ℕ) → 2 ≤ size_of_parts room kind refs values
size-parts room Plain refs values = omega arith
size-parts room Array refs values = omega arith
size-parts room Spine refs values = omega arith

pub size_by-two : (room : ℕ) (h : Option Header) → IsSome h → 2 ≤ size_by room h
size_by-two room None some = absurd (false≢true some)
size_by-two room (Some h) some = size-parts room h.kind h.refs h.values

pub size-two : (words : List ℕ) (at : ℕ) → IsSome (header_at words at) → 2 ≤ size_at words at
unfolding size_at
size-two words at some = size_by-two (length words) (header_at words at) some

-- a header is its two words
pub header-same : (xs ys : List ℕ) (at : ℕ) → get_or xs at 0 ≡ get_or ys at 0 → get_or xs (at + 1) 0 ≡ get_or ys (at + 1) 0 → header_at xs at ≡ header_at ys at
header-same xs ys at one two = ap (λ w. header_of w (get_or xs (at + 1) 0)) one ∙ ap (header_of (get_or ys at 0)) two

pub size-same : (xs ys : List ℕ) (at : ℕ) → length xs ≡ length ys → header_at xs at ≡ header_at ys at → size_at xs at ≡ size_at ys at
unfolding size_at
size-same xs ys at long same = ap (λ n. size_by n (header_at xs at)) long ∙ ap (size_by (length ys)) same

pub or-cases : (a b : Bool) → (a || b) ≡ true → (a ≡ true) ⊎ (b ≡ true)
or-cases true b h = inl refl
or-cases false b h = inr h

pub or-right : (a b : Bool) → b ≡ true → (a || b) ≡ true
or-right true b h = refl
or-right false b h = h

-- a start is the first, or one of the others
pub among-cases : (s at : ℕ) (ss : List ℕ) → list_any (λ t. eqb t at) (s ∷ ss) ≡ true → (s ≡ at) ⊎ (list_any (λ t. eqb t at) ss ≡ true)
among-cases s at ss h = elim (or-cases (eqb s at) (list_any (λ t. eqb t at) ss) h) [ inl here ↦ inl (eqb-true s at here) | inr later ↦ inr later ]

pub among-later : (s at : ℕ) (ss : List ℕ) → list_any (λ t. eqb t at) ss ≡ true → list_any (λ t. eqb t at) (s ∷ ss) ≡ true
among-later s at ss h = or-right (eqb s at) (list_any (λ t. eqb t at) ss) h

pub among-first : (s : ℕ) (ss : List ℕ) → list_any (λ t. eqb t s) (s ∷ ss) ≡ true
among-first s ss = ap (λ b. b || list_any (λ t. eqb t s) ss) (eq-eqb s s refl)

module _ (words : List ℕ) where
  pub laid-le : (from : ℕ) (ss : List ℕ) (end : ℕ) → Laid words from ss end → from ≤ end
  laid-le from [] end laid = laid
  laid-le from (s ∷ ss) end laid = omega (arith, laid.0, laid-le (s + size_at words s) ss end laid.2)

  pub laid-lower : (from less : ℕ) (ss : List ℕ) (end : ℕ) → less ≤ from → Laid words from ss end → Laid words less ss end
  laid-lower from less [] end le laid = omega (arith, laid)
  laid-lower from less (s ∷ ss) end le laid = (omega (arith, laid.0), laid.1, laid.2)

  -- one object more stands at the end
  pub laid-more : (from : ℕ) (ss : List ℕ) (end last : ℕ) → Laid words from ss end → IsSome (header_at words end) → end + size_at words end ≡ last
      → Laid words from (ss ++ end ∷ []) last
  laid-more from [] end last laid some e = (laid, some, omega (arith, e))
  laid-more from (s ∷ ss) end last laid some e = (laid.0, laid.1, laid-more (s + size_at words s) ss end last laid.2 some e)

  -- some objects are taken away
  pub laid-fewer : (p : ℕ → Bool) (from : ℕ) (ss : List ℕ) (end : ℕ) → Laid words from ss end → Laid words from (filter p ss) end
  laid-fewer p from [] end laid = laid
  laid-fewer p from (s ∷ ss) end laid = by (laid-fewer p (s + size_at words s) ss end laid.2) (p s)
    where
      by : Laid words (s + size_at words s) (filter p ss) end → (b : Bool) → Laid words from (cond b (s ∷ filter p ss) (filter p ss)) end
      by rest true = (laid.0, laid.1, rest)
      by rest false = laid-lower (s + size_at words s) from (filter p ss) end (omega (arith, laid.0)) rest

  -- each object has its header and lies before the end
  pub laid-each : (from : ℕ) (ss : List ℕ) (end at : ℕ) → Laid words from ss end → list_any (λ t. eqb t at) ss ≡ true
      → (from ≤ at) × IsSome (header_at words at) × (at + size_at words at ≤ end)
  laid-each from [] end at laid among = absurd (false≢true among)
  laid-each from (s ∷ ss) end at laid among = elim (among-cases s at ss among) [
    | inl here ↦ (omega (arith, laid.0, here), subst (λ t. IsSome (header_at words t)) here laid.1, subst (λ t. t + size_at words t ≤ end) here (laid-le (s + size_at words s) ss end laid.2))
    | inr later ↦ let found = laid-each (s + size_at words s) ss end at laid.2 later in (omega (arith, found.0, laid.0), found.1, found.2)
  ]

  -- no two objects overlap
  pub laid-apart : (from : ℕ) (ss : List ℕ) (end a b : ℕ) → Laid words from ss end → list_any (λ t. eqb t a) ss ≡ true → list_any (λ t. eqb t b) ss ≡ true
      → a < b → a + size_at words a ≤ b
  laid-apart from [] end a b laid one two less = absurd (false≢true one)
  laid-apart from (s ∷ ss) end a b laid one two less = elim (among-cases s a ss one) [
    | inl here ↦ elim (among-cases s b ss two) [
      | inl too ↦ absurd (omega (arith, here, too, less))
      | inr later ↦ subst (λ t. t + size_at words t ≤ b) here (laid-each (s + size_at words s) ss end b laid.2 later).0
    ]
    | inr later ↦ elim (among-cases s b ss two) [
      | inl too ↦ absurd (omega (arith, too, less, (laid-each (s + size_at words s) ss end a laid.2 later).0))
      | inr both ↦ laid-apart (s + size_at words s) ss end a b laid.2 later both less
    ]
  ]

  -- each object, by its place in the list
  pub laid-at : (from : ℕ) (ss : List ℕ) (end k d : ℕ) → Laid words from ss end → k < length ss
      → (from ≤ get_or ss k d) × IsSome (header_at words (get_or ss k d)) × (get_or ss k d + size_at words (get_or ss k d) ≤ end)
  laid-at from [] end k d laid less = absurd (omega arith)
  laid-at from (s ∷ ss) end zero d laid less = (laid.0, laid.1, laid-le (s + size_at words s) ss end laid.2)
  laid-at from (s ∷ ss) end (suc k) d laid less =
      let found = laid-at (s + size_at words s) ss end k d laid.2 (omega arith) in (omega (arith, found.0, laid.0), found.1, found.2)

  -- each object ends before those after it
  pub laid-before : (from : ℕ) (ss : List ℕ) (end i j d : ℕ) → Laid words from ss end → i < j → j < length ss
      → get_or ss i d + size_at words (get_or ss i d) ≤ get_or ss j d
  laid-before from [] end i j d laid less within = absurd (omega arith)
  laid-before from (s ∷ ss) end i zero d laid less within = absurd (omega arith)
  laid-before from (s ∷ ss) end zero (suc j) d laid less within = (laid-at (s + size_at words s) ss end j d laid.2 (omega arith)).0
  laid-before from (s ∷ ss) end (suc i) (suc j) d laid less within = laid-before (s + size_at words s) ss end i j d laid.2 (omega arith) (omega arith)

-- other words with the same headers
pub laid-same : (xs ys : List ℕ) (from : ℕ) (ss : List ℕ) (end : ℕ) → length xs ≡ length ys
    → ((s : ℕ) → list_any (λ t. eqb t s) ss ≡ true → s + 2 ≤ end → header_at xs s ≡ header_at ys s) → Laid xs from ss end → Laid ys from ss end
laid-same xs ys from [] end long same laid = laid
laid-same xs ys from (s ∷ ss) end long same laid =
    let behind = laid-le xs (s + size_at xs s) ss end laid.2 in
    let header = same s (among-first s ss) (omega (arith, behind, size-two xs s laid.1)) in
    let rest = laid-same xs ys (s + size_at xs s) ss end long (λ t among within. same t (among-later s t ss among) within) laid.2 in
    (laid.0, subst IsSome header laid.1, subst (λ n. Laid ys (s + n) ss end) (size-same xs ys s long header) rest)
