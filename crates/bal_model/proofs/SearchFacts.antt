-- What a search has found, name by name, and that it finds just the ends of walks.
use Rattle.std.proofs.Common.{◌≡◌, ◌≤◌, ◌<◌, ◌+◌, ◌⊎◌, ◌↔◌, inl, inr, ℕ, Bool, true, false, not, cond, ◌&&◌, ◌||◌, IsTrue, List, [], ◌∷◌, ◌++◌, length, filter, flat_map, get_or, take, Option, None, Some, refl, ap, sym, subst, ◌∙◌, arith, length-append, take_all}
use Rattle.std.specs.Prelude.{slice_get}
use Rattle.std.specs.List.{list_any}
use Rattle.std.proofs.lemmas.Bool.{and_parts, or_cases, or_left, or_right, false≢true}
use Rattle.std.proofs.lemmas.List.{take_more, append-nil, append_assoc, take-append-le}
use Rattle.std.proofs.lemmas.List.Folds.{list_any-append, list_any_at}
use Rattle.std.proofs.lemmas.List.Elements.{filter_agree}
use Rattle.std.proofs.lemmas.Option.{slice_get_cases}
use Rattle.std.proofs.lemmas.List.Sums.{fold-append}
use Rattle.bal_layout.specs.declared.name.Name.{Name}
use Rattle.bal_layout.specs.Names.{same_name, is_among}
use Rattle.bal_model.specs.Plain.{State}
use Rattle.bal_model.specs.Walk.{Ground, EndsWalk, ends_of_walks, root_names, targets}
use Rattle.bal_model.specs.Kept.{kept_ground}
use Rattle.bal_model.specs.Marks.{is_marked}
use Rattle.bal_model.specs.Searching.{IsClosing, IsSearch, with_all_found, with_found}
use Rattle.bal_model.specs.declared.plain.marks.Marks.{Marks}
use Rattle.bal_model.specs.declared.plain.reach.Search.{Search}
use Rattle.bal_model.proofs.MarkFacts.{same-truth}
use Rattle.bal_model.proofs.Walks.{ends-are-walked, ends-filter, filter_agree_within, is_among-head, is_among-tail, same_name-eq, same_name-refl, walk-goes, at-ends, length-filter_less}

-- a loop over a list, each part of which leads to names: one more part was gone over
pub with-more : {X : Type 0} (names : List X → List Name) → ((xs ys : List X) → names (xs ++ ys) ≡ names xs ++ names ys)
    → (inside : Name → Bool) (found : List Name) (xs : List X) (i : ℕ) (d : X) → i < length xs
    → with_all_found inside found (names (take (i + 1) xs)) ≡ with_all_found inside (with_all_found inside found (names (take i xs))) (names (get_or xs i d ∷ []))
with-more names append inside found xs i d h =
    ap (λ ys. with_all_found inside found (names ys)) (take_more xs i d h)
    ∙ (ap (with_all_found inside found) (append (take i xs) (get_or xs i d ∷ [])) ∙ fold-append (with_found inside) found (names (take i xs)) (names (get_or xs i d ∷ [])))

module _ {X : Type 0} (names : List X → List Name) (append : (xs ys : List X) → names (xs ++ ys) ≡ names xs ++ names ys)
    (m n : Marks) (f g h : List Name) (xs : List X) (i : ℕ) (d : X) (within : i < length xs) (same : n ≡ m) (so_far : g ≡ with_all_found (is_marked m) f (names (take i xs))) where
  pub then-more : h ≡ with_all_found (is_marked n) g (names (get_or xs i d ∷ [])) → h ≡ with_all_found (is_marked m) f (names (take (i + 1) xs))
  then-more now =
      now
      ∙ (ap (λ k. with_all_found (is_marked k) g (names (get_or xs i d ∷ []))) same
      ∙ (ap (λ l. with_all_found (is_marked m) l (names (get_or xs i d ∷ []))) so_far ∙ sym (with-more names append (is_marked m) f xs i d within)))

-- a name at the end
in-pushed : (f : List Name) (x y : Name) → IsTrue (is_among y (f ++ x ∷ [])) ↔ (IsTrue (is_among y f) ⊎ (y ≡ x))
in-pushed f x y = (to, from)
  where
    both : is_among y (f ++ x ∷ []) ≡ (is_among y f || (same_name y x || false))
    both = list_any-append (same_name y) f (x ∷ [])

    to : IsTrue (is_among y (f ++ x ∷ [])) → IsTrue (is_among y f) ⊎ (y ≡ x)
    to h = elim (or_cases (is_among y f) (same_name y x || false) (sym both ∙ h)) [
      | inl before ↦ inl before
      | inr last ↦ (elim (or_cases (same_name y x) false last) [ inl same ↦ inr (same_name-eq y x same) | inr none ↦ absurd (false≢true none) ])
    ]

    from : IsTrue (is_among y f) ⊎ (y ≡ x) → IsTrue (is_among y (f ++ x ∷ []))
    from h = both ∙ elim h [
      | inl before ↦ or_left (is_among y f) (same_name y x || false) before
      | inr same ↦ or_right (is_among y f) (same_name y x || false) (or_left (same_name y x) false (ap (same_name y) (sym same) ∙ same_name-refl y))
    ]

module _ (inside : Name → Bool) where
  -- Who is found.

  in-found : (f : List Name) (x y : Name) → IsTrue (is_among y (with_found inside f x)) ↔ (IsTrue (is_among y f) ⊎ ((y ≡ x) × IsTrue (inside y)))
  in-found f x y = by (inside x) (is_among x f) refl refl
    where
      by : (a b : Bool) → inside x ≡ a → is_among x f ≡ b
          → IsTrue (is_among y (cond (a && not b) (f ++ x ∷ []) f)) ↔ (IsTrue (is_among y f) ⊎ ((y ≡ x) × IsTrue (inside y)))
      by true true a b = (λ h. inl h, λ h. elim h [ inl before ↦ before | inr same ↦ ap (λ z. is_among z f) same.0 ∙ b ])
      by true false a b = (
        λ h. elim ((in-pushed f x y).0 h) [ inl before ↦ inl before | inr same ↦ inr (same, ap inside same ∙ a) ],
        λ h. (in-pushed f x y).1 (elim h [ inl before ↦ inl before | inr same ↦ inr same.0 ]),
      )
      by false b a c = (λ h. inl h, λ h. elim h [ inl before ↦ before | inr same ↦ absurd (false≢true (sym a ∙ (ap inside (sym same.0) ∙ same.1))) ])

  pub in-all-found : (xs f : List Name) (y : Name) → IsTrue (is_among y (with_all_found inside f xs)) ↔ (IsTrue (is_among y f) ⊎ (IsTrue (is_among y xs) × IsTrue (inside y)))
  in-all-found [] f y = (λ h. inl h, λ h. elim h [ inl before ↦ before | inr none ↦ absurd (false≢true none.0) ])
  in-all-found (x ∷ xs) f y = let rest = in-all-found xs (with_found inside f x) y in (to rest, from rest)
    where
      Rest : Type 0
      Rest = IsTrue (is_among y (with_all_found inside (with_found inside f x) xs)) ↔ (IsTrue (is_among y (with_found inside f x)) ⊎ (IsTrue (is_among y xs) × IsTrue (inside y)))

      to : Rest → IsTrue (is_among y (with_all_found inside (with_found inside f x) xs)) → IsTrue (is_among y f) ⊎ (IsTrue (is_among y (x ∷ xs)) × IsTrue (inside y))
      to rest h = elim (rest.0 h) [
        | inl here ↦ (elim ((in-found f x y).0 here) [
          | inl before ↦ inl before
          | inr same ↦ inr (ap (λ z. is_among z (x ∷ xs)) same.0 ∙ is_among-head x xs, same.1)
        ])
        | inr later ↦ inr (is_among-tail y x xs later.0, later.1)
      ]

      from : Rest → IsTrue (is_among y f) ⊎ (IsTrue (is_among y (x ∷ xs)) × IsTrue (inside y)) → IsTrue (is_among y (with_all_found inside (with_found inside f x) xs))
      from rest h = rest.1 (elim h [
        | inl before ↦ inl ((in-found f x y).1 (inl before))
        | inr among ↦ (elim (or_cases (same_name y x) (is_among y xs) among.0) [
          | inl here ↦ inl ((in-found f x y).1 (inr (same_name-eq y x here, among.1)))
          | inr later ↦ inr (later, among.1)
        ])
      ])

  -- What was found stays in its place.

  found-after : (f : List Name) (x : Name) → (more : List Name) × (with_found inside f x ≡ f ++ more)
  found-after f x = by (inside x && not (is_among x f))
    where
      by : (b : Bool) → (more : List Name) × (cond b (f ++ x ∷ []) f ≡ f ++ more)
      by true = (x ∷ [], refl)
      by false = ([], sym (append-nil f))

  pub all-found-after : (xs f : List Name) → (more : List Name) × (with_all_found inside f xs ≡ f ++ more)
  all-found-after [] f = ([], sym (append-nil f))
  all-found-after (x ∷ xs) f =
      let one = found-after f x in
      let rest = all-found-after xs (with_found inside f x) in
      (one.0 ++ rest.0, rest.1 ∙ (ap (λ l. l ++ rest.0) one.1 ∙ append_assoc f one.0 rest.0))

  -- How much is left to do.

  module _ (chosen : List Name) (within : (x : Name) → IsTrue (inside x) → IsTrue (is_among x chosen)) where
    abbrev pub unfound : List Name → List Name
    unfound f = filter (λ x. not (is_among x f)) chosen

    fewer : (f : List Name) (x : Name) → IsTrue (inside x && not (is_among x f)) → length (unfound (f ++ x ∷ [])) < length (unfound f)
    fewer f x h =
        let parts = and_parts (inside x) (not (is_among x f)) h in
        length-filter_less (λ y. not (is_among y (f ++ x ∷ []))) (λ y. not (is_among y f)) still chosen x (within x parts.0) (ap not ((in-pushed f x x).1 (inr refl))) parts.1
      where
        still : (y : Name) → IsTrue (not (is_among y (f ++ x ∷ []))) → IsTrue (not (is_among y f))
        still y new = by (is_among y f) refl
          where
            by : (b : Bool) → is_among y f ≡ b → IsTrue (not b)
            by true e = absurd (false≢true (sym (ap not ((in-pushed f x y).1 (inl e))) ∙ new))
            by false e = refl

    left-found : (f : List Name) (x : Name) → length (unfound (with_found inside f x)) + length (with_found inside f x) ≤ length (unfound f) + length f
    left-found f x = by (inside x && not (is_among x f)) refl
      where
        by : (b : Bool) → (inside x && not (is_among x f)) ≡ b → length (unfound (cond b (f ++ x ∷ []) f)) + length (cond b (f ++ x ∷ []) f) ≤ length (unfound f) + length f
        by true e = omega (arith, fewer f x e, length-append f (x ∷ []))
        by false e = omega arith

    pub left-all-found : (xs f : List Name) → length (unfound (with_all_found inside f xs)) + length (with_all_found inside f xs) ≤ length (unfound f) + length f
    left-all-found [] f = omega arith
    left-all-found (x ∷ xs) f = omega (arith, left-all-found xs (with_found inside f x), left-found f x)

-- A search comes to the ends of walks.

module _ (g : Ground) (inside : Name → Bool) (same : (x : Name) → inside x ≡ is_among x g.inside) where
  -- what walks may begin at was found first
  pub closing-begun : (first : List Name) → ((x : Name) → g.begins x ≡ is_among x first) → IsClosing g (with_all_found inside [] first) 0
  closing-begun first begins = record {
    only = λ x among. elim ((in-all-found inside first [] x).0 among) [
      | inl none ↦ absurd (false≢true none)
      | inr h ↦ ([], (sym (same x) ∙ h.1, begins x ∙ h.0))
    ];
    begun = λ x within begin. (in-all-found inside first [] x).1 (inr (sym (begins x) ∙ begin, same x ∙ within));
    closed = λ x y none. absurd (false≢true none);
  }

  -- a name was looked at, and what it refers to was found
  pub closing-next : (f : List Name) (i : ℕ) (x : Name) → IsClosing g f i → i < length f → x ≡ get_or f i x → IsClosing g (with_all_found inside f (g.refs x)) (i + 1)
  closing-next f i x c h e = record {
    only = λ y among. elim ((in-all-found inside (g.refs x) f y).0 among) [
      | inl before ↦ c.only y before
      | inr led ↦ walk-goes g x y (c.only x (first-there)) (sym (same y) ∙ led.1) led.0
    ];
    begun = λ y within begin. (in-all-found inside (g.refs x) f y).1 (inl (c.begun y within begin));
    closed = λ y z looked led within. elim ((in-pushed (take i f) x y).0 (subst (λ l. IsTrue (is_among y l)) list looked)) [
      | inl before ↦ (in-all-found inside (g.refs x) f z).1 (inl (c.closed y z before led within))
      | inr here ↦ (in-all-found inside (g.refs x) f z).1 (inr (ap (λ v. is_among z (g.refs v)) (sym here) ∙ led, same z ∙ within))
    ];
  }
    where
      first-there : IsTrue (is_among x f)
      first-there = list_any_at (same_name x) f i x h (ap (same_name x) (sym e) ∙ same_name-refl x)

      list : take (i + 1) (with_all_found inside f (g.refs x)) ≡ take i f ++ x ∷ []
      list =
          let more = all-found-after inside (g.refs x) f in
          ap (take (i + 1)) more.1 ∙ (take-append-le (i + 1) f more.0 (omega arith) ∙ (take_more f i x h ∙ ap (λ v. take i f ++ v ∷ []) (sym e)))

  -- once all were looked at
  pub closed-ends : (f : List Name) (i : ℕ) → IsClosing g f i → length f ≤ i → (x : Name) → IsTrue (is_among x f) ↔ EndsWalk g x
  closed-ends f i c h x = (c.only x, at-ends g (λ y. IsTrue (is_among y f)) c.begun (λ y z found within led. c.closed y z (subst (λ l. IsTrue (is_among y l)) (sym (take_all i f h)) found) led within) x)

-- The list of those found.

module _ (g : Ground) (r : Search) (search : IsSearch r) (same : (x : Name) → is_marked r.inside x ≡ is_among x g.inside)
    (ends : (x : Name) → IsTrue (is_among x r.found.items) ↔ EndsWalk g x) where
  found-is-end : (x : Name) → is_among x r.found.items ≡ is_among x (ends_of_walks g)
  found-is-end x =
      let walked = ends-are-walked g x in
      same-truth (is_among x r.found.items) (is_among x (ends_of_walks g)) (λ h. walked.1 ((ends x).0 h)) (λ h. (ends x).1 (walked.0 h))

  pub found-are-ends : filter (λ x. not (is_marked r.unfound x)) g.inside ≡ ends_of_walks g
  found-are-ends = filter_agree_within (λ x. not (is_marked r.unfound x)) (λ x. is_among x (ends_of_walks g)) g.inside each ∙ sym (ends-filter g)
    where
      twice : (a b : Bool) → IsTrue a → not (a && not b) ≡ b
      twice true true h = refl
      twice true false h = refl
      twice false b h = absurd (false≢true h)

      each : (x : Name) → IsTrue (is_among x g.inside) → not (is_marked r.unfound x) ≡ is_among x (ends_of_walks g)
      each x h = ap not (search x) ∙ (twice (is_marked r.inside x) (is_among x r.found.items) (same x ∙ h) ∙ found-is-end x)

-- once none is left to look at, those that are unfound no more are the ends of walks
pub all-looked : (g : Ground) (r : Search) → IsSearch r → ((x : Name) → is_marked r.inside x ≡ is_among x g.inside) → (i : ℕ) → IsClosing g r.found.items i
    → slice_get r.found.items i ≡ None → filter (λ x. not (is_marked r.unfound x)) g.inside ≡ ends_of_walks g
all-looked g r search same i closing none = found-are-ends g r search same (closed-ends g (is_marked r.inside) same r.found.items i closing past)
  where
    past : length r.found.items ≤ i
    past = elim (slice_get_cases r.found.items i).1 [ inl some ↦ (let e : ◌≡◌ {A = Option Name} None (Some some.0) = sym none ∙ some.2 in absurd (other some.0 e)) | inr over ↦ over.0 ]
      where
        other : (x : Name) → ◌≡◌ {A = Option Name} None (Some x) → ⊥
        other x e = cc

-- a list of them tells them
pub tells-ends : (g : Ground) (names : List Name) → names ≡ ends_of_walks g → (x : Name) → IsTrue (is_among x names) ↔ EndsWalk g x
tells-ends g names e x = let walked = ends-are-walked g x in (λ h. walked.0 (ap (is_among x) (sym e) ∙ h), λ w. ap (is_among x) e ∙ walked.1 w)

-- Where walks begin that are kept.

is_among-flat_map : (h : Name → List Name) (x : Name) (ys : List Name) → is_among x (flat_map h ys) ≡ list_any (λ y. is_among x (h y)) ys
is_among-flat_map h x [] = refl
is_among-flat_map h x (y ∷ ys) = list_any-append (same_name x) (h y) (flat_map h ys) ∙ ap (λ b. is_among x (h y) || b) (is_among-flat_map h x ys)

module _ (s : State) (present chosen : List Name) (inside : Name → Bool) (same : (x : Name) → inside x ≡ is_among x chosen) where
  -- what is come to before anything is looked at
  abbrev pub begun_from : List Name
  begun_from = root_names s ++ flat_map (targets s) (filter (λ x. not (inside x)) present)

  pub kept-begins : (x : Name) → (kept_ground s present chosen).begins x ≡ is_among x begun_from
  kept-begins x =
      let outside : filter (λ y. not (is_among y chosen)) present ≡ filter (λ y. not (inside y)) present =
      filter_agree (λ y. not (is_among y chosen)) (λ y. not (inside y)) (λ y. ap not (sym (same y))) present in
      ap (λ ys. is_among x (root_names s) || list_any (λ y. is_among x (targets s y)) ys) outside
      ∙ (ap (λ b. is_among x (root_names s) || b) (sym (is_among-flat_map (targets s) x (filter (λ y. not (inside y)) present)))
      ∙ sym (list_any-append (same_name x) (root_names s) (flat_map (targets s) (filter (λ y. not (inside y)) present))))
