-- Cards in ascending order: where one is found or belongs, and those from one up to another.
use Rattle.std.proofs.Common.{◌≡◌, ℕ, zero, suc, ◌+◌, ◌<◌, ◌≤◌, ◌-◌, inl, inr, Bool, true, false, not, cond, eqb, ltb, get_or, length, length-append, length-drop, length-take, Ok, Err, nat_cmp, List, [], ◌∷◌, refl, ap, sym, subst, ◌∙◌, arith}
use Rattle.std.specs.Prelude.{◌&&◌, nat_le, nat_lt}
use Rattle.std.specs.List.{filter, insert, remove_range}
use Rattle.std.specs.Fn.{Called, ComputesKey}
use Rattle.std.specs.List.Sorted.{IsNonDecreasingBy, IsBinarySearchResult, IsPartitionPoint, IsPartitionedBy}
use Rattle.std.proofs.lemmas.List.Sorted.{IsPartitionPoint-from_clause, IsPartitionedBy-ltb, searched}
use denote.Param.Members.{Mut}
use denote.Ref.{Bor}
use Rattle.std.proofs.lemmas.Bool.{false≢true, lt-ltb, le-leb, le-ltb, lt-leb, ltb-false, ltb-true, ne_eqb, eq-eqb}
use Rattle.bal_base.specs.Bits.{IsAscending, is_member, with_member}
use Rattle.bal_base.proofs.Lemmas.{among-cases, among-first, among-later, member-with, with-later}

-- Where a card stands.

-- what stands at an index is a member
member-at : (cs : List ℕ) (k d : ℕ) → k < length cs → is_member cs (get_or cs k d) ≡ true
member-at [] k d within = absurd (omega (arith, within))
member-at (c ∷ cs) zero d within = among-first c cs
member-at (c ∷ cs) (suc k) d within = among-later c (get_or cs k d) cs (member-at cs k d (omega (arith, within)))

-- none is, if it stands nowhere
none-at : (cs : List ℕ) (n : ℕ) → ((k : ℕ) → k < length cs → get_or cs k 0 ≡ n → ⊥) → is_member cs n ≡ false
none-at [] n apart = refl
none-at (c ∷ cs) n apart = rw (ne_eqb c n (apart 0 (omega arith))) (none-at cs n (λ k within. apart (suc k) (omega (arith, within))))

-- later ones are no less
rises : (cs : List ℕ) → IsAscending cs → (i j d : ℕ) → i ≤ j → j < length cs → get_or cs i d ≤ get_or cs j d
rises [] up i j d before within = absurd (omega (arith, within))
rises (c ∷ cs) up zero zero d before within = omega arith
rises (c ∷ cs) up zero (suc j) d before within = let less = up.0 (get_or cs j d) (member-at cs j d (omega (arith, within))) in omega arith
rises (c ∷ cs) up (suc i) zero d before within = absurd (omega (arith, before))
rises (c ∷ cs) up (suc i) (suc j) d before within = rises cs up.1 i j d (omega (arith, before)) (omega (arith, within))

-- the place of a card that is not there: after the lesser and before the greater ones
pub record IsPlace (cs : List ℕ) (n i : ℕ) : Type 0 where
  pub within : i ≤ length cs
  pub less : (k : ℕ) → k < i → get_or cs k 0 < n
  pub greater : (k : ℕ) → i ≤ k → k < length cs → n < get_or cs k 0

pub place-absent : (cs : List ℕ) (n i : ℕ) → IsPlace cs n i → is_member cs n ≡ false
place-absent cs n i place = none-at cs n (λ k within same. by k within same (nat_lt k i) refl)
  where
    by : (k : ℕ) → k < length cs → get_or cs k 0 ≡ n → (b : Bool) → nat_lt k i ≡ b → ⊥
    by k within same true before = let less = place.less k (ltb-true k i before) in omega arith
    by k within same false after = let more = place.greater k (ltb-false k i after) within in omega arith

-- a binary search finds the card, or its place
pub search-found : (cs ds : List ℕ) (n i : ℕ) → ds ≡ cs → IsAscending cs → IsBinarySearchResult (λ c. nat_cmp c n) ds (Ok i) → is_member cs n ≡ true
search-found cs ds n i same up result =
    let found = searched ds n (Ok i) result (subst (λ l. (i j : ℕ) → i ≤ j → j < length l → get_or l i 0 ≤ get_or l j 0) (sym same) (λ i j. rises cs up i j 0)) in
    subst (λ l. is_member l n ≡ true) same (subst (λ m. is_member ds m ≡ true) found.1 (member-at ds i 0 found.0))

pub search-place : (cs ds : List ℕ) (n i : ℕ) → ds ≡ cs → IsAscending cs → IsBinarySearchResult (λ c. nat_cmp c n) ds (Err i) → IsPlace cs n i
search-place cs ds n i same up result =
    let place = searched ds n (Err i) result (subst (λ l. (i j : ℕ) → i ≤ j → j < length l → get_or l i 0 ≤ get_or l j 0) (sym same) (λ i j. rises cs up i j 0)) in
    subst (λ l. IsPlace l n i) same (record { within = place.0; less = place.1; greater = place.2 })

-- One card more.

-- it goes after the lesser and before the greater ones
pub with-at : (cs : List ℕ) (n i : ℕ) → IsPlace cs n i → with_member n cs ≡ insert cs i n
with-at [] n zero place = refl
with-at [] n (suc i) place = let le = place.within in absurd (omega arith)
with-at (c ∷ cs) n zero place =
    ap (λ b. cond b (n ∷ c ∷ cs) (cond (eqb c n) (c ∷ cs) (c ∷ with_member n cs))) (lt-ltb n c (place.greater 0 (omega arith) (omega arith)))
with-at (c ∷ cs) n (suc i) place =
    with-later n c cs (place.less 0 (omega arith))
    ∙ ap (λ (l : List ℕ). c ∷ l) (with-at cs n i (record {
      within = let le = place.within in omega arith;
      less = λ k before. place.less (suc k) (omega (arith, before));
      greater = λ k from in'. place.greater (suc k) (omega (arith, from)) (omega (arith, in'));
    }))

-- they still ascend
pub with-ascends : (n : ℕ) (cs : List ℕ) → IsAscending cs → IsAscending (with_member n cs)
with-ascends n [] up = (λ k among. absurd (false≢true among), tt)
with-ascends n (c ∷ cs) up = by (with-ascends n cs up.1) (nat_lt n c) refl (eqb c n) refl
  where
    first : n < c → (k : ℕ) → is_member (c ∷ cs) k ≡ true → n < k
    first less k among = elim (among-cases c k cs among) [ inl here ↦ omega (arith, less, here) | inr later ↦ omega (arith, less, up.0 k later) ]

    rest : (c ≡ n → ⊥) → c ≤ n → (k : ℕ) → is_member (with_member n cs) k ≡ true → c < k
    rest apart no_less k among = elim ((member-with n k cs).0 among) [ inl here ↦ omega (arith, apart, no_less, here) | inr before ↦ up.0 k before ]

    by : IsAscending (with_member n cs) → (b : Bool) → nat_lt n c ≡ b → (e : Bool) → eqb c n ≡ e → IsAscending (cond b (n ∷ c ∷ cs) (cond e (c ∷ cs) (c ∷ with_member n cs)))
    by still true less e same = (first (ltb-true n c less), up)
    by still false more true same = up
    by still false more false apart = (rest (λ e. false≢true (sym apart ∙ eq-eqb c n e)) (ltb-false n c more), still)

-- Fewer cards.

-- one that is left was there
left-was : (p : ℕ → Bool) (k : ℕ) (cs : List ℕ) → is_member (filter p cs) k ≡ true → is_member cs k ≡ true
left-was p k [] among = among
left-was p k (c ∷ cs) among = by (left-was p k cs) (p c) among
  where
    by : (is_member (filter p cs) k ≡ true → is_member cs k ≡ true) → (b : Bool) → is_member (cond b (c ∷ filter p cs) (filter p cs)) k ≡ true → is_member (c ∷ cs) k ≡ true
    by rest true among = elim (among-cases c k (filter p cs) among) [
      | inl here ↦ subst (λ j. is_member (c ∷ cs) j ≡ true) here (among-first c cs)
      | inr later ↦ among-later c k cs (rest later)
    ]
    by rest false among = among-later c k cs (rest among)

-- those that are left ascend
pub filter-ascends : (p : ℕ → Bool) (cs : List ℕ) → IsAscending cs → IsAscending (filter p cs)
filter-ascends p [] up = tt
filter-ascends p (c ∷ cs) up = by (filter-ascends p cs up.1) (p c)
  where
    by : IsAscending (filter p cs) → (b : Bool) → IsAscending (cond b (c ∷ filter p cs) (filter p cs))
    by rest true = (λ k among. up.0 k (left-was p k cs among), rest)
    by rest false = rest

-- all are left if all pass
all-left : (p : ℕ → Bool) (cs : List ℕ) → ((k : ℕ) → k < length cs → p (get_or cs k 0) ≡ true) → filter p cs ≡ cs
all-left p [] pass = refl
all-left p (c ∷ cs) pass = rw (pass 0 (omega arith)) (ap (λ (l : List ℕ). c ∷ l) (all-left p cs (λ k within. pass (suc k) (omega (arith, within)))))

-- Those from one card up to another.

-- a card stays, since it is below the first or not below the second
stays-below : (from to card : ℕ) → card < from → not (nat_le from card && nat_lt card to) ≡ true
stays-below from to card less = rw (lt-leb from card less) refl

stays-above : (from to card : ℕ) → to ≤ card → not (nat_le from card && nat_lt card to) ≡ true
stays-above from to card more = rw (le-ltb card to more) (by (nat_le from card))
  where
    by : (b : Bool) → not (b && false) ≡ true
    by true = refl
    by false = refl

-- or goes, since it lies between them
goes-between : (from to card : ℕ) → from ≤ card → card < to → not (nat_le from card && nat_lt card to) ≡ false
goes-between from to card more less = rw (le-leb from card more, lt-ltb card to less) refl

-- the cards below a number are the first ones
pub record IsCut (n : ℕ) (cs : List ℕ) (i : ℕ) : Type 0 where
  pub within : i ≤ length cs
  pub less : (k : ℕ) → k < i → get_or cs k 0 < n
  pub no_less : (k : ℕ) → i ≤ k → k < length cs → n ≤ get_or cs k 0

-- a binary search finds the cut
pub cut-found : {F : Type 0} {g : Mut F (Bor ℕ × Unit {0}) Bool} {f : F} (n : ℕ) (cs ds : List ℕ) (i : ℕ) → ds ≡ cs → IsAscending cs → i ≤ length ds
    → ((q : ℕ → Bool) → ComputesKey g q f → IsPartitionedBy q ds → IsPartitionPoint (λ c. q c ≡ true) (λ c. q c ≡ false) ds i)
    → ((a : Bor ℕ × Unit {0}) (r : Bool) (f' : F) → Called g f a r f' → (r ≡ ltb a.0.now n) × (f' ≡ f)) → IsCut n cs i
cut-found {f = f} n cs ds i same up within clause calls = subst (λ l. IsCut n l i) same (record {
  within = within;
  less = λ k before. ltb-true (get_or ds k 0) n (point.0 k 0 (omega arith) before);
  no_less = λ k from in'. ltb-false (get_or ds k 0) n (point.1 k 0 from in');
})
  where
    point : IsPartitionPoint (λ c. ltb c n ≡ true) (λ c. ltb c n ≡ false) ds i
    point = IsPartitionPoint-from_clause (λ c. ltb c n) ds i clause (IsPartitionedBy-ltb (λ c. c) ds n (subst (IsNonDecreasingBy (λ c. c)) (sym same) (rises cs up))) calls

-- of the others
cut-later : (n c : ℕ) (cs : List ℕ) (i : ℕ) → IsCut n (c ∷ cs) (suc i) → IsCut n cs i
cut-later n c cs i cut = record {
  within = let le = cut.within in omega arith;
  less = λ k before. cut.less (suc k) (omega (arith, before));
  no_less = λ k from in'. cut.no_less (suc k) (omega (arith, from)) (omega (arith, in'));
}

cut-all : (n c : ℕ) (cs : List ℕ) → IsCut n (c ∷ cs) 0 → IsCut n cs 0
cut-all n c cs cut = record {
  within = omega arith;
  less = λ k before. absurd (omega (arith, before));
  no_less = λ k from in'. cut.no_less (suc k) (omega arith) (omega (arith, in'));
}

-- if the first cut comes before the second, what lies between the cuts goes
pub between-goes : (from to : ℕ) (cs : List ℕ) (f t : ℕ) → IsCut from cs f → IsCut to cs t → f ≤ t
    → filter (λ card. not (nat_le from card && nat_lt card to)) cs ≡ remove_range cs f t
between-goes from to [] zero zero low high order = refl
between-goes from to [] zero (suc t) low high order = let le = high.within in absurd (omega arith)
between-goes from to [] (suc f) t low high order = let le = low.within in absurd (omega arith)
between-goes from to (c ∷ cs) zero zero low high order =
    all-left (λ card. not (nat_le from card && nat_lt card to)) (c ∷ cs) (λ k within. stays-above from to (get_or (c ∷ cs) k 0) (high.no_less k (omega arith) within))
between-goes from to (c ∷ cs) zero (suc t) low high order =
    rw (goes-between from to c (low.no_less 0 (omega arith) (omega arith)) (high.less 0 (omega arith)))
    (between-goes from to cs zero t (cut-all from c cs low) (cut-later to c cs t high) (omega arith))
between-goes from to (c ∷ cs) (suc f) zero low high order = absurd (omega (arith, order))
between-goes from to (c ∷ cs) (suc f) (suc t) low high order =
    rw (stays-below from to c (low.less 0 (omega arith)))
    (ap (λ (l : List ℕ). c ∷ l) (between-goes from to cs f t (cut-later from c cs f low) (cut-later to c cs t high) (omega (arith, order))))

-- so many then
pub length-removed : (cs : List ℕ) (f t : ℕ) → f ≤ t → t ≤ length cs → length (remove_range cs f t) + (t - f) ≡ length cs
length-removed cs f t order within = simp (length-append, length-take, length-drop) (omega arith)

-- and otherwise nothing does
pub between-none : (from to : ℕ) (cs : List ℕ) (f t : ℕ) → IsCut from cs f → IsCut to cs t → t ≤ f
    → filter (λ card. not (nat_le from card && nat_lt card to)) cs ≡ cs
between-none from to cs f t low high order = all-left (λ card. not (nat_le from card && nat_lt card to)) cs (λ k within. by k within (nat_lt k f) refl)
  where
    by : (k : ℕ) → k < length cs → (b : Bool) → nat_lt k f ≡ b → not (nat_le from (get_or cs k 0) && nat_lt (get_or cs k 0) to) ≡ true
    by k within true before = stays-below from to (get_or cs k 0) (low.less k (ltb-true k f before))
    by k within false after = stays-above from to (get_or cs k 0) (high.no_less k (let le = ltb-false k f after in omega (arith, order, le)) within)
