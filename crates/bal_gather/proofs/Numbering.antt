-- The numbers of objects, region by region.
use Rattle.std.proofs.Common.{◌≡◌, ℕ, ◌+◌, ◌*◌, ◌-◌, ◌<◌, ◌≤◌, ◌⊎◌, inl, inr, Bool, true, false, cond, List, [], ◌∷◌, ◌++◌, length, length-set, get_or, replicate, set, Option, Some, None, refl, ap, sym, subst, ◌∙◌, arith}
use Rattle.std.specs.Prelude.{◌&&◌, is_some}
use Rattle.std.specs.List.{filter, range_with_len}
use Rattle.std.proofs.lemmas.Bool.{cases_lt, cases_order}
use Rattle.std.proofs.lemmas.List.{append-nil, get_or-replicate, get_or-set_other, get_or-set_same, get_or_past, length-replicate}
use Rattle.std.proofs.lemmas.List.Elements.{filter-append}
use Rattle.std.proofs.lemmas.List.Sums.{count_by-le-length, length-filter}
use Rattle.bal_base.proofs.Lemmas.{member-below, member-passes}
use Rattle.bal_layout.specs.Addresses.{address_in}
use Rattle.bal_layout.specs.References.{word_for}
use Rattle.bal_layout.specs.Regions.{is_in}
use Rattle.bal_plan.specs.Plan as heap
use Rattle.bal_plan.proofs.Lemmas.{filter-none, found-behind, found-inside, found-object, none-behind, none-between, none-left, region-here, starts-few, starts-found, starts-gap, starts-split}
use Rattle.bal_region.specs.Land.{first_from}
use Rattle.bal_table.specs.Table.{IsTable, land_at, things_of}
use Rattle.bal_table.proofs.Lemmas.{address-region}
use Rattle.bal_gather.specs.Lent.{Lent, is_chosen}
use Rattle.bal_gather.specs.Numbers.{number_of, starts_below}

and-false : (a b : Bool) → b ≡ false → (a && b) ≡ false
and-false true b none = none
and-false false b none = refl

not-some : {A : Type 0} (o : Option A) → (is_some o ≡ true → ⊥) → is_some o ≡ false
not-some None none = refl
not-some (Some x) none = absurd (none refl)

-- What an object's number is.

pub number-here : (l : Lent) (a : ℕ) → is_chosen l a ≡ true → heap.IsObject l.table a → number_of l a ≡ Some (length (starts_below l a))
number-here l a chosen object =
    ap (λ b. cond (b && is_some (things_of l.table a)) (Some (length (starts_below l a))) None) chosen
    ∙ ap (λ b. cond b (Some (length (starts_below l a))) None) object

pub number-free : (l : Lent) (a : ℕ) → (heap.IsObject l.table a → ⊥) → number_of l a ≡ None
number-free l a none =
    ap (λ b. cond b (Some (length (starts_below l a))) None) (and-false (is_chosen l a) (is_some (things_of l.table a)) (not-some (things_of l.table a) none))

pub number-outside : (l : Lent) (a : ℕ) → is_chosen l a ≡ false → number_of l a ≡ None
number-outside l a outside = ap (λ b. cond (b && is_some (things_of l.table a)) (Some (length (starts_below l a))) None) outside

-- no more are numbered than there are addresses
pub numbered-few : (l : Lent) (end : ℕ) → length (starts_below l end) ≤ end
numbered-few l end = omega (
  arith,
  length-filter (is_chosen l) (heap.starts_below l.table end),
  count_by-le-length (is_chosen l) (heap.starts_below l.table end),
  starts-few l.table end,
)

-- One region.

module _ (l : Lent) (q : ℕ) (table : IsTable l.table) (within : q < l.table.shape.regions) where
  -- an address of it is chosen just if the region is
  pub chosen-by : (o : ℕ) → o < l.table.shape.words → is_chosen l (address_in l.table.shape q o) ≡ is_in q l.regions
  chosen-by o inside = ap (λ r. is_in r l.regions) (address-region l.table.shape q o inside)

  -- nothing in it is numbered if it was not chosen
  pub region-passed : is_in q l.regions ≡ false → starts_below l ((q + 1) * l.table.shape.words) ≡ starts_below l (q * l.table.shape.words)
  region-passed other =
      let t = l.table in
      let from = q * t.shape.words in
      let to = (q + 1) * t.shape.words in
      let is : ℕ → Bool = λ a. is_some (things_of t a) in
      let ends : to ≡ from + t.shape.words = omega arith in
      let none = filter-none (is_chosen l) (filter is (range_with_len from (to - from))) (λ a among.
      ap (λ r. is_in r l.regions) (region-here t.shape q a (omega (arith, table.shape.fewest_words)) (member-passes is from (to - from) a among).1
      (omega (arith, ends, member-below is from (to - from) a among))) ∙ other) in
      ap (filter (is_chosen l)) (starts-split t from to (omega (arith, ends)))
      ∙ (filter-append (is_chosen l) (heap.starts_below t from) (filter is (range_with_len from (to - from)))
      ∙ (ap (λ xs. starts_below l from ++ xs) none ∙ append-nil (starts_below l from)))

  pub number-passed : is_in q l.regions ≡ false → (o : ℕ) → o < l.table.shape.words → number_of l (address_in l.table.shape q o) ≡ None
  number-passed other o inside = number-outside l (address_in l.table.shape q o) (chosen-by o inside ∙ other)

  module _ (at : ℕ) (chosen : is_in q l.regions ≡ true) where
    -- the next object of it is found
    module _ (o : ℕ) (is : first_from (land_at l.table q) at ≡ Some o) where
      pub next-inside : (at ≤ o) × (o < l.table.shape.words)
      next-inside = (found-behind l.table q at table within o is, found-inside l.table q at table within o is)

      pub next-start : starts_below l (q * l.table.shape.words + (o + 1)) ≡ starts_below l (q * l.table.shape.words + at) ++ address_in l.table.shape q o ∷ []
      next-start =
          let a = address_in l.table.shape q o in
          let before = heap.starts_below l.table (q * l.table.shape.words + at) in
          ap (filter (is_chosen l)) (starts-found l.table q at table within o is)
          ∙ (filter-append (is_chosen l) before (a ∷ [])
          ∙ ap (λ b. filter (is_chosen l) before ++ cond b (a ∷ []) []) (chosen-by o next-inside.1 ∙ chosen))

      pub next-number : number_of l (address_in l.table.shape q o) ≡ Some (length (starts_below l (q * l.table.shape.words + at)))
      next-number =
          let a = address_in l.table.shape q o in
          number-here l a (chosen-by o next-inside.1 ∙ chosen) (found-object l.table q at table within o is)
          ∙ ap (λ (xs : List ℕ). Some (length (filter (is_chosen l) xs)))
          (starts-gap l.table (q * l.table.shape.words + at) a (omega (arith, next-inside.0)) (none-between l.table q at table within o is))

      -- and none between
      pub between-number : (k : ℕ) → at ≤ k → k < o → number_of l (address_in l.table.shape q k) ≡ None
      between-number k from to = number-free l (address_in l.table.shape q k)
          (none-between l.table q at table within o is (address_in l.table.shape q k) (omega (arith, from)) (omega (arith, to)))

    -- none is found any more
    module _ (none : first_from (land_at l.table q) at ≡ None) where
      pub last-start : at ≤ l.table.shape.words → starts_below l ((q + 1) * l.table.shape.words) ≡ starts_below l (q * l.table.shape.words + at)
      last-start le = ap (filter (is_chosen l)) (none-left l.table q at table within le none)

      pub last-number : (k : ℕ) → at ≤ k → k < l.table.shape.words → number_of l (address_in l.table.shape q k) ≡ None
      last-number k from to = number-free l (address_in l.table.shape q k)
          (none-behind l.table q at table within none (address_in l.table.shape q k) (omega (arith, from)) (omega (arith, to)))

-- A list of numbers while it is written: in front of an offset each object has its number, and behind it there is nothing yet.

pub record IsWritten (l : Lent) (q at : ℕ) (words : List ℕ) : Type 0 where
  pub long : length words ≡ l.table.shape.words
  pub done : (o : ℕ) → o < at → get_or words o 0 ≡ word_for (number_of l (address_in l.table.shape q o))
  pub rest : (o : ℕ) → at ≤ o → get_or words o 0 ≡ 0

pub written-none : (l : Lent) (q words : ℕ) → words ≡ l.table.shape.words → IsWritten l q 0 (replicate words 0)
written-none l q words long = record {
  long = length-replicate {A = ℕ} words 0 ∙ long;
  done = λ o less. absurd (omega (arith, less));
  rest = λ o from. elim (cases_lt o words) [
    | inl inside ↦ get_or-replicate words o 0 0 inside
    | inr past ↦ get_or_past (replicate words 0) o 0 (omega (arith, past, length-replicate {A = ℕ} words 0))
  ];
}

module _ (l : Lent) (q at : ℕ) (words : List ℕ) (table : IsTable l.table) (within : q < l.table.shape.regions) (chosen : is_in q l.regions ≡ true)
    (w : IsWritten l q at words) where
  -- the next object gets its number
  pub written-next : (o number : ℕ) → first_from (land_at l.table q) at ≡ Some o → number ≡ length (starts_below l (q * l.table.shape.words + at)) + 1
      → IsWritten l q (o + 1) (set words o number)
  written-next o number is next = record {
    long = length-set words o number ∙ w.long;
    done = λ k less. elim (cases_order k o) [
      | inl same ↦ subst (λ j. get_or (set words o number) j 0 ≡ word_for (number_of l (address_in l.table.shape q j))) (sym same) here
      | inr other ↦ elim other [
        | inl before ↦ get_or-set_other words o k number 0 (λ e. omega (arith, e, before)) ∙ earlier k before (cases_lt k at)
        | inr behind ↦ absurd (omega (arith, behind, less))
      ]
    ];
    rest = λ k from. get_or-set_other words o k number 0 (λ e. omega (arith, e, from)) ∙ w.rest k (omega (arith, from, inside.0));
  }
    where
      inside : (at ≤ o) × (o < l.table.shape.words)
      inside = next-inside l q table within at chosen o is

      here : get_or (set words o number) o 0 ≡ word_for (number_of l (address_in l.table.shape q o))
      here =
          get_or-set_same words o number 0 (omega (arith, inside.1, w.long))
          ∙ (next ∙ (omega arith ∙ ap word_for (sym (next-number l q table within at chosen o is))))

      earlier : (k : ℕ) → k < o → (k < at) ⊎ (at ≤ k) → get_or words k 0 ≡ word_for (number_of l (address_in l.table.shape q k))
      earlier k before (inl less) = w.done k less
      earlier k before (inr from) = w.rest k from ∙ ap word_for (sym (between-number l q table within at chosen o is k from before))

  -- and at the end all have theirs
  pub written-all : first_from (land_at l.table q) at ≡ None → (k : ℕ) → k < l.table.shape.words
      → get_or words k 0 ≡ word_for (number_of l (address_in l.table.shape q k))
  written-all none k inside = elim (cases_lt k at) [
    | inl less ↦ w.done k less
    | inr from ↦ w.rest k from ∙ ap word_for (sym (last-number l q table within at chosen none k from inside))
  ]
