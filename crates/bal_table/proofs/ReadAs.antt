-- A region that is read as another says the same of its objects.
use Rattle.std.proofs.Common.{◌≡◌, ℕ, zero, suc, ◌<◌, inl, inr, true, length, get_or, replicate, refl, ap, sym, subst, ◌∙◌}
use Rattle.std.specs.Prelude.{IsSome}
use Rattle.std.proofs.lemmas.Bool.{false≢true}
use Rattle.bal_layout.specs.Addresses.{address_in}
use Rattle.bal_layout.specs.Shape.{Shape}
use Rattle.bal_region.specs.Land.{Land, first_from, holder_of, starts_at}
use Rattle.bal_table.specs.Reading.{IsReadAs}
use Rattle.bal_table.specs.Table.{IsTable, Table, land_at, things_of}
use Rattle.bal_table.proofs.Seen.{start-address, start-inside}

-- words of zeros are zeros
zeros : (n at : ℕ) → get_or {A = ℕ} (replicate n 0) at 0 ≡ 0
zeros zero at = refl
zeros (suc n) zero = refl
zeros (suc n) (suc at) = zeros n at

module _ (l m : Land) (read : IsReadAs l m) where
  -- where an object starts, it is read as itself
  pub read-starts : (at : ℕ) → starts_at l at ≡ true → l ≡ m
  read-starts at starts = elim (read) [
    | inl same ↦ same
    | inr none ↦ absurd (false≢true (ap (λ (k : Land). starts_at k at) (sym none.0) ∙ starts))
  ]

  pub read-found : (at : ℕ) → starts_at m at ≡ true → l ≡ m
  read-found at starts = elim (read) [
    | inl same ↦ same
    | inr none ↦ absurd (false≢true (ap (λ (k : Land). starts_at k at) (sym none.1) ∙ starts))
  ]

  pub read-holder : (offset : ℕ) → holder_of l offset ≡ holder_of m offset
  read-holder offset = elim (read) [
    | inl same ↦ ap (λ (k : Land). holder_of k offset) same
    | inr none ↦ ap (λ (k : Land). holder_of k offset) none.0 ∙ sym (ap (λ (k : Land). holder_of k offset) none.1)
  ]

  pub read-first : (offset : ℕ) → first_from l offset ≡ first_from m offset
  read-first offset = elim (read) [
    | inl same ↦ ap (λ (k : Land). first_from k offset) same
    | inr none ↦ ap (λ (k : Land). first_from k offset) none.0 ∙ sym (ap (λ (k : Land). first_from k offset) none.1)
  ]

  pub read-word : (offset : ℕ) → get_or l.words offset 0 ≡ get_or m.words offset 0
  read-word offset = elim (read) [
    | inl same ↦ ap (λ (k : Land). get_or k.words offset 0) same
    | inr none ↦ ap (λ (k : Land). get_or k.words offset 0) none.0
        ∙ sym (ap (λ (k : Land). get_or k.words offset 0) none.1 ∙ zeros (length m.words) offset)
  ]

-- A region of a table that is read, of this shape.
module _ (t : Table) (s : Shape) (shape : s ≡ t.shape) (table : IsTable t) (q : ℕ) (l : Land) (within : q < s.regions) (read : IsReadAs l (land_at t q)) where
  -- where an object starts in it, that is a word of it, and an object of the table
  pub start-read-as : (at : ℕ) → starts_at l at ≡ true → (at < s.words) × IsSome (things_of t (address_in s q at))
  start-read-as at there =
      let starts = subst (λ (m : Land). starts_at m at ≡ true) (read-starts l (land_at t q) read at there) there in
      let inside : q < t.shape.regions = subst (λ (u : Shape). q < u.regions) shape within in
      subst (λ (u : Shape). (at < u.words) × IsSome (things_of t (address_in u q at))) (sym shape)
      (start-inside t q at table inside starts, start-address t q at table inside starts)
