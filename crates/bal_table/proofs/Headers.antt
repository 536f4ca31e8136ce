-- The header of an object, as it is read from its region in the vector.
use Rattle.std.proofs.Common.{◌≡◌, ℕ, ◌+◌, true, length, get_or, Option, Some, None, ap, sym, subst, ◌∙◌}
use Rattle.std.specs.Prelude.{IfSome, IsSome}
use Rattle.std.proofs.lemmas.Option.{none-some, same_Some}
use Rattle.bal_layout.specs.Addresses.{offset_of, region_of}
use Rattle.bal_layout.specs.declared.header.Header.{Header}
use Rattle.bal_layout.specs.Header.{header_of}
use Rattle.bal_layout.specs.Shape.{Shape}
use Rattle.bal_words.specs.Things.{Thing}
use Rattle.bal_words.proofs.Lemmas.{there}
use Rattle.bal_region.specs.Land.{Land, header_at, starts_at}
use Rattle.bal_region.proofs.Lemmas.{object-starts}
use Rattle.bal_table.specs.Reading.{IsReadAs}
use Rattle.bal_table.specs.Table.{IsTable, Table, land_at, refs_in, things_of, values_in}
use Rattle.bal_table.proofs.ReadAs.{read-found}
use Rattle.bal_table.proofs.Seen.{Seen, seen, seen-refs, seen-values}

-- what a header says of its object
pub record Says (object : Option Thing) (h : Header) : Type 0 where
  pub what : IfSome object (λ x. (x.name ≡ h.name) × (x.kind ≡ h.kind))
  pub refs : h.refs ≡ length (refs_in object)
  pub values : h.values ≡ length (values_in object)

-- An object that starts at an address, and its region as it is read.
module _ (t : Table) (s : Shape) (shape : s ≡ t.shape) (table : IsTable t) (address : ℕ) (some : IsSome (things_of t address)) (q : ℕ) (l : Land) (at : ℕ)
    (region : q ≡ region_of s address) (read : IsReadAs l (land_at t q)) (place : at ≡ offset_of s address) where
  is : q ≡ region_of t.shape address
  is = region ∙ ap (λ (u : Shape). region_of u address) shape

  offset : at ≡ offset_of t.shape address
  offset = place ∙ ap (λ (u : Shape). offset_of u address) shape

  -- which object it is
  object : (x : Thing) × (things_of t address ≡ Some x)
  object = there (things_of t address) some

  -- what is seen of it
  what : Seen t address object.0
  what = seen t address object.0 table object.1

  -- its region is read as itself
  land-whole : l ≡ land_at t (region_of t.shape address)
  land-whole =
      let starts = (object-starts (land_at t (region_of t.shape address)) (offset_of t.shape address) what.object what.is).0 in
      read-found l (land_at t q) read (offset_of t.shape address) (subst (λ p. starts_at (land_at t p) (offset_of t.shape address) ≡ true) (sym is) starts) ∙ ap (land_at t) is

  -- Two words that are read there.
  module _ (first second : ℕ) (one : first ≡ get_or l.words at 0) (two : second ≡ get_or l.words (at + 1) 0) where
    -- they are its header's
    words-read : header_of first second ≡ Some what.header
    words-read =
        ap (λ w. header_of w second) one
        ∙ (ap (header_of (get_or l.words at 0)) two
        ∙ (ap (λ (m : Land). header_at m.words at) land-whole
        ∙ (ap (header_at (land_at t (region_of t.shape address)).words) offset
        ∙ what.there)))

    -- so some header has them
    pub header-found : header_of first second ≡ None → ⊥
    header-found none = none-some what.header (sym none ∙ words-read)

    -- and that header says what is so
    pub header-says : (h : Header) → Some h ≡ header_of first second → Says (things_of t address) h
    header-says h has =
        let says : Says (Some object.0) what.header = record {
          what = (ap (λ (x : Thing). x.name) (sym what.thing), ap (λ (x : Thing). x.kind) (sym what.thing));
          refs = sym (seen-refs t address object.0 what);
          values = sym (seen-values t address object.0 what);
        } in
        subst (λ o. Says o h) (sym object.1) (subst (Says (Some object.0)) (sym (same_Some h what.header (has ∙ words-read))) says)
