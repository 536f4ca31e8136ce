-- What an object in one piece is by its words.
use Rattle.std.proofs.Common.{◌≡◌, ℕ, ◌+◌, ◌-◌, ◌≤◌, List, [], ◌∷◌, length, replicate, Some, refl, ap, ◌∙◌, arith}
use Rattle.std.specs.Prelude.{option_map}
use Rattle.bal_layout.specs.declared.header.Header.{Header}
use Rattle.bal_layout.specs.declared.name.Kind.{Kind}
use Rattle.bal_layout.specs.declared.name.Kind.TheVariants.{Array, Plain, Spine}
use Rattle.bal_layout.specs.Header.{size_in, size_of_parts}
use Rattle.bal_layout.specs.Shape.{Shape}
use Rattle.bal_words.specs.Pieces.{header_in, piece, thing_of, thing_of_kind}
use Rattle.bal_words.specs.Things.{blank_thing}
use Rattle.bal_words.proofs.Lemmas.{piece-blank, there}
use Rattle.bal_region.specs.Changes.{blank_words}
use Rattle.bal_region.specs.Land.{IsObject, size_by}
use Rattle.bal_region.proofs.Lemmas.{IsObject-blank, length-blank, size-header}
use Rattle.bal_table.specs.Table.{IsPiece, thing_in}

-- all that isn't a spine is in one piece
thing-piece : (h : Header) (words : List ℕ) → (h.kind ≡ Spine → ⊥) → thing_of h words [] ≡ piece h words
thing-piece h words whole = by h.kind whole
  where
    by : (k : Kind) → (k ≡ Spine → ⊥) → thing_of_kind k h words [] ≡ piece h words
    by Plain whole = refl
    by Array whole = refl
    by Spine whole = absurd (whole refl)

-- it takes a word for its header, one for its name and one for each slot
pub size-piece : (room : ℕ) (h : Header) → (h.kind ≡ Spine → ⊥) → size_in room h ≡ 2 + h.refs + h.values
size-piece room h whole = by h.kind whole
  where
    by : (k : Kind) → (k ≡ Spine → ⊥) → size_of_parts room k h.refs h.values ≡ 2 + h.refs + h.values
    by Plain whole = refl
    by Array whole = refl
    by Spine whole = absurd (whole refl)

-- what an object in one piece is
pub thing-in : (words : List ℕ) (h : Header) → header_in words ≡ Some h → (h.kind ≡ Spine → ⊥) → thing_in words ≡ Some (piece h words)
thing-in words h is whole = ap (option_map (λ (x : Header). thing_of x words [])) is ∙ ap Some (thing-piece h words whole)

-- an object takes two words and more
pub object-two : (room : ℕ) (object : List ℕ) → IsObject room object → 2 ≤ length object
object-two room object is =
    let h = there (header_in object) is.header in
    omega (arith, size-header room h.0, ap (size_by room) h.1, is.size)

-- A new object.

module _ (s : Shape) (first second words : ℕ) (p : IsPiece s first second words) where
  -- it takes two words and more
  pub two-piece : 2 ≤ words
  two-piece = omega (arith, p.size, size-piece s.words p.header p.may.piece)

  -- it has as many as it takes
  pub length-piece : length (blank_words first second words) ≡ words
  length-piece = length-blank first second words two-piece

  -- these are one object in a region of the shape
  pub IsObject-piece : (room : ℕ) → room ≡ s.words → IsObject room (blank_words first second words)
  IsObject-piece room is = IsObject-blank room first second words p.header p.read (ap (λ n. size_in n p.header) is ∙ p.size)

  -- that has null references and zeros
  pub thing-blank : thing_in (blank_words first second words) ≡ Some (blank_thing p.header.name p.header.kind p.header.refs p.header.values)
  thing-blank =
      let left : words - 2 ≡ p.header.refs + p.header.values = omega (arith, p.size, size-piece s.words p.header p.may.piece) in
      thing-in (blank_words first second words) p.header p.read p.may.piece
      ∙ ap Some (ap (λ n. piece p.header (first ∷ second ∷ replicate n 0)) left ∙ piece-blank p.header first second)
