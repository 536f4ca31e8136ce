-- The words of a new object are those that its header asks for.
use Rattle.std.proofs.Common.{◌≡◌, ℕ, ◌+◌, ◌-◌, ◌*◌, ◌^◌, ◌<◌, ◌≤◌, Bool, true, false, cond, Some, refl, ap, subst, ◌∙◌, arith}
use Rattle.std.specs.Prelude.{◌&&◌, nat_le, nat_lt}
use Rattle.std.proofs.Math.Nat.{lt-div-mul-add}
use Rattle.std.proofs.lemmas.Bool.{and_parts, leb-true}
use Rattle.std.proofs.lemmas.Option.{cond_some}
use Rattle.bal_layout.specs.declared.geometry.Want.{Want}
use Rattle.bal_layout.specs.declared.header.Header.{Header}
use Rattle.bal_layout.specs.declared.name.Kind.{Kind}
use Rattle.bal_layout.specs.declared.name.Kind.TheVariants.{Plain, Array, Spine}
use Rattle.bal_layout.specs.Geometry.{size_of_plain}
use Rattle.bal_layout.specs.Header.{IsHeader, MayHaveValues, first_word, second_word, size_of_parts}
use Rattle.bal_layout.specs.Shape.{IsShape, Shape, largest_of}
use Rattle.bal_layout.specs.Sizes.{leaves_for, leaves_in, size_of_array}
use Rattle.bal_layout.proofs.Lemmas.{header-of_words}
use Rattle.bal_table.specs.Table.{IsPiece}
use Rattle.bal_eden.specs.Room.{want_of_header, want_of_kind}

-- an array that takes no leaves lies in one piece
array-whole : (s : Shape) (len : ℕ) → IsShape s → (size_of_array s len).leaves ≡ 0 → (size_of_array s len).words ≡ 2 + len
array-whole s len shape none = by (nat_le (2 + len) (largest_of s)) none
  where
    two : (b : Bool) → Want
    two b = cond b (record { words = 2 + len; leaves = 0 }) (record { words = 2 + leaves_for s len; leaves = leaves_for s len })

    by : (b : Bool) → (two b).leaves ≡ 0 → (two b).words ≡ 2 + len
    by true e = refl
    by false e =
        let below : len + s.words - 1 < leaves_in s.words len * s.words + s.words = lt-div-mul-add (omega (arith, shape.fewest_words)) in
        let few : len + s.words - 1 < 0 * s.words + s.words = subst (λ n. len + s.words - 1 < n * s.words + s.words) e below in
        omega (arith, e, few)

-- what a header asks for, where it takes no leaves
pub size-wanted : (s : Shape) (kind : Kind) (refs values : ℕ) (w : Want) → IsShape s → MayHaveValues kind values → want_of_kind s kind refs values ≡ Some w → w.leaves ≡ 0
    → (kind ≡ Spine → ⊥) → size_of_parts s.words kind refs values ≡ w.words
size-wanted s Plain refs values w shape may want none whole =
    ap (λ (x : Want). x.words) (cond_some (nat_le (size_of_plain refs values) (largest_of s)) (record { words = size_of_plain refs values; leaves = 0 }) w want).1
size-wanted s Array refs values w shape may want none whole =
    let is : size_of_array s refs ≡ w = (cond_some (nat_lt refs (2 ^ 24) && nat_le (size_of_array s refs).words (largest_of s)) (size_of_array s refs) w want).1 in
    let size : (size_of_array s refs).words ≡ 2 + refs = array-whole s refs shape (ap (λ (x : Want). x.leaves) is ∙ none) in
    omega (arith, size, may, ap (λ (x : Want). x.words) is)
size-wanted s Spine refs values w shape may want none whole = absurd (whole refl)

-- and it is no more than the largest object
pub few-wanted : (s : Shape) (kind : Kind) (refs values : ℕ) (w : Want) → want_of_kind s kind refs values ≡ Some w → (kind ≡ Spine → ⊥) → w.words ≤ largest_of s
few-wanted s Plain refs values w want whole =
    let is = cond_some (nat_le (size_of_plain refs values) (largest_of s)) (record { words = size_of_plain refs values; leaves = 0 }) w want in
    omega (arith, leb-true (size_of_plain refs values) (largest_of s) is.0, ap (λ (x : Want). x.words) is.1)
few-wanted s Array refs values w want whole =
    let is = cond_some (nat_lt refs (2 ^ 24) && nat_le (size_of_array s refs).words (largest_of s)) (size_of_array s refs) w want in
    let few = and_parts (nat_lt refs (2 ^ 24)) (nat_le (size_of_array s refs).words (largest_of s)) is.0 in
    omega (arith, leb-true (size_of_array s refs).words (largest_of s) few.1, ap (λ (x : Want). x.words) is.1)
few-wanted s Spine refs values w want whole = absurd (whole refl)

-- the two words of such a header are the first of an object in one piece
abbrev pub piece-wanted : (s : Shape) (h : Header) (w : Want) → IsShape s → IsHeader h → want_of_header s h ≡ Some w → w.leaves ≡ 0 → (h.kind ≡ Spine → ⊥)
    → IsPiece s (first_word h) (second_word h) w.words
piece-wanted s h w shape limits want none whole = record {
  header = h;
  read = header-of_words h limits;
  size = size-wanted s h.kind h.refs h.values w shape limits.values want none whole;
  may = record {
    piece = whole;
    small =
        let size : size_of_parts s.words h.kind h.refs h.values ≡ w.words = size-wanted s h.kind h.refs h.values w shape limits.values want none whole in
        omega (arith, size, few-wanted s h.kind h.refs h.values w want whole);
  };
}
