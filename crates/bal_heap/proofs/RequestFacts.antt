-- What a row asks for is what the definitions of a legal run say of it.
use Rattle.std.proofs.Common.{◌≡◌, ◌+◌, ◌^◌, ℕ, None, Some, true, false, cond, refl, ap, sym, subst, ◌∙◌, arith}
use Rattle.std.specs.Prelude.{◌&&◌, nat_lt, nat_le, option_map}
use Rattle.std.proofs.lemmas.Option.{none-some, same_Some}
use Rattle.std.proofs.lemmas.Bool.Decides.{nat_tests}
use Rattle.bal_layout.specs.Shape.{Shape, IsShape, largest_of}
use Rattle.bal_layout.specs.Sizes.{size_of_array, leaves_for}
use Rattle.bal_layout.specs.declared.geometry.Want.{Want}
use Rattle.bal_model.specs.Built.{IsBuilt}
use Rattle.bal_model.specs.Plain.{State, allocating, step}
use Rattle.bal_rules.specs.RowEvents.{want_of}
use Rattle.bal_model.specs.Spelling.{IsOp}
use Rattle.bal_model.specs.declared.row.Op.{Op}
use Rattle.bal_model.specs.declared.row.Op.TheVariants as op
use Rattle.bal_heap.specs.Request.{IsRequest, request_of, requested}
use Rattle.bal_heap.specs.declared.request.Request.{Request}

-- what a row wants is what it asks for
pub want-asked : (s : Shape) (o : Op) → want_of s o ≡ option_map (λ (q : Request). q.want) (request_of s o)
want-asked s (op.New r refs values) = refl
want-asked s (op.Arr r len) = refl
want-asked s (op.Store h slot v) = refl
want-asked s (op.Load r h slot) = refl
want-asked s (op.Put h slot n) = refl
want-asked s (op.Get h slot) = refl
want-asked s (op.GStore g r) = refl
want-asked s (op.GLoad r g) = refl
want-asked s (op.Drop r) = refl
want-asked s op.Gc = refl

-- and its step makes the object that it asks for
pub step-asked : (s : Shape) (st : State) (t : ℕ) (o : Op) (q : Request) → request_of s o ≡ Some q → step st t o ≡ allocating st t q.register (requested q)
step-asked s st t (op.New r refs values) q e = ap (λ (x : Request). allocating st t x.register (requested x)) (same_Some _ q e)
step-asked s st t (op.Arr r len) q e = ap (λ (x : Request). allocating st t x.register (requested x)) (same_Some _ q e)
step-asked s st t o q e = absurd (none-some q e)

-- an array that needs no leaves
array-piece : (s : Shape) (len : ℕ) → nat_lt (largest_of s) (2 + len) ≡ false → size_of_array s len ≡ record { words = 2 + len; leaves = 0 }
array-piece s len small =
    let fits : nat_le (2 + len) (largest_of s) ≡ true = grind (arith, nat_tests, small) in
    ap (λ b. cond b (record { words = 2 + len; leaves = 0 }) (record { words = 2 + leaves_for s len; leaves = leaves_for s len })) fits

-- what a row of a trace asks for is an object in one piece
pub IsRequest-asked : (s : Shape) (o : Op) (q : Request) → IsShape s → IsOp s o → IsBuilt s o → request_of s o ≡ Some q → IsRequest s q
IsRequest-asked s (op.New r refs values) q shape is built e = subst (IsRequest s) (same_Some _ q e) (record {
  register = is.0;
  want = ap (λ b. cond b (Some (record { words = 2 + refs + values; leaves = 0 })) None) fits;
  one_piece = refl;
  no_spine = λ spine. cc spine;
  refs = omega (arith, is.1, shape.most_words);
  values = omega (arith, is.1, shape.most_words);
})
  where
    fits : nat_le (2 + refs + values) (largest_of s) ≡ true
    fits = grind (arith, nat_tests, is.1)
IsRequest-asked s (op.Arr r len) q shape is built e = subst (IsRequest s) (same_Some _ q e) (record {
  register = is.0;
  want = ap (λ b. cond b (Some (size_of_array s len)) None) fits;
  one_piece = ap (λ (w : Want). w.leaves) (array-piece s len built.one_piece);
  no_spine = λ spine. cc spine;
  refs = is.1;
  values = refl;
})
  where
    fits : (nat_lt len (2 ^ 24) && nat_le (size_of_array s len).words (largest_of s)) ≡ true
    fits =
        let few : nat_lt len (2 ^ 24) ≡ true = grind (arith, nat_tests, is.1) in
        let small : nat_le (size_of_array s len).words (largest_of s) ≡ true = grind (arith, nat_tests, is.2) in
        ap (λ b. b && nat_le (size_of_array s len).words (largest_of s)) few ∙ small
IsRequest-asked s o q shape is built e = absurd (none-some q e)

-- so it has no leaves
pub piece-asked : (s : Shape) (o : Op) (q : Request) → IsBuilt s o → request_of s o ≡ Some q → q.want.leaves ≡ 0
piece-asked s (op.New r refs values) q built e = ap (λ (x : Request). x.want.leaves) (sym (same_Some _ q e))
piece-asked s (op.Arr r len) q built e = ap (λ (x : Request). x.want.leaves) (sym (same_Some _ q e)) ∙ ap (λ (w : Want). w.leaves) (array-piece s len built.one_piece)
piece-asked s o q built e = absurd (none-some q e)
