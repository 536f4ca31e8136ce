use Rattle.std.proofs.Common.{◌≡◌, ◌+◌, ◌++◌, ◌∷◌, ℕ, zero, suc, Bool, true, false, cond, List, [], ap, sym, ◌∙◌, arith}
use Rattle.std.specs.Prelude.{filter}
use Rattle.std.specs.List.{range_with_len}
use Rattle.std.proofs.lemmas.List.{append-nil}
use Rattle.std.proofs.lemmas.List.Elements.{filter-append}
use Rattle.bal_base.specs.Bits.{is_member}
use Rattle.bal_base.specs.Items.{Seq}
use Rattle.bal_partial.proofs.telling.list_members.Goals as goal
use Rattle.bal_partial.proofs.telling.list_members.Goals.{then-contains, else-contains}

range-more : (a n : ℕ) → range_with_len a (suc n) ≡ range_with_len a n ++ (a + n) ∷ []
range-more a zero = ap (λ k. k ∷ []) (omega arith)
range-more a (suc n) =
    let same : a + 1 + n ≡ a + suc n = omega arith in
    ap (λ (l : List ℕ). a ∷ l) (range-more (a + 1) n ∙ ap (λ k. range_with_len (a + 1) n ++ k ∷ []) same)

-- the numbers of one more that pass
passed-more : (p : ℕ → Bool) (n : ℕ) (b : Bool) → p n ≡ b → filter p (range_with_len 0 (n + 1)) ≡ filter p (range_with_len 0 n) ++ cond b (n ∷ []) []
passed-more p n b is =
    let more : n + 1 ≡ suc n = omega arith in
    let last : 0 + n ≡ n = omega arith in
    ap (λ k. filter p (range_with_len 0 k)) more
    ∙ (ap (filter p) (range-more 0 n ∙ ap (λ k. range_with_len 0 n ++ k ∷ []) last)
    ∙ (filter-append p (range_with_len 0 n) (n ∷ []) ∙ ap (λ b. filter p (range_with_len 0 n) ++ cond b (n ∷ []) []) is))

pub loop-number-preserved : goal.loop-number-preserved
loop-number-preserved c =
    let i = c.loop-number.invariant in
    let n = c.loop-number.number in
    let p = is_member c.args.members.now.members in
    elim c.if-contains.branch [
      | then-contains w ↦ record {
        listed = ap (λ (s : Seq ℕ). s.list) w.into-is
            ∙ (w.push.ensures.list ∙ (ap (λ (l : List ℕ). l ++ n ∷ []) i.listed ∙ sym (passed-more p n true (sym c.contains.ensures ∙ w.if-contains.true))));
        room = omega (arith, i.room, w.push.ensures.spare, ap (λ (s : Seq ℕ). s.spare) w.into-is);
      }
      | else-contains w ↦ record {
        listed = ap (λ (s : Seq ℕ). s.list) w.into-is
            ∙ (i.listed ∙ (sym (append-nil (filter p (range_with_len 0 n))) ∙ sym (passed-more p n false (sym c.contains.ensures ∙ w.if-contains.false))));
        room = omega (arith, i.room, ap (λ (s : Seq ℕ). s.spare) w.into-is);
      }
    ]
