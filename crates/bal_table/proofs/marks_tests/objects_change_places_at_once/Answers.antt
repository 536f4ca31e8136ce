use Rattle.std.proofs.Common.{◌≡◌, ◌*◌, ◌<◌, ◌⊎◌, ◌∙◌, ◌∷◌, [], Option, ℕ, ap, arith, false, inl, inr, length, length-set, subst, sym}
use Rattle.std.proofs.lemmas.Bool.{false≢true}
use Rattle.std.proofs.lemmas.List.{length-replicate}
use Rattle.std.specs.Prelude.{unwrap_or}
use Rattle.bal_base.proofs.Lemmas.{among-cases}
use Rattle.bal_layout.specs.References.{word_of}
use Rattle.bal_layout.specs.Regions.{is_in}
use Rattle.bal_layout.specs.Shape.{Shape}
use Rattle.bal_table.specs.Marks.{IsLeft, Marked, StayApart, with_address}
use Rattle.bal_table.specs.Moves.{Forwarding, moved_to, no_moves, with_move}
use Rattle.bal_table.proofs.Marking.{next-order}
use Rattle.bal_table.proofs.Forwarded.{moved-others, moved-own}
use Rattle.bal_table.proofs.marks_tests.objects_change_places_at_once.Goals as goal

-- the first and the last of three are left
left : (a : ℕ) → IsLeft (2 ∷ []) (1 ∷ 2 ∷ 3 ∷ []) a → (a ≡ 1) ⊎ (a ≡ 3)
left a is = elim (among-cases 1 a (2 ∷ 3 ∷ []) is.0) [
  | inl first ↦ inl (sym first)
  | inr later ↦ elim (among-cases 2 a (3 ∷ []) later) [
    | inl second ↦ absurd (false≢true (sym (subst (λ n. is_in n (2 ∷ []) ≡ false) (sym second) is.1)))
    | inr last ↦ elim (among-cases 3 a [] last) [ inl third ↦ inr (sym third) | inr none ↦ absurd (false≢true none) ]
  ]
]

-- which change places
swapped : (m : Forwarding) → 3 < length m.words → StayApart (2 ∷ []) (with_move (with_move m 1 3) 3 1) (1 ∷ 2 ∷ 3 ∷ [])
swapped m within a b here there same = by (left a here) (left b there)
  where
    after : Forwarding
    after = with_move (with_move m 1 3) 3 1

    first : moved_to after 1 ≡ 3
    first = ap (λ (o : Option ℕ). unwrap_or o 1)
        (moved-others (with_move m 1 3) 3 1 1 (λ e. omega (arith, e)) ∙ moved-own m 1 3 (omega (arith, within)))

    last : moved_to after 3 ≡ 1
    last = ap (λ (o : Option ℕ). unwrap_or o 3) (moved-own (with_move m 1 3) 3 1 (omega (arith, within, length-set m.words 1 (word_of 3))))

    apart : (n k : ℕ) → n ≡ 1 → k ≡ 3 → moved_to after n ≡ moved_to after k → ⊥
    apart n k one three e = omega (arith, sym first ∙ (ap (moved_to after) (sym one) ∙ (e ∙ (ap (moved_to after) three ∙ last))))

    by : (a ≡ 1) ⊎ (a ≡ 3) → (b ≡ 1) ⊎ (b ≡ 3) → a ≡ b
    by (inl x) (inl y) = x ∙ sym y
    by (inl x) (inr y) = absurd (apart a b x y same)
    by (inr x) (inl y) = absurd (apart b a y x (sym same))
    by (inr x) (inr y) = x ∙ sym y

pub remap-requires-clause-apart : goal.remap-requires-clause-apart
remap-requires-clause-apart g c =
    let start = c.in_ok-moves.moves in
    let moves = c.set-2.ensures ∙ ap (λ (m : Forwarding). with_move m 3 1) c.set.ensures in
    let made : start ≡ no_moves 1024 = c.in_ok-moves.ensures ∙ ap (λ (s : Shape). no_moves (s.regions * s.words)) c.in_ok-geometry.ensures.1 in
    let long : 3 < length start.words = omega (arith, ap (λ (m : Forwarding). length m.words) made, length-replicate {A = ℕ} 1024 0) in
    let order = next-order c.add-3.new.self c.next-first.new.self c.next-first.result c.next-first.ensures.next
    ∙ (ap (λ (m : Marked). m.order) c.add-3.ensures
    ∙ (ap (λ (m : Marked). with_address m.order 3) c.add-2.ensures
    ∙ (ap (λ (m : Marked). with_address (with_address m.order 2) 3) c.add.ensures
    ∙ ap (λ (m : Marked). with_address (with_address (with_address m.order 1) 2) 3) c.in_ok-marks.ensures))) in
    subst (λ (m : Forwarding). StayApart (2 ∷ []) m c.next-first.new.self.order) (sym moves)
    (subst (StayApart (2 ∷ []) (with_move (with_move start 1 3) 3 1)) (sym order) (swapped start long))
