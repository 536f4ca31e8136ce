-- How marked addresses are kept after some objects are gone and others have moved.
use Rattle.std.proofs.Common.{◌≡◌, ℕ, true, not, List, length, map, take, ap, sym, subst, ◌∙◌}
use Rattle.std.proofs.lemmas.List.{length-map}
use Rattle.std.specs.Prelude.{◌&&◌}
use Rattle.std.specs.List.{filter}
use Rattle.bal_base.specs.Bits.{is_member}
use Rattle.bal_layout.specs.Regions.{is_in}
use Rattle.bal_table.specs.Marks.{IsMarked, StayApart, remapped, with_remapped}
use Rattle.bal_table.specs.Moves.{Forwarding, IsForwarding, moved_to}
use Rattle.bal_table.specs.KeptMarks.{AreKept, marked_of}
use Rattle.bal_table.specs.declared.marks.Marks.TheInside.{Inside}
use Rattle.bal_table.proofs.Remapping.{IsMarked-remapped, filter-among, in-front}

module _ (a : Inside) (kept : AreKept a) (gone : List ℕ) (moves : Forwarding) (left : List ℕ)
    (each : (n : ℕ) → is_member left n ≡ (is_member a.bits.members n && not (is_in n gone))) where
  -- of the marked ones, those that are not gone have their bits still
  agree : (n : ℕ) → is_in n a.order.list ≡ true → is_member left n ≡ not (is_in n gone)
  agree n among = each n ∙ ap (λ b. b && not (is_in n gone)) (kept.each n ∙ among)

  order-left : (order : List ℕ) → order ≡ map (moved_to moves) (filter (is_member left) a.order.list) → order ≡ remapped gone moves a.order.list
  order-left order is = is ∙ ap (map (moved_to moves)) (filter-among (λ n. not (is_in n gone)) (is_member left) a.order.list agree)

  taken-left : (count : ℕ) (front : List ℕ) → front ≡ take a.taken a.order.list → count ≡ length (filter (is_member left) front)
      → count ≡ length (remapped gone moves (take a.taken a.order.list))
  taken-left count front is counted =
      let old = take a.taken a.order.list in
      counted ∙ (ap (λ (l : List ℕ). length (filter (is_member left) l)) is
      ∙ (ap (λ (l : List ℕ). length l) (filter-among (λ n. not (is_in n gone)) (is_member left) old (λ n among. agree n (in-front a.taken a.order.list n among)))
      ∙ sym (length-map (filter (λ n. not (is_in n gone)) old) (moved_to moves))))

  pub marks-left : (order : List ℕ) (count : ℕ) (front : List ℕ) → order ≡ map (moved_to moves) (filter (is_member left) a.order.list)
      → front ≡ take a.taken a.order.list → count ≡ length (filter (is_member left) front)
      → record { words = a.words; order = order; taken = count } ≡ with_remapped gone moves (marked_of a)
  marks-left order count front is front_is counted =
      ap (λ (l : List ℕ). record { words = a.words; order = l; taken = count }) (order-left order is)
      ∙ ap (λ n. record { words = a.words; order = remapped gone moves a.order.list; taken = n }) (taken-left count front front_is counted)

  -- so they are marked again
  pub IsMarked-left : (order : List ℕ) (count : ℕ) (front : List ℕ) → order ≡ map (moved_to moves) (filter (is_member left) a.order.list)
      → front ≡ take a.taken a.order.list → count ≡ length (filter (is_member left) front)
      → length moves.words ≡ a.words → IsForwarding moves → StayApart gone moves a.order.list → IsMarked (record { words = a.words; order = order; taken = count })
  IsMarked-left order count front is front_is counted heap forwarding apart =
      subst IsMarked (sym (marks-left order count front is front_is counted)) (IsMarked-remapped gone moves (marked_of a) kept.marked heap forwarding apart)
