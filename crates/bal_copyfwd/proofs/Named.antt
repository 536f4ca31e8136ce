-- What the board loses and moves is what does not survive and what goes elsewhere.
use Rattle.std.proofs.Common.{◌≡◌, ℕ, Bool, true, false, cond, List, [], length, Option, Some, None, refl, ap, sym, ◌∙◌}
use Rattle.std.specs.Prelude.{◌||◌, ◌&&◌, IsTrue, is_some, not, option_and_then, unwrap_or}
use Rattle.std.proofs.lemmas.Bool.{false≢true}
use Rattle.std.proofs.lemmas.Option.{none-some, same_Some}
use Rattle.bal_after.proofs.Lemmas.{lost-gone, lost-kept, lost-outside, moves-others, moves-survivor}
use Rattle.bal_core.specs.World.{At}
use Rattle.bal_core.specs.declared.event.Decision.{Decision}
use Rattle.bal_core.specs.declared.event.Decision.TheVariants as decision
use Rattle.bal_core.specs.Finished.{Evacuation}
use Rattle.bal_gather.specs.Lent.{Lent, is_chosen}
use Rattle.bal_gather.specs.Numbers.{number_of, starts_below, starts_of}
use Rattle.bal_kept.proofs.Lemmas.{IsGiven, number}
use Rattle.bal_layout.specs.Addresses.{region_of}
use Rattle.bal_layout.specs.Names.{is_among}
use Rattle.bal_layout.specs.Regions.{is_in}
use Rattle.bal_layout.specs.Shape.{Shape}
use Rattle.bal_meet.specs.Decode.{placed_at}
use Rattle.bal_model.specs.Ascending.{IsAscending}
use Rattle.bal_model.specs.Entries.{Spot}
use Rattle.bal_model.specs.declared.config.Config.{Config}
use Rattle.bal_model.specs.declared.event.Kept.{Kept}
use Rattle.bal_rules.specs.Board.{Board, Placed, names_placed}
use Rattle.bal_rules.specs.PartialEvents.{names_lost, placed_after_partial}
use Rattle.bal_table.specs.Table.{things_of}
use Rattle.bal_told.specs.Whole.{IsWhole}
use Rattle.bal_words.specs.Things.{Thing}
use Rattle.bal_copyfwd.specs.Moving.{Decisions, address_of_copy, decided_at, goes_to, survives}
use Rattle.bal_copyfwd.specs.Places.{AreTaken}

module _ {b : Board} {spot : ℕ → Spot} {l : Lent} {roots held places : List ℕ} (g : IsGiven b spot l roots held places)
    (c : Config) (e : Evacuation) (kept : List Kept) (whole : IsWhole c b l.regions e kept) (ascending : IsAscending (names_placed b.present)) (geometry : c.geometry ≡ l.table.shape)
    (decisions : Decisions) (taken : AreTaken e decisions)
    (names : (k a : ℕ) (x : Thing) → At (starts_of l) k a → things_of l.table a ≡ Some x → At e.world.names k x.name) where
  -- an object is not lost exactly if it survives
  pub survives-is : (a : ℕ) (x : Thing) → things_of l.table a ≡ Some x → survives l decisions a ≡ not (is_among x.name (names_lost b l.regions kept))
  survives-is a x is = by (is_chosen l a) refl
    where
      lost : Bool
      lost = is_among x.name (names_lost b l.regions kept)

      place : is_in (region_of l.table.shape a) l.regions ≡ is_in (spot a).region l.regions
      place = ap (λ q. is_in q l.regions) (sym (g.from.lies a x is))

      inside : (k : ℕ) → At (starts_of l) k a → (o : Option Decision) → decisions k ≡ o → is_some o ≡ not lost
      inside k at None none =
          sym (ap not (lost-gone c b l.regions e kept whole x.name k (names k a x at is)
          (λ n i d here. none-some d (sym none ∙ (taken.each k d).1 (n, i, here)))))
      inside k at (Some d) some =
          let here = (taken.each k d).0 some in
          sym (ap not (lost-kept c b l.regions e kept whole x.name k here.0 here.1 d (names k a x at is) here.2))

      by : (d : Bool) → is_chosen l a ≡ d → survives l decisions a ≡ not lost
      by false out =
          ap (λ d. not d || is_some (decided_at l decisions a)) out
          ∙ sym (ap not (lost-outside c b l.regions e kept whole ascending x.name (placed_at x.name (spot a)) (g.from.decodes.places a x is) (sym place ∙ out)))
      by true chosen =
          let k = number g a x is chosen in
          ap (λ d. not d || is_some (decided_at l decisions a)) chosen
          ∙ (ap (λ o. is_some (option_and_then decisions o)) ((g.numbers a k.0).1 k.1) ∙ inside k.0 k.1 (decisions k.0) refl)

  -- and the board has a survivor where it went
  pub moves-are : (a : ℕ) (x : Thing) → things_of l.table a ≡ Some x → IsTrue (survives l decisions a) → (spot a).leaves ≡ []
      → placed_after_partial kept (placed_at x.name (spot a)) ≡ placed_at x.name (record { region = region_of l.table.shape (goes_to l decisions a); leaves = [] })
  moves-are a x is keeps bare = by (is_chosen l a) refl
    where
      p : Placed
      p = placed_at x.name (spot a)

      here : (q : ℕ) → Placed
      here q = record { name = x.name; region = q; leaves = [] }

      p-is : p ≡ here (region_of l.table.shape a)
      p-is = ap (λ q. record { name = x.name; region = q; leaves = (spot a).leaves }) (g.from.lies a x is)
          ∙ ap (λ (ls : List ℕ). record { name = x.name; region = region_of l.table.shape a; leaves = ls }) bare

      shape : e.world.shape ≡ l.table.shape
      shape = whole.board.shape ∙ geometry

      inside : (k : ℕ) → At (starts_of l) k a → number_of l a ≡ Some k → (o : Option Decision) → decisions k ≡ o → is_some o ≡ true
          → placed_after_partial kept p ≡ here (region_of l.table.shape (goes_to l decisions a))
      inside k at num None none some = absurd (false≢true some)
      inside k at num (Some (decision.Copied to)) is-d some =
          let s = (taken.each k (decision.Copied to)).0 is-d in
          let goes : goes_to l decisions a ≡ to =
          ap (λ o. unwrap_or (option_and_then address_of_copy (option_and_then decisions o)) a) num ∙ ap (λ o. unwrap_or (option_and_then address_of_copy o) a) is-d in
          moves-survivor c b l.regions e kept whole p k s.0 s.1 (decision.Copied to) (names k a x at is) s.2
          ∙ (ap (λ (ls : List ℕ). record { name = x.name; region = region_of e.world.shape to; leaves = ls }) bare
          ∙ (ap (λ (sh : Shape). here (region_of sh to)) shape ∙ ap (λ n. here (region_of l.table.shape n)) (sym goes)))
      inside k at num (Some decision.Marked) is-d some =
          let s = (taken.each k decision.Marked).0 is-d in
          let goes : goes_to l decisions a ≡ a =
          ap (λ o. unwrap_or (option_and_then address_of_copy (option_and_then decisions o)) a) num ∙ ap (λ o. unwrap_or (option_and_then address_of_copy o) a) is-d in
          moves-survivor c b l.regions e kept whole p k s.0 s.1 decision.Marked (names k a x at is) s.2
          ∙ (p-is ∙ ap (λ n. here (region_of l.table.shape n)) (sym goes))

      -- it is none of the evacuation's objects
      outside : is_chosen l a ≡ false → (k : ℕ) → At e.world.names k p.name → ⊥
      outside out k at =
          let o = whole.board.inside k p.name at in
          let same : o.placed ≡ p = same_Some o.placed p (sym o.present ∙ g.from.decodes.places a x is) in
          false≢true (sym out ∙ (ap (λ q. is_in q l.regions) (sym (g.from.lies a x is)) ∙ (ap (λ (r : Placed). is_in r.region l.regions) (sym same) ∙ o.lies)))

      by : (d : Bool) → is_chosen l a ≡ d → placed_after_partial kept p ≡ here (region_of l.table.shape (goes_to l decisions a))
      by false out =
          moves-others c b l.regions e kept whole p (outside out)
          ∙ (p-is
          ∙ ap (λ n. here (region_of l.table.shape n))
          (sym (ap (λ d. unwrap_or (option_and_then address_of_copy (option_and_then decisions (cond (d && is_some (things_of l.table a)) (Some (length (starts_below l a))) None))) a) out)))
      by true chosen =
          let k = number g a x is chosen in
          let num = (g.numbers a k.0).1 k.1 in
          inside k.0 k.1 num (decisions k.0) refl
          (sym (ap (λ o. is_some (option_and_then decisions o)) num) ∙ (sym (ap (λ d. not d || is_some (decided_at l decisions a)) chosen) ∙ keeps))
