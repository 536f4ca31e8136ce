-- The names of what is reached, in order.
use Rattle.std.proofs.Common.{◌≡◌, ℕ, IsTrue, List, sym, subst}
use Rattle.std.specs.Prelude.{◌↔◌}
use Rattle.bal_core.specs.World.{At}
use Rattle.bal_gather.specs.Lent.{Lent}
use Rattle.bal_kept.specs.Collected.{IsReached, names_chosen, names_to_keep, world_from}
use Rattle.bal_kept.proofs.Held.{ground}
use Rattle.bal_kept.proofs.Named.{IsGiven, named}
use Rattle.bal_kept.proofs.Walks.{reached}
use Rattle.bal_kept.proofs.Worlds.{name-numbered, number-named}
use Rattle.bal_layout.specs.Names.{is_among}
use Rattle.bal_layout.specs.Regions.{is_in}
use Rattle.bal_layout.specs.declared.name.Name.{Name}
use Rattle.bal_model.specs.Entries.{Spot}
use Rattle.bal_model.proofs.Lemmas.{ascending-map-filter, ends-ascend, ends-filter, from-filter, same-names}
use Rattle.bal_rules.specs.Board.{Board, Placed}
use Rattle.bal_rules.specs.Sound.{IsAscending}

module _ {b : Board} {spot : ℕ → Spot} {l : Lent} {roots held places : List ℕ} (g : IsGiven b spot l roots held places) (pool : List ℕ) where
  -- what is kept lies in the chosen regions
  kept-chosen : (n : Name) → IsTrue (is_among n (names_to_keep b l.regions)) → IsTrue (is_among n (names_chosen b l.regions))
  kept-chosen n kept =
      (from-filter (λ m. is_among m (names_to_keep b l.regions)) (names_chosen b l.regions) n
      (subst (λ (ns : List Name). IsTrue (is_among n ns)) (ends-filter (ground b l)) kept)).1

  -- a name is kept exactly if its object is reached
  pub reached-name : (n : Name) → IsReached (world_from l held pool) n ↔ IsTrue (is_among n (names_to_keep b l.regions))
  reached-name n = (to, from)
    where
      to : IsReached (world_from l held pool) n → IsTrue (is_among n (names_to_keep b l.regions))
      to r =
          let o = name-numbered g pool r.0 n r.1 in
          subst (λ (m : Name). IsTrue (is_among m (names_to_keep b l.regions))) o.1.1.2 ((reached g pool r.0 o.0 o.1.0 o.1.1.0 o.1.1.1).0 r.2)

      from : IsTrue (is_among n (names_to_keep b l.regions)) → IsReached (world_from l held pool) n
      from kept =
          let o = named g n (kept-chosen n kept) in
          let same = subst (λ (m : Name). IsTrue (is_among m (names_to_keep b l.regions))) (sym o.1) kept in
          let k = o.0.number in (
            k,
            subst (At (world_from l held pool).names k) o.1 (number-named l held pool k o.0.address o.0.at o.0.thing o.0.is),
            (reached g pool k o.0.address o.0.thing o.0.at o.0.is).1 same,
          )

  kept-ascend : IsAscending (names_to_keep b l.regions)
  kept-ascend = ends-ascend (ground b l) (ascending-map-filter (λ (p : Placed). p.name) (λ p. is_in p.region l.regions) b.present g.from.decodes.ascending)

  pub listed : (names : List Name) → IsAscending names → ((n : Name) → IsTrue (is_among n names) ↔ IsReached (world_from l held pool) n)
      → names ≡ names_to_keep b l.regions
  listed names up are = same-names names (names_to_keep b l.regions) up kept-ascend
      (λ n among. (reached-name n).0 ((are n).0 among)) (λ n kept. (are n).1 ((reached-name n).1 kept))
