-- A walk by number ends at an object exactly if a walk by name does.
use Rattle.std.proofs.Common.{◌≡◌, ℕ, IsTrue, List, [], ◌∷◌, Some, sym, subst, ◌∙◌}
use Rattle.std.specs.Prelude.{◌↔◌}
use Rattle.bal_core.specs.Rest as core
use Rattle.bal_core.specs.World.{At, World}
use Rattle.bal_gather.specs.Lent.{Lent}
use Rattle.bal_gather.specs.Numbers.{starts_of}
use Rattle.bal_kept.specs.Collected.{names_chosen, names_to_keep, world_from}
use Rattle.bal_kept.proofs.Held.{begins-held, ground, held-begins}
use Rattle.bal_kept.proofs.Leads.{named-word, pointed-word, pointing, targets-are, word-named, word-points}
use Rattle.bal_kept.proofs.Lists.{at-contains, contains-at}
use Rattle.bal_kept.proofs.Named.{IsGiven, Numbered, chosen-named, named, number-once, numbered}
use Rattle.bal_layout.specs.Names.{is_among}
use Rattle.bal_layout.specs.declared.name.Name.{Name}
use Rattle.bal_model.specs.Entries.{Spot}
use Rattle.bal_model.specs.Walk.{EndsWalk, targets}
use Rattle.bal_model.proofs.Lemmas.{at-ends, ends-are-walked, walk-begins, walk-goes}
use Rattle.bal_rules.specs.Board.{Board}
use Rattle.bal_table.specs.Table.{things_of}
use Rattle.bal_words.specs.Things.{Thing}

module _ {b : Board} {spot : ℕ → Spot} {l : Lent} {roots held places : List ℕ} (g : IsGiven b spot l roots held places) (pool : List ℕ) where
  abbrev world : World
  world = world_from l held pool

  inside : (o : Numbered l) → IsTrue (is_among o.thing.name (names_chosen b l.regions))
  inside o =
      let x = numbered g o.number o.address o.at in
      chosen-named g o.address o.thing o.is ∙ x.1.1

  -- From numbers to names.

  walk-named : (before : List ℕ) (o : Numbered l) → core.IsWalk world (o.number ∷ before) → EndsWalk (ground b l) o.thing.name
  walk-named [] o root =
      let holds = g.holds o.address o.number ((g.numbers o.address o.number).1 o.at) in
      walk-begins (ground b l) o.thing.name (inside o) (held-begins g o.address o.thing o.is (holds.0 (at-contains held root.0 o.number root.1)))
  walk-named (j ∷ before) o walk =
      let from = pointing g pool j o.number walk.0 in
      let x = numbered g j from.0 from.1 in
      let p : Numbered l = record { number = j; address = from.0; thing = x.0; at = from.1; is = x.1.0 } in
      let word = pointed-word g pool p o walk.0 in
      walk-goes (ground b l) p.thing.name o.thing.name (walk-named before p walk.1) (inside o)
      (subst (λ (ns : List Name). IsTrue (is_among o.thing.name ns)) (sym (targets-are g p.address p.thing p.is))
      (word-named g o.address o.thing o.is p.thing.refs word.0 word.1))

  -- From names to numbers.

  -- an object of this name is reached
  abbrev Reached : Name → Type 0
  Reached n = (o : Numbered l) × ((o.thing.name ≡ n) × core.EndsWalk world o.number)

  begun : (n : Name) → IsTrue (is_among n (names_chosen b l.regions)) → IsTrue ((ground b l).begins n) → Reached n
  begun n chosen begins =
      let o = named g n chosen in
      let begin = subst (λ (m : Name). IsTrue ((ground b l).begins m)) (sym o.1) begins in
      let is-held = begins-held g o.0.address o.0.thing o.0.is begin in
      let root = contains-at held o.0.number ((g.holds o.0.address o.0.number ((g.numbers o.0.address o.0.number).1 o.0.at)).1 is-held) in
      (o.0, (o.1, ([], root)))

  gone : (n m : Name) → Reached n → IsTrue (is_among m (names_chosen b l.regions)) → IsTrue (is_among m (targets b.plain n)) → Reached m
  gone n m from chosen refers =
      let p = from.0 in
      let o = named g m chosen in
      let among = subst (λ (k : Name). IsTrue (is_among k (targets b.plain p.thing.name))) (sym o.1)
      (subst (λ (k : Name). IsTrue (is_among m (targets b.plain k))) (sym from.1.0) refers) in
      let word = named-word g o.0.address o.0.thing o.0.is p.thing.refs
      (subst (λ (ns : List Name). IsTrue (is_among o.0.thing.name ns)) (targets-are g p.address p.thing p.is) among) in
      (o.0, (o.1, (p.number ∷ from.1.1.0, (word-points g pool p o.0 word.0 word.1, from.1.1.1))))

  -- The object that is reached.

  pub reached : (k a : ℕ) (x : Thing) → At (starts_of l) k a → things_of l.table a ≡ Some x
      → core.EndsWalk world k ↔ IsTrue (is_among x.name (names_to_keep b l.regions))
  reached k a x at is = (to, from)
    where
      to : core.EndsWalk world k → IsTrue (is_among x.name (names_to_keep b l.regions))
      to walk =
          let o : Numbered l = record { number = k; address = a; thing = x; at = at; is = is } in
          (ends-are-walked (ground b l) x.name).1 (walk-named walk.0 o walk.1)

      from : IsTrue (is_among x.name (names_to_keep b l.regions)) → core.EndsWalk world k
      from kept =
          let end = at-ends (ground b l) Reached begun gone x.name ((ends-are-walked (ground b l) x.name).0 kept) in
          let o = end.0 in
          let same : o.address ≡ a = g.from.decodes.objects.once o.address a o.thing x o.is is end.1.0 in
          let number : o.number ≡ k = number-once g a o.number k (subst (At (starts_of l) o.number) same o.at) at in
          subst (core.EndsWalk world) number end.1.1
