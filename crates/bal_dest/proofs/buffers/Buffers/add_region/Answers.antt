use Rattle.std.proofs.Common.{◌≡◌, ◌+◌, List, ◌-◌, ◌++◌, ◌<◌, ◌≤◌, ◌∙◌, ◌∷◌, [], Some, ap, arith, cond, set, subst, sym, true, deque_len, deque_capacity}
use Rattle.bal_layout.specs.Shape.{largest_of}
use Rattle.bal_region.specs.Land.{Land}
use Rattle.bal_dest.specs.Buffers.{Buffers, IsDestination, wants_region}
use Rattle.bal_dest.specs.Kept.{AreKept, buffers_of}
use Rattle.bal_dest.specs.declared.buffers.Destination.{Destination}
use Rattle.bal_dest.proofs.Packed.{room-added}
use Rattle.bal_dest.proofs.Held.{fresh, kept-added}
use Rattle.bal_dest.proofs.buffers.Buffers.add_region.Goals as goal

-- there is room for it
some : (c : goal.After-self-1) → 1 ≤ c.self.inside.room
some c = subst (λ (b : Buffers). 1 ≤ b.room) (sym c.self.view_is) c.requires.room

room : (c : goal.After-self-1) → deque_len c.self.inside.regions < deque_capacity c.self.inside.regions
room c = omega (arith, some c, c.self.invariant.room, c.self.inside.regions.ok.0)

-- so it stands at the end
items : (c : goal.After-self-1) → c.push_back.new.self.items ≡ c.self.inside.regions.items ++ record { age = c.args.age; region = c.args.region } ∷ []
items c =
    c.push_back.ensures.items
    ∙ ap (λ ok. cond ok (c.self.inside.regions.items ++ record { age = c.args.age; region = c.args.region } ∷ []) c.self.inside.regions.items)
    (c.push_back.ensures.succeeds (room c))

pub invariant_of-self : goal.invariant_of-self
invariant_of-self c =
    let a = c.self.inside in
    let age = c.args.age in
    let l : Land = c.args.region in
    let now : Buffers = c.args.self.now in
    let destination = subst (λ (b : Buffers). IsDestination b.shape (record { age = age; region = l })) (sym c.self.view_is) (fresh now age l c.requires.age c.requires.number c.requires.words c.requires.empty.0 c.requires.empty.1) in
    let wanted = subst (λ (b : Buffers). wants_region b age (largest_of b.shape) ≡ true) (sym c.self.view_is) c.requires.wanted in
    subst (λ n. AreKept (record a { regions = c.push_back.new.self; last = set a.last age (Some (a.taken + n)); room = a.room - 1 })) (sym c.len.ensures)
    (kept-added a c.self.invariant age l c.push_back.new.self c.requires.age destination wanted (some c) (items c) (c.push_back.ensures.in_place (room c)))

pub returns-clause-has_room : goal.returns-clause-has_room
returns-clause-has_room c words few =
    let a = c.self.inside in
    ap (λ (ds : List Destination). wants_region (record { shape = a.geometry; regions = ds; reserved = a.reserved; room = a.room - 1 }) c.args.age words) (items c)
    ∙ room-added (buffers_of a) c.args.age c.args.region c.requires.empty.1 words few
