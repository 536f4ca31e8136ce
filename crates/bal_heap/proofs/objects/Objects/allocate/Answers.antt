use Rattle.std.proofs.Common.{◌∙◌, ◌+◌, List, ℕ, ap, get_or, set, subst, sym}
use Rattle.bal_layout.specs.Addresses.{region_of}
use Rattle.bal_layout.specs.Shape.{Shape}
use Rattle.bal_roots.specs.Roots.{register_place}
use Rattle.bal_heap.specs.Kept.{AreKept, objects_by}
use Rattle.bal_heap.specs.Objects.{Allocated, Objects}
use Rattle.bal_heap.specs.Request.{IsRequest}
use Rattle.bal_heap.proofs.ObjectFacts.{allocated}
use Rattle.bal_heap.proofs.objects.Objects.allocate.Goals as goal

-- the objects in the end
abbrev after : goal.After-region_of → Objects
after c = objects_by (record c.self.inside { table = c.allocate-address.new.table; roots = c.set_register.new.self; made = c.set.new.self })

-- the object was made
made : (c : goal.After-region_of) → AreKept (after c)
    × Allocated (objects_by c.self.inside) (after c) c.args.thread c.args.request.now c.args.room
    (record { thread = c.args.thread; ordinal = get_or c.as_slice.result.now c.args.thread 0 + 1 }) c.region_of.result
made c =
    let a = c.self.inside in
    let t = c.args.thread in
    let q = c.args.request.now in
    allocated (objects_by a) t q c.args.room c.allocate-address.new.table c.allocate-address.result (get_or c.as_slice.result.now t 0 + 1) c.region_of.result
    c.set_register.new.self c.set.new.self.list c.self.invariant c.requires.thread
    (subst (λ (o : Objects). IsRequest o.table.shape q) (sym c.self.view_is) c.requires.request)
    (ap (λ (made : List ℕ). get_or made t 0 + 1) c.as_slice.ensures) c.allocate-address.ensures c.geometry.ensures.limits
    (c.set_register.ensures ∙ ap (set a.roots (register_place t q.register)) c.word_of.ensures)
    c.set.ensures.list
    (c.region_of.ensures.region ∙ ap (λ (s : Shape). region_of s c.allocate-address.result) c.geometry.ensures.shape)

pub invariant_of-self : goal.invariant_of-self
invariant_of-self c = (made c).0

pub returns : goal.returns
returns c =
    subst (λ (o : Objects). Allocated o (after c) c.args.thread c.args.request.now c.args.room
    (record { thread = c.args.thread; ordinal = get_or c.as_slice.result.now c.args.thread 0 + 1 }) c.region_of.result) c.self.view_is (made c).1
