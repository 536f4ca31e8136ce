use Rattle.std.proofs.Common.{◌≡◌, ◌∙◌, ◌+◌, ◌≤◌, ℕ, ap, arith, subst, sym}
use Rattle.std.proofs.lemmas.Option.{none-some, same_Some}
use Rattle.bal_layout.specs.Addresses.{address_in}
use Rattle.bal_table.specs.Changes.{with_new}
use Rattle.bal_table.specs.Table.{Table, land_at}
use Rattle.bal_eden.specs.Room.{opened}
use Rattle.bal_eden.proofs.Placing.{IsOpened, allocated, fits-opened, opened-is, opened-piece, turned-fresh, turned-here}
use Rattle.bal_eden.proofs.Wants.{few-wanted}
use Rattle.bal_eden.proofs.placement.allocate.Goals as goal
use Rattle.bal_eden.proofs.placement.allocate.Goals.{In-Some, Joined-room, in-Fresh, in_default}

-- the room's region is the current one
turned : (c : Joined-room) → c.match-room.table ≡ opened c.args.table.now c.args.room
turned c = elim c.match-room.branch [
  | in-Fresh v ↦ turned-fresh c.args.table.now v.take_free-region.new.self c.match-room.table c.args.want.now c.args.room v.in-Fresh.field-0 v.take_free-region.result v.in-Fresh.is
      c.requires.room v.take_free-region.ensures.lowest v.take_free-region.ensures.table (v.table-is ∙ v.set_current.ensures)
  | in_default v ↦ turned-here c.args.table.now c.match-room.table c.args.room v.in_default.not-Fresh v.table-is
]

-- and has room
readied : (c : Joined-room) → (q : ℕ) × IsOpened c.args.table.now c.args.want.now c.args.room q
readied c =
    let t = c.args.table.now in
    let h = c.args.header.now in
    let few = few-wanted t.shape h.kind h.refs h.values c.args.want.now c.requires.want c.requires.no_spine in
    opened-is t c.args.want.now c.args.room c.geometry.ensures.limits c.requires.room (omega (arith, few))

found : (c : In-Some) → c.match-room.table ≡ opened c.args.table.now c.args.room → (q : ℕ) × IsOpened c.args.table.now c.args.want.now c.args.room q
    → IsOpened c.args.table.now c.args.want.now c.args.room c.in-Some.region
found c is at =
    subst (IsOpened c.args.table.now c.args.want.now c.args.room)
    (same_Some at.0 c.in-Some.region (sym at.1.current ∙ (sym (ap (λ (t : Table). t.current) is) ∙ (sym c.current.ensures.current ∙ c.in-Some.is)))) at.1

pub unreachable-requires : goal.unreachable-requires
unreachable-requires c =
    let at = readied (goal.at.unreachable-requires c).Joined-room in
    absurd (none-some at.0 (sym (sym c.current.ensures.current ∙ c.in_default-current.is)
    ∙ (ap (λ (t : Table). t.current) (turned (goal.at.unreachable-requires c).Joined-room) ∙ at.1.current)))

pub place_new-requires-clause-fits : goal.place_new-requires-clause-fits
place_new-requires-clause-fits c =
    let o = found (goal.at.place_new-requires-clause-fits c).In-Some (turned (goal.at.place_new-requires-clause-fits c).Joined-room) (readied (goal.at.place_new-requires-clause-fits c).Joined-room) in
    subst (λ (m : Table). (land_at m c.in-Some.region).used + c.args.want.now.words ≤ m.shape.words)
    (sym (turned (goal.at.place_new-requires-clause-fits c).Joined-room)) (fits-opened c.args.table.now c.args.want.now c.args.room c.in-Some.region o)

pub place_new-requires-clause-object : goal.place_new-requires-clause-object
place_new-requires-clause-object c =
    let o = found (goal.at.place_new-requires-clause-object c).In-Some (turned (goal.at.place_new-requires-clause-object c).Joined-room) (readied (goal.at.place_new-requires-clause-object c).Joined-room) in
    opened-piece c.args.table.now c.match-room.table c.args.want.now c.args.room c.in-Some.region o (turned (goal.at.place_new-requires-clause-object c).Joined-room)
    c.args.header.now c.requires.header c.requires.want c.requires.one_piece c.requires.no_spine
    c.write_header-first.result.0 c.write_header-first.result.1 c.write_header-first.ensures.first c.write_header-first.ensures.second

pub returns : goal.returns
returns c =
    let at = goal.at.returns c in
    allocated c.args.table.now c.geometry.ensures.limits c.args.want.now c.args.room c.in-Some.region (found at.In-Some (turned at.Joined-room) (readied at.Joined-room))
    c.args.header.now c.requires.header c.requires.want c.requires.one_piece c.requires.no_spine
    c.place_new.new.self c.write_header-first.result.0 c.write_header-first.result.1 c.place_new.result c.write_header-first.ensures.first c.write_header-first.ensures.second
    (c.place_new.ensures.table ∙ ap (λ (m : Table). with_new m c.in-Some.region c.write_header-first.result.0 c.write_header-first.result.1 c.args.want.now.words) (turned at.Joined-room))
    (c.place_new.ensures.at ∙ ap (λ (m : Table). address_in m.shape c.in-Some.region (land_at m c.in-Some.region).used) (turned at.Joined-room))
