use Rattle.std.proofs.Common.{◌≡◌, ◌+◌, ◌∙◌, Some, ap, arith, subst, sym}
use Rattle.bal_layout.specs.Addresses.{IsAddress}
use Rattle.bal_table.specs.Table.{IsTable, things_of, value_place, values_in}
use Rattle.bal_table.proofs.SlotWords.{LiesAt, number-there, value-found}
use Rattle.bal_table.proofs.table.Table.find_value.Goals as goal

-- the table is one
table : (c : goal.After-struct_known-2-1) → IsTable c.args.self.now
table c = subst IsTable c.self.view_is c.self.invariant.table

-- the number lies in its object
lies : (c : goal.After-struct_known-2-1)
    → LiesAt c.args.self.now c.args.address c.args.slot (values_in (things_of c.args.self.now c.args.address)) (value_place c.args.self.now c.args.address c.args.slot)
lies c = number-there c.args.self.now c.args.address c.args.slot (table c) (omega (arith, c.header-header.ensures.values, c.if-slot-header.false))

-- where it is looked for
place-is : (c : goal.After-struct_known-2-1) → c.args.address + (2 + c.header-header.result.refs + c.args.slot) ≡ value_place c.args.self.now c.args.address c.args.slot
place-is c = ap (λ n. c.args.address + (2 + n + c.args.slot)) c.header-header.ensures.refs

pub overflow_add-result : goal.overflow_add-result
overflow_add-result c = omega (arith, c.header-header.ensures.refs, (lies c).0, (table c).shape.words_in_all)

pub overflow_add-result-2 : goal.overflow_add-result-2
overflow_add-result-2 c = omega (arith, c.header-header.ensures.refs, (lies c).0, (table c).shape.words_in_all)

pub overflow_add-result-3 : goal.overflow_add-result-3
overflow_add-result-3 c = omega (arith, c.header-header.ensures.refs, (lies c).0, (table c).shape.words_in_all)

pub returns-clause-place : goal.returns-clause-place
returns-clause-place c =
    ap Some (place-is c)
    ∙ sym (value-found c.args.self.now c.args.address c.args.slot (omega (arith, c.header-header.ensures.values, c.if-slot-header.false)))

pub returns-clause-within : goal.returns-clause-within
returns-clause-within c = subst (IsAddress c.args.self.now.shape) (sym (place-is c)) (lies c).0
