use Rattle.std.proofs.Common.{None, arith}
use Rattle.dwarf_units.specs.Plain.{plain_unit}
use Rattle.dwarf_tree.proofs.ReadFrom.{unit_front, growing_start, growing_same, growing_told, growing_few, growing_more}
use Rattle.dwarf_tree.proofs.Growth.{refused_unit, refused_entries}
use Rattle.dwarf_units.proofs.lemmas.Limits.{units_start, units_more, units_past, units_end, entries_past, no_unit_left, unit_taken}
use Rattle.dwarf_tree.proofs.reading.read_all.Goals as goal

pub returns-in-Err-clause-judged : goal.returns-in-Err-clause-judged
returns-in-Err-clause-judged c =
    refused_unit c.args.sections.now.info.now c.args.sections.now.abbrev.now _ _ c.list.invariant.0.grown c.in-Err.refused _ c.in-Err.ensures.next

pub returns-in-Err-push_unit-clause-judged : goal.returns-in-Err-push_unit-clause-judged
returns-in-Err-push_unit-clause-judged c =
    refused_entries c.args.sections.now.info.now c.args.sections.now.abbrev.now _ _ c.list.invariant.0.grown c.in-Err-push_unit.refused c.in-Ok-Some.field-0 c.in-Ok-Some.unit _
    c.in-Ok-Some.ensures.next c.in-Ok-Some.field-0-is c.in-Err-push_unit.ensures.judged

pub list-init : goal.list-init
list-init c = (
  growing_start c.args.sections.now.info.now c.args.sections.now.abbrev.now c.in_ok-growing.growing c.units-left.result
      (c.values_stand_where_told.ensures.info c.args.sections.now.info.now c.args.sections.now.abbrev.now) (c.values_stand_where_told.ensures.told c.args.sections.now.info.now c.args.sections.now.abbrev.now)
      c.in_ok-growing.ensures.empty c.units-left.ensures,
  units_start c.args.sections.now.info.now c.args.sections.now.abbrev.now c.units-left.result c.tables_budget-budget.result c.units-left.ensures c.tables_budget-budget.ensures,
)

pub push_unit-requires-clause-same : goal.push_unit-requires-clause-same
push_unit-requires-clause-same c =
    growing_same c.args.sections.now.info.now c.args.sections.now.abbrev.now c.list.growing c.list.left c.next_unit.new.self (plain_unit c.in-Ok-Some.unit)
    (unit_front _ _ c.in-Ok-Some.field-0 c.in-Ok-Some.unit c.in-Ok-Some.ensures.next c.in-Ok-Some.field-0-is) c.list.invariant.0

pub push_unit-requires-clause-told : goal.push_unit-requires-clause-told
push_unit-requires-clause-told c =
    growing_told c.args.sections.now.info.now c.args.sections.now.abbrev.now c.list.growing c.list.left c.next_unit.new.self (plain_unit c.in-Ok-Some.unit)
    (unit_front _ _ c.in-Ok-Some.field-0 c.in-Ok-Some.unit c.in-Ok-Some.ensures.next c.in-Ok-Some.field-0-is) c.list.invariant.0

pub push_unit-requires-clause-few : goal.push_unit-requires-clause-few
push_unit-requires-clause-few c =
    growing_few c.args.sections.now.info.now c.args.sections.now.abbrev.now c.list.growing c.list.left c.next_unit.new.self (plain_unit c.in-Ok-Some.unit)
    (unit_front _ _ c.in-Ok-Some.field-0 c.in-Ok-Some.unit c.in-Ok-Some.ensures.next c.in-Ok-Some.field-0-is) c.list.invariant.0
    (c.a_section_is_in_order.ensures.few c.args.sections.now.info.now c.args.sections.now.abbrev.now) (omega (arith, c.args.sections.now.info_small))

pub list-preserved : goal.list-preserved
list-preserved c =
    let front = unit_front _ _ c.in-Ok-Some.field-0 c.in-Ok-Some.unit c.in-Ok-Some.ensures.next c.in-Ok-Some.field-0-is in (
      growing_more c.args.sections.now.info.now c.args.sections.now.abbrev.now c.list.growing c.list.left c.next_unit.new.self (plain_unit c.in-Ok-Some.unit)
          front c.list.invariant.0 c.push_unit.new.growing c.in-Ok.ensures.grown c.in-Ok.ensures.judged,
      units_more c.args.sections.now.info.now c.args.sections.now.abbrev.now c.list.left c.next_unit.new.self c.list.budget c.next_unit.new.budget (plain_unit c.in-Ok-Some.unit)
          c.list.invariant.1 front (unit_taken c.list.budget c.next_unit.new.budget c.in-Ok-Some.field-0 c.in-Ok-Some.unit c.in-Ok-Some.ensures.taken c.in-Ok-Some.field-0-is) c.in-Ok.ensures.within,
    )

pub returns-in-Err-clause-past : goal.returns-in-Err-clause-past
returns-in-Err-clause-past c = units_past c.args.sections.now.info.now c.args.sections.now.abbrev.now c.list.left c.list.budget c.in-Err.refused c.list.invariant.1 c.in-Err.ensures.past

pub returns-in-Err-push_unit-clause-past : goal.returns-in-Err-push_unit-clause-past
returns-in-Err-push_unit-clause-past c =
    entries_past c.args.sections.now.info.now c.args.sections.now.abbrev.now c.list.left c.next_unit.new.self c.list.budget (plain_unit c.in-Ok-Some.unit) c.in-Err-push_unit.refused c.list.invariant.1
    (unit_front _ _ c.in-Ok-Some.field-0 c.in-Ok-Some.unit c.in-Ok-Some.ensures.next c.in-Ok-Some.field-0-is) c.in-Err-push_unit.ensures.past

pub returns-in-Ok-None-clause-within : goal.returns-in-Ok-None-clause-within
returns-in-Ok-None-clause-within c =
    units_end c.args.sections.now.info.now c.args.sections.now.abbrev.now c.list.left c.list.budget None c.list.invariant.1
    (no_unit_left c.list.left c.next_unit.new.self c.in-Ok-None.field-0 c.in-Ok-None.ensures.next c.in-Ok-None.field-0-is)
