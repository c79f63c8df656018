use Rattle.std.proofs.Common.{None, arith}
use Rattle.dwarf_units.specs.Plain.{plain_unit}
use Rattle.dwarf_tree.proofs.ReadFrom.{entry_front, reading_start, reading_offset, reading_specs, reading_names, reading_few, reading_values, reading_more}
use Rattle.dwarf_units.specs.Limits.{attribute_cost}
use Rattle.dwarf_units.proofs.lemmas.Limits.{attributes_start, attributes_more, attributes_past, attributes_end, none_left, taken_next}
use Rattle.dwarf_tree.proofs.reading.push_entries.Goals as goal

pub list-init : goal.list-init
list-init c = (
  reading_start c.args.growing.now c.args.number c.entries-left.result (plain_unit c.args.unit.now) c.entries-left.ensures c.requires.told,
  attributes_start (plain_unit c.args.unit.now) c.entries-left.result c.attributes_budget-budget.result c.entries-left.ensures c.attributes_budget-budget.ensures,
)

pub push_entry-requires-clause-offset : goal.push_entry-requires-clause-offset
push_entry-requires-clause-offset c =
    reading_offset c.args.growing.now c.list.growing c.args.number (plain_unit c.args.unit.now) c.list.left c.next_outline.new.self c.in-Ok-Some.entry
    (entry_front _ _ c.in-Ok-Some.field-0 c.in-Ok-Some.entry c.in-Ok-Some.ensures.next c.in-Ok-Some.field-0-is) c.list.invariant.0 (omega (arith, c.args.unit.now.inside, c.args.unit.now.small))

pub push_entry-requires-clause-specs : goal.push_entry-requires-clause-specs
push_entry-requires-clause-specs c =
    reading_specs c.args.growing.now c.list.growing c.args.number (plain_unit c.args.unit.now) c.list.left c.next_outline.new.self c.in-Ok-Some.entry
    (entry_front _ _ c.in-Ok-Some.field-0 c.in-Ok-Some.entry c.in-Ok-Some.ensures.next c.in-Ok-Some.field-0-is) c.list.invariant.0 c.requires.small

pub push_entry-requires-clause-values : goal.push_entry-requires-clause-values
push_entry-requires-clause-values c =
    reading_values c.args.growing.now c.list.growing c.args.number (plain_unit c.args.unit.now) c.list.left c.next_outline.new.self c.in-Ok-Some.entry
    (entry_front _ _ c.in-Ok-Some.field-0 c.in-Ok-Some.entry c.in-Ok-Some.ensures.next c.in-Ok-Some.field-0-is) c.list.invariant.0 c.requires.same c.requires.head

pub push_entry-requires-clause-names : goal.push_entry-requires-clause-names
push_entry-requires-clause-names c =
    reading_names c.args.growing.now c.list.growing c.args.number (plain_unit c.args.unit.now) c.list.left c.next_outline.new.self c.in-Ok-Some.entry
    (entry_front _ _ c.in-Ok-Some.field-0 c.in-Ok-Some.entry c.in-Ok-Some.ensures.next c.in-Ok-Some.field-0-is) c.list.invariant.0

pub push_entry-requires-clause-few : goal.push_entry-requires-clause-few
push_entry-requires-clause-few c =
    reading_few c.args.growing.now c.list.growing c.args.number (plain_unit c.args.unit.now) c.list.left c.next_outline.new.self c.in-Ok-Some.entry
    (entry_front _ _ c.in-Ok-Some.field-0 c.in-Ok-Some.entry c.in-Ok-Some.ensures.next c.in-Ok-Some.field-0-is) c.list.invariant.0 c.requires.few

pub list-preserved : goal.list-preserved
list-preserved c =
    let front = entry_front _ _ c.in-Ok-Some.field-0 c.in-Ok-Some.entry c.in-Ok-Some.ensures.next c.in-Ok-Some.field-0-is in (
      reading_more c.args.growing.now c.list.growing c.args.number (plain_unit c.args.unit.now) c.list.left c.next_outline.new.self c.in-Ok-Some.entry
          front c.list.invariant.0 c.push_entry.new.self c.in_ok-push_entry-in-Ok-Some.ensures.pushed,
      attributes_more (plain_unit c.args.unit.now) c.list.left c.next_outline.new.self c.list.budget c.next_outline.new.budget c.in-Ok-Some.entry
          c.list.invariant.1 front (taken_next attribute_cost c.list.budget c.next_outline.new.budget c.in-Ok-Some.field-0 c.in-Ok-Some.entry c.in-Ok-Some.ensures.taken c.in-Ok-Some.field-0-is),
    )

pub returns-in-Err-clause-past : goal.returns-in-Err-clause-past
returns-in-Err-clause-past c =
    attributes_past (plain_unit c.args.unit.now) c.list.left c.list.budget c.in-Err.refused c.list.invariant.1 c.in-Err.ensures.past

pub returns-in-Ok-None-clause-within : goal.returns-in-Ok-None-clause-within
returns-in-Ok-None-clause-within c =
    attributes_end (plain_unit c.args.unit.now) c.list.left c.list.budget None c.list.invariant.1
    (none_left c.list.left c.next_outline.new.self c.in-Ok-None.field-0 c.in-Ok-None.ensures.next c.in-Ok-None.field-0-is)
