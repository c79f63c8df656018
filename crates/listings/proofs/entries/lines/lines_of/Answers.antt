use Rattle.std.proofs.Common.{◌≡◌}
use Rattle.abi_base.specs.Runs.{put_front}
use Rattle.dwarf_units.specs.Plain.{plain_unit}
use Rattle.dwarf_units.proofs.lemmas.Limits.{entries_past, unit_taken}
use Rattle.dwarf_units.proofs.lemmas.Limits as limits
use Rattle.listings.proofs.entries_lemmas.Listings.{refused_unit, refused_entries, units_more}
use Rattle.listings.proofs.entries.lines.lines_of.Goals as goal

pub returns-in-Err-clause-judged : goal.returns-in-Err-clause-judged
returns-in-Err-clause-judged c =
    refused_unit c.args.sections.now.info.now c.args.sections.now.abbrev.now _ _ c.list.invariant.0 c.in-Err.refused _ c.in-Err.ensures.next

pub returns-in-Err-push_unit-clause-judged : goal.returns-in-Err-push_unit-clause-judged
returns-in-Err-push_unit-clause-judged c =
    refused_entries c.args.sections.now.info.now c.args.sections.now.abbrev.now _ _ c.list.invariant.0 c.in-Err-push_unit.refused c.in-Ok-Some.field-0 c.in-Ok-Some.unit _
    c.in-Ok-Some.ensures.next c.in-Ok-Some.field-0-is c.in-Err-push_unit.ensures.judged

pub returns-in-Err-push_unit-clause-past : goal.returns-in-Err-push_unit-clause-past
returns-in-Err-push_unit-clause-past c =
    let front : c.list.left ≡ put_front (plain_unit c.in-Ok-Some.unit) c.next_unit.new.self = let here = rw c.in-Ok-Some.field-0-is at c.in-Ok-Some.ensures.next in here in
    entries_past c.args.sections.now.info.now c.args.sections.now.abbrev.now c.list.left c.next_unit.new.self c.list.budget (plain_unit c.in-Ok-Some.unit) c.in-Err-push_unit.refused
    c.list.invariant.1 front c.in-Err-push_unit.ensures.past

pub list-preserved : goal.list-preserved
list-preserved c =
    let front : c.list.left ≡ put_front (plain_unit c.in-Ok-Some.unit) c.next_unit.new.self = let here = rw c.in-Ok-Some.field-0-is at c.in-Ok-Some.ensures.next in here in (
      units_more _ _ (plain_unit c.in-Ok-Some.unit) c.list.left c.next_unit.new.self _ front c.in-Ok.ensures.judged c.in-Ok.ensures.lines c.list.invariant.0,
      limits.units_more c.args.sections.now.info.now c.args.sections.now.abbrev.now c.list.left c.next_unit.new.self c.list.budget c.next_unit.new.budget (plain_unit c.in-Ok-Some.unit)
          c.list.invariant.1 front (unit_taken c.list.budget c.next_unit.new.budget c.in-Ok-Some.field-0 c.in-Ok-Some.unit c.in-Ok-Some.ensures.taken c.in-Ok-Some.field-0-is) c.in-Ok.ensures.within,
    )
