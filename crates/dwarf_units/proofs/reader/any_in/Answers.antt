use Rattle.dwarf_units.specs.Plain.{plain_unit}
use Rattle.dwarf_units.proofs.EntriesLeft.{given_next, given_token, refused_next}
use Rattle.dwarf_units.proofs.reader.any_in.Goals as goal

pub returns-in-Ok-Given : goal.returns-in-Ok-Given
returns-in-Ok-Given c =
    let u = plain_unit c.args.unit.now in
    let here = given_token u (c.closing.at, c.closing.lists) c.in-Ok-Given.field-0 c.in-Ok-Given.entry c.in-Ok-Given.after c.in-Ok-Given.opened c.in-Ok-Given.ensures c.in-Ok-Given.field-0-is in
    given_next c.reading_moves_on_inside_the_unit.ensures.after u (c.closing.at, c.closing.lists) _ c.args.met c.in-Ok-Given.entry c.in-Ok-Given.after c.in-Ok-Given.opened c.closing.invariant here

pub returns-in-Err : goal.returns-in-Err
returns-in-Err c =
    refused_next (plain_unit c.args.unit.now) (c.closing.at, c.closing.lists) _ c.args.met c.in-Err.refused c.closing.invariant c.in-Err.ensures
