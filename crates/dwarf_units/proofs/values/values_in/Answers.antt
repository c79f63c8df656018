use Rattle.std.proofs.Common.{sym}
use Rattle.dwarf_units.specs.Plain.{plain_unit}
use Rattle.dwarf_units.proofs.ValuesLoop.{values_more, values_fault}
use Rattle.dwarf_units.proofs.values.values_in.Goals as goal

pub returns-in-Err-clause-read : goal.returns-in-Err-clause-read
returns-in-Err-clause-read c =
    values_fault (plain_unit c.args.unit.now) c.args.entry c.args.specs.now c.loop-spec.spec-index _ c.loop-spec.place c.in-Err.fault c.loop-spec.attributes _
    c.loop-spec-test.true (sym c.in-Err.ensures) c.loop-spec.invariant

pub loop-spec-preserved : goal.loop-spec-preserved
loop-spec-preserved c =
    rw c.in_ok-push-in-Ok.ensures.ok
    (values_more (plain_unit c.args.unit.now) c.args.entry c.args.specs.now c.loop-spec.spec-index _ c.loop-spec.place c.in-Ok.found c.in-Ok.after c.loop-spec.attributes _
    c.loop-spec-test.true (sym c.in-Ok.ensures) c.loop-spec.invariant)
