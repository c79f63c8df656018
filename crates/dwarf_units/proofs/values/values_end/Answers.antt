use Rattle.std.proofs.Common.{sym}
use Rattle.dwarf_units.specs.Plain.{plain_unit}
use Rattle.dwarf_units.proofs.ValuesLoop.{passed_more, passed_fault}
use Rattle.dwarf_units.proofs.values.values_end.Goals.{in-Some, in-None+in-Ok}
use Rattle.dwarf_units.proofs.values.values_end.Goals as goal

pub returns-in-Err : goal.returns-in-Err
returns-in-Err c =
    sym (passed_fault (plain_unit c.args.unit.now) c.args.entry c.args.specs.now c.loop-spec.spec-index _ c.loop-spec.place c.in-Err.fault _
    c.loop-spec-test.true (sym ((rw c.get-in-None.ensures at c.in-Err.ensures.read) _ _)) c.loop-spec.invariant)

pub loop-spec-preserved : goal.loop-spec-preserved
loop-spec-preserved c =
    let u = plain_unit c.args.unit.now in
    elim c.match-fixed_end.branch [
      | in-Some w ↦
          rw w.place-is
          (passed_more u c.args.entry c.args.specs.now c.loop-spec.spec-index _ c.loop-spec.place w.in-Some.after _
          c.loop-spec-test.true ((rw c.get.ensures at w.in-Some.ensures.end) _ _ _ _ c.args.unit.now.inside) c.loop-spec.invariant)
      | in-None+in-Ok w ↦
          rw w.place-is
          (passed_more u c.args.entry c.args.specs.now c.loop-spec.spec-index _ c.loop-spec.place w.in-Ok.after _
          c.loop-spec-test.true (sym ((rw w.get-in-None.ensures at w.in-Ok.ensures.read) _ _)) c.loop-spec.invariant)
    ]
