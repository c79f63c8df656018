use Rattle.elf_needs.specs.Plain.{needed}
use Rattle.app_check.proofs.ImportsRead.{fault_here, fault_later}
use Rattle.app_check.proofs.reading.import_fault.Goals as goal

pub returns-in-Some : goal.returns-in-Some
returns-in-Some c =
    fault_here (needed c.args.needs.now) c.args.indexes.now c.args.symbols.now c.loop-symbol.symbol-index _ c.in-Some.fault c.loop-symbol-test.true c.in-Some.ensures c.loop-symbol.invariant

pub loop-symbol-preserved : goal.loop-symbol-preserved
loop-symbol-preserved c =
    fault_later (needed c.args.needs.now) c.args.indexes.now c.args.symbols.now c.loop-symbol.symbol-index _ c.loop-symbol-test.true c.in_default.ensures c.loop-symbol.invariant
