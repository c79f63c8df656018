use Rattle.std.proofs.Common.{◌∙◌, sym}
use Rattle.elf_bind.proofs.Standing.{duplicate_here, none_here}
use Rattle.elf_bind.proofs.duplicates.duplicate_fault.Goals as goal

pub returns-then-branch : goal.returns-then-branch
returns-then-branch c =
    rw c.from.ensures
    (duplicate_here c.args.exports.now c.loop-export.export-index _ c.loop-export-test.true c.loop-export.unversioned c.loop-export.versioned c.loop-export.invariant
    (sym c.if-branch.true ∙ c.in_ok-stood_before.ensures.says _ c.loop-export.invariant.stood))

pub loop-export-preserved : goal.loop-export-preserved
loop-export-preserved c =
    none_here c.args.exports.now c.loop-export.export-index _ c.loop-export-test.true c.loop-export.unversioned c.stood_before.new.unversioned c.loop-export.versioned c.stood_before.new.versioned
    c.loop-export.invariant (sym c.if-branch.false ∙ c.in_ok-stood_before.ensures.says _ c.loop-export.invariant.stood) (c.in_ok-stood_before.ensures.adds _ c.loop-export.invariant.stood)
