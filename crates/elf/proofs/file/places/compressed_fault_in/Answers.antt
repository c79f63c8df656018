use Rattle.std.proofs.Common.{sym, ◌∙◌}
use Rattle.elf.specs.file.Elf.{compressed_fault}
use Rattle.abi_base.proofs.lemmas.Outcomes.{first_from-step}
use Rattle.elf.proofs.file.places.compressed_fault_in.Goals as goal

pub loop-number-preserved : goal.loop-number-preserved
loop-number-preserved c =
    sym (first_from-step (compressed_fault c.args.bytes.now) c.loop-number.number c.args.sections.count c.loop-number-test.true (sym c.in-None.ensures)) ∙ c.loop-number.invariant
