use Rattle.std.proofs.Common.{sym, ◌∙◌}
use Rattle.elf.specs.file.Elf.{range_fault, table}
use Rattle.abi_base.proofs.lemmas.Outcomes.{first_from-step, none_at, whole_none}
use Rattle.elf.proofs.file.places.range_fault_in.Goals as goal

pub loop-number-preserved : goal.loop-number-preserved
loop-number-preserved c =
    sym (first_from-step (range_fault c.args.bytes.now) c.loop-number.number c.args.sections.count c.loop-number-test.true (sym c.in-None.ensures)) ∙ c.loop-number.invariant

pub returns-clause-ranges : goal.returns-clause-ranges
returns-clause-ranges c = λ i lt. none_at (range_fault c.args.bytes.now) (table c.args.bytes.now).count i (whole_none (range_fault c.args.bytes.now) c.loop-number.number c.args.sections.count _ c.loop-number-test.false c.loop-number.invariant) lt
