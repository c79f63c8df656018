use Rattle.std.proofs.Common.{◌∙◌, sym, ◌<◌, length, arith}
use Rattle.abi_base.proofs.lemmas.Outcomes.{first_from-step}
use Rattle.dwarf_entries.specs.Pass.{entry_fault}
use Rattle.dwarf_entries.proofs.pass.own_fault.Goals as goal

pub loop-e-preserved : goal.loop-e-preserved
loop-e-preserved c =
    let lt : c.loop-e.e < length c.args.source.now.tree.entries = omega arith in
    sym (first_from-step (entry_fault c.args.source.now) c.loop-e.e (length c.args.source.now.tree.entries) lt (sym c.in-None.ensures)) ∙ c.loop-e.invariant
