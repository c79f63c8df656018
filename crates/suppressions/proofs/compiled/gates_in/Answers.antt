use Rattle.std.proofs.Common.{arith}
use Rattle.std.proofs.lemmas.Grind.{common_steps}
use Rattle.std.proofs.lemmas.List.Elements.{filter_map-append}
use Rattle.suppressions.proofs.compiled.gates_in.Goals as goal

pub loop-section-preserved : goal.loop-section-preserved
loop-section-preserved c = grind (arith, common_steps, filter_map-append)
