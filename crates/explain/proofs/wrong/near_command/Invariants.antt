use Rattle.std.proofs.Common.{option_map}
use Rattle.explain.specs.NearCommands.{command_names}
use Rattle.explain.proofs.NearLemmas.{SoFar}
use Rattle.explain.proofs.wrong.near_command.Given as goal

abbrev pub invariant-loop-index : goal.invariant-loop-index
invariant-loop-index l = SoFar l.word command_names l.index l.least (option_map (λ name. name.now) l.found)
