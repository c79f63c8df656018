use Rattle.std.proofs.Common.{◌≡◌}
use Rattle.explain.specs.Programs.{flags_entry}
use Rattle.explain.proofs.ProgramLemmas.{flags_from}
use Rattle.explain.proofs.programs.flags_entry_in.Given as goal

abbrev pub invariant-loop-number : goal.invariant-loop-number
invariant-loop-number l = flags_from l.table l.number l.number-end ≡ flags_entry l.table
