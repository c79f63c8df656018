use Rattle.std.proofs.Common.{◌≡◌}
use Rattle.std.specs.Prelude.{find}
use Rattle.explain.specs.Programs.{is_of_type, header_with, headers_in}
use Rattle.explain.proofs.ProgramLemmas.{first_given}
use Rattle.explain.proofs.programs.segment_among.Given as goal

abbrev pub invariant-loop-index : goal.invariant-loop-index
invariant-loop-index l =
    first_given (header_with l.bytes l.table) (is_of_type l.wanted) l.index l.count
    ≡ find (is_of_type l.wanted) (headers_in l.bytes l.table l.count)
