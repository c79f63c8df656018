use Rattle.suppressions.proofs.FlagLemmas.{IsJoined}
use Rattle.suppressions.proofs.marking.set_flags.Given as goal

-- the flags so far are joined
abbrev pub invariant-loop-i : goal.invariant-loop-i
invariant-loop-i l = IsJoined l.fn.flags l.other l.i l.flags
