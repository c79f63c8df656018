use Rattle.explain.proofs.CommandLemmas.{NoneBefore}
use Rattle.explain.proofs.wrong.words_behind.Given as goal

abbrev pub invariant-loop-index : goal.invariant-loop-index
invariant-loop-index l = NoneBefore l.index l.command
