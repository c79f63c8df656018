use Rattle.std.proofs.Common.{◌+◌, length, take, Some}
use Rattle.std.specs.Prelude.{sum_by}
use Rattle.type_reach.specs.Facts.{facts_of}
use Rattle.type_graph.specs.Spending.{Takes}
use Rattle.type_graph.proofs.LetterLemmas.{letters_given}
use Rattle.type_graph.proofs.MemberLemmas.{read_for}
use Rattle.type_graph.proofs.counts.+take_members.Given as goal

abbrev pub invariant-members : goal.invariant-members
invariant-members l = record {
  parts : Takes l.fn.budget l.budget (length l.members + sum_by (read_for l.types.dwarf.now) (take l.k l.members));
  letters : Takes l.fn.letters l.letters (0 + sum_by (letters_given l.types.dwarf.now) (take l.k l.members));
}

abbrev pub decreases-take_members : goal.decreases-take_members
decreases-take_members l = (facts_of l.types.now.dwarf.now (Some l.c)).rank
