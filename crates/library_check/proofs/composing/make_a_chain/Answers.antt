use Rattle.std.proofs.Common.{subst}
use Rattle.abi_types.specs.Graphs.{IsGraph}
use Rattle.library_check.proofs.ChainLemmas.{chained}
use Rattle.library_check.proofs.composing.make_a_chain.Goals as goal

pub returns : goal.returns
returns c =
    chained c.marks_of_nothing_are_alike.ensures c.what_is_accepted_keeps_all.ensures c.args.libraries.now.first c.args.libraries.now.middle_new c.args.libraries.now.last
    c.args.certificates.now.one c.args.certificates.now.other c.known.ensures c.known-2.ensures
    (subst IsGraph c.graph.ensures c.known-3.ensures) (subst IsGraph c.graph-2.ensures c.known-4.ensures) (subst IsGraph c.graph-3.ensures c.known-5.ensures)
    c.known-6.ensures c.known-7.ensures c.requires
