-- Ascending lists with the same members are one.
use Rattle.pair_compare.proofs.reports_lemmas.BelowLaws.{PathLaws}
use Rattle.pair_compare.proofs.reports_lemmas.OneReport.{AlikeLaws, one_report}
use Rattle.pair_compare.proofs.reports.laws.a_right_report_is_one.Goals as goal

pub returns : goal.returns
returns c =
    let paths : PathLaws = record {
      transitive = c.paths_are_ordered.ensures.transitive;
      not_after = c.paths_are_ordered.ensures.not_after;
      irreflexive = c.paths_are_ordered.ensures.irreflexive;
      nodes = c.paths_lead_to_nodes.ensures.nodes;
    } in
    let laws : AlikeLaws = record {
      symmetric = c.alike_is_an_equivalence.ensures.symmetric;
      transitive = c.alike_is_an_equivalence.ensures.transitive;
      old = c.alike_nodes_break_the_same_rules.ensures.old;
      new = c.alike_nodes_break_the_same_rules.ensures.new;
    } in
    λ s first other old new a b. one_report paths laws s old new first other a b
