-- The lines of visits are those of reachable triples.
use Rattle.pair_compare.proofs.certificates_lemmas.VisitLemmas.{VisitLaws, visits_are}
use Rattle.pair_compare.proofs.certificates.pairs.visits_are_pair_lines.Goals as goal

pub returns : goal.returns
returns c =
    let laws : VisitLaws = record {
      classes = record { stands = c.classes_stand_by_their_least_entries.ensures.stands; alone = c.classes_stand_by_their_least_entries.ensures.alone };
      reached = c.what_is_visited_is_reachable.ensures.exact;
      visited = c.what_is_visited_has_a_visit.ensures;
      nodes = c.paths_lead_to_nodes.ensures.nodes;
    } in
    λ s old new visits lines are unbroken. visits_are laws s old new visits are unbroken lines
