-- All conditions hold.
use Rattle.pair_compare.proofs.certificates_lemmas.Accepting.{all_kept}
use Rattle.pair_compare.proofs.certificates.laws.the_certificate_of_the_compatible_is_accepted.Goals as goal

pub returns : goal.returns
returns c =
    λ s cert libraries marks compatible is. (c.what_is_accepted_keeps_all.ensures (record { sides = s; cert = cert })).1
    (all_kept
    (record { reflexive = c.alike_is_an_equivalence.ensures.reflexive; symmetric = c.alike_is_an_equivalence.ensures.symmetric; transitive = c.alike_is_an_equivalence.ensures.transitive; looks = c.alike_nodes_look_the_same.ensures })
    (record { found = c.lines_are_found_where_they_stand.ensures.found; missing = c.lines_are_found_where_they_stand.ensures.missing; pairs = c.lines_are_found_where_they_stand.ensures.pairs })
    c.lines_stand_in_the_order_of_their_numbers.ensures
    (record {
      steps = c.steps_lead_to_nodes.ensures.exact;
      step_inside = c.steps_lead_to_nodes.ensures.inside;
      partners = c.partners_name_nodes.ensures.partners;
      nodes = c.paths_lead_to_nodes.ensures.nodes;
      held = c.closed_relations_hold_what_is_reachable.ensures;
      parts = c.parts_see_no_nodes.ensures.parts;
      old = c.alike_nodes_break_the_same_rules.ensures.old;
      new = c.alike_nodes_break_the_same_rules.ensures.new;
      old_partners = c.alike_nodes_break_the_same_rules.ensures.old_partners;
      new_partners = c.alike_nodes_break_the_same_rules.ensures.new_partners;
    })
    (record { exact = c.roots_are_typed_pairs.ensures.exact; nodes = c.roots_are_typed_pairs.ensures.nodes })
    s cert libraries marks compatible is)
