-- Right findings give right rows.
use Rattle.pair_compare.proofs.reports_lemmas.BelowLaws.{PathLaws, ExplorationLaws, TextLaws}
use Rattle.pair_compare.proofs.reports_lemmas.RowLemmas.{told_right}
use Rattle.pair_compare.proofs.reports.laws.told_rows_are_right.Goals as goal

pub returns : goal.returns
returns c =
    let paths : PathLaws = record {
      transitive = c.paths_are_ordered.ensures.transitive;
      not_after = c.paths_are_ordered.ensures.not_after;
      irreflexive = c.paths_are_ordered.ensures.irreflexive;
      nodes = c.paths_lead_to_nodes.ensures.nodes;
    } in
    let below : ExplorationLaws = record {
      sound = c.breaks_by_representatives.ensures.sound;
      complete = c.breaks_by_representatives.ensures.complete;
      breaks = c.breaks_by_representatives.ensures.breaks;
      ordered = c.breaks_are_told_in_order.ensures;
      along = c.parents_spell_paths.ensures.along;
      one = c.parents_spell_paths.ensures.one;
    } in
    let texts : TextLaws = record { places = c.rules_have_places_of_their_own.ensures; details = c.texts_see_no_nodes.ensures.details } in
    λ s visits broken explored. told_right paths below texts s visits broken explored
