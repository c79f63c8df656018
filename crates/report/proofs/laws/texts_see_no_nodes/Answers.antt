-- What the law of parts says carries over to their texts.
use Rattle.report.proofs.SeenLemmas.{type_detail-seen, step_text-seen}
use Rattle.report.proofs.laws.texts_see_no_nodes.Goals as goal

pub returns-clause-details : goal.returns-clause-details
returns-clause-details c =
    type_detail-seen (record {
      parts = c.parts_see_no_nodes.ensures.parts;
      numbers = c.parts_see_no_nodes.ensures.numbers;
      matches = c.parts_see_no_nodes.ensures.matches;
      bits = c.parts_see_no_nodes.ensures.bits;
      widths = c.parts_see_no_nodes.ensures.widths;
      values = c.parts_see_no_nodes.ensures.values;
      params = c.parts_see_no_nodes.ensures.params;
    })

pub returns-clause-steps : goal.returns-clause-steps
returns-clause-steps c =
    step_text-seen (record {
      parts = c.parts_see_no_nodes.ensures.parts;
      numbers = c.parts_see_no_nodes.ensures.numbers;
      matches = c.parts_see_no_nodes.ensures.matches;
      bits = c.parts_see_no_nodes.ensures.bits;
      widths = c.parts_see_no_nodes.ensures.widths;
      values = c.parts_see_no_nodes.ensures.values;
      params = c.parts_see_no_nodes.ensures.params;
    })
