use Rattle.std.proofs.Common.{◌∙◌, ap}
use Rattle.library_layout.proofs.LayoutLemmas.{same_text}
use Rattle.library_layout.proofs.layouts.text_at.Goals as goal

pub returns-clause-laid : goal.returns-clause-laid
returns-clause-laid g c = record {
  number = g.Ix.Index.number_of c.args.ix;
  tagged = c.requires;
  rows = c.in_ok-rows.rows.items;
  laid = c.in_ok-rows.ensures.rows;
  is = ap (λ v. v.items) c.into_bytes.ensures.value ∙ c.in_ok-text.ensures.text ∙ same_text _ _ _ _ c.view.ensures c.as_slice.ensures.value;
}
