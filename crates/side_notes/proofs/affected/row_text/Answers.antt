-- The path of a route begins at its export.
use Rattle.std.proofs.Common.{string_bytes, ◌∙◌}
use Rattle.side_notes.proofs.AffectedLemmas.{row_made}
use Rattle.side_notes.proofs.affected.row_text.Goals as goal

pub returns : goal.returns
returns c =
    row_made c.args.library.now c.args.route.now.export c.args.route.now.parts c.as_str.result.now c.as_str-2.result.now (string_bytes c.new-text.result) c.bytes_of.result (c.as_str.ensures.value ∙ c.in_ok-label.ensures.label) (c.as_str-2.ensures.value ∙ c.in_ok-steps.ensures.text)
    c.new-text.ensures.bytes (c.bytes_of.ensures ∙ c.in_ok-push_row_text.ensures)
