use Rattle.std.proofs.Common.{◌∙◌, ap}
use Rattle.explain.proofs.LineLemmas.{said_line}
use Rattle.explain.specs.Lines.{is_one_line}
use Rattle.explain.proofs.lines.said.Goals as goal

pub returns-clause-line : goal.returns-clause-line
returns-clause-line c = ap is_one_line c.in_ok-text.ensures ∙ said_line c.args.path.now c.args.words.now
