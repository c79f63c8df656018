use Rattle.std.proofs.Common.{◌∙◌, sym, ap}
use Rattle.type_reach.specs.Facts.{facts_of}
use Rattle.type_reach.specs.Summaries.{summary_of}
use Rattle.type_reach.proofs.FactLemmas.{facts_of-void}
use Rattle.type_reach.proofs.summaries.summary_at.Goals as goal

pub returns-in-None : goal.returns-in-None
returns-in-None c = c.summary_of.ensures ∙ ap summary_of (sym (ap (facts_of c.args.dwarf.now) c.in-None.is ∙ facts_of-void c.args.dwarf.now))
