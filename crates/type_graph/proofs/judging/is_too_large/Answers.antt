use Rattle.std.proofs.Common.{◌∙◌}
use Rattle.type_graph.proofs.JudgeLemmas.{too-large-is}
use Rattle.type_graph.proofs.judging.is_too_large.Goals as goal

pub returns : goal.returns
returns c = c.are_too_large.ensures ∙ too-large-is c.args.dwarf.now (c.laws_of_types.ensures c.args.dwarf.now) c.args.e c.args.facts.now c.requires.shallow c.requires.facts
