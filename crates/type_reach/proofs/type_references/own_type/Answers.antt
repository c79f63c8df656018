use Rattle.std.proofs.Common.{◌∙◌, get_or, length, ap, arith}
use Rattle.type_reach.proofs.LeadLemmas.{own-first}
use Rattle.type_reach.proofs.type_references.own_type.Goals as goal

pub bounds-types-0 : goal.bounds-types-0
bounds-types-0 c = omega (arith, ap length c.requires.types, ap length (own-first c.args.dwarf.now.tree c.args.e c.requires.own))

pub returns : goal.returns
returns c = c.index-types-0.is ∙ ap (λ xs. get_or xs 0 c.index-types-0.result) (c.requires.types ∙ own-first c.args.dwarf.now.tree c.args.e c.requires.own)
