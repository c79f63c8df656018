use Rattle.std.proofs.Common.{sym, subst}
use Rattle.std.specs.Prelude.{All}
use Rattle.type_reach.specs.References.{types_of}
use Rattle.type_reach.proofs.ReferLemmas.{Inside}
use Rattle.type_reach.proofs.LeadLemmas.{row-inside, row-is}
use Rattle.type_reach.proofs.WalkLemmas.{types-inside}
use Rattle.type_reach.proofs.type_references.types_at.Goals as goal

pub row-requires : goal.row-requires
row-requires c = row-inside (types_of c.args.dwarf.now.tree) c.args.found.now c.args.leads.now.types c.args.number c.args.e c.requires.leads.types c.requires.at

pub returns-clause-types : goal.returns-clause-types
returns-clause-types c = row-is (types_of c.args.dwarf.now.tree) c.args.found.now c.args.leads.now.types c.args.number c.args.e c.row.result.now c.requires.leads.types c.requires.at c.row.ensures

pub returns-clause-inside : goal.returns-clause-inside
returns-clause-inside c =
    let t = c.args.dwarf.now.tree in
    let is = row-is (types_of t) c.args.found.now c.args.leads.now.types c.args.number c.args.e c.row.result.now c.requires.leads.types c.requires.at c.row.ensures in
    subst (All (Inside t)) (sym is) (types-inside t c.args.e)
