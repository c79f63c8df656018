use Rattle.std.proofs.Common.{sym, subst, length, ◌<◌, ℕ}
use Rattle.std.specs.Prelude.{All}
use Rattle.abi_base.proofs.lemmas.Lists.{contains_at}
use Rattle.type_reach.specs.References.{parts_of}
use Rattle.type_reach.proofs.LeadLemmas.{row-inside, row-is}
use Rattle.type_reach.proofs.type_references.parts_at.Goals as goal

pub row-requires : goal.row-requires
row-requires c = row-inside (parts_of c.args.dwarf.now.tree) c.args.found.now c.args.leads.now.parts c.args.number c.args.e c.requires.leads.parts c.requires.at

pub returns-clause-parts : goal.returns-clause-parts
returns-clause-parts c = row-is (parts_of c.args.dwarf.now.tree) c.args.found.now c.args.leads.now.parts c.args.number c.args.e c.row.result.now c.requires.leads.parts c.requires.at c.row.ensures

pub returns-clause-inside : goal.returns-clause-inside
returns-clause-inside c =
    let t = c.args.dwarf.now.tree in
    let is = row-is (parts_of t) c.args.found.now c.args.leads.now.parts c.args.number c.args.e c.row.result.now c.requires.leads.parts c.requires.at c.row.ensures in
    subst (All (λ (x : ℕ). x < length t.entries)) (sym is) (c.requires.leads.inside c.args.e (contains_at c.args.found.now c.args.number c.args.e c.requires.at))
