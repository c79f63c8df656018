use Rattle.std.proofs.Common.{◌≡◌, ap, sym, subst, Some}
use Rattle.abi_base.proofs.lemmas.Lists.{contains_at}
use Rattle.type_reach.specs.declared.summaries.Summary.{Summary}
use Rattle.type_reach.specs.Flat.{core_of}
use Rattle.type_reach.specs.PeeledCores.{IsFound}
use Rattle.type_graph.proofs.counts.take_parts.Goals as goal

pub role_of-requires : goal.role_of-requires
role_of-requires c = c.requires.closed.inside c.args.e (contains_at c.args.types.now.found.now c.args.number c.args.e c.requires.at)

pub take_members-requires-clause-there : goal.take_members-requires-clause-there
take_members-requires-clause-there c = contains_at c.args.types.now.found.now c.args.number c.args.e c.requires.at

pub take_params-requires-clause-there : goal.take_params-requires-clause-there
take_params-requires-clause-there c = contains_at c.args.types.now.found.now c.args.number c.args.e c.requires.at

pub take_params-requires-in-Wrapper-clause-there : goal.take_params-requires-in-Wrapper-clause-there
take_params-requires-in-Wrapper-clause-there c =
    let d = c.args.types.now.dwarf.now in
    let found = c.args.types.now.found.now in
    let e = c.args.e in
    let there = contains_at found c.args.number e c.requires.at in
    let is : c.summary_by_number-own.result.core ≡ core_of d (Some e) = ap (λ (x : Summary). x.core) c.summary_by_number-own.ensures in
    subst (IsFound found) (sym is) ((c.laws_of_types.ensures d).found found (Some e) c.requires.closed (c.requires.summaries.shallow e there) there)
