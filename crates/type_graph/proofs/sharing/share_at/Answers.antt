-- The core's node is whole, and so is then the node of the entry.
use Rattle.std.proofs.Common.{◌≡◌, Some, sym, ◌∙◌, ap, subst, arith}
use Rattle.std.proofs.lemmas.Option.{slice_get_within}
use Rattle.abi_base.proofs.lemmas.Lists.{contains_at}
use Rattle.type_reach.specs.declared.summaries.Summary.{Summary}
use Rattle.type_reach.specs.Flat.{core_of}
use Rattle.type_reach.specs.PeeledCores.{IsFound}
use Rattle.type_graph.proofs.SharingLemmas.{one-shared}
use Rattle.type_graph.proofs.sharing.share_at.Goals as goal

pub number_of-core-requires : goal.number_of-core-requires
number_of-core-requires g c =
    let d = c.args.types.now.dwarf.now in
    let found = c.args.types.now.found.now in
    let laws = c.laws_of_types.ensures d in
    let there = contains_at found c.args.number c.at-e.result c.at-e.ensures in
    let is : core_of d (Some c.at-e.result) ≡ Some c.in-Some.c = ap (λ (x : Summary). x.core) (sym c.summary_by_number-own.ensures) ∙ c.in-Some.is in
    subst (IsFound found) is (laws.found found (Some c.at-e.result) c.requires.closed (c.requires.summaries.shallow c.at-e.result there) there)

pub share_from-requires-clause-from : goal.share_from-requires-clause-from
share_from-requires-clause-from g c =
    let inside = slice_get_within c.args.types.now.found.now c.number_of-core.result c.in-Some.c c.number_of-core.ensures in
    omega (arith, inside, c.requires.nodes.many)

pub returns-in_ok-share_from-in-Some-clause-nodes : goal.returns-in_ok-share_from-in-Some-clause-nodes
returns-in_ok-share_from-in-Some-clause-nodes g c =
    let d = c.args.types.now.dwarf.now in
    let found = c.args.types.now.found.now in
    let laws = c.laws_of_types.ensures d in
    let there = contains_at found c.args.number c.at-e.result c.at-e.ensures in
    let is : core_of d (Some c.at-e.result) ≡ Some c.in-Some.c = ap (λ (x : Summary). x.core) (sym c.summary_by_number-own.ensures) ∙ c.in-Some.is in
    one-shared d found c.args.number c.args.nodes.now.items c.requires.nodes c.at-e.result c.at-e.ensures c.number_of-core.result c.in-Some.c c.share_from.new.nodes.items laws (c.requires.summaries.shallow c.at-e.result there) is c.number_of-core.ensures c.in_ok-share_from-in-Some.ensures.nodes
