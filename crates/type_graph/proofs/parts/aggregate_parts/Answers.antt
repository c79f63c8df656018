use Rattle.std.proofs.Common.{arith, sym, ap, subst, ◌∙◌, map, Some}
use Rattle.std.specs.Prelude.{All, false, ◌≡◌}
use Rattle.type_reach.specs.Placement.{is_out_of_range}
use Rattle.type_reach.specs.Views.{member_part}
use Rattle.type_reach.specs.Flat.{flat_of}
use Rattle.type_reach.specs.PeeledCores.{IsFound}
use Rattle.type_graph.specs.declared.flatten.Placed.{Placed}
use Rattle.type_graph.specs.Nodes.{number_in}
use Rattle.type_graph.specs.Placed.{plain_members}
use Rattle.type_graph.proofs.NodeLemmas.{put-whole, near-each, there-each}
use Rattle.type_graph.proofs.parts.aggregate_parts.Goals as goal

pub push_flat-requires-clause-low : goal.push_flat-requires-clause-low
push_flat-requires-clause-low g c =
    let ranks = (c.laws_of_types.ensures c.args.types.now.dwarf.now).ranks (Some c.args.c) (c.requires.summaries.shallow c.args.c c.requires.there) in
    omega (arith, ranks, c.outermost.ensures.depth)

pub member_parts-requires-clause-near : goal.member_parts-requires-clause-near
member_parts-requires-clause-near g c =
    let flats = flat_of c.args.types.now.dwarf.now (Some c.args.c) in
    let is = put-whole c.push_flat.new.out.items c.new-members.result.items flats c.outermost.result.bit c.new-members.ensures.items c.outermost.ensures.bit c.in_ok-push_flat.ensures.members in
    subst (All (λ (m : Placed). is_out_of_range m.bit ≡ false)) (sym c.as_slice.ensures.value) (near-each c.push_flat.new.out.items flats is c.requires.near)

pub member_parts-requires-clause-there : goal.member_parts-requires-clause-there
member_parts-requires-clause-there g c =
    let d = c.args.types.now.dwarf.now in
    let found = c.args.types.now.found.now in
    let flats = flat_of d (Some c.args.c) in
    let is = put-whole c.push_flat.new.out.items c.new-members.result.items flats c.outermost.result.bit c.new-members.ensures.items c.outermost.ensures.bit c.in_ok-push_flat.ensures.members in
    subst (All (λ (m : Placed). IsFound found m.to)) (sym c.as_slice.ensures.value)
    (there-each found c.push_flat.new.out.items flats is (λ x h. ((c.laws_of_types.ensures d).lower found c.requires.closed (Some c.args.c) (c.requires.summaries.shallow c.args.c c.requires.there) c.requires.there x h).there))

pub returns-clause-parts : goal.returns-clause-parts
returns-clause-parts g c =
    let d = c.args.types.now.dwarf.now in
    let is = put-whole c.push_flat.new.out.items c.new-members.result.items (flat_of d (Some c.args.c)) c.outermost.result.bit c.new-members.ensures.items c.outermost.ensures.bit c.in_ok-push_flat.ensures.members in
    c.in_ok-parts.ensures.parts ∙ ap (λ xs. map (member_part (number_in c.args.types.now.found.now)) (plain_members xs)) c.as_slice.ensures.value ∙ ap (map (member_part (number_in c.args.types.now.found.now))) is
