use Rattle.std.proofs.Common.{◌≡◌, length, ◌∙◌, ap, arith}
use Rattle.abi_types.specs.Types.{PlainPart}
use Rattle.type_print.specs.Structures.{extent_in}
use Rattle.type_print.proofs.StructureLemmas.{members_more, members_done}
use Rattle.type_print.proofs.structure.members_of.Goals as goal

pub loop-position-preserved : goal.loop-position-preserved
loop-position-preserved g c =
    members_more c.args.graph.now c.args.view.now c.loop-position.position c.loop-position.members.items c.push.new.self.items c.extent_of.result c.loop-position.invariant c.in_ok-push.ensures.items
    (c.extent_of.ensures ∙ ap (λ (p : PlainPart). extent_in c.args.graph.now c.loop-position.position p) c.part.ensures)

pub returns-clause-members : goal.returns-clause-members
returns-clause-members g c =
    let done : c.loop-position.position ≡ length c.args.view.now.parts = omega arith in
    members_done c.args.graph.now c.args.view.now c.loop-position.position c.loop-position.members.items c.loop-position.invariant done
