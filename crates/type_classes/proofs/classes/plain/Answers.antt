-- The list of all numbers below the count of nodes.
use Rattle.std.proofs.Common.{◌≡◌, ap, refl, arith, ◌∙◌, length}
use Rattle.std.specs.List.{range_with_len}
use Rattle.type_classes.proofs.ClassLemmas.{range_pushed, each_alone, AreSound-alone}
use Rattle.type_classes.proofs.classes.plain.Goals as goal

pub loop-number-preserved : goal.loop-number-preserved
loop-number-preserved g c = range_pushed c.loop-number.number c.loop-number.reps.items c.push.new.self.items c.loop-number.invariant c.in_ok-push.ensures.items

pub invariant_of-result : goal.invariant_of-result
invariant_of-result g c =
    let all : c.loop-number.number ≡ length c.args.graph.now = omega arith in
    AreSound-alone c.args.graph.now (record { nodes = c.args.graph.now; reps = c.loop-number.reps.items }) refl (c.loop-number.invariant ∙ ap (range_with_len 0) all)

pub returns-clause-alone : goal.returns-clause-alone
returns-clause-alone g c = each_alone c.loop-number.number c.loop-number.reps.items c.loop-number.invariant
