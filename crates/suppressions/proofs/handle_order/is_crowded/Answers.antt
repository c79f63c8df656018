use Rattle.std.proofs.Common.{arith}
use Rattle.suppressions.specs.PlainHandles.{plain_handles}
use Rattle.suppressions.proofs.CrowdLemmas.{crowded_at}
use Rattle.suppressions.proofs.handle_order.is_crowded.Goals as goal

pub returns-then-is_eq : goal.returns-then-is_eq
returns-then-is_eq c = λ yes.
    crowded_at (plain_handles c.args.handles.now) c.args.places.now c.requires c.args.most c.loop-at.at _ c.loop-at.invariant (omega (arith, c.loop-at-test.true)) c.place_order.result c.is_eq.result c.place_order.ensures c.is_eq.ensures c.if-is_eq.true
