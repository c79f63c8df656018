use Rattle.std.proofs.Common.{◌<◌, ◌^◌, Some, None, sym, arith, ◌∙◌}
use Rattle.abi_types.specs.Limits.{symbol_limit}
use Rattle.abi_types.specs.Plain.{plain_export}
use Rattle.pair_compare.specs.BoundPair.{sides_of}
use Rattle.pair_compare.proofs.Reading.{root_dropped, root_read, position_below}
use Rattle.pair_compare.proofs.typed.root_at.Goals as goal

pub overflow_cast-k : goal.overflow_cast-k
unfolding symbol_limit
overflow_cast-k c =
    let below : c.args.k < 2 ^ 32 = position_below c.args.ground.now.old.now.exports c.args.k (plain_export c.export_at-old.result.now) c.known.ensures.numbered c.export_at-old.ensures in
    omega arith

pub returns-then-is_dropped : goal.returns-then-is_dropped
returns-then-is_dropped c = sym (root_dropped (sides_of c.args.ground.now) c.args.k (sym c.is_dropped.ensures ∙ c.if-is_dropped.true))

pub returns-in-None : goal.returns-in-None
returns-in-None c =
    sym (root_read (sides_of c.args.ground.now) c.args.ground.now.bound.now c.args.k (plain_export c.export_at-old.result.now) None c.requires.bound.is c.export_at-old.ensures (sym c.is_dropped.ensures ∙ c.if-is_dropped.false) c.in-None.ensures)

pub returns-in-Some : goal.returns-in-Some
returns-in-Some c =
    c.root_between.ensures
    ∙ sym (root_read (sides_of c.args.ground.now) c.args.ground.now.bound.now c.args.k (plain_export c.export_at-old.result.now) (Some (plain_export c.in-Some.new.now)) c.requires.bound.is c.export_at-old.ensures (sym c.is_dropped.ensures ∙ c.if-is_dropped.false) c.in-Some.ensures)
