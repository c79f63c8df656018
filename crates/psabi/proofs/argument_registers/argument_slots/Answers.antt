-- Eightbyte by eightbyte.
use Rattle.std.proofs.Common.{arith, length-set}
use Rattle.std.proofs.lemmas.List.FromFn.{fill_by_all}
use Rattle.abi_types.specs.declared.place.Slot.TheVariants as slot
use Rattle.psabi.specs.Arguments.{argument_slot, argument_slots}
use Rattle.psabi.proofs.CallLemmas.{fill-more}
use Rattle.psabi.proofs.argument_registers.argument_slots.Goals as goal

pub loop-k-preserved : goal.loop-k-preserved
loop-k-preserved c =
    let many = c.loop-k.invariant.many in
    record {
      many = simp length-set many;
      below = fill-more (argument_slot c.args.taken c.args.classes.now) c.loop-k.slots c.loop-k.k c.argument_slot.result slot.Unused (omega arith) c.argument_slot.ensures c.loop-k.invariant.below;
    }

pub returns : goal.returns
unfolding argument_slots
returns c = fill_by_all (argument_slot c.args.taken c.args.classes.now) c.loop-k.slots 8 slot.Unused c.loop-k.invariant.many (λ k lt. c.loop-k.invariant.below k (omega arith))
