-- The places of a class are its numbers.
use Rattle.std.proofs.Common.{ap, take, drop, ◌-◌, List, ℕ}
use Rattle.type_classes.proofs.BlockLemmas.{class_members}
use Rattle.type_classes.proofs.blocks.Blocks.members.Goals as goal

pub returns-clause-all : goal.returns-clause-all
returns-clause-all c =
    let k = c.index-block.result.now in
    class_members c.args.self.now c.args.class k (take (k.end - k.first) (drop k.first c.as_slice.result.now)) c.requires.blocks c.requires.inside c.index-block.ensures
    (ap (λ (xs : List ℕ). take (k.end - k.first) (drop k.first xs)) c.as_slice.ensures.value)
