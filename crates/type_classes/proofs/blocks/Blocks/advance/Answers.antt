-- The middle is inside.
use Rattle.std.proofs.Common.{ap, arith}
use Rattle.type_classes.specs.declared.blocks.Block.{Block}
use Rattle.type_classes.proofs.BlockLemmas.{read_block}
use Rattle.type_classes.proofs.blocks.Blocks.advance.Goals as goal

pub overflow_add-block : goal.overflow_add-block
overflow_add-block c =
    let e = ap (λ (b : Block). b.middle) (read_block c.args.self.now.blocks.items c.args.class c.index_mut-block.result.now c.requires.inside c.index_mut-block.ensures.value) in
    omega (arith, e, c.args.self.now.order.small, c.args.self.now.order.ok, c.requires.fits)
