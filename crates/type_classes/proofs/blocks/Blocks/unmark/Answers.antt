-- All numbers of the class have the same mark.
use Rattle.std.proofs.Common.{refl}
use Rattle.type_classes.proofs.BlockSplits.{unmarking-split}
use Rattle.type_classes.proofs.blocks.Blocks.unmark.Goals as goal

pub returns : goal.returns
returns c = unmarking-split c.args.self.now _ c.args.class c.index_mut-block.result.now (record {
  before = c.requires.blocks;
  inside = c.requires.inside;
  whole = c.requires.whole;
  read = c.index_mut-block.ensures.value;
  order = refl;
  place = refl;
  class = refl;
  touched = refl;
  blocks = refl;
})
