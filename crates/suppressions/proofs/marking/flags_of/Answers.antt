use Rattle.suppressions.proofs.FlagLemmas.{one_block_more}
use Rattle.suppressions.proofs.marking.flags_of.Goals as goal

pub parts-preserved : goal.parts-preserved
parts-preserved c = (
  c.block_end-end-in-parts.ensures.inside,
  one_block_more c.args.asking c.args.sections.now c.parts.end c.block_end-end-in-parts.result c.args.old.now c.parts.flags c.in_ok-more.more c.either_flags-flags.result
      c.block_end-end-in-parts.ensures.rises c.parts.invariant.1 c.in_ok-more.ensures.is c.either_flags-flags.ensures,
)
