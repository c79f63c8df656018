-- One class after the other is split.
use Rattle.std.proofs.Common.{◌≡◌, length, arith}
use Rattle.type_classes.proofs.BlockLemmas.{unlisted}
use Rattle.type_classes.proofs.BlockSplits.{KeepsTogether-same, popped_inside, IsSplitting-more}
use Rattle.type_classes.proofs.blocks.Blocks.split.Goals as goal

pub touched-init : goal.touched-init
touched-init c = record { blocks = c.requires.blocks; listed = c.requires.listed; keeps = KeepsTogether-same c.args.self.now }

pub split_class-requires-clause-inside : goal.split_class-requires-clause-inside
split_class-requires-clause-inside c = popped_inside c.touched.self c.pop.new.self.items c.in-Some.class c.touched.invariant.listed c.in-Some.ensures.items

pub touched-preserved : goal.touched-preserved
touched-preserved c = IsSplitting-more c.args.self.now c.touched.self c.split_class.new.self c.pop.new.self c.in-Some.class c.touched.invariant c.in-Some.ensures.items c.in_ok-split_class.ensures.split

pub returns-clause-unmarked : goal.returns-clause-unmarked
returns-clause-unmarked c =
    let none : length c.touched.self.touched.items ≡ 0 = omega (arith, c.in_default.ensures.cases.0, c.touched.self.touched.ok.0) in
    unlisted c.touched.self c.touched.invariant.blocks none c.touched.invariant.listed
