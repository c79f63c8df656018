-- The class is split in two.
use Rattle.std.proofs.Common.{ap, ◌∙◌}
use Rattle.type_classes.proofs.BlockCuts.{cutting_by, cutting-split}
use Rattle.type_classes.proofs.blocks.Blocks.cut.Goals as goal

pub returns-clause-split : goal.returns-clause-split
returns-clause-split c =
    cutting-split c.args.self.now c.put_into.new.self c.args.class c.halves.result.0 c.halves.result.1
    (cutting_by c.args.self.now c.put_into.new.self c.args.class c.len-number.result c.index.result.now c.halves.result.0 c.halves.result.1 c.push.new.self.items
    c.requires.blocks c.requires.inside c.requires.parted (c.len-number.ensures ∙ c.args.self.now.blocks.ok.0) c.index.ensures c.halves.ensures c.put_into.ensures.order c.put_into.ensures.place c.put_into.ensures.touched
    c.in_ok-push.ensures.items (ap (λ v. v.items) c.put_into.ensures.blocks) c.put_into.ensures.len c.put_into.ensures.classes)
