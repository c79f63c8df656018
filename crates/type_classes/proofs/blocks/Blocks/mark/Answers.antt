-- The number changes places with the one at the middle of its class.
use Rattle.std.proofs.Common.{◌≡◌, ap, ◌∙◌, arith}
use Rattle.type_classes.specs.Blocks.{at}
use Rattle.type_classes.proofs.BlockLemmas.{read_number, IsMarked, marked_by, marked_by-blocks, marked_by-marks, marked_by-listed, marked_already, marking_fits, is_before_middle}
use Rattle.type_classes.proofs.blocks.Blocks.mark.Goals as goal

pub advance-requires-clause-fits : goal.advance-requires-clause-fits
advance-requires-clause-fits c =
    let told = c.in_ok-touch.ensures in
    marking_fits c.args.self.now c.touch.new.self c.swap.new.self c.args.number c.index-class.result.now c.index-place.result.now c.index-block.result.now
    c.requires.blocks c.requires.inside c.index-class.ensures c.index-place.ensures c.index-block.ensures c.if-place-block.false told.order told.blocks c.swap.ensures

whole : (c : goal.After-advance) → IsMarked c.args.self.now c.advance.new.self c.args.number
whole c =
    let told = c.in_ok-touch.ensures in
    marked_by c.args.self.now c.touch.new.self c.swap.new.self c.advance.new.self c.args.number c.index-class.result.now c.index-place.result.now c.index-block.result.now
    c.requires.blocks c.requires.inside c.index-class.ensures c.index-place.ensures c.index-block.ensures c.if-place-block.false told.order told.place told.class told.blocks c.swap.ensures c.advance.ensures

pub returns-clause-blocks : goal.returns-clause-blocks
returns-clause-blocks c = marked_by-blocks c.args.self.now c.advance.new.self c.args.number (whole c)

pub returns-clause-listed : goal.returns-clause-listed
returns-clause-listed c =
    let told = c.in_ok-touch.ensures in
    let is_c : c.index-class.result.now ≡ at c.args.self.now.class.items c.args.number = read_number c.args.self.now.class.items c.args.number c.index-class.result.now (let u = c.requires.blocks.classes in let v = c.requires.inside in omega arith) c.index-class.ensures in
    marked_by-listed c.args.self.now c.advance.new.self c.touch.new.self.touched.items c.args.number c.index-class.result.now (whole c) is_c c.requires.listed told.kept told.listed told.inside
    (ap (λ v. v.items) (c.advance.ensures.touched ∙ c.swap.ensures.touched))

pub returns-clause-marks : goal.returns-clause-marks
returns-clause-marks c = marked_by-marks c.args.self.now c.advance.new.self c.args.number (whole c)

pub returns-then-place-block-clause-marks : goal.returns-then-place-block-clause-marks
returns-then-place-block-clause-marks c x inside = marked_already c.args.self.now.place.items c.args.self.now.class.items c.args.self.now.blocks.items c.args.number
    (is_before_middle c.args.self.now c.args.number c.index-class.result.now c.index-place.result.now c.index-block.result.now c.requires.blocks c.requires.inside c.index-class.ensures c.index-place.ensures c.index-block.ensures c.if-place-block.true) x
