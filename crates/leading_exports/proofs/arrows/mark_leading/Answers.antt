-- One pass after another, until one marks nothing.
use Rattle.std.proofs.Common.{◌≡◌, ◌∙◌, length, arith}
use Rattle.leading_exports.proofs.Spreading.{Passed-more, TakesPasses-more, marked_exactly}
use Rattle.leading_exports.proofs.arrows.mark_leading.Goals as goal

pub passes-preserved : goal.passes-preserved
passes-preserved c =
    let same : length c.follow_all.new.marks ≡ length c.passes.marks = omega (arith, c.follow_all.auto.marks) in
    let passed = Passed-more c.args.arrows.now c.args.marks.now c.passes.marks c.follow_all.new.marks c.passes.invariant.0 same c.follow_all.ensures.spread c.follow_all.ensures.kept in
    let takes = TakesPasses-more (length c.args.arrows.now) c.args.effort.now.left c.passes.effort.left c.spend.new.self.left c.passes.invariant.1 c.in_ok-spend.ensures.ok in
    (passed, takes, c.in_ok-spend.ensures.limit ∙ c.passes.invariant.2)

pub returns-clause-marked : goal.returns-clause-marked
returns-clause-marked c =
    let same : length c.follow_all.new.marks ≡ length c.passes.marks = omega (arith, c.follow_all.auto.marks) in
    let passed = Passed-more c.args.arrows.now c.args.marks.now c.passes.marks c.follow_all.new.marks c.passes.invariant.0 same c.follow_all.ensures.spread c.follow_all.ensures.kept in
    marked_exactly c.args.arrows.now c.args.marks.now c.follow_all.new.marks passed (c.follow_all.ensures.closed c.passes-test.false)
