use Rattle.std.proofs.Common.{take}
use Rattle.std.specs.List.{flat_map}
use Rattle.cert_compose.specs.Joins.{followed, followed_by, line_first}
use Rattle.cert_compose.proofs.RunLemmas.{run_starts, run_ends, lines_rise, followed_none, with_none, with_all, all_given}
use Rattle.cert_compose.proofs.joins.follow.Goals as goal

pub loop-k-init : goal.loop-k-init
loop-k-init c =
    let g = followed_by c.args.alike.now c.args.key.0 c.args.key.1 c.args.key.2 in
    with_none c.args.lines.now (flat_map g (take c.lines_from-start.result c.args.seconds.now))
    (run_starts line_first c.args.key.1 g (followed_none c.args.alike.now c.args.key.0 c.args.key.1 c.args.key.2) c.args.seconds.now (lines_rise c.args.seconds.now c.requires.seconds)
    c.lines_from-start.result c.lines_from-start.ensures.inside c.lines_from-start.ensures.parts)

pub returns-then-line-key-clause-appended : goal.returns-then-line-key-clause-appended
unfolding followed
returns-then-line-key-clause-appended c =
    let g = followed_by c.args.alike.now c.args.key.0 c.args.key.1 c.args.key.2 in
    with_all c.loop-k.lines c.args.lines.now (flat_map g (take c.loop-k.k c.args.seconds.now)) (flat_map g c.args.seconds.now) c.loop-k.invariant
    (run_ends line_first c.args.key.1 g (followed_none c.args.alike.now c.args.key.0 c.args.key.1 c.args.key.2) c.args.seconds.now (lines_rise c.args.seconds.now c.requires.seconds)
    c.lines_from-start.result c.loop-k.k _ c.loop-k.auto.k c.loop-k-test.true c.lines_from-start.ensures.parts c.if-line-key.true)

pub returns-clause-appended : goal.returns-clause-appended
unfolding followed
returns-clause-appended c =
    let g = followed_by c.args.alike.now c.args.key.0 c.args.key.1 c.args.key.2 in
    with_all c.loop-k.lines c.args.lines.now (flat_map g (take c.loop-k.k c.args.seconds.now)) (flat_map g c.args.seconds.now) c.loop-k.invariant
    (all_given g c.args.seconds.now c.loop-k.k c.loop-k-test.false)
