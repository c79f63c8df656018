use Rattle.std.proofs.Common.{sym, ◌∙◌}
use Rattle.cert_compose.specs.Joins.{joins, joined_by}
use Rattle.cert_compose.proofs.RunLemmas.{all_given}
use Rattle.cert_compose.proofs.joins.join.Goals as goal

pub returns-clause-joined : goal.returns-clause-joined
unfolding joins
returns-clause-joined c =
    let g = joined_by c.args.ones.now.alike.now c.args.others.now.alike.now c.args.others.now.pairs.now c.args.middles.now in
    c.loop-line.invariant ∙ sym (all_given g c.args.ones.now.pairs.now c.loop-line.line-index c.loop-line-test.false)
