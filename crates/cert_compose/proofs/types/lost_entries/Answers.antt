use Rattle.std.proofs.Common.{sym, ◌∙◌}
use Rattle.cert_compose.specs.CertifiedChain.{chain_of}
use Rattle.cert_compose.specs.Losses.{lost_by, lost_entries}
use Rattle.cert_compose.proofs.RunLemmas.{all_given}
use Rattle.cert_compose.proofs.types.lost_entries.Goals as goal

pub returns-clause-lost : goal.returns-clause-lost
unfolding lost_entries
returns-clause-lost c = c.loop-line.invariant ∙ sym (all_given (lost_by (chain_of c.args.ground.now) c.args.middles.now) c.args.lines.now c.loop-line.line-index c.loop-line-test.false)
