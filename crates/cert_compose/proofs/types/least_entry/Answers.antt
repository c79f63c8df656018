use Rattle.cert_compose.specs.CertifiedChain.{chain_of}
use Rattle.cert_compose.proofs.TestLemmas.{least_read}
use Rattle.cert_compose.proofs.types.least_entry.Goals as goal

pub returns-clause-found : goal.returns-clause-found
returns-clause-found c =
    least_read (chain_of c.args.ground.now) c.args.middles.now c.graph.result.now c.alike_old_of.result.now c.pairs_of.result.now c.in_ok-lost.lost.items c.sort.new.entries.items c.deref.result.now c.least_lost.result
    c.graph.ensures c.alike_old_of.ensures.value c.pairs_of.ensures.value c.in_ok-lost.ensures.lost c.sort.ensures.moved c.deref.ensures.value c.least_lost.ensures
