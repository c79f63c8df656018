-- The input of a composition, as a chain.
use Rattle.cert_compose.specs.declared.certified_chain.CertifiedChain.{CertifiedChain}
use Rattle.cert_compose.specs.Chains.{PlainChain, joint}

abbrev pub chain_of : CertifiedChain → PlainChain
chain_of g = joint g.first.now g.middle.now g.last.now g.one.now g.other.now
