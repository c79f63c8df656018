use Rattle.std.proofs.Common.{◌∙◌, sym, arith}
use Rattle.dwarf_entries.proofs.ChainLemmas.{last_next, last_here, last_end, origin_last}
use Rattle.dwarf_entries.proofs.links.Links.origin.Goals as goal

pub chain-preserved : goal.chain-preserved
chain-preserved c =
    (c.in-Some.ensures.inside, sym (last_next c.args.self.now c.chain.at c.in-Some.to 8 c.chain.followed c.args.e c.chain-test.true (sym c.in-Some.ensures.found)) ∙ c.chain.invariant.1)

pub returns-in-None-clause-found : goal.returns-in-None-clause-found
returns-in-None-clause-found c =
    sym (last_here c.args.self.now c.chain.at 9 c.chain.followed c.args.e (omega arith) (sym c.in-None.ensures.found)) ∙ c.chain.invariant.1
    ∙ sym (origin_last c.args.self.now c.args.e)

pub returns-clause-found : goal.returns-clause-found
returns-clause-found c =
    sym (last_end c.args.self.now c.chain.at 8 c.chain.followed c.args.e (omega arith)) ∙ c.chain.invariant.1
    ∙ sym (origin_last c.args.self.now c.args.e)
