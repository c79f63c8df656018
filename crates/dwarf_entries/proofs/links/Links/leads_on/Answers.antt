use Rattle.std.proofs.Common.{◌∙◌, sym, ap, ℕ, Option}
use Rattle.std.specs.Prelude.{is_some}
use Rattle.dwarf_entries.proofs.ChainLemmas.{after_next, after_none, after_end}
use Rattle.dwarf_entries.proofs.links.Links.leads_on.Goals as goal

pub returns-in-None : goal.returns-in-None
returns-in-None c =
    ap (λ (o : Option ℕ). is_some o)
    (sym (after_none c.args.self.now c.chain.at c.args.links c.chain.followed c.chain-test.true (sym c.in-None.ensures.found)) ∙ c.chain.invariant.1)

pub chain-preserved : goal.chain-preserved
chain-preserved c =
    (c.in-Some.ensures.inside, sym (after_next c.args.self.now c.chain.at c.in-Some.to c.args.links c.chain.followed c.chain-test.true (sym c.in-Some.ensures.found)) ∙ c.chain.invariant.1)

pub returns : goal.returns
returns c =
    ap (λ (o : Option ℕ). is_some o) (sym (after_end c.args.self.now c.chain.at c.args.links c.chain.followed c.chain-test.false) ∙ c.chain.invariant.1)
