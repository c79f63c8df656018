use Rattle.std.proofs.Common.{◌≡◌, ◌∙◌, sym, ap, ℕ, Bool, true, false, Option}
use Rattle.std.specs.Prelude.{is_some}
use Rattle.dwarf_forms.specs.declared.values.Value.{Value}
use Rattle.dwarf_tree.specs.Trees.{own_of}
use Rattle.dwarf_entries.proofs.ChainLemmas.{find_next, find_last, find_here, find_end, first_found}
use Rattle.dwarf_entries.proofs.links.Links.held_within.Goals as goal

pub returns-in-Some-clause-holder : goal.returns-in-Some-clause-holder
returns-in-Some-clause-holder c =
    let passes : ℕ → Bool = λ f. is_some (own_of c.args.self.now f c.args.name) in
    let has : passes c.chain.at ≡ true = sym (ap (λ (o : Option Value). is_some o) c.in-Some.ensures) in
    sym (find_here c.args.self.now passes c.chain.at c.args.entries c.chain.followed c.chain-test.true has) ∙ c.chain.invariant.1
    ∙ sym (first_found c.args.self.now passes c.args.entries c.args.e)

pub returns-in-None-link-clause-holder : goal.returns-in-None-link-clause-holder
returns-in-None-link-clause-holder c =
    let passes : ℕ → Bool = λ f. is_some (own_of c.args.self.now f c.args.name) in
    let lacks : passes c.chain.at ≡ false = sym (ap (λ (o : Option Value). is_some o) c.in-None.ensures) in
    sym (find_last c.args.self.now passes c.chain.at c.args.entries c.chain.followed c.chain-test.true lacks (sym c.in-None-link.ensures.found)) ∙ c.chain.invariant.1
    ∙ sym (first_found c.args.self.now passes c.args.entries c.args.e)

pub chain-preserved : goal.chain-preserved
chain-preserved c =
    let passes : ℕ → Bool = λ f. is_some (own_of c.args.self.now f c.args.name) in
    let lacks : passes c.chain.at ≡ false = sym (ap (λ (o : Option Value). is_some o) c.in-None.ensures) in
    (c.in-Some-link.ensures.inside, sym (find_next c.args.self.now passes c.chain.at c.in-Some-link.to c.args.entries c.chain.followed c.chain-test.true lacks (sym c.in-Some-link.ensures.found)) ∙ c.chain.invariant.1)

pub returns-clause-holder : goal.returns-clause-holder
returns-clause-holder c =
    let passes : ℕ → Bool = λ f. is_some (own_of c.args.self.now f c.args.name) in
    sym (find_end c.args.self.now passes c.chain.at c.args.entries c.chain.followed c.chain-test.false) ∙ c.chain.invariant.1 ∙ sym (first_found c.args.self.now passes c.args.entries c.args.e)
