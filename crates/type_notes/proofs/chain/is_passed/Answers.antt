-- Entry by entry.
use Rattle.std.proofs.Common.{◌∙◌, ◌-◌, ◌+◌, sym, ap, eq-eqb}
use Rattle.abi_base.proofs.lemmas.Orders.{not_same}
use Rattle.type_reach.specs.References.{Type_}
use Rattle.type_notes.specs.Chains.{is_passed, leads_further}
use Rattle.type_notes.proofs.ChainLemmas.{passed_void, passed_here, passed_next, passed_last, passed_end}
use Rattle.type_notes.proofs.chain.is_passed.Goals as goal

pub returns-in-None : goal.returns-in-None
returns-in-None c =
    let t = c.args.dwarf.now.tree in
    sym (passed_void t c.args.tag 513 c.chain.passed c.chain-test.true) ∙ ap (λ (r : Type_). is_passed t c.args.tag (513 - c.chain.passed) r) (sym c.in-None.is) ∙ c.chain.invariant.same

pub returns-then-not-leads_further : goal.returns-then-not-leads_further
returns-then-not-leads_further c =
    let t = c.args.dwarf.now.tree in
    sym (passed_last t c.args.tag 513 c.chain.passed c.in-Some.e c.chain-test.true (sym (ap leads_further c.role_of.ensures) ∙ sym c.leads_further.ensures ∙ c.if-not-leads_further.true))
    ∙ ap (λ (r : Type_). is_passed t c.args.tag (513 - c.chain.passed) r) (sym c.in-Some.is) ∙ c.chain.invariant.same

pub returns-then-here-tag : goal.returns-then-here-tag
returns-then-here-tag c =
    let t = c.args.dwarf.now.tree in
    sym (passed_here t c.args.tag 513 c.chain.passed c.in-Some.e c.chain-test.true (sym (ap leads_further c.role_of.ensures) ∙ sym c.leads_further.ensures ∙ c.if-not-leads_further.false) (eq-eqb _ _ (sym c.tag-here.ensures ∙ c.if-here-tag.true)))
    ∙ ap (λ (r : Type_). is_passed t c.args.tag (513 - c.chain.passed) r) (sym c.in-Some.is) ∙ c.chain.invariant.same

pub chain-preserved : goal.chain-preserved
chain-preserved c =
    let t = c.args.dwarf.now.tree in
    record {
      inside = c.type_of-at.ensures.inside;
      same =
          ap (λ (r : Type_). is_passed t c.args.tag (513 - (c.chain.passed + 1)) r) c.type_of-at.ensures.found
          ∙ passed_next t c.args.tag 513 c.chain.passed c.in-Some.e c.chain-test.true (sym (ap leads_further c.role_of.ensures) ∙ sym c.leads_further.ensures ∙ c.if-not-leads_further.false) (not_same _ _ (λ h. c.if-here-tag.false (c.tag-here.ensures ∙ h)))
          ∙ ap (λ (r : Type_). is_passed t c.args.tag (513 - c.chain.passed) r) (sym c.in-Some.is) ∙ c.chain.invariant.same;
    }

pub returns : goal.returns
returns c = sym (passed_end c.args.dwarf.now.tree c.args.tag 513 c.chain.passed c.chain.at c.chain-test.false) ∙ c.chain.invariant.same
