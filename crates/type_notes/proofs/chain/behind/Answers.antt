-- Entry by entry.
use Rattle.std.proofs.Common.{◌∙◌, ◌-◌, ◌+◌, sym, ap}
use Rattle.type_reach.specs.References.{Type_}
use Rattle.type_notes.specs.Chains.{behind}
use Rattle.type_notes.proofs.ChainLemmas.{behind_void, behind_next, behind_last, behind_end}
use Rattle.type_notes.proofs.chain.behind.Goals as goal

pub returns-in-None-clause-found : goal.returns-in-None-clause-found
returns-in-None-clause-found c =
    let t = c.args.dwarf.now.tree in
    sym (behind_void t 513 c.chain.passed c.chain-test.true) ∙ ap (λ (r : Type_). behind t (513 - c.chain.passed) r) (sym c.in-None.is) ∙ c.chain.invariant.same

pub returns-in_default-clause-found : goal.returns-in_default-clause-found
returns-in_default-clause-found c =
    let t = c.args.dwarf.now.tree in
    sym (behind_last t 513 c.chain.passed c.in-Some.e c.chain-test.true (λ h. c.in_default.not-Wrapper (c.role_of.ensures ∙ h))) ∙ ap (λ (r : Type_). behind t (513 - c.chain.passed) r) (sym c.in-Some.is)
    ∙ c.chain.invariant.same

pub chain-preserved : goal.chain-preserved
chain-preserved c =
    let t = c.args.dwarf.now.tree in
    record {
      inside = c.type_of-at.ensures.inside;
      same =
          ap (λ (r : Type_). behind t (513 - (c.chain.passed + 1)) r) c.type_of-at.ensures.found ∙ behind_next t 513 c.chain.passed c.in-Some.e c.chain-test.true (sym c.in-Wrapper.ensures)
          ∙ ap (λ (r : Type_). behind t (513 - c.chain.passed) r) (sym c.in-Some.is) ∙ c.chain.invariant.same;
    }

pub returns-clause-found : goal.returns-clause-found
returns-clause-found c = sym (behind_end c.args.dwarf.now.tree 513 c.chain.passed c.chain.at c.chain-test.false) ∙ c.chain.invariant.same
