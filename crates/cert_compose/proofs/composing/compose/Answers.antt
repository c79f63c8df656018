use Rattle.std.proofs.Common.{ℕ, List, ◌∙◌, ap, sym, subst}
use Rattle.std.proofs.lemmas.Result.{err_from_is_err_and}
use Rattle.abi_types.specs.Libraries.{PlainLibrary}
use Rattle.cert_text.specs.Certs.{Ascend}
use Rattle.cert_compose.specs.Chains.{joint}
use Rattle.cert_compose.specs.Limits.{AreMiddles}
use Rattle.cert_compose.specs.Middles.{both_cmp}
use Rattle.cert_compose.proofs.LimitLemmas.{composition_passes, refusal_passes}
use Rattle.cert_compose.proofs.MadeLemmas.{exact_read}
use Rattle.cert_compose.proofs.composing.compose.Goals as goal

pub judge-requires-clause-exact : goal.judge-requires-clause-exact
judge-requires-clause-exact c =
    exact_read c.in_ok-middles.middles.items c.deref-2.result.now c.alike_new_of.result.now c.args.one.now.alike_new c.alike_old_of.result.now c.args.other.now.alike_old c.graph.result.now c.args.chain.now.middle_new.now.graph
    c.deref-2.ensures.value (c.graph.ensures ∙ ap (λ (l : PlainLibrary). l.graph) c.requires.same) c.alike_new_of.ensures.value c.alike_old_of.ensures.value c.in_ok-middles.ensures.exact

pub composed-requires-clause-exact : goal.composed-requires-clause-exact
composed-requires-clause-exact c =
    exact_read c.in_ok-middles.middles.items c.deref-3.result.now c.alike_new_of.result.now c.args.one.now.alike_new c.alike_old_of.result.now c.args.other.now.alike_old c.graph.result.now c.args.chain.now.middle_new.now.graph
    c.deref-3.ensures.value (c.graph.ensures ∙ ap (λ (l : PlainLibrary). l.graph) c.requires.same) c.alike_new_of.ensures.value c.alike_old_of.ensures.value c.in_ok-middles.ensures.exact

pub returns-clause-accepted : goal.returns-clause-accepted
returns-clause-accepted c =
    let ch = joint c.args.chain.now.first.now c.args.chain.now.middle_new.now c.args.chain.now.last.now c.args.one.now c.args.other.now in
    c.what_is_composed_is_accepted.ensures.accepted ch c.in_ok-composed.field-0 c.requires.chain c.in-Ok.ensures.nothing c.in_ok-composed.ensures.composed

pub returns-in_err-ask_joins-clause-past : goal.returns-in_err-ask_joins-clause-past
returns-in_err-ask_joins-clause-past c =
    let p = err_from_is_err_and c.from_residual-in_err-ask_joins.result c.from_residual-in_err-ask_joins.ensures.1 in
    let ch = joint c.args.chain.now.first.now c.args.chain.now.middle_new.now c.args.chain.now.last.now c.args.one.now c.args.other.now in
    let are : AreMiddles ch c.deref.result.now = record {
      ascend = subst (λ (l : List (ℕ × ℕ)). Ascend both_cmp l) (sym c.deref.ensures.value) c.in_ok-middles.ensures.ascend;
      exact =
          exact_read c.in_ok-middles.middles.items c.deref.result.now c.alike_new_of.result.now c.args.one.now.alike_new c.alike_old_of.result.now c.args.other.now.alike_old c.graph.result.now c.args.chain.now.middle_new.now.graph
          c.deref.ensures.value (c.graph.ensures ∙ ap (λ (l : PlainLibrary). l.graph) c.requires.same) c.alike_new_of.ensures.value c.alike_old_of.ensures.value c.in_ok-middles.ensures.exact;
    } in
    rw (p.1, p.2) (composition_passes ch c.deref.result.now c.in_err-ask_joins.field-0.0 are c.in_err-ask_joins.ensures.past)

pub returns-in-Err-clause-past : goal.returns-in-Err-clause-past
returns-in-Err-clause-past c =
    refusal_passes (joint c.args.chain.now.first.now c.args.chain.now.middle_new.now c.args.chain.now.last.now c.args.one.now c.args.other.now) c.in-Err.refusal c.in-Err.ensures.named
