use Rattle.std.proofs.Common.{◌≡◌, ◌≢◌, ◌<◌, [], true, false, length, map, Option, Some, inl, inr, ◌∙◌, ap, sym, subst, arith}
use Rattle.std.specs.Prelude.{IfSome}
use Rattle.std.specs.List.{list_any}
use Rattle.std.specs.Str.{bytes_eq}
use Rattle.std.proofs.lemmas.Bool.{cases_lt}
use Rattle.abi_types.specs.Types.{PlainView}
use Rattle.abi_types.specs.Graphs.{view_at}
use Rattle.type_print.specs.Structures.{has_layout}
use Rattle.library_layout.specs.declared.near.Near.{Near}
use Rattle.library_layout.specs.Structures.{IsLeftOut, distance}
use Rattle.library_layout.proofs.NearLemmas.{kept_by, measured_here, new_tag, still_least}
use Rattle.library_layout.proofs.near.nearest.Goals as goal

pub loop-number-preserved : goal.loop-number-preserved
loop-number-preserved g c =
    let nodes = c.args.graph.now in
    let wanted = c.args.tag.now in
    let tags = c.args.tags.now in
    let texts = map (λ t. t.now) tags in
    let number = c.loop-number.number in
    let inside : c.loop-number.number < length c.args.graph.now = omega arith in
    let view : c.view.result.now ≡ view_at nodes number = c.view.ensures ∙ ap (view_at nodes) c.of.ensures in
    let found = c.loop-number.found in
    let near = c.in_ok-near.near in
    let result = c.nearer-found.result in
    let IsNew : Near → Type 0 = λ n. IsLeftOut nodes texts n.tag.now in
    let IsMeasured : Near → Type 0 = λ n. n.edits ≡ distance n.tag.now wanted in
    let Tagged : Option Near → Type 0 = λ o. IfSome o (λ n. has_layout c.view.result.now n.tag.now ≡ true) in
    let Unknown : Option Near → Type 0 = λ o. IfSome o (λ n. list_any (λ t. bytes_eq t.now n.tag.now) tags ≡ false) in
    let Named : Option Near → Type 0 = λ o. IfSome o (λ n. n.tag.now ≢ []) in
    let new : (n : Near) → near ≡ Some n → IsNew n = λ n is.
    let there : has_layout c.view.result.now n.tag.now ≡ true = subst Tagged is c.in_ok-near.ensures.tagged in
    (new_tag nodes number tags n.tag.now inside (subst (λ (v : PlainView). has_layout v n.tag.now ≡ true) view there) (subst Unknown is c.in_ok-near.ensures.new), subst Named is c.in_ok-near.ensures.some_tag) in
    let measured : (n : Near) → near ≡ Some n → IsMeasured n = λ n is. subst (λ (o : Option Near). IfSome o IsMeasured) is c.in_ok-near.ensures.measured in
    record {
      new = kept_by IsNew found near result c.nearer-found.ensures.one c.loop-number.invariant.new new;
      measured = kept_by IsMeasured found near result c.nearer-found.ensures.one c.loop-number.invariant.measured measured;
      least = λ k below other layout named out. elim (cases_lt k number) [
        | inl before ↦ still_least found result (distance other wanted) c.nearer-found.ensures.first (c.loop-number.invariant.least k before other layout named out)
        | inr from ↦
            let same : k ≡ number = omega arith in
            let here : has_layout c.view.result.now other ≡ true = subst (λ (v : PlainView). has_layout v other ≡ true) (ap (view_at nodes) same ∙ sym view) layout in
            still_least near result (distance other wanted) c.nearer-found.ensures.second (measured_here wanted other near c.in_ok-near.ensures.measured (c.in_ok-near.ensures.passed other here named out))
      ];
    }

pub returns-in-Some-clause-new : goal.returns-in-Some-clause-new
returns-in-Some-clause-new g c = c.loop-number.invariant.new c.in-Some.near c.in-Some.is
