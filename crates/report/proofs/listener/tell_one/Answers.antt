use Rattle.std.proofs.Common.{◌≡◌, sym, ◌∙◌, ap, subst, length, take, List, ℕ, ◌+◌, ◌<◌, arith, Ok, IfOk}
use Rattle.std.proofs.lemmas.List.{length-take}
use Rattle.std.proofs.lemmas.Result.{IfOk-weaker}
use Rattle.report.specs.Listening.{Voice, IsText, IsEnough, heard_of}
use Rattle.report.proofs.Telling.{IsStillHearing}
use Rattle.report.specs.declared.style.More.TheVariants.{Go, Enough}
use Rattle.report.specs.declared.row.Row.{Row}
use Rattle.report.specs.declared.style.Style.{Style}
use Rattle.report.proofs.Telling.{told_more, hears_on, enough_at, heard_enough, heard_all, text_of}
use Rattle.report.proofs.listener.tell_one.Goals as goal

pub returns-in-Enough-clause-made : goal.returns-in-Enough-clause-made
returns-in-Enough-clause-made g c =
    let first = (goal.Listener-dyn g (c.args.listener.vtable, c.args.listener.value)).voice c.args.listener.value in
    let now = goal.Listener-dyn g (c.tell.new.listener.vtable, c.tell.new.listener.value) in
    let style = now.voice c.tell.new.listener.value in
    let rows = now.heard c.tell.new.listener.value in
    let heard = c.in_ok-tell.ensures.heard ∙ told_more c.args.rows.now c.loop-row.row-index c.row-item.result _ c.loop-row-test.true c.row-item.is c.loop-row.invariant.0 in
    let enough = enough_at _ _ _ _ _ _ heard c.in-Enough.is c.in_ok-tell.ensures.enough c.loop-row-test.true in
    let whole : rows ≡ heard_of style.style c.args.rows.now =
    heard ∙ heard_enough _ c.args.rows.now c.loop-row.row-index c.loop-row.invariant.2 enough ∙ ap (λ (v : Voice). heard_of v.style c.args.rows.now) (sym c.in_ok-tell.ensures.voice) in
    let printed : IfOk c.close.result (λ text. IsText style rows text.items) = c.close.ensures.made in
    IfOk-weaker c.close.result (λ text. IsText style rows text.items) (λ text. IsText first (heard_of first.style c.args.rows.now) text.items)
    (λ text is. text_of style first c.args.rows.now rows text.items (c.in_ok-tell.ensures.voice ∙ c.loop-row.invariant.1) whole is) printed

pub loop-row-preserved : goal.loop-row-preserved
loop-row-preserved g c =
    let heard = c.in_ok-tell.ensures.heard ∙ told_more c.args.rows.now c.loop-row.row-index c.row-item.result _ c.loop-row-test.true c.row-item.is c.loop-row.invariant.0 in
    let more = hears_on _ c.loop-row.row-index (enough_at _ _ _ _ _ _ heard c.in-Go.is c.in_ok-tell.ensures.enough c.loop-row-test.true) in
    (heard, c.in_ok-tell.ensures.voice ∙ c.loop-row.invariant.1, subst (λ (v : Voice). IsStillHearing v.style (c.loop-row.row-index + 1)) (sym c.in_ok-tell.ensures.voice) more)

pub returns-clause-made : goal.returns-clause-made
returns-clause-made g c =
    let first = (goal.Listener-dyn g (c.args.listener.vtable, c.args.listener.value)).voice c.args.listener.value in
    let now = goal.Listener-dyn g (c.loop-row.listener.vtable, c.loop-row.listener.value) in
    let style = now.voice c.loop-row.listener.value in
    let rows = now.heard c.loop-row.listener.value in
    let whole : rows ≡ heard_of style.style c.args.rows.now =
    c.loop-row.invariant.0 ∙ heard_all style.style c.args.rows.now c.loop-row.row-index c.loop-row.invariant.2 c.loop-row-test.false c.loop-row.auto.row-index-end in
    let printed : IfOk c.close-2.result (λ text. IsText style rows text.items) = c.close-2.ensures.made in
    IfOk-weaker c.close-2.result (λ text. IsText style rows text.items) (λ text. IsText first (heard_of first.style c.args.rows.now) text.items)
    (λ text is. text_of style first c.args.rows.now rows text.items c.loop-row.invariant.1 whole is) printed
