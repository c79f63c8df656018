use Rattle.std.proofs.Common.{◌≡◌, ◌<◌, ap, subst, sym, length, arith, ◌∙◌, List, ℕ, ◌++◌, refl}
use Rattle.std.proofs.lemmas.Bool.Decides.{nat_tests}
use Rattle.report.proofs.Telling.{TellsOn, first_waiting, tells_more, tells_first, tells_at, told_some, told_all, on_err}
use Rattle.report.proofs.listener.tell_all.Goals as goal

pub tell_one-requires : goal.tell_one-requires
tell_one-requires g c =
    let some : 0 < length c.loop-waiting.waiting.items = omega (arith, c.loop-waiting.waiting.ok.0, c.remove.ensures.len) in
    first_waiting _ _ _ _ _ _ _ c.remove.result c.loop-waiting.invariant some c.remove.ensures.value

pub loop-waiting-preserved : goal.loop-waiting-preserved
loop-waiting-preserved g c =
    let some : 0 < length c.loop-waiting.waiting.items = omega (arith, c.loop-waiting.waiting.ok.0, c.remove.ensures.len) in
    tells_at _ _ _ _ _ _ _ _ _ (tells_more _ _ _ _ _ _ _ _ c.remove.result c.loop-waiting.invariant some c.remove.ensures.value c.in_ok-text.ensures.made) c.remove.ensures.items
    (c.in_ok-extend_from_slice.ensures.items ∙ ap (λ (l : List ℕ). c.loop-waiting.out.items ++ l) c.deref.ensures.value)

pub loop-waiting-init : goal.loop-waiting-init
loop-waiting-init g c = tells_first _ _ _ _ _ c.requires

pub returns-in_err-text-clause-err : goal.returns-in_err-text-clause-err
returns-in_err-text-clause-err g c = on_err _ _ (told_some _ _ _ _ _ _ _ c.loop-waiting.invariant)

pub returns-in_err-extend_from_slice-clause-err : goal.returns-in_err-extend_from_slice-clause-err
returns-in_err-extend_from_slice-clause-err g c = on_err _ _ (told_some _ _ _ _ _ _ _ (tells_at _ _ _ _ _ _ _ _ _ c.loop-waiting.invariant refl c.in_err-extend_from_slice.ensures.items))

pub returns-clause-ok : goal.returns-clause-ok
returns-clause-ok g c =
    let none : length c.loop-waiting.waiting.items ≡ 0 = grind (arith, nat_tests, c.loop-waiting.waiting.ok.0, c.loop-waiting-test.ensures) in
    told_all _ _ _ _ _ _ _ c.loop-waiting.invariant none
