use Rattle.std.proofs.Common.{◌<◌, ◌∙◌, ◌≡◌, ap, sym, map, length, arith}
use Rattle.std.proofs.lemmas.Bool.Decides.{nat_tests}
use Rattle.report.specs.styles.Wanted.{is_wanted}
use Rattle.report.proofs.styles_lemmas.Choosing.{chooses_at, chooses_one, chosen, voices_of}
use Rattle.report.proofs.styles.report_option.wanted_listeners.Goals as goal

pub listeners-preserved-in-Continue-1 : goal.listeners-preserved-in-Continue-1
listeners-preserved-in-Continue-1 g c =
    let some : 0 < length c.listeners.waiting.items = omega (arith, c.listeners.waiting.ok.0, c.remove-listener.ensures.len) in
    let test = ap (is_wanted c.args.wanted) (sym c.style.ensures) ∙ sym c.is_wanted.ensures ∙ c.if-is_wanted.true in
    chooses_at _ _ _ _ _ _ _ _ (chooses_one _ _ _ _ _ _ c.remove-listener.result c.listeners.invariant some c.remove-listener.ensures.value test) c.remove-listener.ensures.items c.in_ok-push.ensures.items

pub returns-clause-voices : goal.returns-clause-voices
returns-clause-voices g c =
    let none : length c.listeners.waiting.items ≡ 0 = grind (arith, nat_tests, c.listeners.waiting.ok.0, c.listeners-test.ensures) in
    ap (map (λ b. (goal.Listener-dyn g (b.vtable, b.value)).voice b.value)) (chosen _ _ _ _ _ _ c.listeners.invariant none) ∙ voices_of _ c.args.wanted c.args.listeners.items
