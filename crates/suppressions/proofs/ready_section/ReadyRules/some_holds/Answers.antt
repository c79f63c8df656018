use Rattle.std.proofs.Common.{◌∙◌, List, ap, subst}
use Rattle.std.specs.Option.{option_copied}
use Rattle.suppression_text.specs.Rules.{PlainSection}
use Rattle.suppressions.specs.Handles.{gate_handle}
use Rattle.suppressions.specs.Holding.{IsOneOfHandle}
use Rattle.suppressions.specs.PlainSubjects.{plain_subject}
use Rattle.suppressions.proofs.HoldLemmas.{with_symbol, without_symbol}
use Rattle.suppressions.proofs.ready_section.ReadyRules.some_holds.Goals as goal

pub returns-in-Some-clause-some : goal.returns-in-Some-clause-some
returns-in-Some-clause-some c =
    let sections = c.args.self.now in
    let s = plain_subject c.args.subject.now in
    let same = c.holds_at.ensures.same in
    let twice = c.holds_at-else-holds_at.ensures.same ∙ same in
    let name = subst (λ (ss : List PlainSection). IsOneOfHandle ss s (1, s.name) c.holds_at-else-holds_at.result) same c.holds_at-else-holds_at.ensures.some in
    let gate = subst (λ (ss : List PlainSection). IsOneOfHandle ss s gate_handle c.pattern_holds.result) twice c.pattern_holds.ensures.some in
    let symbol = subst (λ (ss : List PlainSection). IsOneOfHandle ss s (2, c.in-Some.symbol.now) c.holds_at-in-Some.result) (c.pattern_holds.ensures.same ∙ twice) c.holds_at-in-Some.ensures.some in
    with_symbol s sections c.in-Some.symbol.now c.holds_at-in-Some.result (ap option_copied c.in-Some.is)
    (c.holds_at.ensures.some.none c.if-holds_at.false) (name.none c.if-holds_at-2.false) (gate.none c.if-pattern_holds.false) symbol

pub returns-clause-some : goal.returns-clause-some
returns-clause-some c =
    let sections = c.args.self.now in
    let s = plain_subject c.args.subject.now in
    let same = c.holds_at.ensures.same in
    let name = subst (λ (ss : List PlainSection). IsOneOfHandle ss s (1, s.name) c.holds_at-else-holds_at.result) same c.holds_at-else-holds_at.ensures.some in
    let gate = subst (λ (ss : List PlainSection). IsOneOfHandle ss s gate_handle c.pattern_holds.result) (c.holds_at-else-holds_at.ensures.same ∙ same) c.pattern_holds.ensures.some in
    without_symbol s sections (ap option_copied c.in_default.is) (c.holds_at.ensures.some.none c.if-holds_at.false) (name.none c.if-holds_at-2.false) (gate.none c.if-pattern_holds.false)
