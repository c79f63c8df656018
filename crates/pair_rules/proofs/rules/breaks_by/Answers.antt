-- A rule on parts is checked where parts are compared.
use Rattle.std.proofs.Common.{sym, ◌∙◌, ap, ◌≡◌, ◌<◌, length, get_or, List, Bool}
use Rattle.abi_types.specs.declared.rule.Rule.{Rule}
use Rattle.abi_types.specs.declared.rule.Rule.TheVariants.{LibrarySoname}
use Rattle.pair_rules.specs.TypeRules.{rules_asked, speaks_of_parts}
use Rattle.pair_rules.proofs.Compared.{asked_of_parts}
use Rattle.pair_rules.proofs.rules.breaks_by.Goals as goal

pub push_broken-requires-clause-asked : goal.push_broken-requires-clause-asked
push_broken-requires-clause-asked c = λ speaks.
    let asked = c.rules_asked-rule-items.ensures in
    let inside : c.rules.rule-index < length (rules_asked c.args.old.now c.args.new.now) = rw asked at c.rules-test.true in
    asked_of_parts c.args.old.now c.args.new.now c.rules.rule-index LibrarySoname inside (sym (ap (λ (rs : List Rule). speaks_of_parts (get_or rs c.rules.rule-index LibrarySoname)) asked) ∙ speaks)
