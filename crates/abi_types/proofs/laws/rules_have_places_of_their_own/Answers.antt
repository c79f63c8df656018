-- The rule at a place undoes the place of a rule.
use Rattle.std.proofs.Common.{◌≡◌, ◌∙◌, get_or, sym, ap, arith}
use Rattle.abi_types.specs.declared.rule.Rule.{Rule}
use Rattle.abi_types.specs.declared.rule.Rule.TheVariants.{LibrarySoname}
use Rattle.abi_types.specs.Rules.{rule_place, all_rules}
use Rattle.abi_types.proofs.laws.rules_have_places_of_their_own.Goals as goal

back : (rule : Rule) → get_or all_rules (rule_place rule) LibrarySoname ≡ rule
unfolding all_rules
back rule = grind arith

pub returns : goal.returns
returns c one other same = sym (back one) ∙ ap (λ n. get_or all_rules n LibrarySoname) same ∙ back other
