-- A type in its own place breaks no rule.
use Rattle.std.proofs.Common.{◌≡◌, true, not, List, [], ◌∷◌, length, refl, inl, inr}
use Rattle.std.specs.List.{list_all}
use Rattle.std.proofs.lemmas.Bool.{cases_Bool, not_from_false}
use Rattle.abi_types.specs.declared.rule.Rule.{Rule}
use Rattle.abi_types.specs.Types.{PlainView}
use Rattle.pair_rules.specs.TypeRules.{breaks_whole, breaks_part, speaks_of_parts, rules_asked, breaks}
use Rattle.pair_rules.proofs.Ranges.{list_all-below}
use Rattle.pair_rules.proofs.EachRule.{whole_kept, part_kept}
use Rattle.pair_rules.proofs.Keeps.{kept, none_broken}

rule_kept : (v : PlainView) (r : Rule) → kept v v r ≡ true
unfolding kept
rule_kept v r =
    elim (cases_Bool (speaks_of_parts r)) [
      | inl of_parts ↦ rw of_parts (list_all-below (λ i. not (breaks_part r v v i)) (length v.parts) (λ i inside. not_from_false (breaks_part r v v i) (part_kept v i inside r)))
      | inr of_whole ↦ rw of_whole (not_from_false (breaks_whole r v v) (whole_kept v r))
    ]

all_rules_kept : (v : PlainView) (rs : List Rule) → list_all (kept v v) rs ≡ true
all_rules_kept v [] = refl
all_rules_kept v (r ∷ rs) = rw (rule_kept v r, all_rules_kept v rs) refl

pub breaks-same : (v : PlainView) → breaks v v ≡ []
unfolding breaks
breaks-same v = none_broken v v (rules_asked v v) (all_rules_kept v (rules_asked v v))
