-- Whether two types keep the rules, part by part.
use Rattle.std.specs.Prelude.{ℕ, Bool, not, length}
use Rattle.std.specs.List.{list_all, range_with_len}
use Rattle.abi_types.specs.Types.{PlainView}
use Rattle.pair_rules.specs.TypeRules.{rules_asked, definition_rules, breaks_whole, breaks_part}

-- whether two types break no rule on whole types
unfoldable pub keeps_whole : PlainView → PlainView → Bool
keeps_whole v w = list_all (λ rule. not (breaks_whole rule v w)) (rules_asked v w)

-- whether they break no rule on parts, at part i of the old type
unfoldable pub keeps_part : PlainView → PlainView → ℕ → Bool
keeps_part v w i = list_all (λ rule. not (breaks_part rule v w i)) definition_rules

-- each part of the old type keeps its partner
unfoldable pub keeps_parts : PlainView → PlainView → Bool
keeps_parts v w = list_all (keeps_part v w) (range_with_len 0 (length v.parts))
