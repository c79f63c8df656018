use Rattle.std.proofs.Common.{◌-◌, ◌^◌, ◌∙◌, sym}
use Rattle.suppressions.proofs.WeightLemmas.{weighs, weighs_nothing}
use Rattle.suppressions.proofs.weight.property_weight.Goals as goal

pub returns-then-not-has_pattern : goal.returns-then-not-has_pattern
returns-then-not-has_pattern c = weighs_nothing c.args.property.now (2 ^ 64 - 1) (sym c.has_pattern.ensures ∙ c.if-not-has_pattern.true)

pub returns : goal.returns
returns c =
    weighs c.args.property.now c.value-text.result.now c.escaped_letters.result c.saturating_mul-letters.result c.saturating_add.result c.saturating_add-2.result (2 ^ 64 - 1)
    (sym c.has_pattern.ensures ∙ c.if-not-has_pattern.false) c.value-text.ensures c.escaped_letters.ensures c.saturating_mul-letters.ensures c.saturating_add.ensures c.saturating_add-2.ensures
