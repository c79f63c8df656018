-- The order of the broken rules of two types.
use Rattle.std.specs.Prelude.{◌≡◌, ◌<◌, ◌⊎◌}
use Rattle.abi_types.specs.Rules.{rule_place}
use Rattle.pair_rules.specs.declared.rules.Broken.{Broken}

-- an earlier rule, or the same one at an earlier part
abbrev pub IsBrokenBefore : Broken → Broken → Type 0
IsBrokenBefore b c = (rule_place b.rule < rule_place c.rule) ⊎ ((b.rule ≡ c.rule) × (b.part < c.part))
