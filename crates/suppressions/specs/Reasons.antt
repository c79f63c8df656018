-- What laws say about rule files.
use Rattle.std.specs.Prelude.{◌≡◌, false}
use Rattle.std.specs.List.{list_any}
use Rattle.suppression_text.specs.declared.key.Key.TheVariants.{AccessedThrough}
use Rattle.suppression_text.specs.Faults.{has}
use Rattle.suppression_text.specs.Rules.{PlainRules}

-- no section has the property `accessed_through`
abbrev pub HasNoWays : PlainRules → Type 0
HasNoWays rules = list_any (has AccessedThrough) rules.sections ≡ false
