-- Inputs that several commands want or judge, each with the faults for which it is checked, in the order in which these are reported.
use Rattle.std.specs.Prelude.{ℕ, List, [], ◌∷◌, Option}
use Rattle.commands.specs.Commands.{Asked, PlainSource, Wanted, named, named_or_empty}
use Rattle.commands.specs.declared.input.Input.{Input}
use Rattle.commands.specs.declared.input.Input.TheVariants.{Old, New, Rules}
use Rattle.library_read.specs.Faults.{library_fault}
use Rattle.suppression_text.specs.Faults.{rule_fault}
use Rattle.library_check.specs.Verifications.{certificate_fault}

-- ---- what the arguments name

-- a library, which must have no fault at all
abbrev pub library_at : Input → PlainSource → Wanted
library_at which source = record { which = which; source = source; fault_in = library_fault }

-- the rule file, which is empty if the arguments name none
abbrev pub rules_at : Option (List ℕ) → Wanted
rules_at name = record { which = Rules; source = named_or_empty name; fault_in = rule_fault }

-- a certificate of version 2
abbrev pub certificate_at : Input → List ℕ → Wanted
certificate_at which name = record { which = which; source = named name; fault_in = certificate_fault }

-- ---- what is asked of them, whatever their names are

-- two libraries
abbrev pub pair_asks : List Asked
pair_asks = (Old, library_fault) ∷ (New, library_fault) ∷ []

-- two libraries and a rule file
abbrev pub check_asks : List Asked
check_asks = (Old, library_fault) ∷ (New, library_fault) ∷ (Rules, rule_fault) ∷ []
