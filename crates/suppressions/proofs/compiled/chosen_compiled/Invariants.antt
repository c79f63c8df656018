use Rattle.std.proofs.Common.{◌≡◌, take}
use Rattle.std.specs.List.{filter}
use Rattle.suppressions.specs.Names.{is_chosen}
use Rattle.suppressions.proofs.compiled.chosen_compiled.Given as goal

-- the chosen sections so far are compiled
abbrev pub invariant-loop-section : goal.invariant-loop-section
invariant-loop-section l = l.compiled.items ≡ filter (is_chosen l.asking) (take l.section-index l.sections)
