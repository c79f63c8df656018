use Rattle.std.proofs.Common.{◌-◌, ◌≤◌, length, take}
use Rattle.std.specs.List.{sum_by}
use Rattle.std.specs.Str.Lines.{lines}
use Rattle.abi_base.specs.declared.limit.Limit.TheVariants.{PatternClasses}
use Rattle.abi_base.proofs.lemmas.Filtered.{SpentOn}
use Rattle.suppression_text.specs.Classes.{classes_of}
use Rattle.suppression_text.proofs.ReadingLemmas.{IsReading}
use Rattle.suppression_text.proofs.reading.read_sections.Given as goal

-- the lines before this number were read, and their classes were counted
abbrev pub invariant-lines : goal.invariant-lines
invariant-lines l = record {
  number : 1 ≤ l.number;
  reading : IsReading l.bytes l.left (l.number - 1) l.sections.items;
  spent : SpentOn PatternClasses 0 (sum_by classes_of (take (l.number - 1) (lines l.bytes))) l.budget;
}

abbrev pub decreases-lines : goal.decreases-lines
decreases-lines l = length l.left
