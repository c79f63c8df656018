-- The idle sections so far, and the tests that were counted.
use Rattle.std.proofs.Common.{◌≡◌, ◌+◌, ◌-◌, ◌*◌, ◌^◌, length, not, map, take}
use Rattle.std.specs.Prelude.{min}
use Rattle.abi_base.specs.declared.limit.Limit.TheVariants.{IdleSections}
use Rattle.abi_base.proofs.lemmas.Filtered.{SpentOn}
use Rattle.std.specs.Borrow.{Bor}
use Rattle.std.specs.List.{filter}
use Rattle.suppression_text.specs.Rules.{PlainSection}
use Rattle.idle_sections.specs.Idle.{holds_in}
use Rattle.idle_sections.proofs.idle.idle_sections.Given as goal

abbrev pub invariant-loop-section : goal.invariant-loop-section
invariant-loop-section l = record {
  idle : map (λ (section : Bor PlainSection). section.now) l.idle ≡ filter (λ section. not (holds_in l.old section)) (take l.section-index l.rules.sections);
  spent : SpentOn IdleSections (min (length l.rules.sections + l.tests) (2 ^ 38 - 1)) (l.section-index * l.tests) l.budget;
}
