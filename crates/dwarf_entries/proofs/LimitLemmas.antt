-- The limits that are passed where debug information is read.
use Rattle.std.proofs.Common.{◌≡◌, ◌<◌, sym, subst}
use Rattle.abi_base.specs.declared.fault.NoMemory.{NoMemory}
use Rattle.abi_base.specs.declared.fault.NoMemory.TheVariants.{Past}
use Rattle.abi_base.specs.declared.fault.Refusal.{Refusal}
use Rattle.abi_base.specs.declared.limit.Limit.{Limit}
use Rattle.abi_base.specs.declared.limit.Limit.TheVariants as limit
use Rattle.abi_base.specs.Outcome.{OnLimit, OnPast}
use Rattle.abi_base.proofs.lemmas.Outcomes.{on_past_weaker}
use Rattle.dwarf_units.specs.Limits.{UnitsPass}
use Rattle.dwarf_entries.specs.Debug.{PlainDwarf, PlainSections, dwarf_of}
use Rattle.dwarf_entries.specs.Limits.{DebugPasses, ranges_allowed, ranges_count}

units_weaker : (s : PlainSections) (l : Limit) → UnitsPass s.info s.abbrev_ l → DebugPasses s l
units_weaker s limit.RangeLists h = absurd h
units_weaker s l h = h

pub units_pass : (s : PlainSections) (e : Refusal) → OnPast e (UnitsPass s.info s.abbrev_) → OnPast e (DebugPasses s)
units_pass s e h = on_past_weaker e (UnitsPass s.info s.abbrev_) (DebugPasses s) (units_weaker s) h

pub ranges_pass : (s : PlainSections) (d : PlainDwarf) (cause : NoMemory) → d ≡ dwarf_of s → cause ≡ Past limit.RangeLists → ranges_allowed d < ranges_count d → OnLimit cause (DebugPasses s)
ranges_pass s d cause is named above = rw named (subst (λ (d : PlainDwarf). ranges_allowed d < ranges_count d) is above)
