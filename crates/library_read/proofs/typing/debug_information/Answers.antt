use Rattle.std.proofs.Common.{subst}
use Rattle.std.specs.Prelude.{◌≡◌, IfErr, IfOk}
use Rattle.abi_base.specs.declared.fault.Refusal.{Refusal}
use Rattle.abi_base.specs.Outcome.{Judges, OnPast}
use Rattle.dwarf_entries.specs.Debug.{PlainDwarf, PlainSections, dwarf_of}
use Rattle.dwarf_entries.specs.Limits.{DebugPasses}
use Rattle.dwarf_entries.specs.Pass.{dwarf_fault}
use Rattle.library_read.specs.Debug.{debug_of}
use Rattle.library_read.proofs.DebugLemmas.{sections_are}
use Rattle.library_read.proofs.typing.debug_information.Goals as goal

pub returns-clause-judged : goal.returns-clause-judged
returns-clause-judged c = subst (λ (s : PlainSections). Judges c.tree.result (dwarf_fault s)) (sections_are c.args.file.now c.debug_sections.result c.debug_sections.ensures) c.tree.ensures.judged

pub returns-clause-read : goal.returns-clause-read
unfolding debug_of
returns-clause-read c = subst (λ (s : PlainSections). IfOk c.tree.result (λ (d : PlainDwarf). d ≡ dwarf_of s)) (sections_are c.args.file.now c.debug_sections.result c.debug_sections.ensures) c.tree.ensures.read

pub returns-clause-past : goal.returns-clause-past
returns-clause-past c = subst (λ (s : PlainSections). IfErr c.tree.result (λ (e : Refusal). OnPast e (DebugPasses s))) (sections_are c.args.file.now c.debug_sections.result c.debug_sections.ensures) c.tree.ensures.past
