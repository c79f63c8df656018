-- How many exports of two files are compared, by a rule file.
use Rattle.std.specs.Prelude.{ℕ, is_none, if◌then◌else◌, List, Option, Some, None}
use Rattle.abi_types.specs.declared.library.Marks.{Marks}
use Rattle.abi_types.specs.Libraries.{PlainLibrary}
use Rattle.elf_bind.specs.Binding.{bind_each}
use Rattle.library_read.specs.Faults.{library_fault}
use Rattle.library_read.specs.Libraries.{library_of}
use Rattle.suppression_text.specs.Faults.{rule_fault}
use Rattle.suppression_text.specs.Rules.{rules_of}
use Rattle.suppressions.specs.Marks.{marks_of}
use Rattle.side_notes.specs.declared.counts.Counts.{Counts}
use Rattle.side_notes.specs.Counts.{counts_of}

-- the counts for two libraries, by the marks on the old one
abbrev pub counts_by : PlainLibrary → PlainLibrary → Marks → Counts
counts_by old new marks = counts_of marks.exports (bind_each old.exports new.exports)

-- The counts by the bytes of a rule file. There are none where it has a fault.
abbrev pub counts_with_both : PlainLibrary → PlainLibrary → List ℕ → Option Counts
counts_with_both old new rules = if is_none (rule_fault rules) then Some (counts_by old new (marks_of (rules_of rules) old)) else None

-- The counts for an old library and the bytes of a new one. There are none where the new one has a fault.
abbrev pub counts_with_old : PlainLibrary → List ℕ → List ℕ → Option Counts
counts_with_old old new rules = if is_none (library_fault new) then counts_with_both old (library_of new) rules else None

-- The counts for two files, by a rule file. There are none where one of the three has a fault.
abbrev pub counts_in : List ℕ → List ℕ → List ℕ → Option Counts
counts_in old new rules = if is_none (library_fault old) then counts_with_old (library_of old) new rules else None
