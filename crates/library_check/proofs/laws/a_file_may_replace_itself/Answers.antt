use Rattle.elf.specs.symbols.Symbols.{symbols_of}
use Rattle.library_read.specs.Exports.{symbol_versions, typed_exports_of}
use Rattle.library_read.specs.Libraries.{library_of}
use Rattle.suppression_text.specs.Rules.{rules_of}
use Rattle.suppressions.specs.Marks.{marks_of}
use Rattle.library_check.proofs.Itself.{no_export_fault, named_alike}
use Rattle.library_check.proofs.laws.a_file_may_replace_itself.Goals as goal

pub returns : goal.returns
unfolding library_of
returns c = λ bytes rules none.
    c.a_library_may_replace_itself.ensures.replaces (library_of bytes) (marks_of (rules_of rules) (library_of bytes))
    (c.exports_without_a_fault_are_distinct.ensures.read (symbols_of bytes) (symbol_versions bytes) (typed_exports_of bytes) (no_export_fault bytes none) (named_alike bytes))
