use Rattle.std.proofs.Common.{Option, ap}
use Rattle.abi_base.specs.declared.fault.Fault.{Fault}
use Rattle.abi_base.specs.Runs.{Run}
use Rattle.dwarf_forms.specs.declared.abbreviations.abbrev.Abbrev.{Abbrev}
use Rattle.dwarf_forms.proofs.abbreviations_lemmas.StandingLemmas.{table_is}
use Rattle.dwarf_forms.proofs.abbreviations.laws.what_stands_is_read.Goals as goal

pub returns-clause-abbrevs : goal.returns-clause-abbrevs
returns-clause-abbrevs c = λ bytes at abbrevs stands. ap (λ (r : Run Abbrev (Option Fault)). r.items) (table_is bytes at abbrevs stands)

pub returns-clause-end : goal.returns-clause-end
returns-clause-end c = λ bytes at abbrevs stands. ap (λ (r : Run Abbrev (Option Fault)). r.end) (table_is bytes at abbrevs stands)
