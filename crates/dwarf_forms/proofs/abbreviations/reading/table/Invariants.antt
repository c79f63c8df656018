use Rattle.std.proofs.Common.{◌≡◌, ◌-◌, length}
use Rattle.dwarf_forms.specs.abbreviations.Abbrevs.{table_run}
use Rattle.abi_base.proofs.lemmas.Runs.{put_before}
use Rattle.dwarf_forms.proofs.abbreviations_lemmas.AbbrevsLemmas.{rest_of_table}
use Rattle.dwarf_forms.proofs.abbreviations.reading.table.Given as goal

abbrev pub invariant-loop-made : goal.invariant-loop-made
invariant-loop-made l = put_before l.table (rest_of_table l.bytes l.place l.table) ≡ table_run l.bytes l.fn.at

abbrev pub decreases-loop-made : goal.decreases-loop-made
decreases-loop-made l = length l.bytes - l.place
