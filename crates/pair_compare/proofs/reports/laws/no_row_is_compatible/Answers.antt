-- Each part of a report is empty exactly where it finds nothing broken.
use Rattle.pair_compare.specs.reports.TypeFindings.{type_rows}
use Rattle.pair_compare.proofs.reports_lemmas.NoneLemmas.{no_row}
use Rattle.pair_compare.proofs.reports_lemmas.RowLemmas.{no_type_row}
use Rattle.pair_compare.proofs.reports.laws.no_row_is_compatible.Goals as goal

pub returns : goal.returns
returns c = λ s visits broken explored.
    no_row s (type_rows s visits broken) (no_type_row c.rules_have_places_of_their_own.ensures c.no_break_is_compatible.ensures s visits broken explored)
