-- The listeners of the program.
use Rattle.std.specs.Prelude.{List, [], ◌∷◌}
use Rattle.report.specs.Listening.{Voice, styled}
use Rattle.report.specs.declared.style.Style.TheVariants.{Text, Table, Counts, First}

-- One listener for each style of a report except `own`; that of the style `first` prints ten rows.
abbrev pub program_voices : List Voice
program_voices = styled Text ∷ styled Table ∷ styled Counts ∷ styled (First 10) ∷ []
