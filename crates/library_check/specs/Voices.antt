-- Listeners whose texts are determined by the rows.
use Rattle.std.specs.Prelude.{◌≢◌, ◌⊎◌, List, IsSome}
use Rattle.report.specs.Listening.{Voice}
use Rattle.report.specs.declared.row.Row.{Row}
use Rattle.report.specs.declared.style.Style.TheVariants.{Own}

-- the rows determine the text of a listener: by its style, or because its voice gives a text for all rows
abbrev pub TellsItsText : Voice → Type 0
TellsItsText voice = (voice.style ≢ Own) ⊎ ((rows : List Row) → IsSome (voice.makes rows))
