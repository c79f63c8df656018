-- What listeners hear, and the texts that they make of it.
use Rattle.std.specs.Prelude.{◌≡◌, ◌≤◌, ◌<◌, ℕ, max, List, [], ◌∷◌, take, Option, None, IfSome}
use Rattle.report.specs.declared.row.Row.{Row}
use Rattle.report.specs.declared.style.Style.{Style}
use Rattle.report.specs.declared.style.Style.TheVariants.{Text, Table, Counts, First, Own}
use Rattle.report.specs.declared.style.More.{More}
use Rattle.report.specs.declared.style.More.TheVariants.{Go, Enough}
use Rattle.report.specs.Render.{render}

-- The voice of a listener: its style, and the text that it makes of the rows that it heard, if that is known. It does not change
-- while the listener hears rows.
pub record Voice : Type 0 where
  pub style : Style
  pub makes : List Row → Option (List ℕ)

-- the voice of a listener whose text is determined by its style
abbrev pub styled : Style → Voice
styled style = record { style = style; makes = λ rows. None }

-- the text is in this style; for the style `Own`, any text is
abbrev pub InStyle : Style → List Row → List ℕ → Type 0
InStyle Own rows text = Unit {0}
InStyle style rows text = text ≡ render style rows

-- the text of a listener that heard these rows: it is in the listener's style, and the one that its voice gives, if that is known
pub record IsText (voice : Voice) (rows : List Row) (text : List ℕ) : Type 0 where
  pub styled : InStyle voice.style rows text
  pub made : IfSome (voice.makes rows) (λ t. text ≡ t)

-- Whether a listener of the style has heard enough after this many rows: exactly if it wants only the first n rows and has heard
-- that many.
abbrev pub IsEnough : Style → ℕ → More → Type 0
IsEnough (First n) heard Enough = n ≤ heard
IsEnough (First n) heard Go = heard < n
IsEnough style heard Enough = ⊥
IsEnough style heard Go = Unit {0}

-- the rows that a listener of the style hears: up to the first after which it has heard enough
abbrev pub heard_of : Style → List Row → List Row
heard_of (First n) rows = take (max n 1) rows
heard_of style rows = rows

-- the texts of listeners with these voices, each of which hears the rows until it has heard enough
abbrev pub Reports : List Voice → List Row → List (List ℕ) → Type 0
Reports [] rows [] = Unit {0}
Reports [] rows (text ∷ texts) = ⊥
Reports (voice ∷ voices) rows [] = ⊥
Reports (voice ∷ voices) rows (text ∷ texts) = IsText voice (heard_of voice.style rows) text × Reports voices rows texts
