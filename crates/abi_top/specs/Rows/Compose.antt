-- `compose`: what `run` promises of it.
use Rattle.std.specs.Prelude.{ℕ, List, [], ◌∷◌}
use Rattle.abi_top.specs.Calls.{Call, Reads}
use Rattle.cli_args.specs.Commands.{compose}
use Rattle.library_check.specs.Checks.{Agreed, Compatible, KeepsLeaves}
use Rattle.library_check.specs.Compositions.{ComposesNone, IsComposedText, PlainFiles}
use Rattle.library_check.specs.Rows.Compose.{compose_inputs}

-- the command is `compose`, and P holds for the three readable libraries and the two readable certificates
abbrev pub OnCompose : Call → (PlainFiles → Type 0) → Type 0
OnCompose call P =
    (first_name middle_name last_name certificate1_name certificate2_name : List ℕ) × (files : PlainFiles)
    × Reads call (compose first_name middle_name last_name certificate1_name certificate2_name) (compose_inputs first_name middle_name last_name certificate1_name certificate2_name)
    (files.first ∷ files.middle ∷ files.last ∷ files.certificate1 ∷ files.certificate2 ∷ []) × P files

-- ---- where P holds for the text that was appended

-- Yes: the text is the certificate that the two accepted ones compose. It is accepted for the first and the last library, and the last
-- may replace the first.
abbrev pub ComposeYes : Call → (List ℕ → Type 0) → Type 0
ComposeYes call P = OnCompose call (λ files. Compatible files.first files.last [] × (text : List ℕ) × IsComposedText files text × P text)

-- Refused: the text names the first of the certificates that is not accepted, with its condition; or what is lost between two accepted
-- ones.
abbrev pub ComposeRefused : Call → (List ℕ → Type 0) → Type 0
ComposeRefused call P = OnCompose call (λ files. ComposesNone files P)

-- the first and the last library agree on all accesses from the compared exports
abbrev pub ComposeAgrees : Call → Type 0
ComposeAgrees call = OnCompose call (λ files. Agreed files.first files.last [])

-- the leaves on which these accesses land stay at their offsets
abbrev pub ComposeKeepsLeaves : Call → Type 0
ComposeKeepsLeaves call = OnCompose call (λ files. KeepsLeaves files.first files.last [])
