-- The values in arguments that `clap` accepts, or refuses.
use Rattle.std.proofs.Common.{◌≡◌, ◌∙◌, ℕ, List, [], ◌∷◌, Option, Some, None, ap, sym}
use Rattle.clap.specs.Words.{Kinds, Row as Found, fault_of, matches_of}
use Rattle.clap.specs.declared.error.kind.ErrorKind.{ErrorKind}
use Rattle.cli_args.specs.Given.{given_in, line_by}
use Rattle.cli_args.specs.Line.{PlainLine, line_app, line_in}

pub given_taken : (words : List (List ℕ)) (rows : List Found) (line : PlainLine) → fault_of line_app words ≡ [] → rows ≡ matches_of line_app words → line ≡ line_in rows → Some line ≡ given_in words
unfolding given_in
given_taken words rows line none found is =
    ap (λ (l : PlainLine). Some l) (is ∙ ap line_in found) ∙ sym (ap (λ (kinds : Kinds). line_by kinds (matches_of line_app words)) none)

pub given_refused : (words : List (List ℕ)) (kind : ErrorKind) → fault_of line_app words ≡ kind ∷ [] → None ≡ given_in words
unfolding given_in
given_refused words kind refused = sym (ap (λ (kinds : Kinds). line_by kinds (matches_of line_app words)) refused)
