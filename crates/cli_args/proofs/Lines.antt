-- Lines with equal parts are equal.
use Rattle.std.proofs.Common.{◌≡◌, ◌∙◌, ℕ, List, Option, ap}
use Rattle.cli_args.specs.Line.{PlainLine}

abbrev pub line_with : Option (List ℕ) → List (List ℕ) → Option (List ℕ) → Option (List ℕ) → PlainLine
line_with command files rules report = record { command = command; files = files; rules = rules; report = report }

pub same_line : (command command' : Option (List ℕ)) (files files' : List (List ℕ)) (rules rules' report report' : Option (List ℕ)) → command ≡ command' → files ≡ files'
    → rules ≡ rules' → report ≡ report' → line_with command files rules report ≡ line_with command' files' rules' report'
same_line command command' files files' rules rules' report report' c f r p =
    ap (λ x. line_with x files rules report) c ∙ ap (λ x. line_with command' x rules report) f ∙ ap (λ x. line_with command' files' x report) r
    ∙ ap (λ x. line_with command' files' rules' x) p
