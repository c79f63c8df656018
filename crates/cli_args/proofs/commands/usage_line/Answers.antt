use Rattle.std.proofs.Common.{rules, ◌≡◌, ◌∙◌, ◌∷◌, [], ap, codes, string_bytes}
use Rattle.std.specs.List.{concat}
use Rattle.cli_args.proofs.CommandRows.{line_is, report_of}
use Rattle.cli_args.proofs.commands.usage_line.Goals as goal

pub returns : goal.returns
returns c =
    let printed : string_bytes c.in_ok-line.line ≡ concat (c.args.head.now ∷ codes "abi " ∷ c.args.row.word.now ∷ c.rules_words-rules.result.now ∷ c.report_words-report.result.now ∷ codes " " ∷ c.args.row.arguments.now ∷ (10 ∷ []) ∷ []) = search rules in
    let report = c.report_words-report.ensures ∙ ap report_of c.takes_report.ensures in
    rw c.rules_words-rules.ensures at (rw report at printed) ∙ line_is c.args.row c.args.head.now c.requires
