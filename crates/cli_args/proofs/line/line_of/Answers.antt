use Rattle.std.proofs.Common.{◌∙◌, [], ap, codes}
use Rattle.std.specs.Prelude.{unwrap_or}
use Rattle.clap.specs.Words.{found_of}
use Rattle.clap.proofs.WalkLemmas.{first_value-rows, raw_values-rows}
use Rattle.cli_args.proofs.Lines.{same_line}
use Rattle.cli_args.proofs.line.line_of.Goals as goal

pub returns : goal.returns
returns c =
    let found = found_of c.args.matches.now in
    same_line _ _ _ _ _ _ _ _
    (c.get_str.ensures ∙ first_value-rows found (codes "command"))
    (ap (λ files. unwrap_or files []) (c.get_raw.ensures ∙ raw_values-rows found (codes "files")))
    (c.get_str-2.ensures ∙ first_value-rows found (codes "rules"))
    (c.get_str-3.ensures ∙ first_value-rows found (codes "report"))
