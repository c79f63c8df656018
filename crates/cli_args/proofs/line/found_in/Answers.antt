use Rattle.std.proofs.Common.{◌≡◌, rules, ◌∙◌, ap, sym, ◌∷◌, []}
use Rattle.clap.specs.Words.{kind_of}
use Rattle.clap.specs.declared.error.kind.ErrorKind.{ErrorKind}
use Rattle.cli_args.proofs.LineLemmas.{line_one, only}
use Rattle.cli_args.proofs.line.found_in.Goals as goal

pub returns-in-Err : goal.returns-in-Err
returns-in-Err c =
    let same : kind_of c.in-Err.error ≡ c.kind.result = search rules in
    λ other. only c.in-Err.error _ (line_one _) (λ e. other (sym same ∙ e)) (search rules) ∙ ap (λ (k : ErrorKind). k ∷ []) same
