use Rattle.std.proofs.Common.{◌∙◌, ap, ◌∷◌, []}
use Rattle.clap.specs.declared.error.kind.ErrorKind.{ErrorKind}
use Rattle.cli_args.proofs.line.matches_in.Goals as goal

pub returns-in-DisplayHelp : goal.returns-in-DisplayHelp
returns-in-DisplayHelp c = c.in-Err.ensures (λ e. cc) ∙ ap (λ (k : ErrorKind). k ∷ []) c.in-DisplayHelp.is
