use Rattle.std.proofs.Common.{◌∙◌, ap, sym, ◌∷◌, [], Some}
use Rattle.clap.specs.declared.error.kind.ErrorKind.{ErrorKind}
use Rattle.cli_args.specs.Words.{texts}
use Rattle.cli_args.specs.WrongWords.{PlainWrong, wrong_on}
use Rattle.cli_args.proofs.WrongLemmas.{wrong_taken, wrong_helped, wrong_refused, wrong_version}
use Rattle.cli_args.proofs.wrong.wrong_among.Goals as goal

pub returns-then-asks_for_version : goal.returns-then-asks_for_version
returns-then-asks_for_version c = wrong_version (texts c.args.words.now) (sym c.asks_for_version.ensures ∙ c.if-asks_for_version.true)

pub returns-in-Ok : goal.returns-in-Ok
returns-in-Ok c = c.wrong_line.ensures ∙ ap wrong_on c.line_of.ensures ∙ wrong_taken (texts c.args.words.now) c.in-Ok.matches (sym c.asks_for_version.ensures ∙ c.if-asks_for_version.false) c.in-Ok.ensures

pub returns-in-DisplayHelp : goal.returns-in-DisplayHelp
returns-in-DisplayHelp c = wrong_helped (texts c.args.words.now) (sym c.asks_for_version.ensures ∙ c.if-asks_for_version.false) (c.in-Err.ensures (λ e. cc) ∙ ap (λ (k : ErrorKind). k ∷ []) c.in-DisplayHelp.is)

pub returns-in_default : goal.returns-in_default
returns-in_default c =
    ap (λ (wrong : PlainWrong). Some wrong) c.refused_words.ensures
    ∙ wrong_refused (texts c.args.words.now) c.in-Err.kind (sym c.asks_for_version.ensures ∙ c.if-asks_for_version.false) c.in_default.not-DisplayHelp (c.in-Err.ensures c.in_default.not-OutOfMemory)
