use Rattle.std.proofs.Common.{sym, subst, Option}
use Rattle.cli_args.specs.ParsedArguments.{arguments_by}
use Rattle.cli_args.specs.Words.{texts}
use Rattle.cli_args.specs.WrongWords.{NamesOne, PlainWrong}
use Rattle.cli_args.proofs.NamedLemmas.{names_one}
use Rattle.cli_args.proofs.WrongLemmas.{Fits, exact_of, words_fit}
use Rattle.cli_args.proofs.wrong.wrong_words.Goals as goal

pub returns-clause-exact : goal.returns-clause-exact
returns-clause-exact c =
    let words = texts c.args.words.now in
    exact_of c.in_ok-found.found (arguments_by words) (subst (λ (o : Option PlainWrong). Fits o (arguments_by words)) (sym c.in_ok-found.ensures) (words_fit words))

pub returns-clause-named : goal.returns-clause-named
returns-clause-named c =
    let words = texts c.args.words.now in
    subst (λ (o : Option PlainWrong). NamesOne words o) (sym c.in_ok-found.ensures) (names_one words)
