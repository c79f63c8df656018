use Rattle.std.proofs.Common.{◌∙◌}
use Rattle.clap.specs.Words.{found_of, rows_of}
use Rattle.cli_args.specs.Words.{texts}
use Rattle.cli_args.proofs.GivenLemmas.{given_refused, given_taken}
use Rattle.cli_args.proofs.given.line_given.Goals as goal

pub returns-in_ok-given_of-in-Ok-clause-given : goal.returns-in_ok-given_of-in-Ok-clause-given
returns-in_ok-given_of-in-Ok-clause-given c =
    given_taken (texts c.args.words.now) (rows_of (found_of c.in-Ok.matches)) _ c.in-Ok.ensures.0 c.in-Ok.ensures.1 (c.in_ok-given_of-in-Ok.ensures.given ∙ c.line_of.ensures)

pub returns-in_default : goal.returns-in_default
returns-in_default c = record {
  given = given_refused (texts c.args.words.now) c.in-Err.kind (c.in-Err.ensures c.in_default.not-OutOfMemory);
  named = tt;
}
