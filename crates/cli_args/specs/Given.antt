-- The values in a line, whatever its command is.
use Rattle.std.specs.Prelude.{ℕ, List, [], ◌∷◌, Option, Some, None}
use Rattle.clap.specs.Words.{Kinds, Row as Found, fault_of, matches_of}
use Rattle.cli_args.specs.Commands.{plain_word}
use Rattle.cli_args.specs.Line.{PlainLine, line_app, line_in}
use Rattle.cli_args.specs.Words.{texts}
use Rattle.cli_args.specs.declared.given.GivenLine.{GivenLine}

-- the values of arguments in which `clap` finds faults of these kinds, or, if it finds none, these rows
abbrev pub line_by : Kinds → List Found → Option PlainLine
line_by [] rows = Some (line_in rows)
line_by (kind ∷ rest) rows = None

-- the values of the arguments, if `clap` accepts them
unfoldable pub given_in : List (List ℕ) → Option PlainLine
given_in words = line_by (fault_of line_app words) (matches_of line_app words)

-- the word that stands where a command does, if `clap` accepts the arguments
abbrev pub command_of : Option PlainLine → Option (List ℕ)
command_of (Some line) = line.command
command_of None = None

-- ---- what the code uses

abbrev pub plain_given : GivenLine → PlainLine
plain_given line = record {
  command = plain_word line.command;
  files = texts line.files.items;
  rules = plain_word line.rules;
  report = plain_word line.report;
}
