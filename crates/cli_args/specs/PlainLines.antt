-- The values in a line, as plain data without addresses.
use Rattle.std.specs.Prelude.{[], option_map, unwrap_or}
use Rattle.cli_args.specs.Words.{texts}
use Rattle.cli_args.specs.Line.{PlainLine}
use Rattle.cli_args.specs.Commands.{plain_word}
use Rattle.cli_args.specs.declared.line.Line.{Line}

abbrev pub plain_line : Line → PlainLine
plain_line line = record {
  command = plain_word line.command;
  files = unwrap_or (option_map (λ files. texts files.now) line.files) [];
  rules = plain_word line.rules;
  report = plain_word line.report;
}
