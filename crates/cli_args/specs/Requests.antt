-- The meaning of the arguments that the code finds, as plain data without addresses.
use Rattle.cli_args.specs.Commands.{plain_request}
use Rattle.cli_args.specs.ParsedArguments.{PlainArguments, request, help, usage, version}
use Rattle.cli_args.specs.declared.parsed_arguments.ParsedArguments.{ParsedArguments}
use Rattle.cli_args.specs.declared.parsed_arguments.ParsedArguments.TheVariants as asked

abbrev pub plain_asked : ParsedArguments → PlainArguments
plain_asked (asked.Request found) = request (plain_request found)
plain_asked asked.Help = help
plain_asked asked.Version = version
plain_asked asked.Usage = usage
