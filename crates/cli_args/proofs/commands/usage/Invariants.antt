use Rattle.std.proofs.Common.{string_bytes}
use denote.Text.{Utf8}
use denote.Shadow.{shadow}
use Rattle.cli_args.proofs.CommandRows.{IsBegun}
use Rattle.cli_args.proofs.commands.usage.Given as goal

abbrev pub invariant-loop-row : goal.invariant-loop-row
invariant-loop-row l = shadow (Utf8 l.head) × IsBegun l.row-items l.row-index (string_bytes l.text) l.head
