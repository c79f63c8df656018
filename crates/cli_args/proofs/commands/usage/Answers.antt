use Rattle.std.proofs.Common.{rules, string_bytes}
use Rattle.cli_args.proofs.CommandRows.{more}
use Rattle.cli_args.proofs.commands.usage.Goals as goal

pub loop-row-preserved : goal.loop-row-preserved
loop-row-preserved c =
    let rows = c.command_rows-row-items.result.now in
    (search rules, more rows c.loop-row.row-index _ (string_bytes c.loop-row.text) (string_bytes c.push_str.new.self) (string_bytes c.in_ok-line.line) c.loop-row.head.now c.loop-row-test.true c.in_ok-line.ensures (search rules) c.loop-row.invariant.1)
