use Rattle.std.proofs.Common.{rules, ◌∙◌, ap, bytes_eq, option_map}
use Rattle.std.proofs.lemmas.Iterator.{YieldsList-from_slice}
use Rattle.std.proofs.lemmas.Iterator.Search.{find_from_yields_List}
use borrow.Author.Tests.{tests}
use Rattle.cli_args.specs.declared.commands.CommandRow.{CommandRow}
use Rattle.cli_args.proofs.CommandRows.{found_named}
use Rattle.cli_args.proofs.commands.command_named.Goals as goal

pub returns-clause-name : goal.returns-clause-name
returns-clause-name c =
    let rows = c.command_rows.result.now in
    let found = find_from_yields_List (λ (row : CommandRow). bytes_eq c.args.word.now row.word.now) _ _ c.find.result c.find.ensures.ran (YieldsList-from_slice rows cc) (λ x b q k. search (rules, tests)) in
    ap (option_map (λ row. row.name)) (c.copied.ensures ∙ found) ∙ found_named rows c.args.word.now c.command_rows.ensures.rows c.command_rows.ensures.names
