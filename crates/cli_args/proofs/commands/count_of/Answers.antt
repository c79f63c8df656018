use Rattle.std.proofs.Common.{◌∙◌, ap, arith, length}
use Rattle.std.proofs.lemmas.Iterator.Consumers.{count_from_yields_List}
use Rattle.std.proofs.lemmas.Iterator.Splits.{YieldsList-from_str_split}
use Rattle.cli_args.proofs.commands.count_of.Goals as goal

pub returns : goal.returns
returns c =
    count_from_yields_List c.split.result c.count.result c.count.ensures.ran
    (YieldsList-from_str_split 32 c.args.row.arguments.now (omega arith) c.split.ensures.text c.split.ensures.has_more c.split.ensures.pattern)
    ∙ ap length c.requires.arguments
