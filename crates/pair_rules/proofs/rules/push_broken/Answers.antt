-- A rule on parts is checked where parts are compared.
use Rattle.std.proofs.Common.{sym, ◌∙◌}
use Rattle.pair_rules.proofs.Compared.{matches-compared}
use Rattle.pair_rules.proofs.rules.push_broken.Goals as goal

pub push_parts-requires : goal.push_parts-requires
push_parts-requires c = c.requires.matches ∙ matches-compared c.args.old.now c.args.new.now (c.requires.asked (sym c.speaks_of_parts.ensures ∙ c.if-speaks_of_parts.true))
