-- Places are the same exactly where they are equal.
use Rattle.std.proofs.Common.{◌∙◌}
use Rattle.pair_rules.proofs.PlaceEq.{eq-same_place}
use Rattle.pair_rules.proofs.rules.same_place.Goals as goal

pub returns : goal.returns
returns c = c.eq.ensures ∙ eq-same_place c.args.old c.args.new
