-- Each part of the old type that names a node has a match in the middle one, and matches of matches are matches.
use Rattle.pair_rules.proofs.Middles.{meet}
use Rattle.pair_rules.proofs.laws.parts_meet_in_the_middle.Goals as goal

pub returns : goal.returns
returns c = meet
