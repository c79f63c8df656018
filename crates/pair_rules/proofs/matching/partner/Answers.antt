-- The partner that was asked for, and one more or none at each part.
use Rattle.std.proofs.Common.{length, sym, arith}
use Rattle.std.proofs.lemmas.Grind.{common_steps}
use Rattle.pair_rules.specs.Partners.{partner_at}
use Rattle.pair_rules.proofs.Given.{filter_map-at, length-filter_map_some, length-filter_map_none}
use Rattle.pair_rules.proofs.matching.partner.Goals as goal
use Rattle.pair_rules.proofs.matching.partner.Goals.{in-Some+else-left-eq0, in_default}

pub returns-then-left-eq0-clause-places : goal.returns-then-left-eq0-clause-places
returns-then-left-eq0-clause-places c =
    let at = filter_map-at (partner_at c.args.old.now c.args.new.now) (length c.args.old.now.parts) c.walk.i c.in-Some.found (omega arith) (sym c.in-Some.ensures.places) in
    grind (arith, common_steps)

pub walk-preserved : goal.walk-preserved
walk-preserved c =
    elim c.match-partner_at.branch [
      | in-Some+else-left-eq0 w ↦ let more = length-filter_map_some (partner_at c.args.old.now c.args.new.now) c.walk.i w.in-Some.found (sym w.in-Some.ensures.places) in omega arith
      | in_default w ↦ let same = length-filter_map_none (partner_at c.args.old.now c.args.new.now) c.walk.i (sym w.in_default.ensures.places) in omega arith
    ]
