use Rattle.new_needs.specs.Plain.{plain_needed}
use Rattle.new_needs.proofs.SeenLemmas.{seen_more, seen_new}
use Rattle.new_needs.proofs.differing.see.Goals as goal

pub returns-clause-new : goal.returns-clause-new
returns-clause-new c = λ those are. seen_new c.args.seen.now those (plain_needed c.args.needed.now) c.in_ok-new.new c.in_ok-new.ensures.added are

pub returns-clause-seen : goal.returns-clause-seen
returns-clause-seen c = λ those are. seen_more c.args.seen.now c.insert.new.self those (plain_needed c.args.needed.now) c.in_ok-new.ensures.updates.0 are
