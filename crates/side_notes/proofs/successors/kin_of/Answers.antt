-- Export by export.
use Rattle.side_notes.proofs.SuccessorLemmas.{kin_more}
use Rattle.side_notes.proofs.successors.kin_of.Goals as goal

pub list-preserved : goal.list-preserved
list-preserved c = kin_more c.args.old.now.exports c.exports-exports.result.now c.list.kin c.put_if_added.new.kin c.list.place _ c.list-test.true c.list.invariant c.in_ok-put_if_added.ensures.ok
