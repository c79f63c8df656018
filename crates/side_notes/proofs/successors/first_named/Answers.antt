-- The first of the places of a name.
use Rattle.std.proofs.Common.{sym}
use Rattle.side_notes.proofs.SuccessorLemmas.{first_at, none_named}
use Rattle.side_notes.proofs.successors.first_named.Goals as goal

pub returns-in-None : goal.returns-in-None
returns-in-None c = sym (none_named c.args.new.now.exports c.args.name.now c.exports_named.result.now c.exports_named.ensures (sym c.in-None.ensures.value))

pub returns-in-Some : goal.returns-in-Some
returns-in-Some c = sym (first_at c.args.new.now.exports c.args.name.now c.exports_named.result.now c.exports_named.ensures c.in-Some.place.now (sym c.in-Some.ensures.value))
