use Rattle.cert_check.proofs.Sound.{typed_roots_iff, typed_roots-ascend, typed_pair-inside}
use Rattle.cert_check.proofs.laws.roots_are_typed_pairs.Goals as goal

pub returns-clause-exact : goal.returns-clause-exact
returns-clause-exact c = typed_roots_iff

pub returns-clause-ascending : goal.returns-clause-ascending
returns-clause-ascending c = typed_roots-ascend

pub returns-clause-nodes : goal.returns-clause-nodes
returns-clause-nodes c = typed_pair-inside
