-- By induction on the path.
use Rattle.pair_rules.proofs.Leading.{related_from_path}
use Rattle.pair_rules.proofs.laws.closed_relations_hold_what_is_reachable.Goals as goal

pub returns : goal.returns
returns c t r path x closed roots leads = related_from_path t r closed roots path x leads
