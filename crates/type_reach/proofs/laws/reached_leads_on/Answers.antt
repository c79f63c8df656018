use Rattle.std.proofs.Common.{suc}
use Rattle.type_reach.proofs.laws.reached_leads_on.Goals as goal

pub returns : goal.returns
returns c = λ t roots e f reached has. (suc reached.0, (e, reached.1, has))
