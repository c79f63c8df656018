use Rattle.std.proofs.Common.{ap}
use Rattle.type_reach.specs.Rows.{rows_from}
use Rattle.type_reach.proofs.rows.Rows.with_capacity.Goals as goal

pub returns-clause-rows : goal.returns-clause-rows
unfolding rows_from
returns-clause-rows g c = ap (rows_from c.new.result.items 0) c.in_ok-ends.ensures.items
