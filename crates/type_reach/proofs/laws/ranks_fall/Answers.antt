use Rattle.std.proofs.Common.{arith}
use Rattle.abi_base.specs.Limits.{depth_limit}
use Rattle.type_reach.proofs.FactLemmas.{shallow-step, rank-falls, rank-bound}
use Rattle.type_reach.proofs.laws.ranks_fall.Goals as goal

pub returns : goal.returns
returns c = record { shallow = shallow-step; bound = λ d r shallow. rank-bound d depth_limit r (omega arith) shallow; falls = rank-falls }
