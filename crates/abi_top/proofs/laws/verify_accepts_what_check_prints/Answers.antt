use Rattle.abi_top.proofs.Printed.{accepts_what_check_prints}
use Rattle.abi_top.proofs.laws.verify_accepts_what_check_prints.Goals as goal

pub returns : goal.returns
returns c = accepts_what_check_prints c.what_check_prints_is_accepted.ensures.readable c.what_check_prints_is_accepted.ensures.alone
