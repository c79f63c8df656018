-- How many were counted so far.
use Rattle.std.proofs.Common.{◌≡◌, count_by, take}
use Rattle.abi_types.specs.Forms.{is_param}
use Rattle.pair_rules.proofs.rules.params_of.Given as goal

abbrev pub invariant-walk : goal.invariant-walk
invariant-walk g l = l.count ≡ count_by is_param (take l.i l.view.parts)
