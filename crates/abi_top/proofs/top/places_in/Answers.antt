use Rattle.std.proofs.Common.{ap, arith}
use Rattle.cli_args.specs.Commands.{plain_request}
use Rattle.abi_top.proofs.top.places_in.Goals as goal

pub invariant_of-places : goal.invariant_of-places
invariant_of-places c =
    let counted = c.requires.counted c.in-Trial.count (ap plain_request c.in-Trial.is) in
    record { some = omega (arith, counted.0); few = counted.1 }
