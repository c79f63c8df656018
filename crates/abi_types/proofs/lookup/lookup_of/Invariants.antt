-- What is kept of the parts so far.
use Rattle.std.proofs.Common.{map}
use Rattle.abi_types.specs.Parts.{plain_part}
use Rattle.abi_types.proofs.LookupLemmas.{IsFilling}
use Rattle.abi_types.proofs.lookup.lookup_of.Given as goal

abbrev pub invariant-loop-i : goal.invariant-loop-i
invariant-loop-i g l = IsFilling (map (plain_part g.Ix.Index.number_of) l.items) l.i l.counts l.numbers.items l.places.items
