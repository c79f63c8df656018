-- One part fits in memory.
use Rattle.abi_types.proofs.parts.Parts.as_slice.Goals as goal

pub from_ref-requires : goal.from_ref-requires
from_ref-requires g c = g.met.Ix.Index.part_fits
