-- What the chain has reached is an entry.
use Rattle.std.proofs.Common.{◌<◌, length}
use Rattle.std.specs.Prelude.{IfSome}
use Rattle.type_notes.proofs.room.NoteRoom.take_chain.Given as goal

abbrev pub invariant-chain : goal.invariant-chain
invariant-chain l = IfSome l.at (λ e. e < length l.dwarf.tree.entries)
