-- Each next child is an entry, and comes later.
use Rattle.std.proofs.Common.{◌<◌, ◌-◌, length}
use Rattle.std.specs.Prelude.{IfSome}
use Rattle.std.specs.Option.{option_map_or}
use Rattle.type_notes.proofs.room.NoteRoom.take_children.Given as goal

abbrev pub invariant-children : goal.invariant-children
invariant-children l = IfSome l.next (λ child. child < length l.dwarf.tree.entries)

abbrev pub decreases-children : goal.decreases-children
decreases-children l = option_map_or (λ child. length l.dwarf.tree.entries - child) l.next 0
