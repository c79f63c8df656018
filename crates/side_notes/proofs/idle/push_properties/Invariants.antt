-- The properties so far.
use Rattle.std.proofs.Common.{◌≡◌, ◌++◌, take, string_bytes}
use Rattle.std.specs.List.{flat_map}
use Rattle.side_notes.specs.Idle.{shown_property}
use Rattle.side_notes.proofs.idle.push_properties.Given as goal

abbrev pub invariant-loop-property : goal.invariant-loop-property
invariant-loop-property l = string_bytes l.text ≡ string_bytes l.fn.text ++ flat_map shown_property (take l.property-index l.properties)
