-- The members or enumerators so far.
use Rattle.std.proofs.Common.{◌≡◌, ◌++◌, take}
use Rattle.std.specs.List.{flat_map}
use Rattle.type_notes.specs.DefinitionTexts.{part_behind}
use Rattle.type_notes.proofs.definition_texts.push_parts.Given as goal

abbrev pub invariant-loop-k : goal.invariant-loop-k
invariant-loop-k l = l.text.items ≡ l.fn.text.items ++ flat_map (part_behind l.dwarf) (take l.k l.parts)
