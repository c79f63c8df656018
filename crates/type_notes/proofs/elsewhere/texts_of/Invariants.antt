-- The texts so far.
use Rattle.std.proofs.Common.{◌≡◌, map, take}
use Rattle.type_notes.specs.DefinitionTexts.{definition_text}
use Rattle.type_notes.proofs.elsewhere.texts_of.Given as goal

abbrev pub invariant-loop-k : goal.invariant-loop-k
invariant-loop-k l = l.texts ≡ map (definition_text l.dwarf) (take l.k l.entries)
