-- What is there, and the text of what is left, is the whole text.
use Rattle.std.proofs.Common.{◌≡◌, ◌<◌, ◌-◌, ◌++◌, length, string_bytes}
use Rattle.std.specs.Prelude.{IfSome}
use Rattle.type_notes.specs.DefinitionTexts.{type_text}
use Rattle.type_notes.proofs.definition_texts.push_type.Given as goal

abbrev pub invariant-chain : goal.invariant-chain
invariant-chain l = record {
  inside : IfSome l.at (λ e. e < length l.dwarf.tree.entries);
  same : string_bytes l.text ++ type_text l.dwarf (513 - l.passed) l.at ≡ string_bytes l.fn.text ++ type_text l.dwarf 513 l.fn.from;
}
