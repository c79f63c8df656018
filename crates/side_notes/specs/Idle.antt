-- The sections of a rule file that hold of nothing in the old library.
use Rattle.std.specs.Prelude.{ℕ, List, [], ◌++◌, codes, flat_map, map}
use Rattle.abi_types.specs.Libraries.{PlainLibrary}
use Rattle.abi_types.specs.Shown.{shown}
use Rattle.idle_sections.specs.Idle.{idle_of}
use Rattle.suppression_text.specs.declared.key.SectionKind.{SectionKind}
use Rattle.suppression_text.specs.Keys.{key_word, section_word}
use Rattle.suppression_text.specs.Rules.{PlainProperty, PlainRules, PlainSection}
use Rattle.type_notes.specs.declared.note.Note.{Note}
use Rattle.type_notes.specs.declared.note.NoteKind.TheVariants.{IdleSection}
use Rattle.side_notes.specs.Made.{note_on_export}

-- the head of a section
abbrev pub shown_head : SectionKind → List ℕ
shown_head kind = codes "[" ++ section_word kind ++ codes "]"

-- a property: its name and the printed form of its value
abbrev pub shown_property : PlainProperty → List ℕ
shown_property p = codes " " ++ key_word p.key ++ codes "=" ++ shown p.value

-- a section on one line: its head and its properties
unfoldable pub shown_section : PlainSection → List ℕ
shown_section section = shown_head section.kind ++ flat_map shown_property section.properties

abbrev pub idle_note : PlainSection → Note
idle_note section = note_on_export IdleSection [] [] (shown_section section)

-- a note on each section that holds of nothing in the library
unfoldable pub idle_notes : PlainRules → PlainLibrary → List Note
idle_notes rules old = map idle_note (idle_of rules old)
