-- The notes on sections that stand in a rule file.
use Rattle.std.proofs.Common.{◌≡◌, List, [], ◌∷◌, map, refl, ◌∙◌, ap}
use Rattle.std.specs.Borrow.{Bor}
use Rattle.abi_types.specs.Libraries.{PlainLibrary}
use Rattle.idle_sections.specs.Idle.{idle_of}
use Rattle.suppression_text.specs.Rules.{PlainRules, PlainSection}
use Rattle.type_notes.specs.declared.note.Note.{Note}
use Rattle.side_notes.specs.Idle.{idle_note, idle_notes}

abbrev pub section_at : Bor PlainSection → PlainSection
section_at section = section.now

each : (sections : List (Bor PlainSection)) → map (λ (section : Bor PlainSection). idle_note section.now) sections ≡ map idle_note (map section_at sections)
each [] = refl
each (s ∷ sections) = ap (λ (ns : List Note). idle_note s.now ∷ ns) (each sections)

pub notes_on : (rules : PlainRules) (old : PlainLibrary) (sections : List (Bor PlainSection)) → map section_at sections ≡ idle_of rules old → map (λ (section : Bor PlainSection). idle_note section.now) sections ≡ idle_notes rules old
unfolding idle_notes
notes_on rules old sections are = each sections ∙ ap (map idle_note) are
