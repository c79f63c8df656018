-- What `app` promises: when a new library may replace an old one for one application, given their bytes and those of a rule file,
-- and the text that shows it.
use Rattle.std.specs.Prelude.{◌≡◌, ◌↔◌, ℕ, Bool, List, [], ◌∷◌, ◌++◌, Option, Contains, map, codes, if◌then◌else◌}
use Rattle.std.specs.List.{concat}
use Rattle.abi_types.specs.Exports.{PlainExport}
use Rattle.abi_types.specs.Libraries.{PlainLibrary}
use Rattle.abi_types.specs.Shown.{label}
use Rattle.elf_needs.specs.Needs.{PlainNeed}
use Rattle.app_check.specs.Imports.{PlainImport, imports_of}
use Rattle.app_check.specs.Used.{narrowed_marks, used_exports}
use Rattle.accesses.specs.LeafPlaces.{LeavesStay}
use Rattle.report.specs.Listening.{Voice}
use Rattle.report.specs.Render.{newline}
use Rattle.cert_check.specs.Agreed.{IsAgreed}
use Rattle.cert_check.specs.Compatible.{Sides, sides, IsCompatible, task_of}
use Rattle.commands.specs.declared.verdict.Verdict.{Verdict}
use Rattle.commands.specs.declared.verdict.Verdict.TheVariants.{Yes, No, Refused, Done}
use Rattle.library_read.specs.Libraries.{library_of}
use Rattle.suppression_text.specs.Rules.{PlainRules, rules_of}
use Rattle.suppressions.specs.Marks.{marks_of}
use Rattle.library_check.specs.Judgements.{IsRefusal}

-- ---- libraries after they are read

-- for each export of a library, whether one of these imports binds to it
abbrev pub used_by : List PlainImport → PlainLibrary → List Bool
used_by imports old = used_exports imports old.soname old.exports

-- two libraries, where neither what a rule file drops nor an export without an import that binds to it is compared
abbrev pub sides_used : List PlainImport → PlainLibrary → PlainLibrary → PlainRules → Sides
sides_used imports old new rules = sides old new (narrowed_marks (marks_of rules old) (used_by imports old))

-- the line of a used export
abbrev pub use_line : PlainExport → List ℕ
use_line e = concat (codes "use " ∷ label e ∷ newline ∷ [])

-- the lines of the exports that are not dropped, in order
abbrev pub use_lines : List PlainExport → List Bool → List ℕ
use_lines (e ∷ exports) (dropped ∷ others) = (if dropped then [] else use_line e) ++ use_lines exports others
use_lines exports dropped = []

-- the text of a yes: a line for each compared old export
abbrev pub uses_text : Sides → List ℕ
uses_text s = concat (codes "yes app" ∷ newline ∷ use_lines s.old.exports s.marks.exports ∷ [])

-- what is said about two libraries: yes with the compared exports, or no with the report on them
abbrev pub IsSaidOfUsed : List Voice → Sides → Verdict → List ℕ → Type 0
IsSaidOfUsed voices s Yes text = IsCompatible s × (text ≡ uses_text s)
IsSaidOfUsed voices s No text = (IsCompatible s → ⊥) × IsRefusal voices s text
IsSaidOfUsed voices s Refused text = ⊥
IsSaidOfUsed voices s Done text = ⊥

-- ---- files

-- the libraries in two files, and what is compared between them for the application in a third one
abbrev pub sides_for : List ℕ → List ℕ → List ℕ → List ℕ → Sides
sides_for app old new rules = sides_used (imports_of app) (library_of old) (library_of new) (rules_of rules)

-- The new library may replace the old one for the application, in all that the rule file does not suppress: it may if every old
-- export that the application does not use is suppressed as well.
abbrev pub IsCompatibleFor : List ℕ → List ℕ → List ℕ → List ℕ → Type 0
IsCompatibleFor app old new rules = IsCompatible (sides_for app old new rules)

-- What that means for a program that was compiled against the old library and uses only these exports.
abbrev pub AgreedFor : List ℕ → List ℕ → List ℕ → List ℕ → Type 0
AgreedFor app old new rules = IsAgreed (sides_for app old new rules)

-- Each leaf on which an open access from the types of these exports lands stays at its offset, as `KeepsLeaves` says.
abbrev pub KeepsLeavesFor : List ℕ → List ℕ → List ℕ → List ℕ → Type 0
KeepsLeavesFor app old new rules = LeavesStay (task_of (sides_for app old new rules))

-- the text of a yes
abbrev pub uses_for : List ℕ → List ℕ → List ℕ → List ℕ → List ℕ
uses_for app old new rules = uses_text (sides_for app old new rules)

-- the text of a no, with listeners of these voices
abbrev pub IsAppReportText : List Voice → List ℕ → List ℕ → List ℕ → List ℕ → List ℕ → Type 0
IsAppReportText voices app old new rules text = IsRefusal voices (sides_for app old new rules) text

-- ---- imports

-- what an import requires: a name, and if it has a version, that version and the file that must provide it
abbrev pub name_and_need : PlainImport → List ℕ × Option PlainNeed
name_and_need i = (i.name, i.need)

-- the imports of two applications require the same
abbrev pub ImportTheSame : List ℕ → List ℕ → Type 0
ImportTheSame app other = (wanted : List ℕ × Option PlainNeed) → Contains (map name_and_need (imports_of app)) wanted ↔ Contains (map name_and_need (imports_of other)) wanted
