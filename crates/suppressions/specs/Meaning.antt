-- The meaning of a rule file: the exports that it drops, and the types that it marks.
use Rattle.std.specs.Prelude.{◌==◌, ◌&&◌, ◌||◌, ℕ, Bool, false, List, Option}
use Rattle.std.specs.List.{list_all, list_any}
use Rattle.std.specs.Option.{option_map_or}
use Rattle.abi_types.specs.declared.kind.Way.{Way}
use Rattle.abi_types.specs.Exports.{PlainExport}
use Rattle.abi_types.specs.Types.{PlainLabel}
use Rattle.suppression_text.specs.declared.key.SectionKind.{SectionKind}
use Rattle.suppression_text.specs.declared.key.SectionKind.TheVariants.{Functions, Variables, Types}
use Rattle.suppression_text.specs.Keys.{is_label}
use Rattle.suppression_text.specs.Passing.{passes}
use Rattle.suppression_text.specs.Rules.{PlainProperty, PlainSection, PlainRules}
use Rattle.suppressions.specs.Subjects.{PlainSubject, asked, export_subject, label_subject}

-- the subject has bytes to test, and they pass the property
abbrev pub passing : PlainProperty → Option (List ℕ) → Bool
passing p bytes = option_map_or (passes p.key p.value) bytes false

-- A label always holds. Any other property holds if the subject has the bytes that it tests, and they pass.
unfoldable pub property_holds : PlainSubject → PlainProperty → Bool
property_holds s p = is_label p.key || passing p (asked s p.key)

abbrev pub kind_place : SectionKind → ℕ
kind_place Functions = 0
kind_place Variables = 1
kind_place Types = 2

abbrev pub speaks_of : PlainSection → PlainSubject → Bool
speaks_of section s = kind_place section.kind == kind_place s.kind

-- The section matches the subject: it is for this kind, and all its properties hold.
unfoldable pub section_holds : PlainSubject → PlainSection → Bool
section_holds s section = speaks_of section s && list_all (property_holds s) section.properties

-- one of the sections matches the subject
abbrev pub some_section_holds : List PlainSection → PlainSubject → Bool
some_section_holds sections s = list_any (section_holds s) sections

-- the sections drop an export of a library that has this soname
abbrev pub drops : List PlainSection → Option (List ℕ) → PlainExport → Bool
drops sections soname e = some_section_holds sections (export_subject soname e)

-- the sections mark a name of a type, if a program reaches the type in this way
abbrev pub marks_name : List PlainSection → Option (List ℕ) → Way → PlainLabel → Bool
marks_name sections soname way l = some_section_holds sections (label_subject soname way l)

-- the sections mark one of the names of a type
abbrev pub marks_names : List PlainSection → Option (List ℕ) → Way → List PlainLabel → Bool
marks_names sections soname way labels = list_any (marks_name sections soname way) labels

-- ---- rule files

-- the rule file drops an export of a library that has this soname
unfoldable pub is_dropped : PlainRules → Option (List ℕ) → PlainExport → Bool
is_dropped rules soname e = drops rules.sections soname e

-- the rule file marks a type that has these names, if a program reaches it in this way
unfoldable pub is_marked : PlainRules → Option (List ℕ) → List PlainLabel → Way → Bool
is_marked rules soname labels way = marks_names rules.sections soname way labels
