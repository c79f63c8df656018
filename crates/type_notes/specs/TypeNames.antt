-- The names of types, as C sees them: the typedefs on the way to a structure, a union, an enumeration or a base type, and that
-- type's own name.
use Rattle.std.specs.Prelude.{ℕ, ◌==◌, if◌then◌else◌, List, [], ◌++◌, length, drop, Option, codes}
use Rattle.std.specs.List.{flat_map}
use Rattle.abi_types.specs.declared.kind.LabelKind.{LabelKind}
use Rattle.abi_types.specs.declared.kind.LabelKind.TheVariants as label
use Rattle.abi_types.specs.Shown.{shown}
use Rattle.abi_types.specs.Types.{PlainLabel, PlainNode}
use Rattle.type_notes.specs.declared.note.NoteKind.TheVariants as note
use Rattle.type_notes.specs.declared.difference.Difference.{Difference}
use Rattle.type_notes.specs.Differences.{differing}

-- the keyword in front of a name of a kind
abbrev pub keyword : LabelKind → List ℕ
keyword label.Structure = codes "struct "
keyword label.Union = codes "union "
keyword label.Enumeration = codes "enum "
keyword label.Typedef = []
keyword label.Builtin = []

-- a name, or a note that the type has no tag
abbrev pub shown_or_none : List ℕ → List ℕ
shown_or_none name = if length name == 0 then codes "without a tag" else shown name

-- a name, with the separator in front
abbrev pub label_behind : PlainLabel → List ℕ
label_behind l = codes " = " ++ (keyword l.kind ++ shown_or_none l.name)

-- the names, with ` = ` between them: each comes with a separator in front, and the first separator is dropped
abbrev pub labels_text : List PlainLabel → List ℕ
labels_text labels = drop 3 (flat_map label_behind labels)

-- the names of two types, if they differ
unfoldable pub name_change : PlainNode → PlainNode → Option Difference
name_change a b = differing note.TagOrName (labels_text a.labels) (labels_text b.labels)
