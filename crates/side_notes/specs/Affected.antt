-- The exports that lead to two types which break a rule, beside the one that the row on these names.
use Rattle.std.specs.Prelude.{◌≡◌, ◌==◌, ◌&&◌, ◌+◌, ℕ, Bool, if◌then◌else◌, List, [], ◌∷◌, ◌++◌, length, codes, flat_map, map, Contains, Option, Some, None, slice_get}
use Rattle.std.specs.Option.{option_map_or}
use Rattle.abi_base.specs.Lists.{firsts}
use Rattle.abi_types.specs.Exports.{PlainExport}
use Rattle.abi_types.specs.Libraries.{PlainLibrary}
use Rattle.pair_rules.specs.declared.rules.Broken.{Broken}
use Rattle.pair_rules.specs.Paths.{Path}
use Rattle.pair_explorer.specs.declared.visits.Visit.{Visit}
use Rattle.pair_explorer.specs.Explorations.{IsExploration}
use Rattle.pair_explorer.specs.Routes.{path_at}
use Rattle.pair_explorer.specs.Scopes.{Scope}
use Rattle.pair_explorer.specs.Visits.{AreEarlier}
use Rattle.cert_check.specs.Compatible.{Sides, task_of}
use Rattle.leading_exports.specs.Leading.{AreLeading}
use Rattle.pair_compare.specs.reports.Findings.{export_of}
use Rattle.pair_compare.specs.reports.PathTexts.{IsWalk, label_at, steps_text}
use Rattle.pair_compare.specs.reports.TypeFindings.{IsCoarse}
use Rattle.type_notes.specs.declared.note.Note.{Note}
use Rattle.type_notes.specs.declared.note.NoteKind.TheVariants.{AffectedExport}
use Rattle.side_notes.specs.NoteTexts.{behind}

-- ---- two types that break a rule

abbrev pub pair_by : Option Visit → ℕ × ℕ
pair_by None = (0, 0)
pair_by (Some v) = (v.old, v.new)

-- the types of the visit of a number
abbrev pub pair_at : List Visit → ℕ → ℕ × ℕ
pair_at visits n = pair_by (slice_get visits n)

abbrev pub same_pair : ℕ × ℕ → ℕ × ℕ → Bool
same_pair p q = p.0 == q.0 && p.1 == q.1

abbrev pub same_types : List Visit → ℕ → ℕ → Bool
same_types visits m n = same_pair (pair_at visits m) (pair_at visits n)

-- the numbers of the visits with breaks, of each two types the first
abbrev pub first_visits : List Visit → List (ℕ × Broken) → List ℕ
first_visits visits breaks = firsts (same_types visits) (map (λ (p : ℕ × Broken). p.0) breaks)

-- ---- the notes on one row

-- the reference to a row: the label of its export, and the steps of its path if it has steps
abbrev pub as_row : List ℕ → List ℕ → List ℕ
as_row label steps = codes "as " ++ label ++ behind (codes " ") steps

abbrev pub row_text : PlainLibrary → Path → List ℕ
row_text l path = as_row (label_at l (export_of path)) (steps_text l path)

abbrev pub affected_note : List ℕ → List ℕ → Note
affected_note row label = record { kind = AffectedExport; export = label; path = row; was = []; is = [] }

-- the note on an export, where it is not the row's own
abbrev pub note_beside : PlainLibrary → ℕ → List ℕ → ℕ → List Note
note_beside l own row export = if export == own then [] else affected_note row (label_at l export) ∷ []

-- the notes on these exports at the row of a path, without the row's own export
abbrev pub notes_beside : PlainLibrary → Path → List ℕ → List Note
notes_beside l path exports = flat_map (note_beside l (export_of path) (row_text l path)) exports

abbrev pub notes_by : PlainLibrary → Path → List ℕ → Option Visit → List Note
notes_by l path exports None = []
notes_by l path exports (Some v) = notes_beside l path exports

-- the notes on these exports at the row of the visit of a number; none if there is no such visit
unfoldable pub row_notes : PlainLibrary → List Visit → ℕ × List ℕ → List Note
row_notes l visits row = notes_by l (path_at visits row.0) row.1 (slice_get visits row.0)

-- ---- what a note takes

-- how many letters the name of the export at a position has
abbrev pub name_len_at : PlainLibrary → ℕ → ℕ
name_len_at l export = option_map_or (λ (e : PlainExport). length e.name) (slice_get l.exports export) 0

-- what counts for a note besides its letters
abbrev pub bare_note_size : ℕ
bare_note_size = 128

-- what counts for the note on an export at the row with a text: the letters of the export's name and of the text, and the rest
abbrev pub note_size : PlainLibrary → List ℕ → ℕ → ℕ
note_size l row export = name_len_at l export + length row + bare_note_size

-- ---- the notes on all rows

-- these are the exports that lead to the types of the visit of a number
abbrev pub LeadToRow : Scope → List Visit → ℕ × List ℕ → Type 0
LeadToRow scope visits row = AreLeading scope (pair_at visits row.0).0 (pair_at visits row.0).1 row.1

-- The notes at the rows of visits with these numbers, each by all exports that lead to its types.
pub record AreRowNotes (l : PlainLibrary) (scope : Scope) (visits : List Visit) (numbers : List ℕ) (notes : List Note) : Type 0 where
  pub rows : List (ℕ × List ℕ)
  pub numbered : map (λ (row : ℕ × List ℕ). row.0) rows ≡ numbers
  pub led : (row : ℕ × List ℕ) → Contains rows row → LeadToRow scope visits row
  pub are : notes ≡ flat_map (row_notes l visits) rows

-- ---- one after another

-- the notes at the row of one more visit are added
pub record AddsRow (l : PlainLibrary) (scope : Scope) (visits : List Visit) (number : ℕ) (before after : List Note) : Type 0 where
  pub exports : List ℕ
  pub led : LeadToRow scope visits (number, exports)
  pub are : after ≡ before ++ row_notes l visits (number, exports)

-- ---- what can be read

-- the path to each visit goes over nodes that are there
pub record AreSpelled (l : PlainLibrary) (visits : List Visit) : Type 0 where
  pub earlier : AreEarlier visits
  pub walks : (n : ℕ) (v : Visit) → slice_get visits n ≡ Some v → IsWalk l (path_at visits n)

-- ---- two libraries

-- The notes on two libraries, of whose types one of each class of alike ones is compared: at each two types that break a rule, by
-- the first path that leads to them.
pub record AreAffected (s : Sides) (notes : List Note) : Type 0 where
  pub scope : Scope
  pub task : scope.task ≡ task_of s
  pub coarse : IsCoarse scope
  pub visits : List Visit
  pub breaks : List (ℕ × Broken)
  pub explored : IsExploration scope visits breaks
  pub rows : AreRowNotes s.old scope visits (first_visits visits breaks) notes
