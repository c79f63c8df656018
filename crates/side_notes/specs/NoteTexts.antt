-- Notes as lines: at most ten of a kind, and how many more there are.
use Rattle.std.specs.Prelude.{ℕ, ◌+◌, ◌-◌, ◌==◌, Bool, ◌&&◌, nat_lt, nat_le, if◌then◌else◌, List, [], ◌∷◌, ◌++◌, length, take, filter, flat_map, count_by, codes, decimal}
use Rattle.std.specs.List.{concat}
use Rattle.type_notes.specs.Notes.{kind_name}
use Rattle.type_notes.specs.contracts.note.NoteKindPartialEq.TheImpl.{ghosts}
use Rattle.type_notes.specs.declared.note.Note.{Note}
use Rattle.type_notes.specs.declared.note.NoteKind.{NoteKind}
use Rattle.type_notes.specs.declared.note.NoteKind.TheVariants.{ArrayDimensions, MemberInPadding, UnionWithoutMembers, TagOrName, ParameterName, Qualifiers, Prototype, Endianity, CallingConvention, AddressClass, NoReturn, Packing, EnumeratorSign, DefinedElsewhere, ThreadObject, ObjectQualifiers, ExportAdded, VersionAdded, Successor, AffectedExport, NeedsLibrary, NeedsVersion, NeedsSymbol, IdleSection}

-- ---- one note

abbrev pub newline : List ℕ
newline = 10 ∷ []

-- what a line begins with
unfoldable pub line_start : NoteKind → List ℕ
line_start kind = codes "abi: note: " ++ kind_name kind

-- a text behind a sign, where there is one
abbrev pub behind : List ℕ → List ℕ → List ℕ
behind sign text = if length text == 0 then [] else sign ++ text

-- the sign in front of what is there now, behind what was there
abbrev pub change_sign_of : List ℕ → List ℕ
change_sign_of was = if length was == 0 then codes ": " else codes ", now "

-- what a line says of the note's place: the export and the path
abbrev pub line_front : Note → List ℕ
line_front note = concat (line_start note.kind ∷ behind (codes ": ") note.export ∷ behind (codes " ") note.path ∷ [])

-- what a line says of the note's texts: the old state and the new one
abbrev pub line_end : Note → List ℕ
line_end note = concat (behind (codes ": was ") note.was ∷ behind (change_sign_of note.was) note.is ∷ newline ∷ [])

-- a note as a line
unfoldable pub note_line : Note → List ℕ
note_line note = line_front note ++ line_end note

-- ---- the notes of a kind

-- whether a note is of a kind
abbrev pub is_of : NoteKind → Note → Bool
is_of kind note = ghosts.eq note.kind kind

-- the first ten notes of a kind
abbrev pub first_of : NoteKind → List Note → List Note
first_of kind notes = take 10 (filter (is_of kind) notes)

abbrev pub rest_words : ℕ → List ℕ
rest_words rest = concat (codes ": and " ∷ decimal rest ∷ codes " more" ∷ newline ∷ [])

-- how many more there are
abbrev pub rest_line : NoteKind → ℕ → List ℕ
rest_line kind count = if nat_le count 10 then [] else line_start kind ++ rest_words (count - 10)

abbrev pub first_lines : NoteKind → List Note → List ℕ
first_lines kind notes = flat_map note_line (first_of kind notes)

-- the first ten notes of a kind, and how many more there are of it
abbrev pub kind_text : List Note → NoteKind → List ℕ
kind_text notes kind = first_lines kind notes ++ rest_line kind (count_by (is_of kind) notes)

-- ---- all notes

-- the kinds, in the order in which they are printed
unfoldable pub all_kinds : List NoteKind
all_kinds = AffectedExport ∷ ExportAdded ∷ VersionAdded ∷ ThreadObject ∷ ObjectQualifiers ∷ Successor ∷ NeedsLibrary ∷ NeedsVersion ∷ NeedsSymbol ∷ IdleSection ∷ ArrayDimensions ∷ MemberInPadding ∷ UnionWithoutMembers ∷ TagOrName ∷ ParameterName ∷ Qualifiers ∷ Prototype ∷ Endianity ∷ CallingConvention ∷ AddressClass ∷ NoReturn ∷ Packing ∷ EnumeratorSign ∷ DefinedElsewhere ∷ []

-- the notes of each kind, one kind after another
abbrev pub note_text : List Note → List ℕ
note_text notes = flat_map (kind_text notes) all_kinds

-- ---- one after another

-- the line of a note that is of a kind, with this many of that kind before it
abbrev pub line_if : NoteKind → ℕ → Note → List ℕ
line_if kind so_far note = if is_of kind note && nat_lt so_far 10 then note_line note else []

-- the number of notes of a kind so far, with this one; it stops at ten
abbrev pub counted_to : NoteKind → ℕ → Note → ℕ
counted_to kind so_far note = if is_of kind note && nat_lt so_far 10 then so_far + 1 else so_far
