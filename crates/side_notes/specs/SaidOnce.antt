-- Notes that name the same types, and the first one of each.
use Rattle.std.specs.Prelude.{◌≡◌, ℕ, Bool, not, ◌&&◌, if◌then◌else◌, List, [], ◌∷◌, length, take, Option, Some, None, slice_get, Vec}
use Rattle.std.specs.BTreeSet.{BTreeSet, contains_by}
use Rattle.std.specs.Cmp.Lexicographic.{slice_cmp}
use Rattle.std.specs.List.{flat_map, list_any, range_with_len}
use Rattle.std.specs.Ordering.{nat_cmp, ordering_then}
use Rattle.std.specs.Str.{bytes_eq}
use Rattle.std.specs.declared.alloc.Global.{Global}
use Rattle.std.specs.declared.cmp.Ordering.{Ordering}
use Rattle.type_notes.specs.contracts.note.NoteKindPartialEq.TheImpl.{ghosts}
use Rattle.type_notes.specs.declared.note.Note.{Note}
use Rattle.type_notes.specs.declared.note.NoteKind.TheVariants.{TagOrName}

-- A note on the names of types has the names of both: those that were there, and those that are there now. A note of another kind
-- does not name its types.
abbrev pub names_types : Note → Bool
names_types note = ghosts.eq note.kind TagOrName

abbrev pub names_none : Note → Bool
names_none note = not (names_types note)

-- the note is on the names of types, and has these names
abbrev pub has_names : List ℕ → List ℕ → Note → Bool
has_names was is note = names_types note && (bytes_eq note.was was && bytes_eq note.is is)

-- Two notes say the same: both are on the names of types, and have the same names. Two notes of another kind may be about different
-- types, whatever their texts are.
abbrev pub say_same : Note → Note → Bool
say_same a b = names_types a && has_names a.was a.is b

-- a note of the list says the same as this one
abbrev pub is_said : List Note → Note → Bool
is_said notes note = list_any (say_same note) notes

abbrev pub kept_if_new : List Note → Option Note → List Note
kept_if_new before None = []
kept_if_new before (Some note) = if is_said before note then [] else note ∷ []

-- the note at a place, where no earlier one says the same
abbrev pub kept_at : List Note → ℕ → List Note
kept_at notes n = kept_if_new (take n notes) (slice_get notes n)

-- the notes that say the same as no earlier one, in their order
unfoldable pub said_once : List Note → List Note
said_once notes = flat_map (kept_at notes) (range_with_len 0 (length notes))

-- ---- the names so far

-- the order of two names: by the first ones, and where these are equal by the second ones
abbrev pub names_cmp : List ℕ → List ℕ → List ℕ → List ℕ → Ordering
names_cmp was is w i = ordering_then (slice_cmp nat_cmp was w) (slice_cmp nat_cmp is i)

-- a search tree: no choice of names makes a look-up long
abbrev pub NameSet : Type 0
NameSet = BTreeSet (Vec ℕ Global × Vec ℕ Global)

-- a set has these names
abbrev pub has_said : NameSet → List ℕ → List ℕ → Bool
has_said set was is = contains_by (λ k. names_cmp was is k.0.items k.1.items) set

-- the set has the names of these notes
abbrev pub AreSaid : List Note → NameSet → Type 0
AreSaid notes set = (was is : Vec ℕ Global) → has_said set was.items is.items ≡ list_any (has_names was.items is.items) notes
