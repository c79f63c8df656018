-- The notes on two libraries.
use Rattle.std.specs.Prelude.{◌≡◌, ◌<◌, ℕ, ◌==◌, Bool, false, if◌then◌else◌, List, [], ◌++◌, ◌||◌, length, map, nat_eq, take, Option, Some, None, option_to_list, slice_get}
use Rattle.std.specs.List.{flat_map, list_any, range_with_len}
use Rattle.std.specs.HashSet.{HashSet, contains}
use Rattle.std.specs.declared.hash.FoldHasher.{FoldHasher}
use Rattle.std.specs.declared.hash.BuildHasherDefault.{BuildHasherDefault}
use Rattle.abi_types.specs.Graphs.{node_at}
use Rattle.dwarf_entries.specs.Debug.{PlainDwarf}
use Rattle.type_reach.specs.References.{Type_}
use Rattle.type_classes.specs.Classes.{PlainClasses, rep_of}
use Rattle.pair_rules.specs.declared.rules.Broken.{Broken}
use Rattle.pair_rules.specs.Steps.{is_marked}
use Rattle.pair_explorer.specs.declared.visits.Visit.{Visit}
use Rattle.pair_explorer.specs.Explorations.{IsExploration}
use Rattle.pair_explorer.specs.Routes.{path_at}
use Rattle.pair_explorer.specs.Visits.{AreEarlier}
use Rattle.cert_check.specs.Compatible.{Sides, task_of}
use Rattle.pair_compare.specs.BoundPair.{sides_of}
use Rattle.pair_compare.specs.Explored.{scope_of}
use Rattle.pair_compare.specs.reports.Findings.{export_of}
use Rattle.pair_compare.specs.reports.PathTexts.{label_at, steps_text, IsWalk}
use Rattle.type_notes.specs.declared.definitions.DefinitionPair.{DefinitionPair}
use Rattle.type_notes.specs.declared.difference.Difference.{Difference}
use Rattle.type_notes.specs.declared.note.Note.{Note}
use Rattle.type_notes.specs.declared.noted_pair.NotedPair.{NotedPair}
use Rattle.type_notes.specs.declared.type_pair.Packed.{Packed}
use Rattle.type_notes.specs.Between.{differences}
use Rattle.type_notes.specs.Chains.{core_at}
use Rattle.type_notes.specs.DefinedElsewhere.{AreOfBoth, definitions_behind, kin_change, kin_of}
use Rattle.type_notes.specs.TypePairs.{ArePacked}

-- two libraries with marks, and the debug entries of both
pub record PlainPair : Type 0 where
  pub sides : Sides
  pub old_dwarf : PlainDwarf
  pub new_dwarf : PlainDwarf

abbrev pub noted_pair : NotedPair → PlainPair
noted_pair p = record { sides = sides_of p.pair; old_dwarf = p.old_dwarf.now; new_dwarf = p.new_dwarf.now }

-- the maps hold the definitions of both libraries' types
abbrev pub AreDefinedIn : NotedPair → DefinitionPair → Type 0
AreDefinedIn p definitions = AreOfBoth p.old_dwarf.now p.new_dwarf.now definitions

-- the lists say of each type of both libraries whether it is packed
abbrev pub ArePackedIn : NotedPair → Packed → Type 0
ArePackedIn p packed = ArePacked p.pair.old.now.graph p.pair.new.now.graph packed

-- ---- one visit

-- the note on a difference, with the printed forms of an export and a path
abbrev pub difference_note : List ℕ → List ℕ → Difference → Note
difference_note export path d = record { kind = d.kind; export = export; path = path; was = d.was; is = d.is }

-- a difference as a note, with the path to visit number n
abbrev pub noted_at : Sides → List Visit → ℕ → Difference → Note
noted_at s visits n d = difference_note (label_at s.old (export_of (path_at visits n))) (steps_text s.old (path_at visits n)) d

-- the differences between the types of a visit
abbrev pub differences_of : PlainPair → Visit → List Difference
differences_of p v = differences p.old_dwarf p.new_dwarf p.sides.old.graph p.sides.new.graph v.old v.new

-- the entries behind the types of a visit
abbrev pub old_core : PlainPair → Visit → Type_
old_core p v = core_at p.old_dwarf.tree (node_at p.sides.old.graph v.old).entry

abbrev pub new_core : PlainPair → Visit → Type_
new_core p v = core_at p.new_dwarf.tree (node_at p.sides.new.graph v.new).entry

-- the definitions behind the types of a visit, if at least one of them is only declared
abbrev pub defined_behind : PlainPair → Visit → Option (ℕ × ℕ)
defined_behind p v = definitions_behind p.old_dwarf p.new_dwarf (old_core p v) (new_core p v)

-- the definitions that are compared at a visit, if at least one of its types is only declared
unfoldable pub definitions_at : PlainPair → Visit → Option (ℕ × ℕ)
definitions_at p v =
    if is_marked (task_of p.sides) v.old v.way then None else defined_behind p v

abbrev pub is_of : ℕ → Option (ℕ × ℕ) → Bool
is_of a None = false
is_of a (Some definitions) = definitions.0 == a

-- the old definition is compared at one of the first visits
abbrev pub was_compared : PlainPair → List Visit → ℕ → ℕ → Bool
was_compared p visits n a = list_any (λ v. is_of a (definitions_at p v)) (take n visits)

-- the difference between all definitions of the tags and names of two definitions
abbrev pub change_behind : PlainPair → ℕ → ℕ → Option Difference
change_behind p a b = kin_change p.old_dwarf p.new_dwarf (kin_of p.old_dwarf a) (kin_of p.new_dwarf b)

-- the change of a definition, unless the old one is in a set
abbrev pub change_unless : (ℕ → Bool) → PlainPair → Option (ℕ × ℕ) → List Difference
change_unless among p None = []
change_unless among p (Some (a, b)) = if among a then [] else option_to_list (change_behind p a b)

-- the difference between the definitions that are compared at visit number n, unless an earlier visit compares the old definition
abbrev pub definition_changes : PlainPair → List Visit → ℕ → Visit → List Difference
definition_changes p visits n v = change_unless (was_compared p visits n) p (definitions_at p v)

abbrev pub notes_from : PlainPair → List Visit → ℕ → Option Visit → List Note
notes_from p visits n None = []
notes_from p visits n (Some v) =
    if is_marked (task_of p.sides) v.old v.way then [] else map (noted_at p.sides visits n) (differences_of p v ++ definition_changes p visits n v)

-- The notes of visit number n. There are none where its old node is marked at its way.
unfoldable pub notes_at : PlainPair → List Visit → ℕ → List Note
notes_at p visits n = notes_from p visits n (slice_get visits n)

-- ---- all visits

-- the notes of the first visits, in order
abbrev pub notes_below : PlainPair → List Visit → ℕ → List Note
notes_below p visits n = flat_map (notes_at p visits) (range_with_len 0 n)

-- Each node stands for itself only.
abbrev pub AreAlone : PlainClasses → Type 0
AreAlone c = (i : ℕ) → rep_of c i ≡ i

-- The notes of all visits of an exploration from the types of the compared exports, where each type stands for itself.
pub record AreNotes (p : PlainPair) (notes : List Note) : Type 0 where
  pub old_classes : PlainClasses
  pub new_classes : PlainClasses
  pub old_nodes : old_classes.nodes ≡ p.sides.old.graph
  pub new_nodes : new_classes.nodes ≡ p.sides.new.graph
  pub old_alone : AreAlone old_classes
  pub new_alone : AreAlone new_classes
  pub visits : List Visit
  pub breaks : List (ℕ × Broken)
  pub explored : IsExploration (scope_of p.sides old_classes new_classes) visits breaks
  pub are : notes ≡ notes_below p visits (length visits)

-- ---- what exists

-- the visit exists, and so do its nodes and the path to it
pub record IsReadable (s : Sides) (visits : List Visit) (n : ℕ) : Type 0 where
  pub visit : Visit
  pub at : slice_get visits n ≡ Some visit
  pub old : visit.old < length s.old.graph
  pub new : visit.new < length s.new.graph
  pub walk : IsWalk s.old (path_at visits n)

pub record AreReadable (s : Sides) (visits : List Visit) : Type 0 where
  pub earlier : AreEarlier visits
  pub each : (n : ℕ) → n < length visits → IsReadable s visits n

-- ---- the definitions that were compared

abbrev pub Numbers : Type 0
Numbers = HashSet ℕ (BuildHasherDefault FoldHasher)

-- the change of a definition, unless the set holds the old one
abbrev pub changes_beside : Numbers → PlainPair → Option (ℕ × ℕ) → List Difference
changes_beside compared p definitions = change_unless (contains nat_eq compared) p definitions

-- the change of the definition behind the types of a visit, unless the set holds the old one
abbrev pub changes_at : Numbers → PlainPair → Visit → List Difference
changes_at compared p v = changes_beside compared p (defined_behind p v)

-- the set after it holds what it held before, and the old one of the definitions
abbrev pub Joins : Option (ℕ × ℕ) → Numbers → Numbers → Type 0
Joins definitions before after =
    (a : ℕ) → contains nat_eq after a ≡ (contains nat_eq before a || is_of a definitions)

-- the set holds the old definitions that are compared at the first visits
pub record AreCompared (p : PlainPair) (visits : List Visit) (n : ℕ) (compared : Numbers) : Type 0 where
  pub each : (a : ℕ) → contains nat_eq compared a ≡ was_compared p visits n a
