-- Structures, unions and enumerations that one unit only declares and another unit of the same library defines (DWARF 5, section
-- 2.13.1 "Non-Defining Declarations and Completions").
use Rattle.std.specs.Prelude.{◌≡◌, ◌<◌, ℕ, ◌==◌, Bool, false, not, ◌&&◌, ◌||◌, if◌then◌else◌, List, [], ◌∷◌, length, map, All, flat_map, filter, position, max, Option, Some, None, slice_get, unwrap_or}
use Rattle.std.specs.Borrow.{Bor}
use Rattle.std.specs.BTreeMap.{BTreeMap, get_by}
use Rattle.std.specs.BTreeSet.{BTreeSet, contains_by}
use Rattle.std.specs.Cmp.Lexicographic.{slice_cmp}
use Rattle.std.specs.List.{list_any, range_with_len}
use Rattle.std.specs.Option.{option_or}
use Rattle.std.specs.Ordering.{nat_cmp}
use Rattle.std.specs.Str.{bytes_eq}
use Rattle.abi_base.specs.Dwarf.{dw_tag_compile_unit, dw_tag_partial_unit, dw_tag_type_unit, dw_tag_structure_type, dw_tag_union_type, dw_tag_enumeration_type}
use Rattle.dwarf_tree.specs.Trees.{PlainTree}
use Rattle.dwarf_entries.specs.Addresses.{is_declared_only, tag_at}
use Rattle.dwarf_entries.specs.Chains.{name_of}
use Rattle.dwarf_entries.specs.Debug.{PlainDwarf}
use Rattle.type_reach.specs.References.{Type_, tagged_children}
use Rattle.type_notes.specs.declared.definitions.Definitions.{Definitions}
use Rattle.type_notes.specs.declared.definitions.DefinitionPair.{DefinitionPair}
use Rattle.type_notes.specs.declared.elsewhere.Kin.{Kin}
use Rattle.type_notes.specs.declared.difference.Difference.{Difference}
use Rattle.type_notes.specs.declared.note.NoteKind.TheVariants as note
use Rattle.type_notes.specs.Differences.{differing}
use Rattle.type_notes.specs.DefinitionTexts.{definition_text, part_text, parts_of, size_text}
use Rattle.type_notes.specs.Texts.{none}

-- ---- the definitions of a name

-- the tag of the root of a unit (sections 3.1.1 "Full and Partial Compilation Unit Entries" and 3.1.4 "Type Unit Entries")
abbrev pub is_unit_tag : ℕ → Bool
is_unit_tag tag = tag == dw_tag_compile_unit || (tag == dw_tag_partial_unit || tag == dw_tag_type_unit)

-- the entries with a tag at the top of a unit, if the entry is the root of one
unfoldable pub at_top_of : PlainTree → ℕ → ℕ → List ℕ
at_top_of t tag root = if is_unit_tag (tag_at t root) then tagged_children t root tag else []

-- the entries with a tag at the top of the units whose roots are among the first entries, in order
abbrev pub tops_below : PlainTree → ℕ → ℕ → List ℕ
tops_below t tag n = flat_map (at_top_of t tag) (range_with_len 0 n)

-- the entries with a tag at the top of all units of the library
abbrev pub tops_of : PlainTree → ℕ → List ℕ
tops_of t tag = tops_below t tag (length t.entries)

abbrev pub has_name : List ℕ → Option (List ℕ) → Bool
has_name name (Some said) = bytes_eq said name
has_name name None = false

-- an entry is not a declaration, and has the name
unfoldable pub defines : PlainDwarf → List ℕ → ℕ → Bool
defines d name e = not (is_declared_only d.tree e) && has_name name (name_of d e)

-- the definitions of a tag and a name: the entries with both that are not declarations, at the top of a unit, in order
unfoldable pub definitions_of : PlainDwarf → ℕ → List ℕ → List ℕ
definitions_of d tag name = filter (defines d name) (tops_of d.tree tag)

abbrev pub has_definitions : ℕ → Bool
has_definitions tag = tag == dw_tag_structure_type || (tag == dw_tag_union_type || tag == dw_tag_enumeration_type)

abbrev pub definitions_named : PlainDwarf → ℕ → Option (List ℕ) → List ℕ
definitions_named d tag (Some name) = if has_definitions tag then definitions_of d tag name else []
definitions_named d tag None = []

-- the definitions of an entry's tag and name
unfoldable pub definitions_like : PlainDwarf → ℕ → List ℕ
definitions_like d e = definitions_named d (tag_at d.tree e) (name_of d e)

abbrev pub first_in : List ℕ → Option ℕ
first_in [] = None
first_in (x ∷ xs) = Some x

-- the definition of an entry's type: the entry itself, or for a declaration the first definition of its tag and name
unfoldable pub defined_by : PlainDwarf → ℕ → Option ℕ
defined_by d e = if is_declared_only d.tree e then first_in (definitions_like d e) else Some e

abbrev pub or_alone : ℕ → List ℕ → List ℕ
or_alone e [] = e ∷ []
or_alone e (x ∷ xs) = x ∷ xs

-- all definitions of the tag and name of a definition, or only itself if it is not at the top of a unit
unfoldable pub kin_of : PlainDwarf → ℕ → List ℕ
kin_of d e = or_alone e (definitions_like d e)

-- ---- two definitions

-- the text of a member or enumerator, or that there is none
abbrev pub part_or_none : PlainDwarf → Option ℕ → List ℕ
part_or_none d None = none
part_or_none d (Some m) = part_text d m

abbrev pub part_change : PlainDwarf → PlainDwarf → List ℕ → List ℕ → ℕ → Option Difference
part_change d e ms ns k = differing note.DefinedElsewhere (part_or_none d (slice_get ms k)) (part_or_none e (slice_get ns k))

-- the first difference in a list
abbrev pub first_of : List (Option Difference) → Option Difference
first_of [] = None
first_of (None ∷ others) = first_of others
first_of (Some found ∷ others) = Some found

abbrev pub part_changes_from : PlainDwarf → PlainDwarf → List ℕ → List ℕ → List ℕ → Option Difference
part_changes_from d e ms ns places = first_of (map (part_change d e ms ns) places)

-- the first position where the texts of two lists of members or enumerators differ, up to the end of the longer list
abbrev pub first_part_change : PlainDwarf → PlainDwarf → List ℕ → List ℕ → Option Difference
first_part_change d e ms ns = part_changes_from d e ms ns (range_with_len 0 (max (length ms) (length ns)))

-- the sizes of two definitions, if they differ
abbrev pub size_change : PlainDwarf → PlainDwarf → ℕ → ℕ → Option Difference
size_change d e a b = differing note.DefinedElsewhere (size_text d.tree a) (size_text e.tree b)

-- the first members or enumerators of two definitions that differ
abbrev pub parts_change : PlainDwarf → PlainDwarf → ℕ → ℕ → Option Difference
parts_change d e a b = first_part_change d e (parts_of d.tree a) (parts_of e.tree b)

-- the sizes of two definitions, if they differ, or else the first members or enumerators that differ
unfoldable pub definition_change : PlainDwarf → PlainDwarf → ℕ → ℕ → Option Difference
definition_change d e a b = option_or (size_change d e a b) (parts_change d e a b)

-- ---- all definitions of a tag and a name

-- a text is in a list
abbrev pub is_among : List (List ℕ) → List ℕ → Bool
is_among texts text = list_any (λ (t : List ℕ). bytes_eq t text) texts

abbrev pub is_lacking : List (List ℕ) → List ℕ → Bool
is_lacking others text = not (is_among others text)

-- the position of the first text that is not among the others
abbrev pub first_lacking : List (List ℕ) → List (List ℕ) → Option ℕ
first_lacking texts others = position (is_lacking others) texts

abbrev pub texts_of : PlainDwarf → List ℕ → List (List ℕ)
texts_of d entries = map (definition_text d) entries

abbrev pub change_between : PlainDwarf → PlainDwarf → Option ℕ → Option ℕ → Option Difference
change_between d e (Some a) (Some b) = definition_change d e a b
change_between d e a b = None

abbrev pub change_from : PlainDwarf → PlainDwarf → List ℕ → List ℕ → Option ℕ → Option ℕ → Option Difference
change_from d e olds news None other = None
change_from d e olds news (Some place) other = change_between d e (slice_get olds place) (slice_get news (unwrap_or other 0))

-- The difference between all old definitions of a tag and a name and all new ones. There is none if each old one has the text of
-- some new one. Else the first old one without an equal is shown beside the first new one that has the text of no old one, or
-- beside the first new one.
unfoldable pub kin_change : PlainDwarf → PlainDwarf → List ℕ → List ℕ → Option Difference
kin_change d e olds news =
    change_from d e olds news (first_lacking (texts_of d olds) (texts_of e news)) (first_lacking (texts_of e news) (texts_of d olds))

abbrev pub both : Option ℕ → Option ℕ → Option (ℕ × ℕ)
both (Some a) (Some b) = Some (a, b)
both a b = None

-- the definitions of two types, if at least one of the entries is a declaration
unfoldable pub definitions_by : PlainDwarf → PlainDwarf → ℕ → ℕ → Option (ℕ × ℕ)
definitions_by d e a b = if is_declared_only d.tree a || is_declared_only e.tree b then both (defined_by d a) (defined_by e b) else None

abbrev pub definitions_behind : PlainDwarf → PlainDwarf → Type_ → Type_ → Option (ℕ × ℕ)
definitions_behind d e (Some a) (Some b) = definitions_by d e a b
definitions_behind d e a b = None

-- ---- maps from names to definitions, as search trees: no choice of names makes a look-up long

abbrev pub Named : Type 0
Named = BTreeMap (Bor (List ℕ)) (List ℕ)

abbrev pub list_or_none : Option (List ℕ) → List ℕ
list_or_none None = []
list_or_none (Some list) = list

abbrev pub numbers_under : Named → List ℕ → List ℕ
numbers_under numbers name = list_or_none (get_by (λ k. slice_cmp nat_cmp name k.now) numbers)

-- the maps hold the definitions of each name
pub record AreDefinitions (d : PlainDwarf) (m : Definitions) : Type 0 where
  pub structures : (name : List ℕ) → numbers_under m.structures name ≡ definitions_of d dw_tag_structure_type name
  pub unions : (name : List ℕ) → numbers_under m.unions name ≡ definitions_of d dw_tag_union_type name
  pub enumerations : (name : List ℕ) → numbers_under m.enumerations name ≡ definitions_of d dw_tag_enumeration_type name

-- the maps of both libraries
pub record AreOfBoth (d e : PlainDwarf) (p : DefinitionPair) : Type 0 where
  pub old : AreDefinitions d p.old.now
  pub new : AreDefinitions e p.new.now

-- the numbers are entries of both libraries
pub record AreKin (k : Kin) : Type 0 where
  pub old : All (λ e. e < length k.old_dwarf.now.tree.entries) k.old.now
  pub new : All (λ e. e < length k.new_dwarf.now.tree.entries) k.new.now

-- ---- sets of texts, as search trees

abbrev pub TextSet : Type 0
TextSet = BTreeSet (Bor (List ℕ))

abbrev pub has_text : TextSet → List ℕ → Bool
has_text set text = contains_by (λ k. slice_cmp nat_cmp text k.now) set
