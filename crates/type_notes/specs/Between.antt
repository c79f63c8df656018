-- The differences between two types that no rule judges.
use Rattle.std.specs.Prelude.{ℕ, List, [], ◌++◌, Some, option_to_list}
use Rattle.abi_types.specs.Graphs.{node_at, view_at}
use Rattle.abi_types.specs.Types.{PlainNode, PlainView}
use Rattle.dwarf_tree.specs.Trees.{entry_of}
use Rattle.dwarf_entries.specs.Debug.{PlainDwarf}
use Rattle.type_reach.specs.References.{Type_}
use Rattle.type_notes.specs.declared.difference.Difference.{Difference}
use Rattle.type_notes.specs.Chains.{core_at}
use Rattle.type_notes.specs.Entries.{changes, object_changes}
use Rattle.type_notes.specs.Packing.{packing_change}
use Rattle.type_notes.specs.Padding.{padding_changes}
use Rattle.type_notes.specs.TypeNames.{name_change}
use Rattle.type_notes.specs.Unions.{union_change}

-- the differences of two entries as types, if both exist
abbrev pub entry_changes : PlainDwarf → PlainDwarf → Type_ → Type_ → List Difference
entry_changes d e (Some a) (Some b) = changes (record { old_dwarf = d; new_dwarf = e; old = a; new = b })
entry_changes d e a b = []

-- the differences of two entries as objects, if both exist
abbrev pub object_entry_changes : PlainDwarf → PlainDwarf → Type_ → Type_ → List Difference
object_entry_changes d e (Some a) (Some b) = object_changes (record { old_dwarf = d; new_dwarf = e; old = a; new = b })
object_entry_changes d e a b = []

-- that one type is a union without members, and the new members that stand in the padding of the old type
abbrev pub view_changes : List PlainNode → List PlainNode → PlainView → PlainView → List Difference
view_changes old new v w = option_to_list (union_change v w) ++ padding_changes old new v w

-- the names, and whether only one type is packed
abbrev pub node_changes : List PlainNode → List PlainNode → ℕ → ℕ → List Difference
node_changes old new i j = option_to_list (name_change (node_at old i) (node_at new j)) ++ option_to_list (packing_change old new i j)

-- All differences between an old node and a new one that no rule judges: those of the entries for which the nodes stand, a
-- qualifier that only one of two objects has, those of the views, and those of names and packing.
unfoldable pub differences : PlainDwarf → PlainDwarf → List PlainNode → List PlainNode → ℕ → ℕ → List Difference
differences d e old new i j =
    entry_changes d e (core_at d.tree (node_at old i).entry) (core_at e.tree (node_at new j).entry)
    ++ (object_entry_changes d e (entry_of d.tree (node_at old i).entry) (entry_of e.tree (node_at new j).entry)
    ++ (view_changes old new (view_at old i) (view_at new j) ++ node_changes old new i j))
