-- What differs between two entries.
use Rattle.std.specs.Prelude.{ℕ, ◌<◌, List, Option, length, option_to_list}
use Rattle.std.specs.List.{flat_map}
use Rattle.dwarf_entries.specs.Addresses.{tag_at}
use Rattle.dwarf_entries.specs.Debug.{PlainDwarf}
use Rattle.type_reach.specs.References.{role_of}
use Rattle.type_notes.specs.declared.aspect.Aspect.{Aspect}
use Rattle.type_notes.specs.declared.difference.Difference.{Difference}
use Rattle.type_notes.specs.declared.entries.EntryPair.{EntryPair}
use Rattle.type_notes.specs.Aspects.{aspects_between, kind_of, object_aspects}
use Rattle.type_notes.specs.Differences.{differing}
use Rattle.type_notes.specs.Texts.{said}

-- the debug information of two libraries, and the number of an entry in each
pub record PlainEntries : Type 0 where
  pub old_dwarf : PlainDwarf
  pub new_dwarf : PlainDwarf
  pub old : ℕ
  pub new : ℕ

abbrev pub plain : EntryPair → PlainEntries
plain p = record { old_dwarf = p.old_dwarf.now; new_dwarf = p.new_dwarf.now; old = p.old; new = p.new }

-- both entries exist
pub record AreThere (p : PlainEntries) : Type 0 where
  pub old : p.old < length p.old_dwarf.tree.entries
  pub new : p.new < length p.new_dwarf.tree.entries

-- the texts of both entries in an aspect, if they differ
unfoldable pub change : PlainEntries → Aspect → Option Difference
change p aspect = differing (kind_of aspect) (said aspect p.old_dwarf p.old) (said aspect p.new_dwarf p.new)

-- the differences in these aspects, in order
abbrev pub changes_in : PlainEntries → List Aspect → List Difference
changes_in p aspects = flat_map (λ aspect. option_to_list (change p aspect)) aspects

-- the differences of two entries that stand for types
unfoldable pub changes : PlainEntries → List Difference
changes p = changes_in p (aspects_between (role_of p.old_dwarf.tree p.old) (role_of p.new_dwarf.tree p.new))

-- the differences of two entries that stand for objects
unfoldable pub object_changes : PlainEntries → List Difference
object_changes p = changes_in p (object_aspects (tag_at p.old_dwarf.tree p.old) (tag_at p.new_dwarf.tree p.new))
