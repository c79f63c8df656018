-- The contexts of units that the code stores.
use Rattle.std.specs.Prelude.{◌≡◌, ℕ, List, length, map}
use Rattle.std.specs.List.{range_with_len}
use Rattle.dwarf_entries.specs.declared.unit_context.UnitContext.{UnitContext}
use Rattle.dwarf_text.specs.Texts.{TextsEnd}
use Rattle.dwarf_tree.specs.Trees.{PlainTree}
use Rattle.dwarf_entries.specs.Debug.{PlainSections, PlainDwarf, bases_of, is_assembler}

abbrev pub debug : PlainSections → PlainTree → PlainDwarf
debug s t = record { sections = s; tree = t }

-- the context of a unit, from its root
unfoldable pub told_of : PlainDwarf → ℕ → UnitContext
told_of d unit = record { bases = bases_of d unit; is_assembler = is_assembler d.tree unit }

-- the same for each unit, in order
abbrev pub all_told : PlainDwarf → List UnitContext
all_told d = map (told_of d) (range_with_len 0 (length d.tree.units))

-- the stored context is right: that of each unit, and the end of the last string in `.debug_str`
pub record IsSource (units : List UnitContext) (str_end : ℕ) (d : PlainDwarf) : Type 0 where
  pub units_told : units ≡ all_told d
  pub texts : TextsEnd d.sections.str str_end
