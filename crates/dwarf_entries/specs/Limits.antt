-- What the limits on debug information count, by the bytes of its sections.
use Rattle.std.specs.Prelude.{◌≡◌, ◌<◌, ◌≤◌, ℕ, ◌+◌, ◌==◌, if◌then◌else◌, length, Option, None}
use Rattle.std.specs.Option.{option_map_or}
use Rattle.abi_base.specs.declared.limit.Limit.{Limit}
use Rattle.abi_base.specs.declared.limit.Limit.TheVariants as limit
use Rattle.abi_base.specs.Budgets.{allowed, counted}
use Rattle.abi_base.specs.Dwarf.{dw_at_ranges, dw_tag_subprogram}
use Rattle.dwarf_text.specs.declared.ranges.lists.ListAt.{ListAt}
use Rattle.dwarf_text.specs.ranges.FirstBytes.{first_bytes_of}
use Rattle.dwarf_units.specs.Limits.{HaveFewAttributes, UnitsPass}
use Rattle.dwarf_tree.specs.Trees.{head_at, own_of}
use Rattle.dwarf_entries.specs.Addresses.{list_of, tag_at, unit_at}
use Rattle.dwarf_entries.specs.Debug.{PlainDwarf, PlainSections, bases_of, dwarf_of}

-- the range list of a function
abbrev pub list_of_function : PlainDwarf → ℕ → Option ListAt
list_of_function d e =
    if tag_at d.tree e == dw_tag_subprogram then list_of (head_at d.tree (unit_at d.tree e)).version (own_of d.tree e dw_at_ranges) else None

-- the bytes of that list up to its first range
unfoldable pub ranges_cost : PlainDwarf → ℕ → ℕ
ranges_cost d e =
    let bases = bases_of d (unit_at d.tree e) in
    option_map_or (first_bytes_of d.sections.rnglists bases.rnglists d.sections.ranges d.sections.addr bases.addr) (list_of_function d e) 0

-- The same of all functions. A list counts once for each function that has it.
abbrev pub ranges_count : PlainDwarf → ℕ
ranges_count d = counted (ranges_cost d) (length d.tree.entries)

abbrev pub ranges_allowed : PlainDwarf → ℕ
ranges_allowed d = allowed limit.RangeLists (length d.sections.rnglists + length d.sections.ranges)

-- the limit that is passed where debug information is read
abbrev pub DebugPasses : PlainSections → Limit → Type 0
DebugPasses s limit.RangeLists = ranges_allowed (dwarf_of s) < ranges_count (dwarf_of s)
DebugPasses s others = UnitsPass s.info s.abbrev_ others

-- What is within its limit in all debug information that was read.
pub record IsWithinLimits (s : PlainSections) : Type 0 where
  pub attributes : HaveFewAttributes s.info s.abbrev_
  pub ranges : ranges_count (dwarf_of s) ≤ ranges_allowed (dwarf_of s)
