-- The faults of reached types: all those of one row by offset, then all of the next row.
use Rattle.std.specs.Prelude.{◌+◌, not, ℕ, zero, suc, Bool, true, List, ◌++◌, map, Option, Some}
use Rattle.std.specs.List.{list_any}
use Rattle.abi_base.specs.declared.fault.Fault.{Fault}
use Rattle.abi_base.specs.declared.fault.FaultKind.TheVariants as fault
use Rattle.abi_base.specs.Limits.{depth_limit}
use Rattle.abi_base.specs.Outcome.{first, fault_if}
use Rattle.dwarf_tree.specs.Trees.{PlainTree, entry_at}
use Rattle.dwarf_entries.specs.Debug.{PlainDwarf}
use Rattle.type_reach.specs.References.{Type_}
use Rattle.type_reach.specs.ReachedList.{reached_of}
use Rattle.type_reach.specs.ByValue.{steps_from}
use Rattle.type_reach.specs.Shapes.{has_shape}
use Rattle.type_reach.specs.Sizes.{is_too_large}

-- a chain of this many steps by value begins at a type, as a test
unfoldable pub steps_on : PlainTree → ℕ → Type_ → Bool
steps_on t zero r = true
steps_on t (suc n) r = list_any (steps_on t n) (steps_from t r)

abbrev pub at_entry : PlainTree → ℕ → ℕ
at_entry t e = (entry_at t e).offset

unfoldable pub shape_fault : PlainDwarf → ℕ → Option Fault
shape_fault d e = fault_if (not (has_shape d e)) fault.Shape (at_entry d.tree e)

unfoldable pub deep_fault : PlainTree → ℕ → Option Fault
deep_fault t e = fault_if (steps_on t (depth_limit + 1) (Some e)) fault.TooDeep (at_entry t e)

unfoldable pub large_fault : PlainDwarf → ℕ → Option Fault
large_fault d e = fault_if (is_too_large d e) fault.TooLarge (at_entry d.tree e)

-- the first entry that is too deep
unfoldable pub depth_fault : PlainTree → List ℕ → Option Fault
depth_fault t roots = first (map (deep_fault t) (reached_of t roots))

abbrev pub reached_faults : PlainDwarf → List ℕ → List (Option Fault)
reached_faults d reached = map (shape_fault d) reached ++ (map (deep_fault d.tree) reached ++ map (large_fault d) reached)

-- the first fault of the types that roots reach
unfoldable pub types_fault : PlainDwarf → List ℕ → Option Fault
types_fault d roots = first (reached_faults d (reached_of d.tree roots))
