-- The places of results (psABI, section 3.2.3 "Parameter Passing", "Returning of Values"). That a result without bytes or classes
-- has no place is a choice of this project.
use Rattle.std.specs.Prelude.{ℕ, ◌-◌, ◌/◌, ◌==◌, if◌then◌else◌, List, map, take}
use Rattle.std.specs.List.{list_any, range_with_len}
use Rattle.abi_types.specs.declared.place.Slot.{Slot}
use Rattle.abi_types.specs.declared.place.Slot.TheVariants as slot
use Rattle.abi_types.specs.declared.place.Place.{Place}
use Rattle.abi_types.specs.declared.place.Place.TheVariants as place
use Rattle.abi_types.specs.Types.{PlainView, PlainNode}
use Rattle.abi_types.specs.Graphs.{view_at, part_at, to_of}
use Rattle.psabi.specs.declared.class.Class.{Class}
use Rattle.psabi.specs.declared.class.Class.TheVariants.{Integer, Sse, SseUp, X87, X87Up, ComplexX87}
use Rattle.psabi.specs.declared.argument_registers.ArgumentRegisters.{ArgumentRegisters}
use Rattle.psabi.specs.Alignment.{named_or}
use Rattle.psabi.specs.Class.{class_at, is_memory_class}
use Rattle.psabi.specs.Classes.{classes_of}
use Rattle.psabi.specs.Psabi.{eightbyte_limit, rax, rdx, st0, x87_eightbytes}
use Rattle.psabi.specs.Registers.{general_count, vector_count, has_no_place}

-- rax, then rdx
abbrev pub result_register : ℕ → ℕ
result_register general = if general == 0 then rax else rdx

-- the slot of eightbyte k, after this many earlier ones in general and in vector registers
abbrev pub result_slot_of : Class → ℕ → ℕ → ℕ → Slot
result_slot_of Integer general vector k = slot.General (result_register general)
result_slot_of Sse general vector k = slot.Vector vector
result_slot_of SseUp general vector k = slot.Upper (vector - 1)
result_slot_of X87 general vector k = slot.X87 st0
result_slot_of X87Up general vector k = slot.X87 st0
result_slot_of ComplexX87 general vector k = slot.X87 (k / x87_eightbytes)
result_slot_of other general vector k = slot.Unused

abbrev pub result_slot : List Class → ℕ → Slot
result_slot cs k = result_slot_of (class_at cs k) (general_count (take k cs)) (vector_count (take k cs)) k

unfoldable pub result_slots : List Class → List Slot
result_slots cs = map (result_slot cs) (range_with_len 0 eightbyte_limit)

-- the place of a result with this size and these classes
unfoldable pub result_place : ℕ → List Class → Place
result_place size cs =
    if has_no_place size cs then place.Nothing else
    if list_any is_memory_class cs then place.Hidden else place.Registers (result_slots cs)

abbrev pub result_of_node : List PlainNode → ℕ → Place
result_of_node nodes i = result_place (view_at nodes i).size (classes_of nodes i)

-- the place of the result of a function, whose first part names its type
abbrev pub outcome_of : List PlainNode → PlainView → Place
outcome_of nodes v = named_or place.Nothing (result_of_node nodes) (to_of (part_at v 0))

-- the argument registers that the result takes: the address of a hidden result takes the first general register
abbrev pub registers_of_result : Place → ArgumentRegisters
registers_of_result place.Hidden = record { general = 1; vector = 0; stack = 0 }
registers_of_result other = record { general = 0; vector = 0; stack = 0 }
