-- The places of arguments, one after another (psABI, section 3.2.3 "Parameter Passing", "Passing"). Two points are choices of this
-- project: an argument without bytes or classes has no place, and offsets and sizes on the stack are rounded up as here.
use Rattle.std.specs.Prelude.{ℕ, ◌+◌, ◌-◌, ◌*◌, ◌/◌, ◌||◌, nat_lt, Bool, true, false, if◌then◌else◌, List, [], ◌∷◌, map, take}
use Rattle.std.specs.List.{fold, list_any, range_with_len}
use Rattle.abi_types.specs.declared.place.Slot.{Slot}
use Rattle.abi_types.specs.declared.place.Slot.TheVariants as slot
use Rattle.abi_types.specs.declared.place.Place.{Place}
use Rattle.abi_types.specs.declared.place.Place.TheVariants as place
use Rattle.abi_types.specs.Types.{PlainNode}
use Rattle.abi_types.specs.Graphs.{view_at}
use Rattle.psabi.specs.declared.class.Class.{Class}
use Rattle.psabi.specs.declared.class.Class.TheVariants.{Integer, Sse, SseUp, X87, X87Up, ComplexX87, Memory}
use Rattle.psabi.specs.declared.argument_registers.ArgumentRegisters.{ArgumentRegisters}
use Rattle.psabi.specs.Alignment.{align_of}
use Rattle.psabi.specs.Class.{class_at}
use Rattle.psabi.specs.Classes.{classes_of}
use Rattle.psabi.specs.Psabi.{eightbyte_size, eightbyte_limit, general_registers, vector_registers, stack_alignment}
use Rattle.psabi.specs.Registers.{general_count, vector_count, has_no_place}

-- whether no argument register holds the class
abbrev pub is_stacked : Class → Bool
is_stacked X87 = true
is_stacked X87Up = true
is_stacked ComplexX87 = true
is_stacked Memory = true
is_stacked other = false

-- an argument goes to the stack if one of its classes needs it, or if too few registers remain for all of it
unfoldable pub goes_to_stack : ArgumentRegisters → List Class → Bool
goes_to_stack taken cs = list_any is_stacked cs || nat_lt general_registers (taken.general + general_count cs) || nat_lt vector_registers (taken.vector + vector_count cs)

-- the least multiple of the step that is not below the offset
abbrev pub rounded : ℕ → ℕ → ℕ
rounded offset step = (offset + (step - 1)) / step * step

-- the offset of an argument on the stack is a multiple of 8, or of its alignment where that is 16 or more
abbrev pub step_of : ℕ → ℕ
step_of align = if nat_lt align stack_alignment then eightbyte_size else align

unfoldable pub stack_offset : ℕ → ℕ → ℕ
stack_offset end align = rounded end (step_of align)

-- the size of an argument on the stack is rounded up to whole eightbytes
unfoldable pub stack_size : ℕ → ℕ
stack_size size = rounded size eightbyte_size

abbrev pub argument_slot_of : Class → ℕ → ℕ → Slot
argument_slot_of Integer general vector = slot.General general
argument_slot_of Sse general vector = slot.Vector vector
argument_slot_of SseUp general vector = slot.Upper (vector - 1)
argument_slot_of other general vector = slot.Unused

-- the slot of an eightbyte: the next register after those of earlier arguments and earlier eightbytes
abbrev pub argument_slot : ArgumentRegisters → List Class → ℕ → Slot
argument_slot taken cs k = argument_slot_of (class_at cs k) (taken.general + general_count (take k cs)) (taken.vector + vector_count (take k cs))

unfoldable pub argument_slots : ArgumentRegisters → List Class → List Slot
argument_slots taken cs = map (argument_slot taken cs) (range_with_len 0 eightbyte_limit)

-- the place of an argument with this size, alignment and these classes, after those that are taken
unfoldable pub place_in : ArgumentRegisters → ℕ → ℕ → List Class → Place
place_in taken size align cs =
    if has_no_place size cs then place.Nothing else
    if goes_to_stack taken cs then place.Stack (stack_offset taken.stack align) (stack_size size) else place.Registers (argument_slots taken cs)

-- the registers and the stack space taken after it; an argument on the stack takes no register
unfoldable pub taken_with : ArgumentRegisters → ℕ → ℕ → List Class → ArgumentRegisters
taken_with taken size align cs =
    if has_no_place size cs then taken else
    if goes_to_stack taken cs then record taken { stack = stack_offset taken.stack align + stack_size size } else
    record taken { general = taken.general + general_count cs; vector = taken.vector + vector_count cs }

abbrev pub place_of_node : List PlainNode → ArgumentRegisters → ℕ → Place
place_of_node nodes taken i = place_in taken (view_at nodes i).size (align_of nodes i) (classes_of nodes i)

abbrev pub taken_with_node : List PlainNode → ArgumentRegisters → ℕ → ArgumentRegisters
taken_with_node nodes taken i = taken_with taken (view_at nodes i).size (align_of nodes i) (classes_of nodes i)

-- the registers and the stack space that earlier arguments take
unfoldable pub taken_by : List PlainNode → ArgumentRegisters → List ℕ → ArgumentRegisters
taken_by nodes taken params = fold (taken_with_node nodes) taken params

-- the places of arguments in order, each after those of the earlier ones
unfoldable pub places : List PlainNode → ArgumentRegisters → List ℕ → List Place
places nodes taken [] = []
places nodes taken (i ∷ params) = place_of_node nodes taken i ∷ places nodes (taken_with_node nodes taken i) params
