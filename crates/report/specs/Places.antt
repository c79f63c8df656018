-- The printed form of the place of an argument or a result (System V psABI for x86-64, section 3.2.3 "Parameter Passing").
use Rattle.std.specs.Prelude.{ℕ, ◌==◌, nat_le, Bool, true, false, not, ◌&&◌, if◌then◌else◌, List, [], ◌∷◌, ◌++◌, length, take, flat_map, count_by, slice_index_or, codes, decimal}
use Rattle.std.specs.List.{concat, list_any, range_with_len}
use Rattle.abi_types.specs.declared.place.Place.{Place}
use Rattle.abi_types.specs.declared.place.Place.TheVariants as place
use Rattle.abi_types.specs.declared.place.Slot.{Slot}
use Rattle.abi_types.specs.declared.place.Slot.TheVariants as slot

-- the general register with the number in a slot
abbrev pub general_word : ℕ → List ℕ
general_word number =
    if number == 0 then codes "rdi" else (if number == 1 then codes "rsi" else (if number == 2 then codes "rdx" else (if number == 3 then codes "rcx"
    else (if number == 4 then codes "r8" else (if number == 5 then codes "r9" else (if number == 6 then codes "rax" else []))))))

-- the eightbyte is in a register
abbrev pub is_used : Slot → Bool
is_used slot.Unused = false
is_used other = true

-- two eightbytes are in one register: a vector register may hold several, and an x87 register two
abbrev pub same_register : Slot → Slot → Bool
same_register (slot.General m) (slot.General n) = m == n
same_register (slot.Vector m) (slot.Vector n) = m == n
same_register (slot.Vector m) (slot.Upper n) = m == n
same_register (slot.Upper m) (slot.Vector n) = m == n
same_register (slot.Upper m) (slot.Upper n) = m == n
same_register (slot.X87 m) (slot.X87 n) = m == n
same_register a b = false

-- a vector register, with the number of eightbytes that it holds if there are several
abbrev pub vector_text : ℕ → ℕ → List ℕ
vector_text number eightbytes =
    if nat_le eightbytes 1 then concat (codes "xmm" ∷ decimal number ∷ []) else concat (codes "xmm" ∷ decimal number ∷ codes "*" ∷ decimal eightbytes ∷ [])

-- the register of a slot, given all slots of the place
abbrev pub register_text : List Slot → Slot → List ℕ
register_text slots slot.Unused = []
register_text slots (slot.General number) = general_word number
register_text slots (slot.Vector number) = vector_text number (count_by (same_register (slot.Vector number)) slots)
register_text slots (slot.Upper number) = vector_text number (count_by (same_register (slot.Upper number)) slots)
register_text slots (slot.X87 number) = concat (codes "st" ∷ decimal number ∷ [])

abbrev pub slot_at : List Slot → ℕ → Slot
slot_at slots k = slice_index_or slots k slot.Unused

-- no earlier slot is in the register of slot k
abbrev pub begins_register : List Slot → ℕ → Bool
begins_register slots k = is_used (slot_at slots k) && not (list_any (same_register (slot_at slots k)) (take k slots))

-- the separator between two registers
abbrev pub plus_behind : List Slot → List ℕ
plus_behind before = if list_any is_used before then codes "+" else []

-- what slot k adds to the text: its register, if it is the first slot in that register
unfoldable pub slot_text : List Slot → ℕ → List ℕ
slot_text slots k = if begins_register slots k then plus_behind (take k slots) ++ register_text slots (slot_at slots k) else []

-- the registers of the eightbytes, each once, joined by `+`
unfoldable pub registers_text : List Slot → List ℕ
registers_text slots = flat_map (slot_text slots) (range_with_len 0 (length slots))

-- nowhere, in memory whose address the caller passes, on the stack, or in registers
abbrev pub place_text : Place → List ℕ
place_text place.Nothing = codes "none"
place_text place.Hidden = codes "memory"
place_text (place.Stack offset size) = concat (codes "stack+" ∷ decimal offset ∷ codes ":" ∷ decimal size ∷ [])
place_text (place.Registers eightbytes) = registers_text eightbytes
