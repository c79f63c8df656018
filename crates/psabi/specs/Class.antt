-- Classes of eightbytes (psABI, section 3.2.3 "Parameter Passing", "Definitions" and "Classification").
use Rattle.std.specs.Prelude.{ℕ, Bool, true, false, ◌||◌, if◌then◌else◌, List, slice_index_or}
use Rattle.psabi.specs.declared.class.Class.{Class}
use Rattle.psabi.specs.declared.class.Class.TheVariants.{NoClass, Integer, Sse, SseUp, X87, X87Up, ComplexX87, Memory}

-- ---- tests

abbrev pub is_no_class : Class → Bool
is_no_class NoClass = true
is_no_class other = false

abbrev pub is_integer : Class → Bool
is_integer Integer = true
is_integer other = false

abbrev pub is_sse : Class → Bool
is_sse Sse = true
is_sse other = false

abbrev pub is_sse_up : Class → Bool
is_sse_up SseUp = true
is_sse_up other = false

abbrev pub is_x87 : Class → Bool
is_x87 X87 = true
is_x87 other = false

abbrev pub is_x87_up : Class → Bool
is_x87_up X87Up = true
is_x87_up other = false

-- X87, X87UP or COMPLEX_X87
abbrev pub is_of_x87 : Class → Bool
is_of_x87 X87 = true
is_of_x87 X87Up = true
is_of_x87 ComplexX87 = true
is_of_x87 other = false

abbrev pub is_memory_class : Class → Bool
is_memory_class Memory = true
is_memory_class other = false

abbrev pub same_class : Class → Class → Bool
same_class NoClass NoClass = true
same_class Integer Integer = true
same_class Sse Sse = true
same_class SseUp SseUp = true
same_class X87 X87 = true
same_class X87Up X87Up = true
same_class ComplexX87 ComplexX87 = true
same_class Memory Memory = true
same_class c d = false

-- ---- eightbytes

-- the class of an eightbyte, NO_CLASS past the last one
abbrev pub class_at : List Class → ℕ → Class
class_at cs k = slice_index_or cs k NoClass

-- the class of an eightbyte with parts of two classes: rules (a) to (f), in order
abbrev pub merge : Class → Class → Class
merge c d =
    if same_class c d then c else
    if is_no_class c then d else
    if is_no_class d then c else
    if is_memory_class c || is_memory_class d then Memory else
    if is_integer c || is_integer d then Integer else
    if is_of_x87 c || is_of_x87 d then Memory else Sse
