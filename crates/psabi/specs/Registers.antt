-- The numbers of registers that an object takes, by the classes of its eightbytes (psABI, section 3.2.3 "Parameter Passing").
use Rattle.std.specs.Prelude.{ℕ, ◌==◌, ◌||◌, Bool, List, count_by}
use Rattle.std.specs.List.{list_all}
use Rattle.psabi.specs.declared.class.Class.{Class}
use Rattle.psabi.specs.Class.{is_no_class, is_integer, is_sse}

-- each INTEGER takes a general register
unfoldable pub general_count : List Class → ℕ
general_count cs = count_by is_integer cs

-- each SSE takes a vector register, whose higher eightbytes hold the SSEUP after it
unfoldable pub vector_count : List Class → ℕ
vector_count cs = count_by is_sse cs

-- an object of this size and these classes is neither in registers nor on the stack
unfoldable pub has_no_place : ℕ → List Class → Bool
has_no_place size cs = size == 0 || list_all is_no_class cs
