-- The post-merger cleanup of an object's classes (psABI, section 3.2.3 "Parameter Passing", "post merger cleanup"). It applies
-- once, to the whole aggregate.
use Rattle.std.specs.Prelude.{ℕ, ◌+◌, ◌-◌, ◌/◌, ◌==◌, ◌&&◌, ◌||◌, not, nat_lt, Bool, if◌then◌else◌, List, map}
use Rattle.std.specs.List.{list_any, list_all, range_with_len}
use Rattle.psabi.specs.declared.class.Class.{Class}
use Rattle.psabi.specs.declared.class.Class.TheVariants.{NoClass, Sse}
use Rattle.psabi.specs.Class.{is_memory_class, is_sse, is_sse_up, is_x87, is_x87_up, class_at}
use Rattle.psabi.specs.Psabi.{eightbyte_size, eightbyte_limit, pair_limit}
use Rattle.psabi.specs.Rows.{all_memory_class}

-- the class of the preceding eightbyte
abbrev pub before : List Class → ℕ → Class
before cs k = if k == 0 then NoClass else class_at cs (k - 1)

-- an X87UP that does not follow X87
abbrev pub is_lone_x87_up : List Class → ℕ → Bool
is_lone_x87_up cs k = is_x87_up (class_at cs k) && not (is_x87 (before cs k))

unfoldable pub has_lone_x87_up : List Class → Bool
has_lone_x87_up cs = list_any (is_lone_x87_up cs) (range_with_len 0 eightbyte_limit)

abbrev pub is_upper_at : List Class → ℕ → Bool
is_upper_at cs k = is_sse_up (class_at cs k)

-- the first n eightbytes form one vector: SSE, followed by SSEUP
unfoldable pub is_vector : List Class → ℕ → Bool
is_vector cs count = is_sse (class_at cs 0) && list_all (is_upper_at cs) (range_with_len 1 (count - 1))

-- the number of eightbytes of an object with this size
abbrev pub eightbytes_of : ℕ → ℕ
eightbytes_of size = (size + (eightbyte_size - 1)) / eightbyte_size

-- rules (a) to (c): an eightbyte in memory, a lone X87UP, or more than two eightbytes that do not form a vector
unfoldable pub becomes_memory_class : List Class → ℕ → Bool
becomes_memory_class cs size = list_any is_memory_class cs || has_lone_x87_up cs || (nat_lt pair_limit size && not (is_vector cs (eightbytes_of size)))

-- rule (d): an SSEUP that follows neither SSE nor SSEUP becomes SSE
abbrev pub grounded : List Class → ℕ → Class
grounded cs k = if is_sse_up (class_at cs k) && not (is_sse (before cs k) || is_sse_up (before cs k)) then Sse else class_at cs k

abbrev pub cleaned_up : List Class → ℕ → List Class
cleaned_up cs size = if becomes_memory_class cs size then all_memory_class else map (grounded cs) (range_with_len 0 eightbyte_limit)
