-- Alignments of objects in bytes (psABI, section 3.1.2 "Data Representation"). The psABI does not give those of complex numbers of
-- 4 and of 32 bytes, and of sizes that none of its types has: these are choices of this project.
use Rattle.std.specs.Prelude.{ℕ, ◌==◌, ◌||◌, ◌/◌, nat_lt, max, if◌then◌else◌, List, [], ◌∷◌, length, map, Option, Some, None}
use Rattle.std.specs.List.{range_with_len}
use Rattle.abi_types.specs.declared.kind.Kind.{Kind}
use Rattle.abi_types.specs.declared.kind.Kind.TheVariants as kind
use Rattle.abi_types.specs.declared.kind.Group.{Group}
use Rattle.abi_types.specs.declared.kind.Group.TheVariants as group
use Rattle.abi_types.specs.Types.{PlainPart, PlainNode}
use Rattle.abi_types.specs.Graphs.{view_at, inner_of}
use Rattle.abi_types.specs.ByValue.{by_value}
use Rattle.psabi.specs.Psabi.{char_size, short_size, int_size, long_size, int128_size, complex_float16_size, complex_float_size, complex_double_size, complex_long_double_size, m64_size, m128_size, m256_size, m512_size, eightbyte_size}
use Rattle.abi_types.specs.Forms.{is_aggregate}

-- an object whose size is not that of any psABI type
abbrev pub other_align : ℕ → ℕ
other_align size = if nat_lt eightbyte_size size then eightbyte_size else 1

abbrev pub scalar_align : ℕ → ℕ
scalar_align size = if size == char_size || size == short_size || size == int_size || size == long_size || size == int128_size then size else other_align size

abbrev pub complex_align : ℕ → ℕ
complex_align size = if size == complex_float16_size || size == complex_float_size || size == complex_double_size || size == complex_long_double_size then size / 2 else other_align size

abbrev pub vector_align : ℕ → ℕ
vector_align size = if size == m64_size || size == m128_size || size == m256_size || size == m512_size then size else other_align size

abbrev pub align_of_group : Group → ℕ → ℕ
align_of_group group.Complex size = complex_align size
align_of_group other size = scalar_align size

-- the natural alignment of an object that is not an aggregate
abbrev pub natural_align : Kind → Group → ℕ → ℕ
natural_align kind.Scalar group size = align_of_group group size
natural_align kind.Enumeration group size = scalar_align size
natural_align kind.Pointer group size = scalar_align size
natural_align kind.Vector group size = vector_align size
natural_align other group size = other_align size

-- the greatest of 1 and the values of `f`
unfoldable pub greatest : {X : Type 0} → (X → ℕ) → List X → ℕ
greatest f [] = 1
greatest f (x ∷ xs) = max (f x) (greatest f xs)

-- the value of `f` for the node, or `d` where there is none
abbrev pub named_or : {X : Type 0} → X → (ℕ → X) → Option ℕ → X
named_or d f None = d
named_or d f (Some to) = f to

-- the alignment of the type that a part holds by value
abbrev pub inner_align : (ℕ → ℕ) → PlainPart → ℕ
inner_align f p = named_or 1 f (inner_of p)

abbrev pub own_align : List PlainNode → (ℕ → ℕ) → ℕ → ℕ
own_align nodes f i = if is_aggregate (view_at nodes i).kind then greatest (inner_align f) (view_at nodes i).parts else natural_align (view_at nodes i).kind (view_at nodes i).group (view_at nodes i).size

-- an explicit alignment raises the alignment
abbrev pub align_step : List PlainNode → (ℕ → ℕ) → ℕ → ℕ
align_step nodes f i = max (view_at nodes i).align (own_align nodes f i)

-- the alignment of a node's object
unfoldable pub align_of : List PlainNode → ℕ → ℕ
align_of nodes i = by_value 1 (align_step nodes) nodes i

-- the alignments of all nodes' objects
abbrev pub alignments : List PlainNode → List ℕ
alignments nodes = map (align_of nodes) (range_with_len 0 (length nodes))
