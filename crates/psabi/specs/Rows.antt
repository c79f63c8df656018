-- The classes of leaf objects, one row for each sort (psABI, section 3.2.3 "Parameter Passing", "Classification"). The psABI does
-- not give the rows of `_Float16`, of decimal numbers, and of complex numbers of 4 and of 32 bytes: these are choices of this
-- project. A size without a row gives MEMORY.
use Rattle.std.specs.Prelude.{ℕ, ◌==◌, ◌||◌, nat_le, if◌then◌else◌, List, [], ◌∷◌}
use Rattle.abi_types.specs.declared.kind.Kind.{Kind}
use Rattle.abi_types.specs.declared.kind.Kind.TheVariants as kind
use Rattle.abi_types.specs.declared.kind.Group.{Group}
use Rattle.abi_types.specs.declared.kind.Group.TheVariants as group
use Rattle.psabi.specs.declared.class.Class.{Class}
use Rattle.psabi.specs.declared.class.Class.TheVariants.{NoClass, Integer, Sse, SseUp, X87, X87Up, ComplexX87, Memory}
use Rattle.psabi.specs.Psabi.{long_size, int128_size, float16_size, float_size, double_size, long_double_size, float128_size, decimal32_size, decimal64_size, decimal128_size, complex_float16_size, complex_float_size, complex_double_size, complex_long_double_size, m64_size, m128_size, m256_size, m512_size}

-- the classes of one, two and four eightbytes, and of all eight
abbrev pub one : Class → List Class
one a = a ∷ NoClass ∷ NoClass ∷ NoClass ∷ NoClass ∷ NoClass ∷ NoClass ∷ NoClass ∷ []

abbrev pub two : Class → Class → List Class
two a b = a ∷ b ∷ NoClass ∷ NoClass ∷ NoClass ∷ NoClass ∷ NoClass ∷ NoClass ∷ []

abbrev pub four : Class → Class → List Class
four a b = a ∷ b ∷ b ∷ b ∷ NoClass ∷ NoClass ∷ NoClass ∷ NoClass ∷ []

abbrev pub eight : Class → Class → List Class
eight a b = a ∷ b ∷ b ∷ b ∷ b ∷ b ∷ b ∷ b ∷ []

abbrev pub all_memory_class : List Class
all_memory_class = eight Memory Memory

-- Booleans, integers, enumerations and pointers
abbrev pub integer_row : ℕ → List Class
integer_row size = if size == 0 then one NoClass else if nat_le size long_size then one Integer else if size == int128_size then two Integer Integer else all_memory_class

abbrev pub float_row : ℕ → List Class
float_row size = if size == float16_size || size == float_size || size == double_size then one Sse else if size == long_double_size then two X87 X87Up else all_memory_class

abbrev pub quad_row : ℕ → List Class
quad_row size = if size == float128_size then two Sse SseUp else all_memory_class

abbrev pub decimal_row : ℕ → List Class
decimal_row size = if size == decimal32_size || size == decimal64_size then one Sse else if size == decimal128_size then two Sse SseUp else all_memory_class

abbrev pub complex_row : ℕ → List Class
complex_row size = if size == complex_float16_size || size == complex_float_size then one Sse else if size == complex_double_size then two Sse Sse else if size == complex_long_double_size then four ComplexX87 ComplexX87 else all_memory_class

abbrev pub vector_row : ℕ → List Class
vector_row size = if size == m64_size then one Sse else if size == m128_size then two Sse SseUp else if size == m256_size then four Sse SseUp else if size == m512_size then eight Sse SseUp else all_memory_class

abbrev pub scalar_row : Group → ℕ → List Class
scalar_row group.Bool size = integer_row size
scalar_row group.Signed size = integer_row size
scalar_row group.Unsigned size = integer_row size
scalar_row group.Float size = float_row size
scalar_row group.Quad size = quad_row size
scalar_row group.Complex size = complex_row size
scalar_row group.Decimal size = decimal_row size

-- the classes of the eightbytes of a leaf object
unfoldable pub row : Kind → Group → ℕ → List Class
row kind.Scalar group size = scalar_row group size
row kind.Enumeration group size = integer_row size
row kind.Pointer group size = integer_row size
row kind.Vector group size = vector_row size
row other group size = all_memory_class
