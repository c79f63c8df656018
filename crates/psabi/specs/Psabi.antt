-- The constants of the System V psABI for x86-64 that definitions use.
use Rattle.std.specs.Prelude.{ℕ}

-- ---- the sizes of types in bytes (section 3.1.2 "Data Representation", figure "Scalar Types")

abbrev pub char_size : ℕ
char_size = 1

abbrev pub short_size : ℕ
short_size = 2

abbrev pub int_size : ℕ
int_size = 4

abbrev pub long_size : ℕ
long_size = 8

abbrev pub int128_size : ℕ
int128_size = 16

abbrev pub float16_size : ℕ
float16_size = 2

abbrev pub float_size : ℕ
float_size = 4

abbrev pub double_size : ℕ
double_size = 8

abbrev pub long_double_size : ℕ
long_double_size = 16

abbrev pub float128_size : ℕ
float128_size = 16

abbrev pub decimal32_size : ℕ
decimal32_size = 4

abbrev pub decimal64_size : ℕ
decimal64_size = 8

abbrev pub decimal128_size : ℕ
decimal128_size = 16

-- a complex number consists of two numbers of its base type

abbrev pub complex_float16_size : ℕ
complex_float16_size = 4

abbrev pub complex_float_size : ℕ
complex_float_size = 8

abbrev pub complex_double_size : ℕ
complex_double_size = 16

abbrev pub complex_long_double_size : ℕ
complex_long_double_size = 32

-- `__m64`, `__m128`, `__m256` and `__m512`

abbrev pub m64_size : ℕ
m64_size = 8

abbrev pub m128_size : ℕ
m128_size = 16

abbrev pub m256_size : ℕ
m256_size = 32

abbrev pub m512_size : ℕ
m512_size = 64

-- ---- classification (section 3.2.3 "Parameter Passing")

-- the number of bits in a byte, and in an eightbyte
abbrev pub byte_bits : ℕ
byte_bits = 8

abbrev pub eightbyte_bits : ℕ
eightbyte_bits = 64

-- the number of bytes in an eightbyte
abbrev pub eightbyte_size : ℕ
eightbyte_size = 8

-- the most eightbytes of an object in registers, and its greatest size in bytes
abbrev pub eightbyte_limit : ℕ
eightbyte_limit = 8

abbrev pub object_limit : ℕ
object_limit = 64

-- the same in bits
abbrev pub object_bits : ℕ
object_bits = 512

-- the greatest size in bytes of an aggregate in registers that is not a vector: two eightbytes
abbrev pub pair_limit : ℕ
pair_limit = 16

-- ---- passing (section 3.2.3 "Parameter Passing")

-- the number of general registers for arguments: rdi, rsi, rdx, rcx, r8 and r9
abbrev pub general_registers : ℕ
general_registers = 6

-- the number of vector registers for arguments: xmm0 to xmm7
abbrev pub vector_registers : ℕ
vector_registers = 8

-- the numbers of general registers, in the order rdi, rsi, rdx, rcx, r8, r9, rax
abbrev pub rdi : ℕ
rdi = 0

abbrev pub rdx : ℕ
rdx = 2

abbrev pub rax : ℕ
rax = 6

-- the top register of the x87 stack
abbrev pub st0 : ℕ
st0 = 0

-- the number of eightbytes in an x87 register
abbrev pub x87_eightbytes : ℕ
x87_eightbytes = 2

-- the alignment of the stack argument area (section 3.2.2 "The Stack Frame")
abbrev pub stack_alignment : ℕ
stack_alignment = 16
