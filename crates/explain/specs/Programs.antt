-- Programs that are given as libraries (System V gABI, "Program Header" and "Dynamic Section"; the flags are GNU's). A file is the
-- list of its bytes.
use Rattle.std.specs.Prelude.{ℕ, ◌+◌, ◌*◌, ◌/◌, ◌%◌, ◌==◌, ◌&&◌, nat_le, Bool, false, if◌then◌else◌, List, length, take, drop, find, Option, Some, None, is_some, unwrap_or, option_and_then, codes}
use Rattle.std.specs.List.{filter_map, range_with_len}
use Rattle.std.specs.Option.{option_map, option_map_or}
use Rattle.abi_base.specs.Numbers.{number, number_at}
use Rattle.elf.specs.symbols.Dynamic.{tag_in, value_in, entry_numbers}

-- the bytes of this size at an offset, if the file has them all
abbrev pub piece_at : List ℕ → (at size : ℕ) → Option (List ℕ)
piece_at f at size = if nat_le (at + size) (length f) then Some (take size (drop at f)) else None

-- ---- segments

-- the program header with an index, if the file has its 56 bytes; `table` is the offset of the first one
abbrev pub header_with : List ℕ → (table i : ℕ) → Option (List ℕ)
header_with f table i = piece_at f (table + 56 * i) 56

-- this many program headers of a table
abbrev pub headers_in : List ℕ → (table count : ℕ) → List (List ℕ)
headers_in f table count = filter_map (header_with f table) (range_with_len 0 count)

-- the program headers: they begin at `e_phoff`, the eight bytes at 32, and `e_phnum`, the two bytes at 56, is how many there are
abbrev pub program_headers : List ℕ → List (List ℕ)
program_headers f = headers_in f (number 8 f 32) (unwrap_or (number_at 2 f 56) 0)

-- a header is that of a segment of this type: `p_type`, its first four bytes
abbrev pub is_of_type : ℕ → List ℕ → Bool
is_of_type type header = number 4 header 0 == type

-- the header of the first segment of this type
unfoldable pub segment_of : List ℕ → ℕ → Option (List ℕ)
segment_of f type = find (is_of_type type) (program_headers f)

-- a program interpreter is named: there is a segment of type PT_INTERP, which is 3
abbrev pub has_interpreter : List ℕ → Bool
has_interpreter f = is_some (segment_of f 3)

-- ---- the dynamic table

-- what a segment has in the file: `p_filesz` bytes, the number at 32 of its header, at `p_offset`, the number at 8
abbrev pub contents_of : List ℕ → List ℕ → Option (List ℕ)
contents_of f header = piece_at f (number 8 header 8) (number 8 header 32)

-- the dynamic table: what the segment of type PT_DYNAMIC, which is 2, has in the file
abbrev pub dynamic_table : List ℕ → Option (List ℕ)
dynamic_table f = option_and_then (contents_of f) (segment_of f 2)

-- the tag of an entry is DT_FLAGS_1
abbrev pub has_flags : List ℕ → ℕ → Bool
has_flags table i = tag_in table i == 0x6ffffffb

-- the first entry with the tag DT_FLAGS_1 among those before the end
abbrev pub flags_entry : List ℕ → Option ℕ
flags_entry table = find (has_flags table) (entry_numbers table)

-- its value
abbrev pub flags_of : List ℕ → Option ℕ
flags_of table = option_map (value_in table) (flags_entry table)

-- the bit DF_1_PIE of the flags
abbrev pub says_pie : ℕ → Bool
says_pie flags = (flags / 0x08000000) % 2 == 1

-- a position-independent executable: it names a program interpreter, and its dynamic table has flags with this bit
abbrev pub is_program : List ℕ → Bool
is_program f = has_interpreter f && option_map_or says_pie (option_and_then flags_of (dynamic_table f)) false

-- ---- the sentence

-- the words about a program that is given as a library
abbrev pub program_words : List ℕ
program_words = codes "it is a program (a position-independent executable), not a library"
