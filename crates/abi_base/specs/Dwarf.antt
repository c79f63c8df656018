-- The constants of DWARF 5 that definitions use, from section 7 "Data Representation", with some of DWARF 4, of the later
-- list of language codes, and of GNU extensions. Names are the standard's own, in lower case.
use Rattle.std.specs.Prelude.{ℕ}

-- ---- forms of attribute values (section 7.5.6 "Form Encodings")

abbrev pub dw_form_addr : ℕ
dw_form_addr = 0x01

abbrev pub dw_form_block2 : ℕ
dw_form_block2 = 0x03

abbrev pub dw_form_block4 : ℕ
dw_form_block4 = 0x04

abbrev pub dw_form_data2 : ℕ
dw_form_data2 = 0x05

abbrev pub dw_form_data4 : ℕ
dw_form_data4 = 0x06

abbrev pub dw_form_data8 : ℕ
dw_form_data8 = 0x07

abbrev pub dw_form_string : ℕ
dw_form_string = 0x08

abbrev pub dw_form_block : ℕ
dw_form_block = 0x09

abbrev pub dw_form_block1 : ℕ
dw_form_block1 = 0x0a

abbrev pub dw_form_data1 : ℕ
dw_form_data1 = 0x0b

abbrev pub dw_form_flag : ℕ
dw_form_flag = 0x0c

abbrev pub dw_form_sdata : ℕ
dw_form_sdata = 0x0d

abbrev pub dw_form_strp : ℕ
dw_form_strp = 0x0e

abbrev pub dw_form_udata : ℕ
dw_form_udata = 0x0f

abbrev pub dw_form_ref_addr : ℕ
dw_form_ref_addr = 0x10

abbrev pub dw_form_ref1 : ℕ
dw_form_ref1 = 0x11

abbrev pub dw_form_ref2 : ℕ
dw_form_ref2 = 0x12

abbrev pub dw_form_ref4 : ℕ
dw_form_ref4 = 0x13

abbrev pub dw_form_ref8 : ℕ
dw_form_ref8 = 0x14

abbrev pub dw_form_ref_udata : ℕ
dw_form_ref_udata = 0x15

abbrev pub dw_form_indirect : ℕ
dw_form_indirect = 0x16

abbrev pub dw_form_sec_offset : ℕ
dw_form_sec_offset = 0x17

abbrev pub dw_form_exprloc : ℕ
dw_form_exprloc = 0x18

abbrev pub dw_form_flag_present : ℕ
dw_form_flag_present = 0x19

abbrev pub dw_form_strx : ℕ
dw_form_strx = 0x1a

abbrev pub dw_form_addrx : ℕ
dw_form_addrx = 0x1b

abbrev pub dw_form_ref_sup4 : ℕ
dw_form_ref_sup4 = 0x1c

abbrev pub dw_form_strp_sup : ℕ
dw_form_strp_sup = 0x1d

abbrev pub dw_form_data16 : ℕ
dw_form_data16 = 0x1e

abbrev pub dw_form_line_strp : ℕ
dw_form_line_strp = 0x1f

abbrev pub dw_form_ref_sig8 : ℕ
dw_form_ref_sig8 = 0x20

abbrev pub dw_form_implicit_const : ℕ
dw_form_implicit_const = 0x21

abbrev pub dw_form_loclistx : ℕ
dw_form_loclistx = 0x22

abbrev pub dw_form_rnglistx : ℕ
dw_form_rnglistx = 0x23

abbrev pub dw_form_ref_sup8 : ℕ
dw_form_ref_sup8 = 0x24

abbrev pub dw_form_strx1 : ℕ
dw_form_strx1 = 0x25

abbrev pub dw_form_strx2 : ℕ
dw_form_strx2 = 0x26

abbrev pub dw_form_strx3 : ℕ
dw_form_strx3 = 0x27

abbrev pub dw_form_strx4 : ℕ
dw_form_strx4 = 0x28

abbrev pub dw_form_addrx1 : ℕ
dw_form_addrx1 = 0x29

abbrev pub dw_form_addrx2 : ℕ
dw_form_addrx2 = 0x2a

abbrev pub dw_form_addrx3 : ℕ
dw_form_addrx3 = 0x2b

abbrev pub dw_form_addrx4 : ℕ
dw_form_addrx4 = 0x2c

abbrev pub dw_form_gnu_ref_alt : ℕ
dw_form_gnu_ref_alt = 0x1f20

abbrev pub dw_form_gnu_strp_alt : ℕ
dw_form_gnu_strp_alt = 0x1f21

-- ---- tags of entries (section 7.5.3 "Abbreviations Tables")

abbrev pub dw_tag_array_type : ℕ
dw_tag_array_type = 0x01

abbrev pub dw_tag_enumeration_type : ℕ
dw_tag_enumeration_type = 0x04

abbrev pub dw_tag_formal_parameter : ℕ
dw_tag_formal_parameter = 0x05

abbrev pub dw_tag_member : ℕ
dw_tag_member = 0x0d

abbrev pub dw_tag_pointer_type : ℕ
dw_tag_pointer_type = 0x0f

abbrev pub dw_tag_compile_unit : ℕ
dw_tag_compile_unit = 0x11

abbrev pub dw_tag_structure_type : ℕ
dw_tag_structure_type = 0x13

abbrev pub dw_tag_subroutine_type : ℕ
dw_tag_subroutine_type = 0x15

abbrev pub dw_tag_typedef : ℕ
dw_tag_typedef = 0x16

abbrev pub dw_tag_union_type : ℕ
dw_tag_union_type = 0x17

abbrev pub dw_tag_unspecified_parameters : ℕ
dw_tag_unspecified_parameters = 0x18

abbrev pub dw_tag_subrange_type : ℕ
dw_tag_subrange_type = 0x21

abbrev pub dw_tag_base_type : ℕ
dw_tag_base_type = 0x24

abbrev pub dw_tag_const_type : ℕ
dw_tag_const_type = 0x26

abbrev pub dw_tag_enumerator : ℕ
dw_tag_enumerator = 0x28

abbrev pub dw_tag_subprogram : ℕ
dw_tag_subprogram = 0x2e

abbrev pub dw_tag_variable : ℕ
dw_tag_variable = 0x34

abbrev pub dw_tag_volatile_type : ℕ
dw_tag_volatile_type = 0x35

abbrev pub dw_tag_restrict_type : ℕ
dw_tag_restrict_type = 0x37

abbrev pub dw_tag_partial_unit : ℕ
dw_tag_partial_unit = 0x3c

abbrev pub dw_tag_type_unit : ℕ
dw_tag_type_unit = 0x41

abbrev pub dw_tag_atomic_type : ℕ
dw_tag_atomic_type = 0x47

-- ---- attributes (section 7.5.4 "Attribute Encodings")

abbrev pub dw_at_location : ℕ
dw_at_location = 0x02

abbrev pub dw_at_name : ℕ
dw_at_name = 0x03

abbrev pub dw_at_byte_size : ℕ
dw_at_byte_size = 0x0b

abbrev pub dw_at_bit_offset : ℕ
dw_at_bit_offset = 0x0c

abbrev pub dw_at_bit_size : ℕ
dw_at_bit_size = 0x0d

abbrev pub dw_at_low_pc : ℕ
dw_at_low_pc = 0x11

abbrev pub dw_at_language : ℕ
dw_at_language = 0x13

abbrev pub dw_at_const_value : ℕ
dw_at_const_value = 0x1c

abbrev pub dw_at_upper_bound : ℕ
dw_at_upper_bound = 0x2f

abbrev pub dw_at_abstract_origin : ℕ
dw_at_abstract_origin = 0x31

abbrev pub dw_at_count : ℕ
dw_at_count = 0x37

abbrev pub dw_at_data_member_location : ℕ
dw_at_data_member_location = 0x38

abbrev pub dw_at_declaration : ℕ
dw_at_declaration = 0x3c

abbrev pub dw_at_encoding : ℕ
dw_at_encoding = 0x3e

abbrev pub dw_at_specification : ℕ
dw_at_specification = 0x47

abbrev pub dw_at_type : ℕ
dw_at_type = 0x49

abbrev pub dw_at_entry_pc : ℕ
dw_at_entry_pc = 0x52

abbrev pub dw_at_ranges : ℕ
dw_at_ranges = 0x55

abbrev pub dw_at_signature : ℕ
dw_at_signature = 0x69

abbrev pub dw_at_data_bit_offset : ℕ
dw_at_data_bit_offset = 0x6b

abbrev pub dw_at_str_offsets_base : ℕ
dw_at_str_offsets_base = 0x72

abbrev pub dw_at_addr_base : ℕ
dw_at_addr_base = 0x73

abbrev pub dw_at_rnglists_base : ℕ
dw_at_rnglists_base = 0x74

abbrev pub dw_at_alignment : ℕ
dw_at_alignment = 0x88

abbrev pub dw_at_gnu_vector : ℕ
dw_at_gnu_vector = 0x2107

-- ---- the supported languages (section 7.12 "Source Languages"): C, and assembler under the code that binutils writes

abbrev pub dw_lang_c89 : ℕ
dw_lang_c89 = 0x0001

abbrev pub dw_lang_c : ℕ
dw_lang_c = 0x0002

abbrev pub dw_lang_c99 : ℕ
dw_lang_c99 = 0x000c

abbrev pub dw_lang_c11 : ℕ
dw_lang_c11 = 0x001d

abbrev pub dw_lang_c17 : ℕ
dw_lang_c17 = 0x002c

abbrev pub dw_lang_mips_assembler : ℕ
dw_lang_mips_assembler = 0x8001

-- ---- the supported unit types (section 7.5.1 "Unit Headers")

abbrev pub dw_ut_compile : ℕ
dw_ut_compile = 0x01

abbrev pub dw_ut_type : ℕ
dw_ut_type = 0x02

abbrev pub dw_ut_partial : ℕ
dw_ut_partial = 0x03

-- ---- whether entries of an abbreviation have children (section 7.5.3)

abbrev pub dw_children_no : ℕ
dw_children_no = 0x00

abbrev pub dw_children_yes : ℕ
dw_children_yes = 0x01

-- ---- encodings of base types (section 7.8 "Base Type Attribute Encodings")

abbrev pub dw_ate_boolean : ℕ
dw_ate_boolean = 0x02

abbrev pub dw_ate_complex_float : ℕ
dw_ate_complex_float = 0x03

abbrev pub dw_ate_float : ℕ
dw_ate_float = 0x04

abbrev pub dw_ate_signed : ℕ
dw_ate_signed = 0x05

abbrev pub dw_ate_signed_char : ℕ
dw_ate_signed_char = 0x06

abbrev pub dw_ate_unsigned : ℕ
dw_ate_unsigned = 0x07

abbrev pub dw_ate_unsigned_char : ℕ
dw_ate_unsigned_char = 0x08

abbrev pub dw_ate_decimal_float : ℕ
dw_ate_decimal_float = 0x0f

abbrev pub dw_ate_utf : ℕ
dw_ate_utf = 0x10

-- ---- operations (section 7.7.1 "DWARF Expressions")

-- the operation whose operand is an address
abbrev pub dw_op_addr : ℕ
dw_op_addr = 0x03

-- the operation whose operand is the index of an address
abbrev pub dw_op_addrx : ℕ
dw_op_addrx = 0xa1

-- the operation that adds its operand to the address on the stack
abbrev pub dw_op_plus_uconst : ℕ
dw_op_plus_uconst = 0x23

-- ---- range lists (section 7.25 "Non-Contiguous Address Ranges"; DWARF 4, section 2.17.3 of the same name)

abbrev pub dw_rle_end_of_list : ℕ
dw_rle_end_of_list = 0x00

abbrev pub dw_rle_base_addressx : ℕ
dw_rle_base_addressx = 0x01

abbrev pub dw_rle_startx_endx : ℕ
dw_rle_startx_endx = 0x02

abbrev pub dw_rle_startx_length : ℕ
dw_rle_startx_length = 0x03

abbrev pub dw_rle_offset_pair : ℕ
dw_rle_offset_pair = 0x04

abbrev pub dw_rle_base_address : ℕ
dw_rle_base_address = 0x05

abbrev pub dw_rle_start_end : ℕ
dw_rle_start_end = 0x06

abbrev pub dw_rle_start_length : ℕ
dw_rle_start_length = 0x07

-- the largest address, which marks a base address selection entry (DWARF 4, section 2.17.3)
abbrev pub base_selection : ℕ
base_selection = 0xffffffffffffffff
