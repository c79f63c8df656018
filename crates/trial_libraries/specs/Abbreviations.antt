-- The only abbreviation table of a generated library (DWARF 5, section 7.5.3 "Abbreviations Tables"). All its numbers are below
-- 128, so each has one byte.
use Rattle.std.specs.Prelude.{ℕ, List, [], ◌∷◌, ◌++◌}
use Rattle.std.specs.List.{flat_map, concat}
use Rattle.abi_base.specs.Dwarf.{dw_tag_compile_unit, dw_tag_base_type, dw_tag_pointer_type, dw_tag_structure_type, dw_tag_member, dw_tag_subprogram, dw_tag_formal_parameter, dw_children_yes, dw_children_no, dw_at_language, dw_at_byte_size, dw_at_encoding, dw_at_name, dw_at_type, dw_at_data_member_location, dw_at_low_pc, dw_form_data1, dw_form_data2, dw_form_string, dw_form_ref4, dw_form_addr}

-- an attribute and its form
abbrev pub attribute : ℕ × ℕ → List ℕ
attribute a = a.0 ∷ a.1 ∷ []

-- an abbreviation: its code, its tag, whether its entries have children, its attribute specifications, and the pair that ends them
abbrev pub abbreviation : ℕ → ℕ → ℕ → List (ℕ × ℕ) → List ℕ
abbreviation code tag children attributes = code ∷ tag ∷ children ∷ (flat_map attribute attributes ++ 0 ∷ 0 ∷ [])

-- the code of each abbreviation
abbrev pub unit_code : ℕ
unit_code = 1

abbrev pub base_code : ℕ
base_code = 2

abbrev pub pointer_code : ℕ
pointer_code = 3

abbrev pub structure_code : ℕ
structure_code = 4

abbrev pub member_code : ℕ
member_code = 5

abbrev pub function_code : ℕ
function_code = 6

abbrev pub parameter_code : ℕ
parameter_code = 7

-- the table, with the 0 byte that ends it
abbrev pub abbreviations : List ℕ
abbreviations = concat (
    abbreviation unit_code dw_tag_compile_unit dw_children_yes ((dw_at_language, dw_form_data2) ∷ [])
    ∷ abbreviation base_code dw_tag_base_type dw_children_no ((dw_at_byte_size, dw_form_data1) ∷ (dw_at_encoding, dw_form_data1) ∷ (dw_at_name, dw_form_string) ∷ [])
    ∷ abbreviation pointer_code dw_tag_pointer_type dw_children_no ((dw_at_byte_size, dw_form_data1) ∷ (dw_at_type, dw_form_ref4) ∷ [])
    ∷ abbreviation structure_code dw_tag_structure_type dw_children_yes ((dw_at_name, dw_form_string) ∷ (dw_at_byte_size, dw_form_data1) ∷ [])
    ∷ abbreviation member_code dw_tag_member dw_children_no ((dw_at_name, dw_form_string) ∷ (dw_at_type, dw_form_ref4) ∷ (dw_at_data_member_location, dw_form_data1) ∷ [])
    ∷ abbreviation function_code dw_tag_subprogram dw_children_yes ((dw_at_name, dw_form_string) ∷ (dw_at_type, dw_form_ref4) ∷ (dw_at_low_pc, dw_form_addr) ∷ [])
    ∷ abbreviation parameter_code dw_tag_formal_parameter dw_children_no ((dw_at_type, dw_form_ref4) ∷ [])
    ∷ (0 ∷ []) ∷ [])
