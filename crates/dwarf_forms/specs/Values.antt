-- Attribute values, form by form (DWARF 5, section 7.5.6 "Form Encodings").
use Rattle.std.specs.Prelude.{◌≡◌, ◌≤◌, ℕ, ◌+◌, ◌-◌, ◌%◌, ◌^◌, ◌==◌, not, nat_le, true, if◌then◌else◌, List, [], ◌∷◌, length, take, Option, Some, None, Result, Ok, Err, ℤ, find}
use Rattle.std.specs.Option.{option_map}
use Rattle.abi_base.specs.declared.fault.Fault.{Fault}
use Rattle.abi_base.specs.declared.fault.FaultKind.{FaultKind}
use Rattle.abi_base.specs.declared.fault.FaultKind.TheVariants as kind
use Rattle.abi_base.specs.Dwarf.{dw_form_addr, dw_form_block2, dw_form_block4, dw_form_data2, dw_form_data4, dw_form_data8, dw_form_string, dw_form_block, dw_form_block1, dw_form_data1, dw_form_flag, dw_form_sdata, dw_form_strp, dw_form_udata, dw_form_ref_addr, dw_form_ref1, dw_form_ref2, dw_form_ref4, dw_form_ref8, dw_form_ref_udata, dw_form_indirect, dw_form_sec_offset, dw_form_exprloc, dw_form_flag_present, dw_form_strx, dw_form_addrx, dw_form_ref_sup4, dw_form_strp_sup, dw_form_data16, dw_form_line_strp, dw_form_ref_sig8, dw_form_implicit_const, dw_form_loclistx, dw_form_rnglistx, dw_form_ref_sup8, dw_form_strx1, dw_form_strx2, dw_form_strx3, dw_form_strx4, dw_form_addrx1, dw_form_addrx2, dw_form_addrx3, dw_form_addrx4, dw_form_gnu_ref_alt, dw_form_gnu_strp_alt}
use Rattle.dwarf_forms.specs.declared.values.Value.{Value}
use Rattle.dwarf_forms.specs.declared.values.Value.TheVariants as value
use Rattle.dwarf_forms.specs.declared.meaning.Meaning.{Meaning}
use Rattle.dwarf_forms.specs.declared.meaning.Meaning.TheVariants as meaning
use Rattle.abi_base.specs.Numbers.{number_at, text_at}
use Rattle.abi_base.specs.Leb.{uleb_at, sleb_at}
use Rattle.abi_base.specs.Outcome.{◌>>=◌, or_end}

-- how a form encodes a value
pub data Shape : Type 0 where
  -- a number of `size` bytes
  fixed : (size : ℕ) (meaning : Meaning) → Shape
  -- an unsigned LEB128 number
  of_uleb : (meaning : Meaning) → Shape
  -- a signed LEB128 number
  of_sleb : Shape
  -- the constant in the abbreviation, and no bytes
  implicit_const : Shape
  -- sixteen bytes
  sixteen_bytes : Shape
  -- a block after a length of `size` bytes
  block_behind : (size : ℕ) → Shape
  -- a block after a LEB128 length
  block_behind_uleb : Shape
  -- a string with its terminating 0 byte
  inline_text : Shape
  -- true, and no bytes
  is_present : Shape
  -- a LEB128 form, then a value of that form
  indirect : Shape
  -- a reference to a supplementary file
  supplementary : Shape

-- each form, and how it encodes a value
unfoldable pub forms : List (ℕ × Shape)
forms =
    (dw_form_addr, fixed 8 meaning.Address)
    ∷ (dw_form_block2, block_behind 2)
    ∷ (dw_form_block4, block_behind 4)
    ∷ (dw_form_data2, fixed 2 meaning.Unsigned)
    ∷ (dw_form_data4, fixed 4 meaning.Unsigned)
    ∷ (dw_form_data8, fixed 8 meaning.Unsigned)
    ∷ (dw_form_string, inline_text)
    ∷ (dw_form_block, block_behind_uleb)
    ∷ (dw_form_block1, block_behind 1)
    ∷ (dw_form_data1, fixed 1 meaning.Unsigned)
    ∷ (dw_form_flag, fixed 1 meaning.Flag)
    ∷ (dw_form_sdata, of_sleb)
    ∷ (dw_form_strp, fixed 4 meaning.StrOffset)
    ∷ (dw_form_udata, of_uleb meaning.Unsigned)
    ∷ (dw_form_ref_addr, fixed 4 meaning.Reference)
    ∷ (dw_form_ref1, fixed 1 meaning.LocalReference)
    ∷ (dw_form_ref2, fixed 2 meaning.LocalReference)
    ∷ (dw_form_ref4, fixed 4 meaning.LocalReference)
    ∷ (dw_form_ref8, fixed 8 meaning.LocalReference)
    ∷ (dw_form_ref_udata, of_uleb meaning.LocalReference)
    ∷ (dw_form_indirect, indirect)
    ∷ (dw_form_sec_offset, fixed 4 meaning.SectionOffset)
    ∷ (dw_form_exprloc, block_behind_uleb)
    ∷ (dw_form_flag_present, is_present)
    ∷ (dw_form_strx, of_uleb meaning.StrIndex)
    ∷ (dw_form_addrx, of_uleb meaning.AddressIndex)
    ∷ (dw_form_ref_sup4, supplementary)
    ∷ (dw_form_strp_sup, supplementary)
    ∷ (dw_form_data16, sixteen_bytes)
    ∷ (dw_form_line_strp, fixed 4 meaning.LineOffset)
    ∷ (dw_form_ref_sig8, fixed 8 meaning.Signature)
    ∷ (dw_form_implicit_const, implicit_const)
    ∷ (dw_form_loclistx, of_uleb meaning.LocationIndex)
    ∷ (dw_form_rnglistx, of_uleb meaning.RangeIndex)
    ∷ (dw_form_ref_sup8, supplementary)
    ∷ (dw_form_strx1, fixed 1 meaning.StrIndex)
    ∷ (dw_form_strx2, fixed 2 meaning.StrIndex)
    ∷ (dw_form_strx3, fixed 3 meaning.StrIndex)
    ∷ (dw_form_strx4, fixed 4 meaning.StrIndex)
    ∷ (dw_form_addrx1, fixed 1 meaning.AddressIndex)
    ∷ (dw_form_addrx2, fixed 2 meaning.AddressIndex)
    ∷ (dw_form_addrx3, fixed 3 meaning.AddressIndex)
    ∷ (dw_form_addrx4, fixed 4 meaning.AddressIndex)
    ∷ (dw_form_gnu_ref_alt, supplementary)
    ∷ (dw_form_gnu_strp_alt, supplementary)
    ∷ []

unfoldable pub shape_of : ℕ → Option Shape
shape_of form = option_map (λ row. row.1) (find (λ row. row.0 == form) forms)

-- the value of a number with this meaning, in a unit at an offset
abbrev pub means : Meaning → ℕ → ℕ → Value
means meaning.Address unit n = value.Address n
means meaning.AddressIndex unit n = value.AddressIndex n
means meaning.Unsigned unit n = value.Unsigned n
means meaning.StrOffset unit n = value.StrOffset n
means meaning.LineOffset unit n = value.LineOffset n
means meaning.StrIndex unit n = value.StrIndex n
means meaning.Flag unit n = value.Flag (not (n == 0))
means meaning.LocalReference unit n = value.Reference ((n + unit) % 2 ^ 64)
means meaning.Reference unit n = value.Reference n
means meaning.Signature unit n = value.Signature n
means meaning.SectionOffset unit n = value.SectionOffset n
means meaning.RangeIndex unit n = value.RangeIndex n
means meaning.LocationIndex unit n = value.LocationIndex n

abbrev pub fault : FaultKind → ℕ → Fault
fault kind entry = record { kind = kind; at = entry }

-- a block of `len` bytes
abbrev pub block : List ℕ → ℕ → ℕ → Result (Value × ℕ) Fault → Result (Value × ℕ) Fault
block bytes from len cut = if nat_le (from + len) (length bytes) then Ok (value.Block from (from + len), from + len) else cut

-- The value that a shape encodes at an offset, in the bytes up to the unit's end, and the offset after it.
abbrev pub spelled : Shape → ℤ → ℕ → ℕ → List ℕ → ℕ → Result (Value × ℕ) Fault
spelled (fixed size m) implicit unit entry bytes at = do
  n ← or_end (number_at size bytes at) (fault kind.Cut entry)
  Ok (means m unit n, at + size)
spelled (of_uleb m) implicit unit entry bytes at = do
  n ← or_end (uleb_at bytes at) (fault kind.Cut entry)
  Ok (means m unit n.0, n.1)
spelled of_sleb implicit unit entry bytes at = do
  n ← or_end (sleb_at bytes at) (fault kind.Cut entry)
  Ok (value.Signed n.0, n.1)
spelled implicit_const implicit unit entry bytes at = Ok (value.Signed implicit, at)
spelled sixteen_bytes implicit unit entry bytes at =
    if nat_le (at + 16) (length bytes) then Ok (value.Wide at, at + 16) else Err (fault kind.Cut entry)
spelled (block_behind size) implicit unit entry bytes at = do
  len ← or_end (number_at size bytes at) (fault kind.Cut entry)
  block bytes (at + size) len (Err (fault kind.Cut entry))
spelled block_behind_uleb implicit unit entry bytes at = do
  len ← or_end (uleb_at bytes at) (fault kind.Cut entry)
  block bytes len.1 len.0 (Err (fault kind.Cut entry))
spelled inline_text implicit unit entry bytes at = do
  text ← or_end (text_at bytes at) (fault kind.Cut entry)
  Ok (value.Inline at, at + length text + 1)
spelled is_present implicit unit entry bytes at = Ok (value.Flag true, at)
spelled indirect implicit unit entry bytes at = Err (fault kind.Form entry)
spelled supplementary implicit unit entry bytes at = Err (fault kind.Supplementary entry)

-- a form that may follow DW_FORM_indirect
abbrev pub named_shape : Option Shape → Option Shape
named_shape (Some indirect) = None
named_shape (Some implicit_const) = None
named_shape other = other

-- the value after its own form
abbrev pub indirect_at : ℤ → ℕ → ℕ → List ℕ → ℕ → Result (Value × ℕ) Fault
indirect_at implicit unit entry bytes at = do
  form ← or_end (uleb_at bytes at) (fault kind.Cut entry)
  named ← or_end (named_shape (shape_of form.0)) (fault kind.Form entry)
  spelled named implicit unit entry bytes form.1

unfoldable pub value_of : Shape → ℤ → ℕ → ℕ → List ℕ → ℕ → Result (Value × ℕ) Fault
value_of indirect implicit unit entry bytes at = indirect_at implicit unit entry bytes at
value_of other implicit unit entry bytes at = spelled other implicit unit entry bytes at

-- The value of a form at an offset, and the offset after it. The unit ends at `end`.
unfoldable pub value_at : ℕ → ℤ → ℕ → ℕ → ℕ → List ℕ → ℕ → Result (Value × ℕ) Fault
value_at form implicit unit end entry bytes at = do
  named ← or_end (shape_of form) (fault kind.Form entry)
  value_of named implicit unit entry (take end bytes) at

-- the offset after what was read, or the fault
abbrev pub place_after : {A : Type 0} → Result (A × ℕ) Fault → Result ℕ Fault
place_after (Ok read) = Ok read.1
place_after (Err f) = Err f

-- the size in bytes of the values of a shape, if all have the same size
abbrev pub fixed_size_of : Option Shape → Option ℕ
fixed_size_of (Some (fixed size m)) = Some size
fixed_size_of (Some sixteen_bytes) = Some 16
fixed_size_of (Some implicit_const) = Some 0
fixed_size_of (Some is_present) = Some 0
fixed_size_of other = None

-- the offset after a value of that size, if the value ends in the unit
abbrev pub fixed_end_of : Option ℕ → ℕ → ℕ → Option ℕ
fixed_end_of None end at = None
fixed_end_of (Some size) end at = if nat_le size (end - at) then Some (at + size) else None

-- Values of a form with a fixed size end that many bytes on, if they end in the unit.
abbrev pub FixedSizesEnd : Type 0
FixedSizesEnd =
    (form size : ℕ) (implicit : ℤ) (unit end entry : ℕ) (bytes : List ℕ) (at : ℕ) → fixed_size_of (shape_of form) ≡ Some size → size ≤ end - at → end ≤ length bytes
    → place_after (value_at form implicit unit end entry bytes at) ≡ Ok (at + size)

-- the value of a form other than DW_FORM_indirect
abbrev pub direct_at : ℕ → ℤ → ℕ → ℕ → List ℕ → ℕ → Result (Value × ℕ) Fault
direct_at form implicit unit entry bytes at = do
  named ← or_end (shape_of form) (fault kind.Form entry)
  spelled named implicit unit entry bytes at

-- A form encodes the offset of another entry in `size` bytes. The offset follows from the unit's offset and the number.
abbrev pub Refers : ℕ → ℕ → (ℕ → ℕ → ℕ) → Type 0
Refers form size place =
    (implicit : ℤ) (unit end entry : ℕ) (bytes : List ℕ) (at n : ℕ) → number_at size (take end bytes) at ≡ Some n
    → value_at form implicit unit end entry bytes at ≡ Ok (value.Reference (place unit n), at + size)

-- the same for an unsigned LEB128 number
abbrev pub RefersByUleb : ℕ → (ℕ → ℕ → ℕ) → Type 0
RefersByUleb form place =
    (implicit : ℤ) (unit end entry : ℕ) (bytes : List ℕ) (at : ℕ) (n : ℕ × ℕ) → uleb_at (take end bytes) at ≡ Some n
    → value_at form implicit unit end entry bytes at ≡ Ok (value.Reference (place unit n.0), n.1)

-- the offset for a number that counts from the start of `.debug_info`, and for one that counts from the start of its unit
abbrev pub absolute : ℕ → ℕ → ℕ
absolute unit n = n

abbrev pub from_unit : ℕ → ℕ → ℕ
from_unit unit n = (n + unit) % 2 ^ 64
