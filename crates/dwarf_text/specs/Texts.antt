-- The strings and addresses to which attribute values refer.
use Rattle.std.specs.Prelude.{◌≡◌, ℕ, nat_lt, is_some, List, Option, Some, None, Result, Ok, Err}
use Rattle.abi_base.specs.declared.fault.Fault.{Fault}
use Rattle.abi_base.specs.declared.fault.FaultKind.TheVariants as kind
use Rattle.abi_base.specs.Numbers.{text_at}
use Rattle.abi_base.specs.Tables.{entry_of_table}
use Rattle.abi_base.specs.Outcome.{◌>>=◌, or_end}
use Rattle.dwarf_forms.specs.Values.{fault}
use Rattle.dwarf_forms.specs.declared.values.Value.{Value}
use Rattle.dwarf_forms.specs.declared.values.Value.TheVariants as value

-- the string at an offset in a section, which must end with a 0 byte inside the section
abbrev pub text_in : List ℕ → ℕ → ℕ → Result (List ℕ) Fault
text_in section place entry = or_end (text_at section place) (fault kind.Text entry)

-- The string of a value (DWARF 5, section 7.5.5 "Classes and Forms", class string): it is in `.debug_info` itself, at an offset in
-- `.debug_str` or `.debug_line_str`, or at an offset in `.debug_str` that `.debug_str_offsets` holds. The unit's part of the latter
-- begins at a base.
abbrev pub text_of : (info str line_str str_offsets : List ℕ) → Option ℕ → ℕ → Value → Result (List ℕ) Fault
text_of info str line_str str_offsets base entry (value.Inline place) = text_in info place entry
text_of info str line_str str_offsets base entry (value.StrOffset place) = text_in str place entry
text_of info str line_str str_offsets base entry (value.LineOffset place) = text_in line_str place entry
text_of info str line_str str_offsets base entry (value.StrIndex k) = do
  place ← or_end (entry_of_table 4 str_offsets base k) (fault kind.Index entry)
  text_in str place entry
text_of info str line_str str_offsets base entry other = Err (fault kind.Text entry)

-- the fault of what was read, if any
abbrev pub fault_of : {A : Type 0} → Result A Fault → Option Fault
fault_of (Ok x) = None
fault_of (Err f) = Some f

-- strings begin at the offsets before this one, and at no other
abbrev pub TextsEnd : List ℕ → ℕ → Type 0
TextsEnd section end = (place : ℕ) → is_some (text_at section place) ≡ nat_lt place end

-- The address of a value (DWARF 5, section 7.5.5, class address): the value itself, or an entry of `.debug_addr`. The unit's part
-- of that section begins at a base.
abbrev pub address_of : List ℕ → Option ℕ → ℕ → Value → Result ℕ Fault
address_of addr base entry (value.Address address) = Ok address
address_of addr base entry (value.AddressIndex k) = or_end (entry_of_table 8 addr base k) (fault kind.Index entry)
address_of addr base entry other = Err (fault kind.Index entry)
