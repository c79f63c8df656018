-- Units and tokens of the code, without their addresses in memory.
use Rattle.std.specs.Prelude.{◌≡◌, Some, None, Result, Ok, Err}
use Rattle.abi_base.specs.declared.fault.Refusal.{Refusal}
use Rattle.abi_base.specs.declared.fault.Refusal.TheVariants as refusal
use Rattle.abi_base.specs.declared.fault.NoMemory.TheVariants.{Allocation}
use Rattle.dwarf_units.specs.declared.unit.Unit.{Unit}
use Rattle.dwarf_units.specs.declared.tokens.Token.{Token}
use Rattle.dwarf_units.specs.declared.tokens.Token.TheVariants as token
use Rattle.dwarf_units.specs.Units.{PlainUnit, State, token_at}

abbrev pub plain_unit : Unit → PlainUnit
plain_unit u = record {
  offset = u.offset;
  end = u.end;
  version = u.version;
  partial = u.partial;
  signature = u.signature;
  type_entry = u.type_entry;
  table = u.table.value;
  info = u.info.now;
}

-- what the reader of one token answers
abbrev pub IsToken : PlainUnit → State → Result Token Refusal → Type 0
IsToken u s (Ok (token.Given entry at lists)) = token_at u s ≡ Ok (Some entry, (at, Some lists))
IsToken u s (Ok (token.Closed at lists)) = token_at u s ≡ Ok (None, (at, Some lists))
IsToken u s (Ok token.End) = token_at u s ≡ Err None
IsToken u s (Err (refusal.Fault f)) = token_at u s ≡ Err (Some f)
IsToken u s (Err (refusal.NoMemory cause)) = cause ≡ Allocation
