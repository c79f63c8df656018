-- The handles of the code as plain data, without addresses.
use Rattle.std.specs.Prelude.{ℕ, List, map}
use Rattle.suppressions.specs.declared.handle.Handle.{Handle}
use Rattle.suppressions.specs.declared.handle.Handle.TheVariants.{Any, Name, Symbol, Pattern}
use Rattle.suppressions.specs.Handles.{PlainHandle, any_handle, gate_handle}

abbrev pub plain_handle : Handle → PlainHandle
plain_handle Any = any_handle
plain_handle (Name name) = (1, name.now)
plain_handle (Symbol name) = (2, name.now)
plain_handle Pattern = gate_handle

abbrev pub class_of : Handle → ℕ
class_of handle = (plain_handle handle).0

abbrev pub plain_handles : List Handle → List PlainHandle
plain_handles handles = map plain_handle handles
