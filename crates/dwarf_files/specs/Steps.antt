-- Steps that may find nothing.
use Rattle.std.specs.Prelude.{Option, Some, None, Result, Ok, Err}

infixl 10 ◌>>=◌
abbrev pub ◌>>=◌ : {A B : Type 0} → Option A → (A → Option B) → Option B
None >>= f = None
(Some x) >>= f = f x

-- what was read, or None where it has a fault
abbrev pub if_read : {A E : Type 0} → Result A E → Option A
if_read (Ok x) = Some x
if_read (Err e) = None
