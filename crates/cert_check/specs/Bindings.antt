-- The bind lines, checked in both directions: each compared export has its line, and each line has its export.
use Rattle.std.specs.Prelude.{◌≡◌, ◌<◌, ℕ, nat_lt, if◌then◌else◌, Option, Some, None, MatchOption, slice_get}
use Rattle.abi_types.specs.Exports.{PlainExport}
use Rattle.abi_types.specs.Limits.{symbol_limit}
use Rattle.cert_check.specs.Compatible.{IsCompared}
use Rattle.cert_check.specs.Accepted.{Case, HasBinding, KeepsBinding}

-- each compared export with a symbol below this number has its line
abbrev pub AreBound : Case → ℕ → Type 0
AreBound c s = (k : ℕ) (e : PlainExport) → IsCompared c.sides k e → e.symbol < s → HasBinding c e.symbol e

-- the number is the symbol of a compared export
abbrev pub IsOwned : Case → ℕ → Type 0
IsOwned c n = (k : ℕ) × (e : PlainExport) × IsCompared c.sides k e × (e.symbol ≡ n)

-- each line with a number below this one has its export
abbrev pub AreOwned : Case → ℕ → Type 0
AreOwned c s = (k n m : ℕ) → slice_get c.cert.binds k ≡ Some (n, m) → n < s → IsOwned c n

-- the bind lines are wrong at this number
pub record IsWrongAt (c : Case) (s : ℕ) : Type 0 where
  pub below : s < symbol_limit
  pub fails : KeepsBinding c s → ⊥

-- the least symbol of an export that lacks its line
pub record IsFirstUnbound (c : Case) (s : ℕ) : Type 0 where
  pub before : AreBound c s
  pub wrong : IsWrongAt c s

-- the least number of a line without an export
pub record IsFirstUnowned (c : Case) (s : ℕ) : Type 0 where
  pub before : AreOwned c s
  pub wrong : IsWrongAt c s

abbrev pub FindsUnbound : Case → Option ℕ → Type 0
FindsUnbound c found = MatchOption found (AreBound c symbol_limit) (λ s. IsFirstUnbound c s)

abbrev pub FindsUnowned : Case → Option ℕ → Type 0
FindsUnowned c found = MatchOption found (AreOwned c symbol_limit) (λ s. IsFirstUnowned c s)

-- the lesser of two numbers, if there are any
abbrev pub least : Option ℕ → Option ℕ → Option ℕ
least (Some m) (Some n) = if nat_lt m n then Some m else Some n
least (Some m) None = Some m
least None other = other
