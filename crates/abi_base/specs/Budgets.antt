-- The table of limits, and what a budget is. A limit grows with the units that it is made for: bytes of a file or of a table, types,
-- parts, lines.
use Rattle.std.specs.Prelude.{◌≡◌, ◌<◌, ℕ, ◌+◌, ◌*◌, ◌/◌, map, Option, None}
use Rattle.std.specs.List.{range_with_len, sum_by}
use Rattle.abi_base.specs.declared.fault.Fault.{Fault}
use Rattle.abi_base.specs.Outcome.{first}
use Rattle.abi_base.specs.declared.limit.Limit.{Limit}
use Rattle.abi_base.specs.declared.limit.Limit.TheVariants as limit
use Rattle.abi_base.specs.declared.limit.Rate.{Rate}

-- `each` for each group of `units`, and `base` besides
abbrev pub rate : ℕ → ℕ → ℕ → Rate
rate each units base = record { each = each; units = units; base = base }

-- the limits
abbrev pub rate_of : Limit → Rate
rate_of limit.Symbols = rate 64 1 0
rate_of limit.VersionDefinitions = rate 64 1 0
rate_of limit.VersionNeeds = rate 64 1 0
rate_of limit.ImportNeeds = rate 64 1 0
rate_of limit.NeededFiles = rate 64 1 0
rate_of limit.ExportNames = rate 64 1 0
rate_of limit.DeclaredNames = rate 64 1 0
rate_of limit.RangeLists = rate 64 1 0
rate_of limit.Abbreviations = rate 64 1 0
rate_of limit.Attributes = rate 64 1 0
rate_of limit.Types = rate 1 16 131072
rate_of limit.Members = rate 1 8 524288
rate_of limit.Enumerators = rate 1 8 524288
rate_of limit.Parts = rate 1 2 1048576
rate_of limit.Letters = rate 32 1 33554432
rate_of limit.TypeNames = rate 16 1 1048576
rate_of limit.Leaves = rate 64 1 16777216
rate_of limit.Pairs = rate 5 1 262144
rate_of limit.PairParts = rate 16 1 2097152
rate_of limit.Breaks = rate 4 1 1048576
rate_of limit.Report = rate 8 1 67108864
rate_of limit.SourcePlaces = rate 8 1 33554432
rate_of limit.TypedefNames = rate 8 1 33554432
rate_of limit.Listing = rate 8 1 33554432
rate_of limit.LayoutNames = rate 2 1 4194304
rate_of limit.Soname = rate 0 1 4096
rate_of limit.Patterns = rate 0 1 262144
rate_of limit.PatternClasses = rate 0 1 4096
rate_of limit.PatternLetters = rate 16777216 1 1073741824
rate_of limit.BlockSections = rate 0 1 1024
rate_of limit.PairLines = rate 16 1 2097152
rate_of limit.ComposedLines = rate 0 1 16777216
rate_of limit.Certificate = rate 0 1 268435456
rate_of limit.Notes = rate 16 1 33554432
rate_of limit.IdleSections = rate 64 1 268435456
rate_of limit.AffectedExports = rate 16 1 33554432
rate_of limit.AffectedSteps = rate 64 1 16777216

-- how many a limit allows for this many units
abbrev pub allowed : Limit → ℕ → ℕ
allowed l units = (rate_of l).each * units / (rate_of l).units + (rate_of l).base

-- what a budget is: the limit that it keeps, how many may be taken, and how many were
pub record BudgetState : Type 0 where
  pub limit : Limit
  pub most : ℕ
  pub taken : ℕ

-- a budget for this many units, of which nothing was taken
abbrev pub fresh : Limit → ℕ → BudgetState
fresh l units = record { limit = l; most = allowed l units; taken = 0 }

-- a budget of which this many more were taken
abbrev pub with_taken : BudgetState → ℕ → BudgetState
with_taken b n = record { limit = b.limit; most = b.most; taken = b.taken + n }

-- ---- places that are read one after another

-- what the places below a number count
abbrev pub counted : (ℕ → ℕ) → ℕ → ℕ
counted cost number = sum_by cost (range_with_len 0 number)

-- A place is reached, since none before it has a fault, and with it more is counted than is allowed.
pub record Passes (most : ℕ) (fault : ℕ → Option Fault) (cost : ℕ → ℕ) (count : ℕ) : Type 0 where
  pub place : ℕ
  pub below : place < count
  pub reached : first (map fault (range_with_len 0 place)) ≡ None
  pub above : most < counted cost (place + 1)
