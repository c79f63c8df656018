-- When a program that was compiled against the old library finds the same in the new one.
use Rattle.std.specs.Prelude.{◌≡◌, ℕ}
use Rattle.abi_types.specs.Exports.{PlainExport}
use Rattle.abi_types.specs.Graphs.{IsGraph}
use Rattle.abi_types.specs.Libraries.{IsLibrary, PlainLibrary}
use Rattle.accesses.specs.Landing.{AllLand}
use Rattle.cert_check.specs.Compatible.{Sides, IsCompared, IsBound, task_of}

-- The sonames agree; each compared old export binds and keeps the rules of exports; and each open access from the types of these
-- exports lands in agreement.
pub record IsAgreed (s : Sides) : Type 0 where
  pub sonames : s.old.soname ≡ s.new.soname
  pub exports : (k : ℕ) (e : PlainExport) → IsCompared s k e → IsBound s e
  pub accesses : AllLand (task_of s)

-- the exports and the graph are those of a library
pub record IsValidLibrary (l : PlainLibrary) : Type 0 where
  pub library : IsLibrary l.exports l.graph
  pub graph : IsGraph l.graph

-- both libraries are valid
pub record AreValid (s : Sides) : Type 0 where
  pub old : IsValidLibrary s.old
  pub new : IsValidLibrary s.new
