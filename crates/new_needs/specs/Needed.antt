-- What a file needs of other files, as plain data.
use Rattle.std.specs.Prelude.{ℕ, List}

-- a file, a version of a file or a symbol; what a version or a symbol is of, which is empty for a file
pub record PlainNeeded : Type 0 where
  pub name : List ℕ
  pub of : List ℕ

pub record PlainNeeds : Type 0 where
  pub files : List PlainNeeded
  pub versions : List PlainNeeded
  pub symbols : List PlainNeeded
