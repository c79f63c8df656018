-- What a budget for reading is: which limit it keeps, and how many bytes may still be read.
use Rattle.std.specs.Prelude.{ℕ}
use Rattle.abi_base.specs.declared.limit.Limit.{Limit}

pub record Budget : Type 0 where
  pub limit : Limit
  pub left : ℕ
