-- What a command says that lists what is in a library.
use Rattle.std.specs.Prelude.{◌≡◌, ℕ, List, Option, None}
use Rattle.abi_base.specs.declared.remark.Remark.{Remark}
use Rattle.commands.specs.declared.verdict.Verdict.{Verdict}
use Rattle.commands.specs.declared.verdict.Verdict.TheVariants.{Done}

-- the command is done, and its text is the listing
pub record IsListed (listing : List ℕ) (v : Verdict) (untyped : Option Remark) (text : List ℕ) : Type 0 where
  pub done : v ≡ Done
  pub none : untyped ≡ None
  pub is : text ≡ listing
