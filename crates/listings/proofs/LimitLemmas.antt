-- What a library passes where it is read, or where the lines of its exports are made, it passes where they are listed.
use Rattle.std.proofs.Common.{ℕ, List, length, inl, inr}
use Rattle.abi_base.specs.Budgets.{fresh}
use Rattle.abi_base.specs.Outcome.{OnLimit, OnPast}
use Rattle.abi_base.specs.declared.fault.NoMemory.{NoMemory}
use Rattle.abi_base.specs.declared.fault.Refusal.{Refusal}
use Rattle.abi_base.specs.declared.limit.Limit.TheVariants.{Listing}
use Rattle.abi_base.proofs.lemmas.Outcomes.{on_limit_weaker, on_past_weaker}
use Rattle.library_read.specs.Libraries.{library_of}
use Rattle.library_read.specs.Limits.{LibraryPasses}
use Rattle.listings.specs.exports.Command.{ExportsPass}
use Rattle.listings.specs.exports.ExportLines.{LinesPass, exports_text}

-- what a library passes where it is read, it passes where its exports are listed
pub reading_passes : (bytes : List ℕ) (refused : Refusal) → OnPast refused (LibraryPasses bytes) → OnPast refused (ExportsPass bytes)
reading_passes bytes refused passed = on_past_weaker refused (LibraryPasses bytes) (ExportsPass bytes) (λ l p. inl p) passed

-- and so it does where the lines are made
pub lines_pass : (bytes : List ℕ) (cause : NoMemory) → OnLimit cause (LinesPass (exports_text (library_of bytes)) (fresh Listing (length bytes))) → OnLimit cause (ExportsPass bytes)
lines_pass bytes cause passed = on_limit_weaker cause (LinesPass (exports_text (library_of bytes)) (fresh Listing (length bytes))) (ExportsPass bytes) (λ l p. inr p) passed
