-- `exports`: what it reads and says.
use Rattle.std.specs.Prelude.{◌⊎◌, ℕ, List, [], ◌∷◌, length, Option}
use Rattle.abi_base.specs.Budgets.{fresh}
use Rattle.abi_base.specs.declared.limit.Limit.{Limit}
use Rattle.abi_base.specs.declared.limit.Limit.TheVariants.{Listing}
use Rattle.abi_base.specs.declared.remark.Remark.{Remark}
use Rattle.commands.specs.Commands.{Wanted, named}
use Rattle.commands.specs.declared.input.Input.TheVariants.{Library}
use Rattle.commands.specs.declared.verdict.Verdict.{Verdict}
use Rattle.library_read.specs.Faults.{library_fault}
use Rattle.library_read.specs.Libraries.{library_of}
use Rattle.library_read.specs.Limits.{LibraryPasses}
use Rattle.listings.specs.Listed.{IsListed}
use Rattle.listings.specs.exports.ExportLines.{LinesPass, exports_text}

-- the library with this name, which must have no fault at all
abbrev pub exports_inputs : List ℕ → List Wanted
exports_inputs library = record { which = Library; source = named library; fault_in = library_fault } ∷ []

-- The limits that a library passes where its exports are listed: one on what is read of it, or the one on the bytes of the listing.
abbrev pub ExportsPass : List ℕ → Limit → Type 0
ExportsPass library limit = LibraryPasses library limit ⊎ LinesPass (exports_text (library_of library)) (fresh Listing (length library)) limit

abbrev pub exports_passes : List (List ℕ) → Limit → Type 0
exports_passes (library ∷ []) limit = ExportsPass library limit
exports_passes all limit = ⊥

abbrev pub exports_says : List (List ℕ) → Verdict → Option Remark → List ℕ → Type 0
exports_says (library ∷ []) v untyped text = IsListed (exports_text (library_of library)) v untyped text
exports_says all v untyped text = ⊥
