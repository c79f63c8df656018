-- `entries`: what it reads and says.
use Rattle.std.specs.Prelude.{ℕ, List, [], ◌∷◌, Option}
use Rattle.abi_base.specs.declared.limit.Limit.{Limit}
use Rattle.abi_base.specs.declared.remark.Remark.{Remark}
use Rattle.commands.specs.Commands.{Wanted, named}
use Rattle.commands.specs.declared.input.Input.TheVariants.{Library}
use Rattle.commands.specs.declared.verdict.Verdict.{Verdict}
use Rattle.listings.specs.Listed.{IsListed}
use Rattle.listings.specs.entries.EntryLines.{EntriesPass, listing_fault, listing_of}

-- the library with this name, which is checked only for the faults that prevent a listing of entries
abbrev pub entries_inputs : List ℕ → List Wanted
entries_inputs library = record { which = Library; source = named library; fault_in = listing_fault } ∷ []

abbrev pub entries_passes : List (List ℕ) → Limit → Type 0
entries_passes (library ∷ []) limit = EntriesPass library limit
entries_passes all limit = ⊥

abbrev pub entries_says : List (List ℕ) → Verdict → Option Remark → List ℕ → Type 0
entries_says (library ∷ []) v untyped text = IsListed (listing_of library) v untyped text
entries_says all v untyped text = ⊥
