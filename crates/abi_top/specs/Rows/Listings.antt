-- `entries` and `exports`: what `run` promises of them.
use Rattle.std.specs.Prelude.{◌⊎◌, ℕ, List, [], ◌∷◌}
use Rattle.abi_top.specs.Calls.{Call, Reads}
use Rattle.cli_args.specs.Commands.{entries, exports}
use Rattle.library_read.specs.Libraries.{library_of}
use Rattle.listings.specs.entries.Command.{entries_inputs}
use Rattle.listings.specs.entries.EntryLines.{listing_of}
use Rattle.listings.specs.exports.Command.{exports_inputs}
use Rattle.listings.specs.exports.ExportLines.{exports_text}

-- The command is `entries` or `exports` with a name, and P holds for the text that lists the readable library with this name: its
-- entries, or its exports with the places of their arguments and results.
abbrev pub OnListing : Call → (List ℕ → Type 0) → Type 0
OnListing call P =
    ((name library : List ℕ) × Reads call (entries name) (entries_inputs name) (library ∷ []) × P (listing_of library))
    ⊎ ((name library : List ℕ) × Reads call (exports name) (exports_inputs name) (library ∷ []) × P (exports_text (library_of library)))
