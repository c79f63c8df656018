-- `entries` and `exports`: what their verdict says, and that each says one thing.
use Rattle.std.proofs.Common.{◌≡◌, ℕ, List, [], ◌∷◌, Option, sym, ◌∙◌}
use Rattle.abi_base.specs.declared.remark.Remark.{Remark}
use Rattle.abi_top.specs.Calls.{Call, Reads}
use Rattle.cli_args.specs.Commands.{entries, exports}
use Rattle.cli_args.specs.ParsedArguments.{request, arguments_by}
use Rattle.commands.specs.Commands.{asks_of, places_of}
use Rattle.commands.specs.Faults.{AreReadable}
use Rattle.commands.specs.OneReply.{SaysOne}
use Rattle.commands.specs.Reading.{Gives}
use Rattle.commands.specs.declared.verdict.Verdict.{Verdict}
use Rattle.listings.specs.Listed.{IsListed}
use Rattle.listings.specs.entries.Command.{entries_inputs, entries_says}
use Rattle.listings.specs.entries.EntryLines.{listing_of}
use Rattle.listings.specs.exports.Command.{exports_inputs, exports_says}
use Rattle.listings.specs.exports.ExportLines.{exports_text}
use Rattle.library_read.specs.Libraries.{library_of}

module _ (call : Call) (v : Verdict) (untyped : Option Remark) (text : List ℕ) where
  abbrev pub OfEntries : Type 0
  OfEntries = (name library : List ℕ) × Reads call (entries name) (entries_inputs name) (library ∷ []) × IsListed (listing_of library) v untyped text

  abbrev pub OfExports : Type 0
  OfExports = (name library : List ℕ) × Reads call (exports name) (exports_inputs name) (library ∷ []) × IsListed (exports_text (library_of library)) v untyped text

  pub of_entries : (name : List ℕ) → arguments_by call.words ≡ request (entries name)
      → (all : List (List ℕ)) → Gives call.reading.told (places_of (entries_inputs name)) all → AreReadable (asks_of (entries_inputs name)) all → entries_says all v untyped text → OfEntries
  of_entries name is [] gives readable said = absurd said
  of_entries name is (library ∷ []) gives readable said = (name, library, record { words = is; given = gives; readable = readable }, said)
  of_entries name is (a ∷ b ∷ more) gives readable said = absurd said

  pub of_exports : (name : List ℕ) → arguments_by call.words ≡ request (exports name)
      → (all : List (List ℕ)) → Gives call.reading.told (places_of (exports_inputs name)) all → AreReadable (asks_of (exports_inputs name)) all → exports_says all v untyped text → OfExports
  of_exports name is [] gives readable said = absurd said
  of_exports name is (library ∷ []) gives readable said = (name, library, record { words = is; given = gives; readable = readable }, said)
  of_exports name is (a ∷ b ∷ more) gives readable said = absurd said

one_listing : (listing : List ℕ) (v w : Verdict) (untyped other_untyped : Option Remark) (text other : List ℕ) → IsListed listing v untyped text → IsListed listing w other_untyped other
    → (v ≡ w) × (untyped ≡ other_untyped) × (text ≡ other)
one_listing listing v w untyped other_untyped text other one two = (one.done ∙ sym two.done, one.none ∙ sym two.none, one.is ∙ sym two.is)

pub entries_says_one : (name : List ℕ) → SaysOne (entries_inputs name) entries_says
entries_says_one name [] short readable v w u x text other one two = absurd one
entries_says_one name (library ∷ []) short readable v w u x text other one two = one_listing _ v w u x text other one two
entries_says_one name (a ∷ b ∷ more) short readable v w u x text other one two = absurd one

pub exports_says_one : (name : List ℕ) → SaysOne (exports_inputs name) exports_says
exports_says_one name [] short readable v w u x text other one two = absurd one
exports_says_one name (library ∷ []) short readable v w u x text other one two = one_listing _ v w u x text other one two
exports_says_one name (a ∷ b ∷ more) short readable v w u x text other one two = absurd one
