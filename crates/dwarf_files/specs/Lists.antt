-- The lists of directories and of files in the header of a line program of version 4 (DWARF 4, section 6.2.4 "The Line Number
-- Program Header"). Each ends with a 0 byte.
use Rattle.std.specs.Prelude.{ℕ, suc, ◌+◌, Bool, true, false, List, [], ◌∷◌, length, Option, Some, None, Result, Ok, Err}
use Rattle.std.specs.Option.{option_map}
use Rattle.abi_base.specs.Numbers.{text_at}
use Rattle.abi_base.specs.Leb.{uleb_at}
use Rattle.abi_base.specs.Outcome.{◌>>=◌, or_end}
use Rattle.abi_base.specs.Runs.{Run, run}
use Rattle.dwarf_forms.specs.declared.values.Value.TheVariants as value
use Rattle.dwarf_files.specs.declared.entries.Entry.{Entry}

-- An item of a list and the offset after it, or the end of the list: the offset after its 0 byte, or None where the list is
-- damaged.
abbrev pub Step : Type 0
Step = Result (Entry × ℕ) (Option ℕ)

-- a nonempty name with its 0 byte
abbrev pub named : ℕ → List ℕ → Step
named at [] = Err (Some (at + 1))
named at (b ∷ others) = Ok (record { path = Some (value.Inline at); directory = None }, at + length (b ∷ others) + 1)

-- a directory: its name
unfoldable pub directory_step : List ℕ → ℕ → Step
directory_step bytes at = do
  text ← or_end (text_at bytes at) None
  named at text

-- a file: its name, the number of its directory, its modification time, and its length
unfoldable pub file_step : List ℕ → ℕ → Step
file_step bytes at = do
  name ← directory_step bytes at
  directory ← or_end (uleb_at bytes name.1) None
  time ← or_end (uleb_at bytes directory.1) None
  size ← or_end (uleb_at bytes time.1) None
  Ok (record { path = name.0.path; directory = Some (value.Unsigned directory.0) }, size.1)

-- whether the list is of files
abbrev pub step_of : Bool → List ℕ → ℕ → Step
step_of true bytes at = file_step bytes at
step_of false bytes at = directory_step bytes at

-- the list at an offset
unfoldable pub run_of : Bool → List ℕ → ℕ → Run Entry (Option ℕ)
run_of files bytes at = run (step_of files bytes) None (suc (length bytes)) at

-- its items, and the offset after it
abbrev pub if_whole : Run Entry (Option ℕ) → Option (List Entry × ℕ)
if_whole r = option_map (λ after. (r.items, after)) r.end

abbrev pub list_of : Bool → List ℕ → ℕ → Option (List Entry × ℕ)
list_of files bytes at = if_whole (run_of files bytes at)
