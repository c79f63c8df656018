-- How many bytes of a range list are read for its first range: those of its entries up to the first one with a range. Of a list
-- that ends before, or has a fault before, those of the entries before that.
use Rattle.std.specs.Prelude.{ℕ, suc, ◌+◌, ◌-◌, if◌then◌else◌, is_some, List, [], ◌∷◌, length, Option, Some, None, Result, Ok, Err}
use Rattle.std.specs.Option.{option_map_or}
use Rattle.abi_base.specs.declared.fault.Fault.{Fault}
use Rattle.abi_base.specs.Outcome.{◌>>=◌}
use Rattle.abi_base.specs.Runs.{run}
use Rattle.dwarf_text.specs.declared.ranges.lists.ListAt.{ListAt}
use Rattle.dwarf_text.specs.declared.ranges.lists.ListAt.TheVariants as list_at
use Rattle.dwarf_text.specs.ranges.RangeLists.{State, Entry, list_step, pair_step, place_of_list}

-- what reads an entry at a state
abbrev pub Step : Type 0
Step = State → Result (Entry × State) (Option Fault)

-- the entry at an offset with its size, and the offset after it: no size depends on the base
abbrev pub sized : Step → ℕ → Result ((Entry × ℕ) × ℕ) (Option Fault)
sized step at = step (at, 0) >>= λ r. Ok ((r.0, r.1.0 - at), r.1.0)

abbrev pub up_to_first : List (Entry × ℕ) → ℕ
up_to_first [] = 0
up_to_first (e ∷ others) = e.1 + (if is_some e.0 then 0 else up_to_first others)

-- of the list at an offset in a section of this length
unfoldable pub first_bytes : Step → ℕ → ℕ → ℕ
first_bytes step size at = up_to_first (run (sized step) None (suc size) at).items

-- after an entry
abbrev pub bytes_behind : Step → ℕ → Entry → ℕ → ℕ
bytes_behind step size start after = if is_some start then 0 else first_bytes step size after

abbrev pub list_bytes : List ℕ → Option ℕ → ℕ → List ℕ → ℕ → ℕ
list_bytes addr addr_base entry bytes at = first_bytes (list_step addr addr_base entry bytes) (length bytes) at

abbrev pub pair_bytes : ℕ → List ℕ → ℕ → ℕ
pair_bytes entry bytes at = first_bytes (pair_step entry bytes) (length bytes) at

-- of the list to which an entry refers
abbrev pub first_bytes_of : (rnglists : List ℕ) → Option ℕ → (ranges addr : List ℕ) → Option ℕ → ListAt → ℕ
first_bytes_of rnglists rnglists_base ranges addr addr_base (list_at.Offset place) = list_bytes addr addr_base 0 rnglists place
first_bytes_of rnglists rnglists_base ranges addr addr_base (list_at.Index k) = option_map_or (list_bytes addr addr_base 0 rnglists) (place_of_list rnglists rnglists_base k) 0
first_bytes_of rnglists rnglists_base ranges addr addr_base (list_at.Pairs place) = pair_bytes 0 ranges place
