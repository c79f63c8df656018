-- What is needed in a new list and not in an old one.
use Rattle.std.specs.Prelude.{ℕ, Bool, ◌&&◌, if◌then◌else◌, List, [], ◌∷◌, ◌++◌, length, take, flat_map, slice_get, Option, Some, None}
use Rattle.std.specs.List.{list_any, range_with_len}
use Rattle.std.specs.Str.{bytes_eq}
use Rattle.new_needs.specs.Needed.{PlainNeeded, PlainNeeds}

-- it has this name, and is of this
abbrev pub is_named : List ℕ → List ℕ → PlainNeeded → Bool
is_named name of n = bytes_eq n.name name && bytes_eq n.of of

-- one of these is the same
abbrev pub is_among : List PlainNeeded → PlainNeeded → Bool
is_among those n = list_any (is_named n.name n.of) those

abbrev pub kept_if_new : List PlainNeeded → Option PlainNeeded → List PlainNeeded
kept_if_new before None = []
kept_if_new before (Some n) = if is_among before n then [] else n ∷ []

-- what is needed at a place of the new list, if neither the old list nor the new one before that place has it
abbrev pub lacking_at : List PlainNeeded → List PlainNeeded → ℕ → List PlainNeeded
lacking_at old new i = kept_if_new (old ++ take i new) (slice_get new i)

-- what is in the new list and not in the old one, in the order of the new list, each once
unfoldable pub lacking : List PlainNeeded → List PlainNeeded → List PlainNeeded
lacking old new = flat_map (lacking_at old new) (range_with_len 0 (length new))

-- ---- of two files

abbrev pub lacking_needs : PlainNeeds → PlainNeeds → PlainNeeds
lacking_needs old new = record {
  files = lacking old.files new.files;
  versions = lacking old.versions new.versions;
  symbols = lacking old.symbols new.symbols;
}

abbrev pub nothing : PlainNeeds
nothing = record { files = []; versions = []; symbols = [] }
