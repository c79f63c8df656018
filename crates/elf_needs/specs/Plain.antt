-- The needs of the code, without the addresses of their names in memory.
use Rattle.std.specs.Prelude.{◌≡◌, ◌+◌, ℕ, nat_eq, List, Option, Some}
use Rattle.std.specs.Option.{option_map}
use Rattle.std.specs.HashMap.{HashMap, get}
use Rattle.std.specs.declared.hash.FoldHasher.{FoldHasher}
use Rattle.std.specs.declared.hash.BuildHasherDefault.{BuildHasherDefault}
use Rattle.elf_needs.specs.declared.kept.Need.{Need}
use Rattle.elf_needs.specs.declared.kept.Needs.{Needs}
use Rattle.elf_needs.specs.declared.records.Record.{Record}
use Rattle.elf_needs.specs.declared.records.Auxiliary.{Auxiliary}
use Rattle.elf_needs.specs.Needs.{Entry, PlainNeed, place_of, file_at, entry_count, entry_place}

abbrev pub plain_need : Need → PlainNeed
plain_need n = record { version = n.version.now; file = n.file.now }

-- a map from indexes to needs
abbrev pub ByIndex : Type 0
ByIndex = HashMap ℕ Need (BuildHasherDefault FoldHasher)

-- the need under an index
abbrev pub need_under : ByIndex → ℕ → Option PlainNeed
need_under by_index index = option_map plain_need (get nat_eq by_index index)

-- the version and the file for a version index
abbrev pub needed : Needs → ℕ → Option PlainNeed
needed needs = need_under needs.by_index

-- an auxiliary entry of the code
abbrev pub plain_entry : Auxiliary → Entry
plain_entry a = record { index = a.index; version = a.need.version.now; file = a.need.file.now }

-- A need of the code has the fields of the need with its number.
pub record IsNeed (need : Record) (table strings : List ℕ) : Type 0 where
  pub file : file_at table strings need.number ≡ Some need.file.now
  pub entries : need.entries ≡ entry_count table need.number
  pub first : need.first ≡ entry_place table need.number 0
  pub next : need.next ≡ place_of table (need.number + 1)
