-- The versions of other files that a file needs, by version index.
use Rattle.std.specs.Prelude.{ℕ, List, map, filter_map, Option}
use Rattle.std.specs.List.{range_with_len}
use Rattle.abi_base.specs.GnuVersions.{versym_hidden}
use Rattle.elf_needs.specs.declared.kept.Need.{Need}
use Rattle.elf_needs.specs.Needs.{PlainNeed, need_with}
use Rattle.elf_needs.specs.Plain.{plain_need}

-- the version indexes, which have 15 bits
unfoldable pub all_indexes : List ℕ
all_indexes = range_with_len 0 versym_hidden

-- the versions and files for all version indexes, in the order of the indexes
abbrev pub all_needed : (ℕ → Option PlainNeed) → List PlainNeed
all_needed named = filter_map named all_indexes

-- those of a file: the version and the file of the first auxiliary entry with each index
unfoldable pub needed_versions : List ℕ → List PlainNeed
needed_versions f = all_needed (need_with f)

-- needs of the code, without the addresses of their names in memory
abbrev pub plain_versions : List Need → List PlainNeed
plain_versions needs = map plain_need needs
