use Rattle.dwarf_files.specs.Tables.{entry_of, pair_of}
use Rattle.dwarf_files.proofs.StandingLemmas.{items_stand, stand_items, list_stands}
use Rattle.dwarf_files.proofs.laws.entries_stand_one_after_another.Goals as goal

pub returns-clause-entries : goal.returns-clause-entries
returns-clause-entries c = λ bytes format. items_stand (entry_of bytes format)

pub returns-clause-read : goal.returns-clause-read
returns-clause-read c = λ bytes format. stand_items (entry_of bytes format)

pub returns-clause-pairs : goal.returns-clause-pairs
returns-clause-pairs c = λ bytes. items_stand (pair_of bytes)

pub returns-clause-lists : goal.returns-clause-lists
returns-clause-lists c = list_stands
