use Rattle.dwarf_text.proofs.ranges_lemmas.ListLemmas.{list_chain, pair_chain}
use Rattle.dwarf_text.proofs.ranges.laws.entries_stand_one_after_another.Goals as goal

pub returns-clause-lists : goal.returns-clause-lists
returns-clause-lists c = list_chain

pub returns-clause-pairs : goal.returns-clause-pairs
returns-clause-pairs c = pair_chain
