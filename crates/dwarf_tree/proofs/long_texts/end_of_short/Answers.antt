-- What ends in the front of the section ends there in the section.
use Rattle.dwarf_tree.proofs.LongTextLemmas.{ends_in_front}
use Rattle.dwarf_tree.proofs.long_texts.end_of_short.Goals as goal

pub returns-clause-ends : goal.returns-clause-ends
returns-clause-ends c = ends_in_front c.args.info.now _ c.args.at c.in_ok-letters.letters.now c.in_ok-letters.ensures.found
