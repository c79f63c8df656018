use Rattle.library_read.proofs.DebugLemmas.{debug-ordered}
use Rattle.library_read.proofs.EntryLemmas.{file-entries}
use Rattle.library_read.proofs.FaultLemmas.{without_fault}
use Rattle.library_read.proofs.laws.exports_have_the_first_entry_at_their_address.Goals as goal

pub returns : goal.returns
returns c = λ f small none.
    file-entries c.the_first_entry_stands_for_an_address.ensures.found c.the_first_entry_stands_for_an_address.ensures.none f
    (debug-ordered c.a_section_is_in_order.ensures.ordered f small (without_fault f none).dwarf)
