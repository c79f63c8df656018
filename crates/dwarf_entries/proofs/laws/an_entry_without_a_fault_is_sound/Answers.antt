use Rattle.dwarf_entries.proofs.SoundLemmas.{entry_sound}
use Rattle.dwarf_entries.proofs.laws.an_entry_without_a_fault_is_sound.Goals as goal

pub returns : goal.returns
returns c = entry_sound
