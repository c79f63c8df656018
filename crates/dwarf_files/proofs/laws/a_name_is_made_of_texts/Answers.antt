use Rattle.dwarf_files.proofs.LawLemmas.{made_of_texts}
use Rattle.dwarf_files.proofs.laws.a_name_is_made_of_texts.Goals as goal

pub returns : goal.returns
returns c = made_of_texts
