use Rattle.dwarf_entries.proofs.PassLemmas.{name_faulty}
use Rattle.dwarf_entries.proofs.pass.first_row.Goals as goal

pub returns-in-Some : goal.returns-in-Some
returns-in-Some c = name_faulty c.args.source.now c.args.e c.in-Some.fault c.in-Some.ensures
