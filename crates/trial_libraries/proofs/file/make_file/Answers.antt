use Rattle.std.proofs.Common.{append_assoc, rules}
use Rattle.trial_libraries.specs.Libraries.{file_of, section_place}
use Rattle.trial_libraries.proofs.file.make_file.Goals as goal

pub returns : goal.returns
unfolding file_of section_place
returns c = search (rules, append_assoc)
