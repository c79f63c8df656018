use Rattle.entry_places.proofs.LawLemmas.{made}
use Rattle.entry_places.proofs.laws.a_place_is_told_by_its_entry_and_its_unit.Goals as goal

pub returns : goal.returns
returns c = made
