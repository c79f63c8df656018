-- Back along what led to each visit.
use Rattle.pair_explorer.proofs.Order.{same_path}
use Rattle.pair_explorer.proofs.Spelled.{along_path}
use Rattle.pair_explorer.proofs.laws.parents_spell_paths.Goals as goal

pub returns-clause-along : goal.returns-clause-along
returns-clause-along c visits n v earlier at = along_path visits earlier n v at

pub returns-clause-one : goal.returns-clause-one
returns-clause-one c visits n p q along_p along_q = same_path visits n p q along_p along_q
