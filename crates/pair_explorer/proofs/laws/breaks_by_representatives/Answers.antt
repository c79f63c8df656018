-- Triples of the same classes break the same rules, and the same paths lead to them.
use Rattle.pair_explorer.proofs.Representatives.{AreUnseen, marked_same, breaks_same}
use Rattle.pair_explorer.proofs.Verdict.{told, told_by}
use Rattle.pair_explorer.proofs.laws.breaks_by_representatives.Goals as goal

unseen : (c : goal.After-rules_see_no_nodes) → AreUnseen
unseen c = record { breaks = c.rules_see_no_nodes.ensures.breaks; steps = c.rules_see_no_nodes.ensures.steps }

pub returns-clause-marks : goal.returns-clause-marks
returns-clause-marks c = λ s x y sound same. marked_same (unseen c) s sound x y same

pub returns-clause-breaks : goal.returns-clause-breaks
returns-clause-breaks c = λ s x y sound same. breaks_same (unseen c) s sound x y same

pub returns-clause-sound : goal.returns-clause-sound
returns-clause-sound c = λ s visits broken n b path sound explored contains along. told_by (unseen c) s visits broken sound explored n b path contains along

pub returns-clause-complete : goal.returns-clause-complete
returns-clause-complete c = λ s visits broken x b sound explored reachable unmarked breaks. told (unseen c) s visits broken sound explored x b reachable unmarked breaks
