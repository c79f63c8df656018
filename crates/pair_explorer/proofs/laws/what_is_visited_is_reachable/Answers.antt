-- A path over nodes is one over representatives, and the other way round.
use Rattle.pair_explorer.proofs.Representatives.{AreUnseen}
use Rattle.pair_explorer.proofs.Verdict.{covered, reached_is, reached_from}
use Rattle.pair_explorer.proofs.laws.what_is_visited_is_reachable.Goals as goal

unseen : (c : goal.After-rules_see_no_nodes) → AreUnseen
unseen c = record { breaks = c.rules_see_no_nodes.ensures.breaks; steps = c.rules_see_no_nodes.ensures.steps }

pub returns-clause-exact : goal.returns-clause-exact
returns-clause-exact c = λ s visits broken z sound explored. (reached_is (unseen c) s visits broken sound explored z, reached_from (unseen c) s visits broken sound explored z)

pub returns-clause-covered : goal.returns-clause-covered
returns-clause-covered c = λ s visits broken x sound explored reachable. covered (unseen c) s visits broken sound explored x reachable
