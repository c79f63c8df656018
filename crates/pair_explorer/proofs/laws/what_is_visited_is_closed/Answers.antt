-- Without a break, what was visited is closed.
use Rattle.std.proofs.Common.{[], refl}
use Rattle.pair_explorer.proofs.Representatives.{AreUnseen}
use Rattle.pair_explorer.proofs.Verdict.{closed_from_none}
use Rattle.pair_explorer.proofs.laws.what_is_visited_is_closed.Goals as goal

unseen : (c : goal.After-rules_see_no_nodes) → AreUnseen
unseen c = record { breaks = c.rules_see_no_nodes.ensures.breaks; steps = c.rules_see_no_nodes.ensures.steps }

pub returns-clause-closed : goal.returns-clause-closed
returns-clause-closed c = λ s visits sound explored. closed_from_none (unseen c) s visits [] sound explored refl

pub returns-clause-roots : goal.returns-clause-roots
returns-clause-roots c = λ s visits sound explored. explored.roots
