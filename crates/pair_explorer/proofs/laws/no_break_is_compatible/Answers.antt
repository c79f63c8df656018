-- Without a break the triples that were visited are a closed relation, and no closed relation holds a break.
use Rattle.pair_explorer.proofs.Representatives.{AreUnseen}
use Rattle.pair_explorer.proofs.Verdict.{compatible_from_none, none_from_compatible}
use Rattle.pair_explorer.proofs.laws.no_break_is_compatible.Goals as goal

unseen : (c : goal.After-closed_relations_hold_what_is_reachable) → AreUnseen
unseen c = record { breaks = c.rules_see_no_nodes.ensures.breaks; steps = c.rules_see_no_nodes.ensures.steps }

pub returns : goal.returns
returns c = λ s visits broken sound explored. (
  compatible_from_none (unseen c) s visits broken sound explored,
  none_from_compatible (unseen c) s visits broken sound explored c.closed_relations_hold_what_is_reachable.ensures,
)
