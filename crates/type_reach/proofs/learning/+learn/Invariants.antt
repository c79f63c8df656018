use Rattle.std.proofs.Common.{◌≡◌, ◌<◌, map, take, length}
use Rattle.std.specs.Prelude.{All}
use Rattle.abi_base.specs.Limits.{depth_limit}
use Rattle.type_reach.specs.declared.facts.Facts.{Facts}
use Rattle.type_reach.specs.References.{Type_}
use Rattle.type_reach.specs.ByValue.{StepsOn}
use Rattle.type_reach.specs.Facts.{AreFacts, IsSpanNear, facts_of}
use Rattle.type_reach.proofs.learning.+learn.Given as goal

abbrev pub invariant-steps : goal.invariant-steps
invariant-steps l = record {
  facts : l.of_steps.items ≡ map (facts_of l.types.dwarf.now) (take l.k l.steps);
  ranks : All (λ (x : Facts). x.rank < depth_limit) l.of_steps.items;
  near : All IsSpanNear l.of_steps.items;
  few : All (λ (s : Type_). StepsOn l.types.dwarf.now.tree l.budget s → ⊥) (take l.k l.steps);
  known : AreFacts l.types.dwarf.now l.types.found.now l.known.items;
  len : length l.known.items ≡ length l.types.found.now;
}

abbrev pub decreases-learn : goal.decreases-learn
decreases-learn l = l.budget
