-- An exploration with the numbers of its visits.
use Rattle.std.specs.Prelude.{ℕ, List}
use Rattle.pair_rules.specs.declared.rules.Broken.{Broken}
use Rattle.pair_rules.specs.Steps.{Triple}
use Rattle.pair_explorer.specs.declared.visits.Visit.{Visit}
use Rattle.pair_explorer.specs.Explorations.{IsExploration}
use Rattle.pair_explorer.specs.Scopes.{Scope, IsScope}
use Rattle.leading_exports.specs.Numbers.{AreNumbers}

-- the visits are those of an exploration, and the numbers are those of the visits
pub record IsWalk (s : Scope) (visits : List Visit) (entries : List (Triple × ℕ)) : Type 0 where
  pub scope : IsScope s
  pub breaks : List (ℕ × Broken)
  pub explored : IsExploration s visits breaks
  pub numbers : AreNumbers visits entries
