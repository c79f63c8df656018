-- What the laws of the crates below say, gathered for proofs.
use Rattle.std.proofs.Common.{◌≡◌, ◌<◌, ℕ, false, List, slice_get, Some}
use Rattle.std.specs.List.{Contains}
use Rattle.abi_types.specs.declared.rule.Rule.{Rule}
use Rattle.abi_types.specs.Graphs.{IsGraph}
use Rattle.abi_types.specs.Rules.{rule_place}
use Rattle.abi_types.specs.ClassLooks.{view_seen}
use Rattle.abi_types.specs.Types.{PlainView}
use Rattle.report.specs.TypeRows.{type_detail}
use Rattle.pair_rules.specs.declared.rules.Broken.{Broken}
use Rattle.pair_rules.specs.Paths.{Path, PathLeadsTo, IsReachable, IsBefore, IsNotAfter, root_triple}
use Rattle.pair_rules.specs.Stable.{IsInside}
use Rattle.pair_rules.specs.Steps.{PlainRoot, Task, Triple, is_marked, breaks_of}
use Rattle.pair_explorer.specs.declared.visits.Visit.{Visit}
use Rattle.pair_explorer.specs.ByClass.{IsSound, IsTold, IsToldBy, IsToldBefore}
use Rattle.pair_explorer.specs.Explorations.{IsExploration}
use Rattle.pair_explorer.specs.Routes.{path_at}
use Rattle.pair_explorer.specs.Scopes.{Scope, rep}
use Rattle.pair_explorer.specs.Visits.{Along, AreEarlier}

-- of paths
pub record PathLaws : Type 0 where
  pub transitive : (p q r : Path) → IsBefore p q → IsBefore q r → IsBefore p r
  pub not_after : (p q r : Path) → IsNotAfter p q → IsNotAfter q r → IsNotAfter p r
  pub irreflexive : (p : Path) → IsBefore p p → ⊥
  pub nodes : (t : Task) (path : Path) (x : Triple) → IsGraph t.old → IsGraph t.new
      → ((k : ℕ) (root : PlainRoot) → slice_get t.roots k ≡ Some root → IsInside t (root_triple root)) → PathLeadsTo t path x → IsInside t x

-- of explorations
pub record ExplorationLaws : Type 0 where
  pub sound : (s : Scope) (visits : List Visit) (broken : List (ℕ × Broken)) (n : ℕ) (b : Broken) (path : Path) → IsSound s → IsExploration s visits broken
      → Contains broken (n, b) → Along visits n path → IsToldBy s visits n b path
  pub complete : (s : Scope) (visits : List Visit) (broken : List (ℕ × Broken)) (x : Triple) (b : Broken) → IsSound s → IsExploration s visits broken
      → IsReachable s.task x → is_marked s.task x.old x.way ≡ false → Contains (breaks_of s.task x) b → IsTold s visits broken x b
  pub breaks : (s : Scope) (x y : Triple) → IsSound s → rep s x ≡ rep s y → breaks_of s.task x ≡ breaks_of s.task y
  pub ordered : (s : Scope) (visits : List Visit) (broken : List (ℕ × Broken)) (m n : ℕ) (p q : ℕ × Broken) → IsExploration s visits broken
      → m < n → slice_get broken m ≡ Some p → slice_get broken n ≡ Some q → IsToldBefore p q
  pub along : (visits : List Visit) (n : ℕ) (v : Visit) → AreEarlier visits → slice_get visits n ≡ Some v → Along visits n (path_at visits n)
  pub one : (visits : List Visit) (n : ℕ) (p q : Path) → Along visits n p → Along visits n q → p ≡ q

-- of rules and texts
pub record TextLaws : Type 0 where
  pub places : (one other : Rule) → rule_place one ≡ rule_place other → one ≡ other
  pub details : (f g : ℕ → ℕ) (rule : Rule) (v w : PlainView) (i : ℕ) → type_detail rule (view_seen f v) (view_seen g w) i ≡ type_detail rule v w i
