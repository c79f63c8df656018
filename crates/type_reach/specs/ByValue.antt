-- Chains of steps by value, and recursion along them.
use Rattle.std.specs.Prelude.{◌<◌, ◌+◌, ℕ, zero, suc, List, [], length, map, Contains, Some, None}
use Rattle.dwarf_tree.specs.Trees.{PlainTree}
use Rattle.abi_base.specs.Limits.{depth_limit}
use Rattle.type_reach.specs.References.{Type_, types_of, steps_of}

-- void leads nowhere
abbrev pub steps_from : PlainTree → Type_ → List Type_
steps_from t None = []
steps_from t (Some e) = steps_of t e

-- a chain of this many steps by value begins at a type
unfoldable pub StepsOn : PlainTree → ℕ → Type_ → Type 0
StepsOn t zero r = Unit {0}
StepsOn t (suc n) r = (s : Type_) × Contains (steps_from t r) s × StepsOn t n s

-- a chain of more steps than the limit begins at a type
abbrev pub IsTooDeep : PlainTree → Type_ → Type 0
IsTooDeep t r = StepsOn t (depth_limit + 1) r

-- The result for a type, from the same for the types to which it leads by value, down to a depth.
unfoldable pub within : {A : Type 0} → PlainTree → (Type_ → List A → A) → A → ℕ → Type_ → A
within t make past zero r = past
within t make past (suc n) r = make r (map (within t make past n) (steps_from t r))

-- The same for a type that is not too deep. `proofs/ByValueLemmas` has its equation.
unfoldable pub by_value : {A : Type 0} → PlainTree → (Type_ → List A → A) → A → Type_ → A
by_value t make past r = within t make past (depth_limit + 1) r

-- no chain is longer than this many steps
abbrev pub IsNoDeeper : PlainTree → ℕ → Type_ → Type 0
IsNoDeeper t n r = StepsOn t (n + 1) r → ⊥

-- entries of the tree, including all types to which they lead
pub record IsClosed (t : PlainTree) (found : List ℕ) : Type 0 where
  pub leads_on : (e f : ℕ) → Contains found e → Contains (types_of t e) (Some f) → Contains found f
  pub inside : (e : ℕ) → Contains found e → e < length t.entries
