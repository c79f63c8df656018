-- Typed pairs: the type of a compared export, and the type of the new export to which it binds.
use Rattle.std.specs.Prelude.{◌≡◌, ◌<◌, true, length, Some}
use Rattle.abi_types.specs.Exports.{PlainExport}
use Rattle.abi_types.specs.Graphs.{node_of}
use Rattle.pair_rules.specs.Steps.{PlainRoot}
use Rattle.cert_check.specs.Compatible.{Sides, IsCompared, bound, is_typed}

-- The old export at the root's position is compared, it and the one to which it binds have types, and these are the root's nodes.
pub record IsTypedPair (s : Sides) (root : PlainRoot) : Type 0 where
  pub old : PlainExport
  pub new : PlainExport
  pub compared : IsCompared s root.export old
  pub binds : bound s old ≡ Some new
  pub old_typed : is_typed old ≡ true
  pub new_typed : is_typed new ≡ true
  pub old_node : node_of s.old.graph old.entry ≡ Some root.old
  pub new_node : node_of s.new.graph new.entry ≡ Some root.new

-- both types of the root are nodes
pub record HasTypes (s : Sides) (root : PlainRoot) : Type 0 where
  pub old : root.old < length s.old.graph
  pub new : root.new < length s.new.graph
