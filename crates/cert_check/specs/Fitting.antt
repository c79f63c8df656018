-- How much the pair lines of a certificate compare.
use Rattle.std.specs.Prelude.{ℕ, if◌then◌else◌, List, Option, Some, None}
use Rattle.std.specs.List.{sum_by}
use Rattle.abi_types.specs.declared.kind.Way.{Way}
use Rattle.abi_types.specs.Graphs.{node_of, view_at}
use Rattle.pair_rules.specs.Steps.{is_marked}
use Rattle.pair_rules.specs.Weights.{pair_weight, weight_allowed}
use Rattle.cert_text.specs.Certs.{PairLine}
use Rattle.cert_check.specs.Compatible.{Sides, task_of}

abbrev pub weight_to : Sides → Way → ℕ → Option ℕ → ℕ
weight_to s way old None = 0
weight_to s way old (Some new) = if is_marked (task_of s) old way then 0 else pair_weight (view_at s.old.graph old) (view_at s.new.graph new)

abbrev pub weight_from : Sides → PairLine → Option ℕ → ℕ
weight_from s line None = 0
weight_from s line (Some old) = weight_to s line.2 old (node_of s.new.graph line.1)

-- how much the types of a pair line count: nothing where a library has no such type, or where the old one is marked at its way
abbrev pub line_weight : Sides → PairLine → ℕ
line_weight s line = weight_from s line (node_of s.old.graph line.0)

-- how much all pair lines count, and how much they may
abbrev pub lines_weight : Sides → List PairLine → ℕ
lines_weight s lines = sum_by (line_weight s) lines

abbrev pub lines_allowed : Sides → ℕ
lines_allowed s = weight_allowed s.old.graph s.new.graph
