-- The relation that a certificate describes.
use Rattle.std.specs.Prelude.{Bool}
use Rattle.pair_rules.specs.Steps.{Triple}
use Rattle.pair_rules.specs.Stable.{related}
use Rattle.cert_check.specs.Compatible.{task_of}
use Rattle.cert_check.specs.Accepted.{Case, listed, old_class, new_class}

-- the triples of nodes that have a pair line by the representatives of their entries, at the same way
abbrev pub relation_of : Case → Triple → Bool
relation_of c = related (task_of c.sides) (old_class c) (new_class c) (listed c)
