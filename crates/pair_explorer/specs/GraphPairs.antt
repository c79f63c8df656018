-- The input of an exploration, as a scope.
use Rattle.pair_explorer.specs.declared.graph_pair.GraphPair.{GraphPair}
use Rattle.pair_explorer.specs.Scopes.{Scope, scope}

abbrev pub scope_of : GraphPair → Scope
scope_of g = scope g.old.now g.new.now g.roots.now g.marks.now g.old_classes.now g.new_classes.now
