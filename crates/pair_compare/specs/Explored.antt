-- The input of an exploration of two libraries.
use Rattle.std.specs.Prelude.{◌*◌, ℕ, length}
use Rattle.type_classes.specs.Classes.{PlainClasses}
use Rattle.pair_explorer.specs.Scopes.{Scope}
use Rattle.cert_check.specs.Compatible.{Sides, task_of}

-- the types of all exports that are compared, with classes of their nodes
abbrev pub scope_of : Sides → PlainClasses → PlainClasses → Scope
scope_of s old new = record { task = task_of s; old = old; new = new }

-- the most steps that a comparison takes: one for each old node with each new one, at two ways
abbrev pub most_steps : Sides → ℕ
most_steps s = 2 * (length s.old.graph * length s.new.graph)
