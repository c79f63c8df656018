-- The nodes before this one are numbered.
use Rattle.type_classes.proofs.NumberLemmas.{IsNumbering}
use Rattle.type_classes.proofs.shapes.numbered.Given as goal

abbrev pub invariant-nodes : goal.invariant-nodes
invariant-nodes g l = IsNumbering l.graph l.node l.numbers l.pairs.items
