-- The classes below this number are used.
use Rattle.std.proofs.Common.{◌-◌, length}
use Rattle.type_classes.proofs.RefineLemmas.{IsRefining}
use Rattle.type_classes.proofs.refine.refine.Given as goal

abbrev pub invariant-classes : goal.invariant-classes
invariant-classes g l = IsRefining l.graph l.blocks l.class

abbrev pub decreases-classes : goal.decreases-classes
decreases-classes g l = length l.graph - l.class
