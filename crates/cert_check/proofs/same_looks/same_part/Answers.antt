use Rattle.std.proofs.Common.{refl}
use Rattle.cert_check.proofs.same_looks.same_part.Goals as goal

pub same_class-requires-clause-one : goal.same_class-requires-clause-one
same_class-requires-clause-one g c = (rw c.in-Member-Member.is-0 at c.requires.one) (g.Ix.Index.number_of c.in-Member-Member.to) refl

pub same_class-requires-clause-other : goal.same_class-requires-clause-other
same_class-requires-clause-other g c = (rw c.in-Member-Member.is-1 at c.requires.other) (g.Ix.Index.number_of c.in-Member-Member.other_to) refl

pub same_class-requires-in-Target-Target-clause-one : goal.same_class-requires-in-Target-Target-clause-one
same_class-requires-in-Target-Target-clause-one g c = (rw c.in-Target-Target.is-0 at c.requires.one) (g.Ix.Index.number_of c.in-Target-Target.to) refl

pub same_class-requires-in-Target-Target-clause-other : goal.same_class-requires-in-Target-Target-clause-other
same_class-requires-in-Target-Target-clause-other g c = (rw c.in-Target-Target.is-1 at c.requires.other) (g.Ix.Index.number_of c.in-Target-Target.peer) refl

pub same_class-requires-in-Element-Element-clause-one : goal.same_class-requires-in-Element-Element-clause-one
same_class-requires-in-Element-Element-clause-one g c = (rw c.in-Element-Element.is-0 at c.requires.one) (g.Ix.Index.number_of c.in-Element-Element.to) refl

pub same_class-requires-in-Element-Element-clause-other : goal.same_class-requires-in-Element-Element-clause-other
same_class-requires-in-Element-Element-clause-other g c = (rw c.in-Element-Element.is-1 at c.requires.other) (g.Ix.Index.number_of c.in-Element-Element.peer) refl

pub same_class-requires-in-Outcome-Outcome-clause-one : goal.same_class-requires-in-Outcome-Outcome-clause-one
same_class-requires-in-Outcome-Outcome-clause-one g c = (rw c.in-Outcome-Outcome.is-0 at c.requires.one) (g.Ix.Index.number_of c.in-Outcome-Outcome.to) refl

pub same_class-requires-in-Outcome-Outcome-clause-other : goal.same_class-requires-in-Outcome-Outcome-clause-other
same_class-requires-in-Outcome-Outcome-clause-other g c = (rw c.in-Outcome-Outcome.is-1 at c.requires.other) (g.Ix.Index.number_of c.in-Outcome-Outcome.peer) refl

pub same_class-requires-in-Param-Param-clause-one : goal.same_class-requires-in-Param-Param-clause-one
same_class-requires-in-Param-Param-clause-one g c = (rw c.in-Param-Param.is-0 at c.requires.one) (g.Ix.Index.number_of c.in-Param-Param.to) refl

pub same_class-requires-in-Param-Param-clause-other : goal.same_class-requires-in-Param-Param-clause-other
same_class-requires-in-Param-Param-clause-other g c = (rw c.in-Param-Param.is-1 at c.requires.other) (g.Ix.Index.number_of c.in-Param-Param.peer) refl
