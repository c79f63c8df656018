-- The number that is read is that of the class.
use Rattle.std.proofs.Common.{◌∙◌}
use Rattle.type_classes.proofs.ClassLemmas.{rep_of-read, rep_of-inside}
use Rattle.type_classes.proofs.classes.Classes.rep.Goals as goal

pub returns-clause-rep : goal.returns-clause-rep
returns-clause-rep g c =
    c.of.ensures ∙ rep_of-read c.args.self.now (record { nodes = c.self.inside.graph.now; reps = c.self.inside.reps.items }) c.self.view_is c.self.invariant (g.Ix.Index.number_of c.args.ix) c.number.result c.index.result.now c.number.ensures c.requires c.index.ensures

pub returns-clause-inside : goal.returns-clause-inside
returns-clause-inside g c =
    rep_of-inside c.args.self.now (record { nodes = c.self.inside.graph.now; reps = c.self.inside.reps.items }) c.self.view_is c.self.invariant (g.Ix.Index.number_of c.args.ix) (g.Ix.Index.number_of c.of.result) c.requires (returns-clause-rep g c)
