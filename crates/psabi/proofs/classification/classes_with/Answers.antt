-- Case by case.
use Rattle.std.proofs.Common.{◌≡◌, true, false}
use Rattle.abi_types.specs.Graphs.{view_at}
use Rattle.abi_types.specs.Forms.{is_aggregate, is_leaf}
use Rattle.psabi.proofs.ClassLemmas.{classes-leaf, classes-none}
use Rattle.psabi.proofs.FoundLemmas.{found-classes}
use Rattle.psabi.proofs.classification.classes_with.Goals as goal

pub returns-then-is_leaf-clause-classes : goal.returns-then-is_leaf-clause-classes
returns-then-is_leaf-clause-classes g c =
    let i = g.Ix.Index.number_of c.args.ix in
    let leaf : is_leaf (view_at c.args.graph.now i).kind ≡ true = rw (← c.view-view.ensures, ← c.view.view_is) (cc) in
    rw (classes-leaf c.args.graph.now i leaf, ← c.view-view.ensures, ← c.view.view_is) c.row.ensures

pub returns-then-not-is_aggregate-clause-classes : goal.returns-then-not-is_aggregate-clause-classes
returns-then-not-is_aggregate-clause-classes g c =
    let i = g.Ix.Index.number_of c.args.ix in
    let leaf : is_leaf (view_at c.args.graph.now i).kind ≡ false = rw (← c.view-view.ensures, ← c.view.view_is) (cc) in
    let whole : is_aggregate (view_at c.args.graph.now i).kind ≡ false = rw (← c.view-view.ensures, ← c.view.view_is) (cc) in
    rw (classes-none c.args.graph.now i leaf whole) c.one.ensures

pub returns-in-Some-clause-classes : goal.returns-in-Some-clause-classes
returns-in-Some-clause-classes g c = found-classes c.args.graph.now c.args.found.now (g.Ix.Index.number_of c.args.ix) c.found_at.result c.in-Some.classes c.requires.right c.found_at.ensures c.in-Some.is

pub classes_of_aggregate-classes-requires-clause-aggregate : goal.classes_of_aggregate-classes-requires-clause-aggregate
classes_of_aggregate-classes-requires-clause-aggregate g c = rw (← c.view-view.ensures, ← c.view.view_is) (cc)
