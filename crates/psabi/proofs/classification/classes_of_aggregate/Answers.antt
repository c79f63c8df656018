-- Case by case.
use Rattle.std.proofs.Common.{◌≡◌, ◌<◌, ◌≤◌, ◌∙◌, arith, true, false}
use Rattle.std.specs.List.{list_all}
use Rattle.abi_types.specs.Graphs.{view_at}
use Rattle.abi_types.specs.Leaves.{leaves_of}
use Rattle.psabi.specs.Past.{ends_past}
use Rattle.psabi.specs.Touching.{is_aligned}
use Rattle.psabi.proofs.ClassLemmas.{merged-from_merging, aligned-from_merging, classes-large, classes-past, classes-unaligned, classes-merged}
use Rattle.psabi.proofs.classification.classes_of_aggregate.Goals as goal
use Rattle.abi_types.proofs.lemmas.Kinds.{aggregate-no_leaf}

pub returns-then-view-gt-OBJECT_LIMIT-clause-classes : goal.returns-then-view-gt-OBJECT_LIMIT-clause-classes
returns-then-view-gt-OBJECT_LIMIT-clause-classes g c =
    let i = g.Ix.Index.number_of c.args.ix in
    let leaf = aggregate-no_leaf (view_at c.args.graph.now i).kind c.requires.aggregate in
    let lt : 64 < (view_at c.args.graph.now i).size = rw (← c.view-view.ensures, ← c.view.view_is) (omega arith) in
    rw (classes-large c.args.graph.now i leaf c.requires.aggregate lt) c.all_memory_class.ensures

pub returns-then-ends_past-clause-classes : goal.returns-then-ends_past-clause-classes
returns-then-ends_past-clause-classes g c =
    let i = g.Ix.Index.number_of c.args.ix in
    let leaf = aggregate-no_leaf (view_at c.args.graph.now i).kind c.requires.aggregate in
    let past : ends_past c.args.graph.now i ≡ true = cc in
    rw (classes-past c.args.graph.now i leaf c.requires.aggregate past) c.all_memory_class-then-ends_past.ensures

pub returns-then-not-eightbytes-clause-classes : goal.returns-then-not-eightbytes-clause-classes
returns-then-not-eightbytes-clause-classes g c =
    let i = g.Ix.Index.number_of c.args.ix in
    let leaf = aggregate-no_leaf (view_at c.args.graph.now i).kind c.requires.aggregate in
    let odd : list_all is_aligned (leaves_of c.args.graph.now i 0 0) ≡ false = aligned-from_merging c.args.graph.now i c.new-eightbytes.result c.add_leaves.new.eightbytes c.new-eightbytes.ensures c.add_leaves.ensures ∙ c.if-not-eightbytes.true in
    rw (classes-unaligned c.args.graph.now i leaf c.requires.aggregate odd) c.all_memory_class-then-not-eightbytes.ensures

pub returns-clause-classes : goal.returns-clause-classes
returns-clause-classes g c =
    let i = g.Ix.Index.number_of c.args.ix in
    let leaf = aggregate-no_leaf (view_at c.args.graph.now i).kind c.requires.aggregate in
    let le : (view_at c.args.graph.now i).size ≤ 64 = rw (← c.view-view.ensures, ← c.view.view_is) (omega arith) in
    let kept : ends_past c.args.graph.now i ≡ false = cc in
    let even : list_all is_aligned (leaves_of c.args.graph.now i 0 0) ≡ true = aligned-from_merging c.args.graph.now i c.new-eightbytes.result c.add_leaves.new.eightbytes c.new-eightbytes.ensures c.add_leaves.ensures ∙ c.if-not-eightbytes.false in
    let same = merged-from_merging c.args.graph.now i c.new-eightbytes.result c.add_leaves.new.eightbytes c.new-eightbytes.ensures c.add_leaves.ensures in
    rw (classes-merged c.args.graph.now i leaf c.requires.aggregate le kept even, ← same, ← c.view-view.ensures, ← c.view.view_is) c.cleaned_up.ensures
