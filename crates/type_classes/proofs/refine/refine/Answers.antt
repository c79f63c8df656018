-- One class more is used.
use Rattle.std.proofs.Common.{arith}
use Rattle.type_classes.specs.Blocks.{class_in, len_of}
use Rattle.type_classes.proofs.RefineLemmas.{IsRefining-start, IsRefining-more, IsRefining-all, AreOfClass-sliced, numbers_inside, members_inside, count-le}
use Rattle.type_classes.proofs.refine.refine.Goals as goal

pub classes-init : goal.classes-init
classes-init g c = IsRefining-start c.args.graph.now c.args.blocks.now c.requires.blocks c.requires.listed c.requires.unmarked c.requires.len c.requires.refined

pub join_incoming-requires-clause-inside : goal.join_incoming-requires-clause-inside
join_incoming-requires-clause-inside g c =
    members_inside c.args.graph.now c.in_ok-edges.edges c.members.result.now (class_in c.classes.blocks) c.classes.class (len_of c.classes.blocks) c.in_ok-edges.ensures.incoming c.classes.invariant.len c.members.ensures.all

pub split_by_keys-requires-clause-numbers : goal.split_by_keys-requires-clause-numbers
split_by_keys-requires-clause-numbers g c =
    numbers_inside c.args.graph.now c.in_ok-edges.edges c.members.result.now c.join_incoming.new.into.items c.as_slice.result.now (len_of c.classes.blocks) c.in_ok-edges.ensures.incoming c.as_slice.ensures.value c.classes.invariant.len c.in_ok-join_incoming.ensures.pairs

pub classes-preserved : goal.classes-preserved
classes-preserved g c =
    IsRefining-more c.args.graph.now c.classes.blocks c.split_by_keys.new.blocks c.classes.class c.as_slice.result.now c.known.ensures c.classes.invariant (let e = c.count.ensures in omega arith)
    (AreOfClass-sliced c.args.graph.now c.in_ok-edges.edges c.members.result.now c.join_incoming.new.into.items c.as_slice.result.now (class_in c.classes.blocks) c.classes.class (len_of c.classes.blocks) c.known.ensures c.in_ok-edges.ensures.incoming c.as_slice.ensures.value c.classes.invariant.len c.members.ensures.all c.in_ok-join_incoming.ensures.pairs)
    c.in_ok-split_by_keys.ensures.split

pub classes-smaller : goal.classes-smaller
classes-smaller g c =
    let le = count-le c.classes.blocks c.classes.invariant.blocks in
    let len = c.classes.invariant.len in
    let e = c.count.ensures in
    omega arith

pub returns-clause-refined : goal.returns-clause-refined
returns-clause-refined g c = IsRefining-all c.args.graph.now c.classes.blocks c.classes.class c.known.ensures c.classes.invariant (let e = c.count.ensures in omega arith)
