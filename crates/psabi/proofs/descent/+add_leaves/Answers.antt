-- What stands inside is merged in order.
use Rattle.std.proofs.Common.{◌≡◌, ◌<◌, ◌≤◌, ◌+◌, ◌≢◌, sym, arith, rules, true, false}
use Rattle.abi_types.specs.Graphs.{view_at}
use Rattle.abi_types.specs.Forms.{is_aggregate, is_leaf}
use Rattle.abi_types.specs.Inside.{count_inside}
use Rattle.psabi.specs.Past.{extent}
use Rattle.psabi.specs.InnerObject.{plain_inner}
use Rattle.psabi.proofs.Named.{to_from_inner}
use Rattle.psabi.proofs.LeafLemmas.{inside-kept, extent-whole, merges-zero, merges-leaf, merges-whole, merges-more, merges-skip}
use Rattle.psabi.proofs.descent.+add_leaves.Goals as goal
use Rattle.psabi.proofs.descent.+add_leaves.Goals.{in-Some, in_default}

pub returns-then-view-eq0 : goal.returns-then-view-eq0
returns-then-view-eq0 g t c =
    let i = g.Ix.Index.number_of c.args.ix in
    let e : (view_at c.args.graph.now i).size ≡ 0 = rw (← c.view-view.ensures, ← c.view.view_is) (omega arith) in
    merges-zero c.leaves_are_those_inside.ensures c.args.graph.now c.known.ensures i c.args.bit c.args.width c.args.eightbytes.now e

pub returns-then-is_leaf : goal.returns-then-is_leaf
returns-then-is_leaf g t c =
    let i = g.Ix.Index.number_of c.args.ix in
    let ne : (view_at c.args.graph.now i).size ≢ 0 = rw (← c.view-view.ensures, ← c.view.view_is) (omega arith) in
    let leaf : is_leaf (view_at c.args.graph.now i).kind ≡ true = rw (← c.view-view.ensures, ← c.view.view_is) (cc) in
    merges-leaf c.leaves_are_those_inside.ensures c.args.graph.now c.known.ensures i c.args.bit c.args.width c.args.eightbytes.now c.add.new.self ne leaf (rw (← c.view-view.ensures, ← c.view.view_is) c.add.ensures)

pub overflow_add-bit : goal.overflow_add-bit
overflow_add-bit g t c =
    let i = g.Ix.Index.number_of c.args.ix in
    let whole : is_aggregate (view_at c.args.graph.now i).kind ≡ true = rw (← c.view-view.ensures, ← c.view.view_is) (cc) in
    let lt : c.loop-n.n < count_inside (view_at c.args.graph.now i) = rw (← c.view-view.ensures) (omega arith) in
    let inside = inside-kept c.args.graph.now c.known.ensures i c.loop-n.n (plain_inner g.Ix.Index.number_of c.in-Some.found) whole c.requires.kept lt (sym c.in-Some.ensures) in
    let all = extent-whole c.args.graph.now c.args.width i whole in
    omega (arith, all, inside.room)

pub add_leaves-requires : goal.add_leaves-requires
add_leaves-requires g t c κs within =
    let i = g.Ix.Index.number_of c.args.ix in
    let to = g.Ix.Index.number_of c.in-Some.found.to in
    let whole : is_aggregate (view_at c.args.graph.now i).kind ≡ true = rw (← c.view-view.ensures, ← c.view.view_is) (cc) in
    let lt : c.loop-n.n < count_inside (view_at c.args.graph.now i) = rw (← c.view-view.ensures) (omega arith) in
    let here = sym c.in-Some.ensures in
    let x = plain_inner g.Ix.Index.number_of c.in-Some.found in
    let held = inside-kept c.args.graph.now c.known.ensures i c.loop-n.n x whole c.requires.kept lt here in
    let all = extent-whole c.args.graph.now c.args.width i whole in
    let kept = held.kept in
    let named = c.parts_name_what_is_inside.ensures c.args.graph.now (view_at c.args.graph.now i) c.loop-n.n x here in
    let less = c.known.ensures.falls i named.0 to named.1 in
    let inside = c.known.ensures.inside i named.0 to (to_from_inner _ _ named.1) in
    let room : c.args.bit + c.in-Some.found.bit + extent c.args.graph.now c.in-Some.found.width to ≤ 512 = omega (arith, all, held.room) in
    search rules

pub loop-n-preserved : goal.loop-n-preserved
loop-n-preserved g t c =
    let i = g.Ix.Index.number_of c.args.ix in
    elim c.match-inside_of.branch [
      | in-Some w ↦
          let here = sym w.in-Some.ensures in
          let step = merges-more c.args.graph.now (view_at c.args.graph.now i) c.args.bit c.loop-n.n (plain_inner g.Ix.Index.number_of w.in-Some.found) c.args.eightbytes.now c.loop-n.eightbytes w.add_leaves.new.eightbytes here c.loop-n.invariant w.add_leaves.ensures in
          rw w.eightbytes-is step
      | in_default w ↦
          let here = sym w.in_default.ensures in
          rw w.eightbytes-is (merges-skip c.args.graph.now (view_at c.args.graph.now i) c.args.bit c.loop-n.n c.args.eightbytes.now c.loop-n.eightbytes here c.loop-n.invariant)
    ]

pub returns : goal.returns
returns g t c =
    let i = g.Ix.Index.number_of c.args.ix in
    let ne : (view_at c.args.graph.now i).size ≢ 0 = rw (← c.view-view.ensures, ← c.view.view_is) (omega arith) in
    let leaf : is_leaf (view_at c.args.graph.now i).kind ≡ false = rw (← c.view-view.ensures, ← c.view.view_is) (cc) in
    let whole : is_aggregate (view_at c.args.graph.now i).kind ≡ true = rw (← c.view-view.ensures, ← c.view.view_is) (cc) in
    let all : c.loop-n.n ≡ count_inside (view_at c.args.graph.now i) = rw (← c.view-view.ensures) (omega (arith, c.loop-n.auto.n-end)) in
    merges-whole c.leaves_are_those_inside.ensures c.args.graph.now c.known.ensures i c.args.bit c.args.width c.loop-n.n c.args.eightbytes.now c.loop-n.eightbytes ne leaf whole all c.loop-n.invariant
