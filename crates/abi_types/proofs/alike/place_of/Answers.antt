-- Where the loop finds the part, as many were counted as are asked for. Where it ends, all were counted.
use Rattle.std.proofs.Common.{arith}
use Rattle.abi_types.specs.Parts.{plain_part, like}
use Rattle.abi_types.proofs.LikeLemmas.{counted_one, counted_none, found_at, none_found}
use Rattle.abi_types.proofs.alike.place_of.Goals as goal
use Rattle.abi_types.proofs.alike.place_of.Goals.{then-are_like+else-left-eq0, else-are_like}

pub returns-then-left-eq0 : goal.returns-then-left-eq0
returns-then-left-eq0 g c =
    found_at (like (plain_part g.Jx.Index.number_of c.args.part.now)) (plain_part g.Ix.Index.number_of) c.args.items.now c.args.k c.loop-i.i c.index-items-i.result c.are_like.result c.loop-i-test.true c.index-items-i.is c.are_like.ensures c.if-are_like.true (omega (arith, c.loop-i.invariant))

pub loop-i-preserved : goal.loop-i-preserved
loop-i-preserved g c =
    let p = like (plain_part g.Jx.Index.number_of c.args.part.now) in
    let f = plain_part g.Ix.Index.number_of in
    elim c.if-are_like.branch [
      | then-are_like+else-left-eq0 w ↦ omega (arith, c.loop-i.invariant, counted_one p f c.args.items.now c.loop-i.i c.index-items-i.result c.are_like.result c.loop-i-test.true c.index-items-i.is c.are_like.ensures w.if-are_like.true)
      | else-are_like w ↦ omega (arith, c.loop-i.invariant, counted_none p f c.args.items.now c.loop-i.i c.index-items-i.result c.are_like.result c.loop-i-test.true c.index-items-i.is c.are_like.ensures w.if-are_like.false)
    ]

pub returns : goal.returns
returns g c =
    none_found (like (plain_part g.Jx.Index.number_of c.args.part.now)) (plain_part g.Ix.Index.number_of) c.args.items.now c.args.k c.loop-i.i c.loop-i-test.false (omega (arith, c.loop-i.invariant))
