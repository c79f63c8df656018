-- One more part is counted where it is like the one asked for.
use Rattle.std.proofs.Common.{arith}
use Rattle.abi_types.specs.Parts.{plain_part, like}
use Rattle.abi_types.proofs.LikeLemmas.{counted_one, counted_none}
use Rattle.abi_types.proofs.alike.count_like.Goals as goal
use Rattle.abi_types.proofs.alike.count_like.Goals.{then-are_like, else-are_like}

pub loop-i-preserved : goal.loop-i-preserved
loop-i-preserved g c =
    let p = like (plain_part g.Jx.Index.number_of c.args.part.now) in
    let f = plain_part g.Ix.Index.number_of in
    elim c.if-are_like.branch [
      | then-are_like w ↦
          let e = counted_one p f c.args.items.now c.loop-i.i c.index-items-i.result c.are_like.result c.loop-i-test.true c.index-items-i.is c.are_like.ensures w.if-are_like.true in
          record { counted = omega (arith, e); few = omega arith }
      | else-are_like w ↦
          let e = counted_none p f c.args.items.now c.loop-i.i c.index-items-i.result c.are_like.result c.loop-i-test.true c.index-items-i.is c.are_like.ensures w.if-are_like.false in
          record { counted = omega (arith, e); few = omega arith }
    ]
