-- The parts hold nodes of lower rank.
use Rattle.std.proofs.Common.{◌≡◌, sym, Some, None, arith, rules}
use Rattle.std.specs.Prelude.{max, true, false, []}
use Rattle.abi_types.specs.Graphs.{view_at, part_at, inner_of}
use Rattle.psabi.specs.Alignment.{natural_align, inner_align, align_of}
use Rattle.psabi.specs.Found.{IsRight}
use Rattle.abi_types.specs.Forms.{is_aggregate}
use Rattle.psabi.proofs.Named.{to_from_inner}
use Rattle.psabi.proofs.AlignLemmas.{greatest_none, align_of-alone, align_of-whole, greatest-part_some, greatest-part_none}
use Rattle.psabi.proofs.FoundLemmas.{found-align}
use Rattle.psabi.proofs.alignment.+align_with.Goals as goal
use Rattle.psabi.proofs.alignment.+align_with.Goals.{in-Some-inner, in_default-inner}

pub align_with-inner-requires : goal.align_with-inner-requires
align_with-inner-requires g t c κs within =
    let e : inner_of (part_at (view_at c.args.graph.now (g.Ix.Index.number_of c.args.ix)) c.loop-k.k) ≡ Some (g.Ix.Index.number_of c.in-Some-inner.to) =
    rw (← c.view-view.ensures, ← c.part.ensures) (sym c.in-Some-inner.ensures) in
    let less = c.known.ensures.falls (g.Ix.Index.number_of c.args.ix) c.loop-k.k (g.Ix.Index.number_of c.in-Some-inner.to) e in
    let inside = c.known.ensures.inside (g.Ix.Index.number_of c.args.ix) c.loop-k.k (g.Ix.Index.number_of c.in-Some-inner.to) (to_from_inner _ _ e) in
    let right : IsRight c.args.graph.now c.loop-k.found = c.loop-k.invariant.right in
    search rules

pub returns-then-not-is_aggregate-clause-align : goal.returns-then-not-is_aggregate-clause-align
returns-then-not-is_aggregate-clause-align g t c =
    let e : c.max.result ≡ max (natural_align c.view-view.result.now.kind c.view-view.result.now.group c.view-view.result.now.size) c.view-view.result.now.align = rw (← c.view.view_is) (cc) in
    let alone : is_aggregate c.view-view.result.now.kind ≡ false = rw (← c.view.view_is) (cc) in
    align_of-alone c.args.graph.now c.known.ensures (g.Ix.Index.number_of c.args.ix) c.max.result c.view-view.result.now c.view-view.ensures alone e

pub returns-in-Some-clause-align : goal.returns-in-Some-clause-align
returns-in-Some-clause-align g t c = found-align c.args.graph.now c.args.found.now (g.Ix.Index.number_of c.args.ix) c.found_at.result c.in-Some.align c.requires.right c.found_at.ensures c.in-Some.is

pub loop-k-init : goal.loop-k-init
loop-k-init g t c = record {
  greatest = sym (greatest_none (inner_align (align_of c.args.graph.now)) []);
  right = c.requires.right;
}

pub loop-k-preserved : goal.loop-k-preserved
loop-k-preserved g t c =
    elim c.match-inner.branch [
      | in-Some-inner w ↦
          let e : inner_of (part_at c.view-view.result.now c.loop-k.k) ≡ Some (g.Ix.Index.number_of w.in-Some-inner.to) = rw (← c.part.ensures) (sym w.in-Some-inner.ensures) in
          record {
            greatest = greatest-part_some c.args.graph.now c.view-view.result.now c.loop-k.k (g.Ix.Index.number_of w.in-Some-inner.to) c.loop-k.greatest w.align_with-inner.result c.match-inner.greatest (omega arith) e c.loop-k.invariant.greatest w.align_with-inner.ensures.align (rw w.greatest-is w.max-greatest.ensures);
            right = rw w.found-is w.align_with-inner.ensures.right;
          }
      | in_default-inner w ↦
          let e : inner_of (part_at c.view-view.result.now c.loop-k.k) ≡ None = rw (← c.part.ensures) (sym w.in_default-inner.ensures) in
          record {
            greatest = rw w.greatest-is (greatest-part_none c.args.graph.now c.view-view.result.now c.loop-k.k c.loop-k.greatest (omega arith) e c.loop-k.invariant.greatest);
            right = rw w.found-is c.loop-k.invariant.right;
          }
    ]

pub keep_align-requires-clause-right : goal.keep_align-requires-clause-right
keep_align-requires-clause-right g t c = c.loop-k.invariant.right

pub keep_align-requires-clause-align : goal.keep_align-requires-clause-align
keep_align-requires-clause-align g t c =
    let e : c.max-2.result ≡ max c.loop-k.greatest c.view-view.result.now.align = rw (← c.view.view_is) (cc) in
    let whole : is_aggregate c.view-view.result.now.kind ≡ true = rw (← c.view.view_is) (cc) in
    align_of-whole c.args.graph.now c.known.ensures (g.Ix.Index.number_of c.args.ix) c.max-2.result c.loop-k.k c.loop-k.greatest c.view-view.result.now c.view-view.ensures whole (omega arith) c.loop-k.invariant.greatest e
