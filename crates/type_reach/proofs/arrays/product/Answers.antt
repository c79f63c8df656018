use Rattle.std.proofs.Common.{arith, sym, ap, ◌∙◌, ◌*◌, map, ℕ, List}
use Rattle.type_reach.specs.Facts.{cut, product, subrange_count}
use Rattle.type_reach.proofs.LoopLemmas.{drop-down, drop-none}
use Rattle.type_reach.proofs.arrays.product.Goals as goal

pub down-init : goal.down-init
unfolding product
down-init c = record { is = sym (drop-none (λ (xs : List ℕ). product (map (subrange_count c.args.dwarf.now.tree) xs)) c.args.subranges.now); place = omega arith }

pub down-preserved : goal.down-preserved
unfolding product
down-preserved c =
    let e = drop-down (λ (xs : List ℕ). product (map (subrange_count c.args.dwarf.now.tree) xs)) c.args.subranges.now c.down.k c.index-subranges-k.result c.down-test.true c.down.invariant.place c.index-subranges-k.is in
    record {
      is = c.saturating_mul-all.ensures ∙ ap (λ n. cut (n * c.down.all)) c.subrange_count.ensures ∙ ap (λ n. cut (subrange_count c.args.dwarf.now.tree c.index-subranges-k.result * n)) c.down.invariant.is ∙ sym e;
      place = omega (arith, c.down.invariant.place);
    }
