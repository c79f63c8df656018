use Rattle.std.proofs.Common.{◌≡◌, ◌+◌, sym, subst, ◌∙◌}
use Rattle.dwarf_units.proofs.SizeLemmas.{Sized, sized_all, sized_more}
use Rattle.dwarf_units.proofs.sizes.whole_size.Goals as goal

pub loop-spec-preserved : goal.loop-spec-preserved
loop-spec-preserved c =
    let sum : c.in-Some-checked_add.sum ≡ c.loop-spec.size + c.in-Some.more = c.in-Some-checked_add.ensures.1 in
    subst (Sized c.args.specs.now (c.loop-spec.spec-index + 1)) (sym sum)
    (sized_more c.values_of_a_fixed_size_end_behind_it.ensures c.args.specs.now c.loop-spec.spec-index _ c.loop-spec.size c.in-Some.more
    c.loop-spec-test.true (sym c.fixed_size.ensures ∙ c.in-Some.is) c.loop-spec.invariant)

pub returns : goal.returns
returns c = sized_all c.args.specs.now c.loop-spec.spec-index c.loop-spec.size c.loop-spec-test.false c.loop-spec.invariant
