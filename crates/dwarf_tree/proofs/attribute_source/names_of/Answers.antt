use Rattle.std.proofs.Common.{ap}
use Rattle.dwarf_forms.specs.declared.abbreviations.abbrev.Spec.{Spec}
use Rattle.abi_base.proofs.lemmas.Lists.{same_inside}
use Rattle.dwarf_tree.proofs.NameLemmas.{names_more}
use Rattle.dwarf_tree.proofs.attribute_source.names_of.Goals as goal

pub loop-spec-preserved : goal.loop-spec-preserved
loop-spec-preserved c =
    rw c.with_name-names.ensures
    (names_more c.loop-spec.names c.args.specs.now c.loop-spec.spec-index _ (λ d. ap (λ (s : Spec). s.attribute) (same_inside c.args.specs.now c.loop-spec.spec-index d _ c.loop-spec-test.true)) c.loop-spec.invariant)
