use Rattle.dwarf_units.proofs.SizeLemmas.{Sized}
use Rattle.dwarf_units.proofs.sizes.whole_size.Given as goal

abbrev pub invariant-loop-spec : goal.invariant-loop-spec
invariant-loop-spec l = Sized l.specs l.spec-index l.size
