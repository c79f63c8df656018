use Rattle.dwarf_tree.proofs.NameLemmas.{FirstNames}
use Rattle.dwarf_tree.proofs.attribute_source.names_of.Given as goal

abbrev pub invariant-loop-spec : goal.invariant-loop-spec
invariant-loop-spec l = FirstNames l.names l.specs l.spec-index
