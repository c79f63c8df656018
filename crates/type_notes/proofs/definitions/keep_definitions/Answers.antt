-- Entry by entry.
use Rattle.type_notes.specs.DefinedElsewhere.{defines, numbers_under}
use Rattle.type_notes.proofs.DefinitionLemmas.{listed_more}
use Rattle.type_notes.proofs.definitions.keep_definitions.Goals as goal

pub loop-k-preserved : goal.loop-k-preserved
loop-k-preserved c = λ q.
    listed_more (defines c.args.dwarf.now q) c.args.entries.now c.loop-k.k _ c.loop-k-test.true (numbers_under c.args.numbers.now q) _ _ (c.loop-k.invariant q) (rw c.index-entries-k.is at (c.in_ok-keep_definition.ensures q))
