-- Text by text.
use Rattle.std.proofs.Common.{◌∙◌}
use Rattle.type_notes.proofs.DefinitionLemmas.{among_more}
use Rattle.type_notes.proofs.lacking.set_of.Goals as goal

pub loop-k-preserved : goal.loop-k-preserved
loop-k-preserved c =
    among_more c.loop-k.set c.insert.new.self c.args.texts.now c.loop-k.k c.index-texts-k.result c.as_slice.result.now c.loop-k-test.true (c.as_slice.ensures ∙ c.index-texts-k.is) c.in_ok-insert.ensures.updates.0 c.loop-k.invariant
