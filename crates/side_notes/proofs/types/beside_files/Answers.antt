-- The notes on needs come last.
use Rattle.side_notes.proofs.NeedLemmas.{with_needs}
use Rattle.side_notes.proofs.types.beside_files.Goals as goal

pub returns-clause-notes : goal.returns-clause-notes
returns-clause-notes c =
    with_needs c.args.old.now c.args.new.now c.args.rules.now c.in_ok-beside.beside.notes c.in_ok-all.all.notes c.in_ok-beside.beside.counts c.in_ok-beside.ensures.notes
    c.in_ok-beside.ensures.counts c.in_ok-all.ensures.notes
