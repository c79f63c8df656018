use Rattle.std.proofs.Common.{sym}
use Rattle.dwarf_files.proofs.EntryLemmas.{values_cut, values_some, values_none}
use Rattle.dwarf_files.proofs.entries.entry_in.Goals as goal

pub returns-in-None : goal.returns-in-None
returns-in-None c =
    values_cut c.args.bytes.now c.args.format.now c.loop-pair.pair-index c.args.at c.loop-pair.place c.loop-pair.entry c.loop-pair.invariant _ c.loop-pair-test.true (sym c.in-None.ensures.read)

pub returns-then-at-place : goal.returns-then-at-place
returns-then-at-place c =
    values_some c.args.bytes.now c.args.format.now c.loop-pair.pair-index c.args.at c.loop-pair.place c.loop-pair.entry c.loop-pair.invariant c.loop-pair-test.false c.if-at-place.true

pub returns-else-at-place : goal.returns-else-at-place
returns-else-at-place c =
    values_none c.args.bytes.now c.args.format.now c.loop-pair.pair-index c.args.at c.loop-pair.place c.loop-pair.entry c.loop-pair.invariant c.loop-pair-test.false c.if-at-place.false
