use Rattle.std.proofs.Common.{◌∙◌, sym}
use Rattle.dwarf_entries.proofs.ChainLemmas.{holder_last, holder_next}
use Rattle.dwarf_entries.proofs.links.Links.held_behind.Goals as goal

pub returns-in-Some-clause-holder : goal.returns-in-Some-clause-holder
returns-in-Some-clause-holder c =
    c.held_within.ensures.holder ∙ sym (holder_next c.args.self.now c.args.e c.in-Some.to c.args.name c.requires.lacks (sym c.in-Some.ensures.found))

pub returns-in-None-clause-holder : goal.returns-in-None-clause-holder
returns-in-None-clause-holder c =
    sym (holder_last c.args.self.now c.args.e c.args.name c.requires.lacks (sym c.in-None.ensures.found))
