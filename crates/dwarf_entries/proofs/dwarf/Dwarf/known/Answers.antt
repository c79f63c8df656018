use Rattle.dwarf_entries.proofs.WholeLemmas.{each_faultless}
use Rattle.dwarf_entries.proofs.dwarf.Dwarf.known.Goals as goal

pub returns-clause-entries : goal.returns-clause-entries
returns-clause-entries c =
    rw (← c.self.view_is) (λ e inside. each_faultless c.self.inside.source e c.self.invariant.faultless c.self.invariant.read inside)
