use Rattle.dwarf_entries.proofs.links.Links.target.Goals as goal

pub returns-in-Reference-clause-inside : goal.returns-in-Reference-clause-inside
returns-in-Reference-clause-inside c = rw (← c.self.view_is) c.find.ensures.inside
