use Rattle.std.proofs.Common.{◌∙◌, sym, ap}
use Rattle.dwarf_tree.specs.Trees.{entry_of}
use Rattle.dwarf_tree.specs.declared.head.Head.{Head}
use Rattle.dwarf_entries.proofs.ReferLemmas.{signed_there, signed_nowhere}
use Rattle.dwarf_entries.proofs.links.Links.by_signature.Goals as goal

pub returns-in-Some-clause-found : goal.returns-in-Some-clause-found
returns-in-Some-clause-found c =
    rw (← c.self.view_is)
    (c.find.ensures.found ∙ ap (λ (h : Head). entry_of c.self.inside.tree h.type_entry) c.head.ensures
    ∙ sym (signed_there c.self.inside.signed c.self.inside.tree c.args.signature c.in-Some.unit c.self.invariant c.in-Some.ensures))

pub returns-in-Some-clause-inside : goal.returns-in-Some-clause-inside
returns-in-Some-clause-inside c = rw (← c.self.view_is) c.find.ensures.inside

pub returns-in-None-clause-found : goal.returns-in-None-clause-found
returns-in-None-clause-found c = rw (← c.self.view_is) (sym (signed_nowhere c.self.inside.signed c.self.inside.tree c.args.signature c.self.invariant c.in-None.ensures))
