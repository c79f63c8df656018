use Rattle.std.proofs.Common.{◌∙◌}
use Rattle.dwarf_entries.proofs.ReferLemmas.{typed_inside}
use Rattle.dwarf_entries.proofs.dwarf.Dwarf.typed.Goals as goal

pub returns-clause-inside : goal.returns-clause-inside
returns-clause-inside c =
    rw (← c.self.view_is) (typed_inside c.self.inside.source c.args.address c.place_of.result (c.place_of.ensures ∙ c.self.invariant.addresses.first c.args.address))
