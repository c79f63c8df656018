use Rattle.dwarf_units.specs.Plain.{plain_unit}
use Rattle.dwarf_units.proofs.OutlineLemmas.{attributes_of_specs}
use Rattle.dwarf_units.proofs.outline.Outline.specs.Goals as goal

pub returns : goal.returns
returns c =
    rw (c.as_slice.ensures, ← c.self.view_is)
    (attributes_of_specs (plain_unit c.self.inside.unit.now) c.self.inside.offset c.self.inside.form.now.specs c.self.inside.values c.self.invariant)
