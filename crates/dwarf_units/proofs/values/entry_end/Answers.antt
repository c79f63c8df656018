use Rattle.std.proofs.Common.{◌≡◌, Some, sym, arith}
use Rattle.dwarf_forms.specs.abbreviations.Abbrevs.{abbrev_of}
use Rattle.dwarf_units.specs.Plain.{plain_unit}
use Rattle.dwarf_units.proofs.values.entry_end.Goals as goal

pub returns-in-Some : goal.returns-in-Some
returns-in-Some c =
    let found : abbrev_of c.deref.result.now c.args.code ≡ Some c.args.form.now = rw c.deref.ensures c.requires in
    let known = c.in-Some.ensures c.args.form.now found in
    rw c.from-in-Some.ensures
    (sym (known.ends (plain_unit c.args.unit.now) c.args.entry c.args.at (omega (arith, c.if-saturating_sub-from.true, c.from.ensures, c.saturating_sub.ensures)) c.args.unit.now.inside))
