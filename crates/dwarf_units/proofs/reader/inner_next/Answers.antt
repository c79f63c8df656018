use Rattle.std.proofs.Common.{◌≡◌, Option, Some, None, Ok, sym}
use Rattle.std.specs.Prelude.{IfSome, Bool}
use Rattle.dwarf_units.specs.Following.{IsNext}
use Rattle.dwarf_units.specs.Plain.{plain_unit}
use Rattle.dwarf_units.specs.Units.{PlainUnit, State, token_at}
use Rattle.dwarf_units.specs.declared.reader.Following.{Following}
use Rattle.dwarf_units.proofs.ValuesAfter.{ValuesMove}
use Rattle.dwarf_units.proofs.EntriesLeft.{IsReading, given_next}
use Rattle.dwarf_units.proofs.reader.inner_next.Goals as goal

comes : (moves : ValuesMove) (u : PlainUnit) (s begun : State) (met : Bool) (r : Option Following) → IsReading u s met begun → IfSome r (λ f. token_at u s ≡ Ok (Some f.entry, (f.at, Some f.lists)))
    → IfSome r (IsNext u begun met)
comes moves u s begun met None reading token = tt
comes moves u s begun met (Some f) reading token = given_next moves u s begun met f.entry f.at f.lists reading token

pub returns : goal.returns
returns c =
    comes c.reading_moves_on_inside_the_unit.ensures.after (plain_unit c.args.unit.now) (c.pass_ends-at.result.0, Some c.pass_ends-at.result.1) (c.args.from, Some c.args.nested) c.args.met c.inner_entry_in.result
    (record { below = c.pass_ends-at.ensures.few; here = sym (c.pass_ends-at.ensures.same c.args.met) }) c.inner_entry_in.ensures
