use Rattle.std.proofs.Common.{◌≡◌, ℕ, ◌+◌, List, [], ◌++◌, ap, ◌∙◌, refl, zero-add, length, arith}
use Rattle.std.specs.List.{flat_map, range_with_len}
use Rattle.trial_libraries.specs.Units.{unit, unit_count, unit_of, units}
use Rattle.trial_libraries.proofs.UnitLengths.{length-entries-le}
use Rattle.trial_libraries.proofs.Ranges.{pieces_more}
use Rattle.trial_libraries.proofs.units.make_units.Goals as goal

pub put_unit-requires : goal.put_unit-requires
put_unit-requires c =
    omega (arith, length-entries-le c.args.n c.args.ring c.loop-unit.unit c.requires.few c.requires.short, ap length (c.as_slice.ensures.value ∙ c.in_ok-body.ensures))

pub loop-unit-preserved : goal.loop-unit-preserved
loop-unit-preserved c =
    c.in_ok-put_unit.ensures
    ∙ ap (λ (body : List ℕ). c.loop-unit.info.items ++ unit_of body) (c.as_slice.ensures.value ∙ c.in_ok-body.ensures)
    ∙ pieces_more (unit c.args.n c.args.ring) [] c.loop-unit.info.items 0 c.loop-unit.unit (c.loop-unit.unit + 1) c.loop-unit.unit c.loop-unit.invariant (zero-add c.loop-unit.unit) refl

pub returns : goal.returns
unfolding units
returns c =
    let all : c.loop-unit.unit ≡ unit_count c.args.n = omega arith in
    c.loop-unit.invariant ∙ ap (λ (m : ℕ). flat_map (unit c.args.n c.args.ring) (range_with_len 0 m)) all
