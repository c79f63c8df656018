use Rattle.std.proofs.Common.{◌≡◌, ◌∙◌, ℕ, List, length, Some, ap, subst, sym, arith}
use Rattle.std.proofs.lemmas.Grind.{common_steps}
use Rattle.dwarf_forms.specs.Values.{fixed_end_of, fixed_size_of, shape_of}
use Rattle.dwarf_tree.specs.declared.entry_records.Slot.{Slot}
use Rattle.dwarf_tree.specs.Keeping.{AreSlots, Extends, Passed}
use Rattle.dwarf_tree.proofs.SlotLemmas.{ends_before, extends_push, made_more, passed_more, passed_there}
use Rattle.dwarf_tree.proofs.slots.push_slots.Goals as goal

pub returns-in_default-fixed_end-clause-lead : goal.returns-in_default-fixed_end-clause-lead
returns-in_default-fixed_end-clause-lead c =
    let abbrevs = c.args.abbrevs.now in
    let specs_from = c.args.specs_from in
    let first = length c.args.slots.now.items in
    let slots = c.pairs.slots.items in
    subst (λ (l : List Slot). AreSlots abbrevs specs_from l first (length l)) (sym c.in_ok-push.ensures.items)
    (made_more abbrevs specs_from slots first c.pass_unasked-first.result c.pairs.from c.in-Some.spec c.in-Some.next c.in-Some-slot_of.slot
    c.in-Some-slot_of.ensures c.in-Some.ensures.found c.pairs.invariant.extended.longer
    (passed_there abbrevs specs_from slots first c.pairs.pairs c.pairs.from c.pass_unasked-first.result c.pass_unasked-first.ensures c.pairs.invariant.passed) c.pairs.invariant.lead)

pub pairs-preserved : goal.pairs-preserved
pairs-preserved c =
    let abbrevs = c.args.abbrevs.now in
    let specs_from = c.args.specs_from in
    let first = length c.args.slots.now.items in
    let slots = c.pairs.slots.items in
    let after = c.in-Some-fixed_end.after in
    let spec = c.in-Some.spec in
    let next = c.in-Some.next in
    let slot = c.in-Some-slot_of.slot in
    let ends : fixed_end_of (fixed_size_of (shape_of spec.form)) 65535 c.pairs.from ≡ Some after =
    ap (λ (limit : ℕ). fixed_end_of (fixed_size_of (shape_of spec.form)) limit c.pairs.from) (sym c.from.ensures)
    ∙ sym c.fixed_end.ensures.exact
    ∙ c.in-Some-fixed_end.is in
    let sized = ends_before (fixed_size_of (shape_of spec.form)) 65535 c.pairs.from after ends in
    let inside = c.pairs.invariant.extended.longer in
    let there = passed_there abbrevs specs_from slots first c.pairs.pairs c.pairs.from c.pass_unasked-first.result c.pass_unasked-first.ensures c.pairs.invariant.passed in
    let lead =
    made_more abbrevs specs_from slots first c.pass_unasked-first.result c.pairs.from spec next slot c.in-Some-slot_of.ensures c.in-Some.ensures.found inside there c.pairs.invariant.lead in
    let passed =
    passed_more abbrevs specs_from slots first c.pass_unasked-first.result c.pairs.from spec next slot c.in-Some-slot_of.ensures c.in-Some.ensures.found inside there
    c.values_of_a_fixed_size_end_behind_it.ensures 65535 after sized in
    let items = sym c.in_ok-push.ensures.items in
    record {
      lead = subst (λ (l : List Slot). AreSlots abbrevs specs_from l first (length l)) items lead;
      passed = subst (λ (l : List Slot). Passed abbrevs specs_from l first next after) items passed;
      extended = subst (λ (l : List Slot). Extends c.args.slots.now.items l) items (extends_push c.args.slots.now.items slots slot c.pairs.invariant.extended);
      few = grind (arith, common_steps);
      small = omega (arith, c.pairs.invariant.small, sized.next, sized.inside);
    }
