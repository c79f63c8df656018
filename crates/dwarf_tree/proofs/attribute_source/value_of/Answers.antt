use Rattle.std.proofs.Common.{◌≡◌, ◌∙◌, ◌+◌, ◌≤◌, ℕ, Some, ap, sym, arith}
use Rattle.std.specs.Prelude.{pos, take}
use Rattle.abi_base.specs.Leb.{uleb_at}
use Rattle.dwarf_forms.specs.declared.abbreviations.abbrev.Spec.{Spec}
use Rattle.dwarf_forms.specs.Values.{value_at}
use Rattle.dwarf_tree.specs.declared.entry_records.EntryHead.{EntryHead}
use Rattle.dwarf_tree.specs.Keeping.{value_read}
use Rattle.dwarf_tree.proofs.SlotLemmas.{slot_value}
use Rattle.dwarf_tree.proofs.attribute_source.value_of.Goals as goal

pub returns : goal.returns
returns c =
    let info = c.args.asked.now.info.now in
    let head = c.args.asked.now.head.now in
    let slot = c.in-Some.slot in
    let after = c.in-Some-uleb.after in
    let begins : uleb_at (take head.end info) c.args.asked.now.stored.offset ≡ Some (c.in-Some-uleb.field-0-0, after) =
    sym (rw c.get-end.ensures at c.uleb.ensures.found) ∙ c.in-Some-uleb.is in
    let room : after + slot.from ≤ head.end = omega (arith, c.if-at-end.false, c.get-end.ensures, c.from.ensures) in
    c.value_in.ensures
    ∙ ap (λ (s : Spec). value_read (value_at s.form s.implicit head.offset head.end c.shaped-kept.result.offset info (after + c.from.result))) c.plain.ensures
    ∙ ap (λ (k : EntryHead). value_read (value_at slot.form (pos 0) head.offset head.end k.offset info (after + c.from.result))) c.shaped-kept.ensures
    ∙ ap (λ (n : ℕ). value_read (value_at slot.form (pos 0) head.offset head.end c.args.asked.now.stored.offset info (after + n))) c.from.ensures
    ∙ slot_value info c.args.asked.now.abbrevs.now c.args.asked.now.slots.now head c.args.asked.now.shape.now c.args.asked.now.stored c.args.name c.in-Some-uleb.field-0-0 after slot
    c.requires.inside c.requires.shape c.in-Some.ensures.found c.in-Some.ensures.asked c.if-slot-eq-FORM_UNKNOWN.false begins room
