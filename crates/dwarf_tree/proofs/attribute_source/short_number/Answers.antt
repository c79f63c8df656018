use Rattle.std.proofs.Common.{◌≡◌, ◌∙◌, ◌+◌, ℕ, Some, ap, sym, arith}
use Rattle.std.specs.Prelude.{take}
use Rattle.abi_base.specs.Leb.{uleb_at}
use Rattle.abi_base.specs.Numbers.{number_at}
use Rattle.dwarf_tree.proofs.ShortLemmas.{spelled_short}
use Rattle.dwarf_tree.proofs.attribute_source.short_number.Goals as goal

pub returns : goal.returns
returns c =
    let info = c.args.asked.now.info.now in
    let head = c.args.asked.now.head.now in
    let slot = c.in_ok-slot.slot in
    let after = c.in_ok-after.after in
    let begins : uleb_at (take head.end info) c.args.asked.now.stored.offset ≡ Some (c.in_ok-after.field-0-0, after) =
    sym (rw c.get-end.ensures at c.in_ok-after.ensures.found) in
    let form : slot.form ≡ c.args.form = omega (arith, c.from.ensures, c.if-from-form.false) in
    spelled_short info c.args.asked.now.abbrevs.now c.args.asked.now.slots.now head c.args.asked.now.shape.now c.args.asked.now.stored c.args.name c.in_ok-after.field-0-0 after slot
    c.requires.inside c.requires.shape c.in_ok-slot.ensures.found c.in_ok-slot.ensures.asked c.args.form form c.requires.told begins c.u32_at.result
    ((rw c.get-end.ensures at c.u32_at.ensures) ∙ ap (λ (n : ℕ). number_at 4 (take head.end info) (after + n)) c.from-2.ensures)
