use Rattle.std.proofs.Common.{◌∙◌, sym, arith}
use Rattle.dwarf_forms.proofs.FormLemmas.{fixed_ends}
use Rattle.dwarf_forms.proofs.forms.fixed_end.Goals as goal

pub returns-then-saturating_sub-from-clause-end : goal.returns-then-saturating_sub-from-clause-end
returns-then-saturating_sub-from-clause-end c implicit unit_start entry bytes inside =
    rw c.from-then-saturating_sub-from.ensures
    (fixed_ends c.args.form implicit unit_start c.args.unit_end entry bytes c.args.at c.in-Some.size (sym c.fixed_size.ensures ∙ c.in-Some.is) (omega (arith, c.if-saturating_sub-from.true, c.from.ensures, c.saturating_sub.ensures)) inside)
