use Rattle.std.proofs.Common.{◌≡◌, ◌∙◌, ◌+◌, ℕ, None, length, refl, ap, arith}
use Rattle.std.proofs.lemmas.Result.{err_from_is_err_and}
use Rattle.abi_base.specs.declared.limit.Limit.TheVariants.{RangeLists}
use Rattle.abi_base.proofs.lemmas.Budgets.{spent_none, spent_more, spent_past, spent_whole, passes_all}
use Rattle.dwarf_entries.specs.Debug.{PlainSections}
use Rattle.dwarf_entries.specs.Limits.{ranges_allowed, ranges_cost}
use Rattle.dwarf_entries.proofs.range_bytes.take_for_ranges.Goals as goal

pub loop-e-init : goal.loop-e-init
loop-e-init c =
    let s = c.args.source.now.sections in
    let units : length c.sections-sections.result.rnglists.now + length c.sections-sections.result.ranges.now ≡ length s.rnglists + length s.ranges =
    ap (λ (p : PlainSections). length p.rnglists + length p.ranges) c.sections-sections.ensures in
    spent_none RangeLists (length s.rnglists + length s.ranges) (λ _. None) (ranges_cost c.args.source.now) c.of-budget.result (rw units at c.of-budget.ensures)

pub loop-e-preserved : goal.loop-e-preserved
loop-e-preserved c =
    let s = c.args.source.now.sections in
    spent_more RangeLists (length s.rnglists + length s.ranges) (λ _. None) (ranges_cost c.args.source.now) c.loop-e.e (ranges_cost c.args.source.now c.loop-e.e) c.loop-e.budget c.take_for_entry.new.budget
    c.loop-e.invariant refl refl (rw c.new-entry.ensures at c.in_ok-take_for_entry.ensures.within) (rw c.new-entry.ensures at c.in_ok-take_for_entry.ensures.taken)

pub returns-in_err-take_for_entry-clause-past : goal.returns-in_err-take_for_entry-clause-past
returns-in_err-take_for_entry-clause-past c =
    let s = c.args.source.now.sections in
    let e = err_from_is_err_and c.from_residual.result c.from_residual.ensures.1 in
    rw e.1 (passes_all (ranges_allowed c.args.source.now) (λ _. None) (ranges_cost c.args.source.now) (length c.args.source.now.tree.entries)
    (spent_past RangeLists (length s.rnglists + length s.ranges) (λ _. None) (ranges_cost c.args.source.now) c.loop-e.e (ranges_cost c.args.source.now c.loop-e.e) (length c.args.source.now.tree.entries) c.loop-e.budget
    c.loop-e.invariant (omega arith) refl (rw c.new-entry.ensures at c.in_err-take_for_entry.ensures.past)))

pub returns-in_err-take_for_entry-clause-named : goal.returns-in_err-take_for_entry-clause-named
returns-in_err-take_for_entry-clause-named c =
    let e = err_from_is_err_and c.from_residual.result c.from_residual.ensures.1 in
    rw (e.1, e.2, c.in_err-take_for_entry.ensures.named, c.loop-e.invariant.limit_is) refl

pub returns-clause-within : goal.returns-clause-within
returns-clause-within c =
    let s = c.args.source.now.sections in
    let whole : c.loop-e.e ≡ length c.args.source.now.tree.entries = omega arith in
    spent_whole RangeLists (length s.rnglists + length s.ranges) (λ _. None) (ranges_cost c.args.source.now) c.loop-e.e (length c.args.source.now.tree.entries) c.loop-e.budget c.loop-e.invariant whole
