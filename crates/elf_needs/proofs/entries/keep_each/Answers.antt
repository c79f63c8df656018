use Rattle.std.proofs.Common.{◌≡◌, ◌∙◌, sym, ap, arith}
use Rattle.std.proofs.lemmas.Result.{err_from_is_err_and}
use Rattle.abi_base.specs.Budgets.{BudgetState, with_taken}
use Rattle.elf_needs.specs.Needs.{entries_cost, entry_count}
use Rattle.abi_base.proofs.lemmas.Outcomes.{on_limit_weaker}
use Rattle.elf_needs.proofs.Counting.{spent_none, spent_more, spent_past}
use Rattle.elf_needs.proofs.KeptEntries.{kept_none, kept_more, refuses_entry, none_bad, all_kept}
use Rattle.elf_needs.proofs.entries.keep_each.Goals as goal

pub loop-entry-init : goal.loop-entry-init
loop-entry-init c = (
  kept_none c.args.table.now c.args.strings.now c.args.need.now.number c.args.need.now.first c.args.by_index.now c.requires.of_need.first,
  spent_none c.args.table.now c.args.strings.now c.args.need.now.number c.args.budget.now c.requires.sound,
)

pub returns-in-None-clause-judged : goal.returns-in-None-clause-judged
returns-in-None-clause-judged c =
    refuses_entry c.args.table.now c.args.strings.now c.args.need.now.number c.loop-entry.entry c.bad_need.result
    (rw (sym c.requires.of_need.entries) c.loop-entry-test.true) (sym c.in-None.ensures.bad) c.bad_need.ensures

pub loop-entry-preserved : goal.loop-entry-preserved
loop-entry-preserved c = (
  kept_more c.args.table.now c.args.strings.now c.args.need.now.number c.loop-entry.entry c.loop-entry.at c.args.by_index.now c.loop-entry.by_index c.keep_first.new.by_index c.in-Some.auxiliary
      c.loop-entry.invariant.0 (sym c.in-Some.ensures.bad) c.in-Some.ensures.read c.in-Some.ensures.next c.in_ok-keep_first-in-Some.ensures.kept,
  spent_more c.args.table.now c.args.strings.now c.args.need.now.number c.loop-entry.entry c.args.budget.now c.loop-entry.budget c.keep_first.new.budget c.in-Some.auxiliary
      c.loop-entry.invariant.1 c.in-Some.ensures.read c.in_ok-keep_first-in-Some.ensures.within c.in_ok-keep_first-in-Some.ensures.taken,
)

pub returns-in_err-keep_first-in-Some-clause-past : goal.returns-in_err-keep_first-in-Some-clause-past
returns-in_err-keep_first-in-Some-clause-past c =
    let p = err_from_is_err_and c.from_residual.result c.from_residual.ensures.1 in
    rw (p.1, p.2) (on_limit_weaker c.in_err-keep_first-in-Some.field-0.0 _ _
    (λ l h. (
      h.0 ∙ ap (λ (b : BudgetState). b.limit) c.loop-entry.invariant.1.taken,
      spent_past c.args.table.now c.args.strings.now c.args.need.now.number c.loop-entry.entry c.args.budget.now c.loop-entry.budget c.in-Some.auxiliary
          c.loop-entry.invariant.1 c.in-Some.ensures.read (rw (sym c.requires.of_need.entries) c.loop-entry-test.true) h.1,
    ))
    c.in_err-keep_first-in-Some.ensures.past)

pub returns-clause-judged : goal.returns-clause-judged
returns-clause-judged c =
    none_bad c.args.table.now c.args.strings.now c.args.need.now.number c.loop-entry.entry c.loop-entry.at c.args.need.now.entries c.args.by_index.now c.loop-entry.by_index
    c.loop-entry.invariant.0 c.requires.of_need.entries (omega arith) (omega arith)

pub returns-clause-kept : goal.returns-clause-kept
returns-clause-kept c =
    all_kept c.args.table.now c.args.strings.now c.args.need.now.number c.loop-entry.entry c.loop-entry.at c.args.need.now.entries c.args.by_index.now c.loop-entry.by_index
    c.loop-entry.invariant.0 c.requires.of_need.entries (omega arith) (omega arith)

pub returns-clause-taken : goal.returns-clause-taken
returns-clause-taken c =
    let whole : c.loop-entry.entry ≡ entry_count c.args.table.now c.args.need.now.number = omega (arith, c.requires.of_need.entries) in
    c.loop-entry.invariant.1.taken ∙ ap (λ n. with_taken c.args.budget.now (entries_cost c.args.table.now c.args.strings.now c.args.need.now.number n)) whole

pub returns-clause-within : goal.returns-clause-within
returns-clause-within c =
    let whole : c.loop-entry.entry ≡ entry_count c.args.table.now c.args.need.now.number = omega (arith, c.requires.of_need.entries) in
    rw whole at c.loop-entry.invariant.1.within
