use Rattle.std.proofs.Common.{◌∙◌, ◌+◌, refl, sym, length}
use Rattle.std.proofs.lemmas.Result.{err_from_is_err_and}
use Rattle.abi_base.proofs.lemmas.Budgets.{spent_none, spent_more, spent_past}
use Rattle.abi_base.proofs.lemmas.Outcomes.{on_past_weaker}
use Rattle.abi_base.specs.declared.limit.Limit.TheVariants.{VersionNeeds}
use Rattle.elf_needs.specs.Needs.{need_cost, need_fault}
use Rattle.elf_needs.proofs.ReadNeeds.{read_none, read_more, sound_need, refuses, malformed_fault, passes_on}
use Rattle.elf_needs.proofs.entries.needs_in.Goals as goal

pub loop-number-init : goal.loop-number-init
loop-number-init c = (
  read_none c.args.table.now c.args.strings.now c.args.count c.new-by_index.result c.new-by_index.ensures.empty,
  spent_none VersionNeeds (length c.args.table.now + length c.args.strings.now) (need_fault c.args.table.now c.args.strings.now c.args.count)
      (need_cost c.args.table.now c.args.strings.now) c.of-budget.result c.of-budget.ensures,
)

pub returns-in-None-clause-judged : goal.returns-in-None-clause-judged
returns-in-None-clause-judged c =
    refuses c.args.table.now c.args.strings.now c.args.count c.loop-number.number c.loop-number.at c.loop-number.by_index c.bad_need.result c.loop-number.invariant.0 c.loop-number-test.true
    (malformed_fault c.args.table.now c.args.strings.now c.args.count c.loop-number.number (sym c.in-None.ensures.malformed)) c.bad_need.ensures

pub loop-number-preserved : goal.loop-number-preserved
loop-number-preserved c = (
  read_more c.args.table.now c.args.strings.now c.args.count c.loop-number.number c.loop-number.at c.in-Some.need.next c.loop-number.by_index c.keep_entries.new.by_index
      c.loop-number.invariant.0 c.loop-number-test.true (sym c.in-Some.ensures.malformed)
      (rw c.in-Some.ensures.same at c.in_ok-keep_entries-in-Some.ensures.judged)
      (rw c.in-Some.ensures.same at c.in-Some.ensures.read.next)
      (rw c.in-Some.ensures.same at c.in_ok-keep_entries-in-Some.ensures.kept),
  spent_more VersionNeeds (length c.args.table.now + length c.args.strings.now) (need_fault c.args.table.now c.args.strings.now c.args.count)
      (need_cost c.args.table.now c.args.strings.now) c.loop-number.number (need_cost c.args.table.now c.args.strings.now c.loop-number.number) c.loop-number.budget c.keep_entries.new.budget
      c.loop-number.invariant.1
      (sound_need c.args.table.now c.args.strings.now c.args.count c.loop-number.number (sym c.in-Some.ensures.malformed) (rw c.in-Some.ensures.same at c.in_ok-keep_entries-in-Some.ensures.judged))
      refl (rw c.in-Some.ensures.same at c.in_ok-keep_entries-in-Some.ensures.within) (rw c.in-Some.ensures.same at c.in_ok-keep_entries-in-Some.ensures.taken),
)

pub returns-in_err-keep_entries-in-Some-clause-past : goal.returns-in_err-keep_entries-in-Some-clause-past
returns-in_err-keep_entries-in-Some-clause-past c =
    let p = err_from_is_err_and c.from_residual.result c.from_residual.ensures.1 in
    rw (p.1, p.2) (on_past_weaker c.in_err-keep_entries-in-Some.field-0.0 _ _
    (λ l h. (
      h.0 ∙ c.loop-number.invariant.1.limit_is,
      spent_past VersionNeeds (length c.args.table.now + length c.args.strings.now) (need_fault c.args.table.now c.args.strings.now c.args.count)
          (need_cost c.args.table.now c.args.strings.now) c.loop-number.number (need_cost c.args.table.now c.args.strings.now c.loop-number.number) c.args.count c.loop-number.budget
          c.loop-number.invariant.1 c.loop-number-test.true refl h.1,
    ))
    (rw c.in-Some.ensures.same at c.in_err-keep_entries-in-Some.ensures.past))

pub returns-in_err-keep_entries-in-Some-clause-judged : goal.returns-in_err-keep_entries-in-Some-clause-judged
returns-in_err-keep_entries-in-Some-clause-judged c =
    let p = err_from_is_err_and c.from_residual.result c.from_residual.ensures.1 in
    rw (p.1, p.2) (passes_on c.args.table.now c.args.strings.now c.args.count c.loop-number.number c.loop-number.at c.loop-number.by_index c.in_err-keep_entries-in-Some.field-0.0
    c.loop-number.invariant.0 c.loop-number-test.true (rw c.in-Some.ensures.same at c.in_err-keep_entries-in-Some.ensures.judged))
