use Rattle.std.proofs.Common.{◌+◌, ◌<◌, length, sym, ◌∙◌, ap, arith}
use Rattle.std.proofs.lemmas.Result.{err_from_is_err_and}
use Rattle.std.specs.Option.{option_copied}
use Rattle.abi_base.proofs.lemmas.Budgets.{spent_more, spent_past}
use Rattle.abi_base.proofs.lemmas.Outcomes.{on_limit_weaker}
use Rattle.abi_base.specs.declared.limit.Limit.TheVariants.{NeededFiles}
use Rattle.elf.specs.symbols.Dynamic.{entry_numbers}
use Rattle.new_needs.specs.NeededFiles.{needed_cost, needed_name_fault, name_cost, plain_names}
use Rattle.new_needs.proofs.UsedEntries.{names_more, names_refused, used_count}
use Rattle.new_needs.proofs.dynamic.names_in.Goals as goal

pub returns-in_err-name-clause-judged : goal.returns-in_err-name-clause-judged
returns-in_err-name-clause-judged c =
    let p = err_from_is_err_and c.from_residual.result c.from_residual.ensures.1 in
    rw (p.1, p.2) (names_refused c.args.table.now c.args.strings.now c.used_entries-count.result c.loop-number.number (plain_names c.loop-number.names.items) c.in_err-name.field-0.0
    (entry_numbers c.args.table.now) c.loop-number.invariant.names c.loop-number-test.true c.in_err-name.ensures.judged c.used_entries-count.ensures.numbers)

pub loop-number-preserved : goal.loop-number-preserved
loop-number-preserved c = record {
  names =
      names_more c.args.table.now c.args.strings.now c.used_entries-count.result c.loop-number.number (plain_names c.loop-number.names.items) (plain_names c.keep.new.names.items)
      (option_copied c.in_ok-name.name) c.loop-number.invariant.names c.loop-number-test.true c.in_ok-name.ensures.judged c.in_ok-name.ensures.read c.in_ok-keep.ensures.kept;
  spent =
      spent_more NeededFiles (length c.args.table.now + length c.args.strings.now) (needed_name_fault c.args.table.now c.args.strings.now)
      (needed_cost c.args.table.now c.args.strings.now) c.loop-number.number (name_cost (option_copied c.in_ok-name.name)) c.loop-number.budget c.keep.new.budget
      c.loop-number.invariant.spent c.in_ok-name.ensures.judged (ap name_cost (sym c.in_ok-name.ensures.read)) c.in_ok-keep.ensures.within c.in_ok-keep.ensures.taken;
}

pub returns-in_err-keep-clause-past : goal.returns-in_err-keep-clause-past
returns-in_err-keep-clause-past c =
    let p = err_from_is_err_and c.from_residual-in_err-keep.result c.from_residual-in_err-keep.ensures.1 in
    let inside : c.loop-number.number < length (entry_numbers c.args.table.now) =
    omega (arith, c.loop-number-test.true, used_count c.used_entries-count.result (entry_numbers c.args.table.now) c.used_entries-count.ensures.numbers) in
    rw (p.1, p.2) (on_limit_weaker c.in_err-keep.field-0.0 _ _
    (λ l h. (
      h.0 ∙ c.loop-number.invariant.spent.limit_is,
      spent_past NeededFiles (length c.args.table.now + length c.args.strings.now) (needed_name_fault c.args.table.now c.args.strings.now)
          (needed_cost c.args.table.now c.args.strings.now) c.loop-number.number (name_cost (option_copied c.in_ok-name.name)) (length (entry_numbers c.args.table.now)) c.loop-number.budget
          c.loop-number.invariant.spent inside (ap name_cost (sym c.in_ok-name.ensures.read)) h.1,
    ))
    c.in_err-keep.ensures.past)
