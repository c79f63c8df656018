use Rattle.std.proofs.Common.{◌∙◌, refl, ap}
use Rattle.std.proofs.lemmas.Result.{err_from_is_err_and}
use Rattle.abi_base.specs.Budgets.{BudgetState}
use Rattle.abi_base.proofs.lemmas.Outcomes.{on_past_weaker}
use Rattle.elf_needs.proofs.Counting.{need_above, need_past, need_taken, need_within, sound_after}
use Rattle.elf_needs.proofs.entries.keep_entries.Goals as goal

pub keep_each-requires-clause-sound : goal.keep_each-requires-clause-sound
keep_each-requires-clause-sound c =
    sound_after c.args.table.now c.args.strings.now c.args.need.now.number c.args.need.now.file.now c.args.budget.now c.take.new.self c.requires.of_need.file
    c.in_ok-take.ensures.taken c.in_ok-take.ensures.within

pub returns-clause-taken : goal.returns-clause-taken
returns-clause-taken c =
    need_taken c.args.table.now c.args.strings.now c.args.need.now.number c.args.need.now.file.now c.args.budget.now c.take.new.self c.requires.of_need.file c.keep_each.new.budget
    c.in_ok-take.ensures.taken c.in_ok-keep_each.ensures.taken

pub returns-clause-within : goal.returns-clause-within
returns-clause-within c =
    need_within c.args.table.now c.args.strings.now c.args.need.now.number c.args.need.now.file.now c.args.budget.now c.take.new.self c.requires.of_need.file
    c.in_ok-take.ensures.taken c.in_ok-keep_each.ensures.within

pub returns-in_err-take-clause-past : goal.returns-in_err-take-clause-past
returns-in_err-take-clause-past c =
    let p = err_from_is_err_and c.from_residual.result c.from_residual.ensures.1 in
    rw (p.1, p.2, c.in_err-take.ensures.named) (
      refl,
      need_above c.args.table.now c.args.strings.now c.args.need.now.number c.args.need.now.file.now c.args.budget.now c.take.new.self c.requires.of_need.file c.in_err-take.ensures.past,
    )

pub returns-in_err-keep_each-clause-past : goal.returns-in_err-keep_each-clause-past
returns-in_err-keep_each-clause-past c =
    let p = err_from_is_err_and c.from_residual-in_err-keep_each.result c.from_residual-in_err-keep_each.ensures.1 in
    rw (p.1, p.2) (on_past_weaker c.in_err-keep_each.field-0.0 _ _
    (λ l h. (
      h.0 ∙ ap (λ (b : BudgetState). b.limit) c.in_ok-take.ensures.taken,
      need_past c.args.table.now c.args.strings.now c.args.need.now.number c.args.need.now.file.now c.args.budget.now c.take.new.self c.requires.of_need.file
          c.in_ok-take.ensures.taken h.1,
    ))
    c.in_err-keep_each.ensures.past)
