use Rattle.std.proofs.Common.{◌≡◌, ◌∙◌, ◌+◌, ◌/◌, refl, sym, arith, length}
use Rattle.std.proofs.lemmas.Result.{err_from_is_err_and}
use Rattle.abi_base.specs.Elf.{sym_size}
use Rattle.elf.specs.symbols.Symbols.{symbol_name_fault}
use Rattle.abi_base.proofs.lemmas.Budgets.{spent_more, spent_past, spent_whole}
use Rattle.abi_base.proofs.lemmas.Outcomes.{first_from-here}
use Rattle.abi_base.specs.declared.limit.Limit.TheVariants.{Symbols}
use Rattle.elf.proofs.symbols_lemmas.Counting.{cost_of, cost_is, fault_reached, counted_past, counted_within}
use Rattle.elf.proofs.symbols_lemmas.Numbered.{length_read}
use Rattle.elf.proofs.symbols_lemmas.Reading.{read_more}
use Rattle.elf.proofs.symbols.table.symbols_in.Goals as goal

pub returns-in-Err-clause-judged : goal.returns-in-Err-clause-judged
returns-in-Err-clause-judged c =
    sym c.loop-number.invariant.0.judged ∙ first_from-here (symbol_name_fault c.args.table.now c.args.strings.now) c.loop-number.number _ c.in-Err.fault c.loop-number-test.true c.in-Err.ensures.judged

pub loop-number-preserved : goal.loop-number-preserved
loop-number-preserved c = (
  read_more c.args.table.now c.args.strings.now c.loop-number.number _ c.loop-number.symbols.items c.push.new.self.items c.in-Ok.symbol c.loop-number.invariant.0 c.loop-number-test.true
      c.in-Ok.ensures.judged c.in-Ok.ensures.read c.in_ok-push-in-Ok.ensures.items,
  spent_more Symbols (length c.args.table.now + length c.args.strings.now) (symbol_name_fault c.args.table.now c.args.strings.now) (cost_of c.args.table.now c.args.strings.now)
      c.loop-number.number _ c.loop-number.budget c.take.new.self c.loop-number.invariant.1 c.in-Ok.ensures.judged
      (cost_is c.args.table.now c.args.strings.now c.loop-number.number c.in-Ok.symbol c.in-Ok.ensures.read) c.in_ok-take-in-Ok.ensures.within c.in_ok-take-in-Ok.ensures.taken,
)

pub returns-clause-few : goal.returns-clause-few
returns-clause-few c =
    omega (arith, length_read c.args.table.now c.args.strings.now c.loop-number.number c.loop-number.symbols.items c.loop-number.invariant.0.read)

pub returns-clause-within : goal.returns-clause-within
returns-clause-within c =
    let whole : c.loop-number.number ≡ length c.args.table.now / sym_size = omega arith in
    counted_within c.args.table.now c.args.strings.now
    (spent_whole Symbols (length c.args.table.now + length c.args.strings.now) (symbol_name_fault c.args.table.now c.args.strings.now) (cost_of c.args.table.now c.args.strings.now)
    c.loop-number.number _ c.loop-number.budget c.loop-number.invariant.1 whole)

pub returns-in_err-take-in-Ok-clause-past : goal.returns-in_err-take-in-Ok-clause-past
returns-in_err-take-in-Ok-clause-past c =
    let p = err_from_is_err_and c.from_residual-in_err-take-in-Ok.result c.from_residual-in_err-take-in-Ok.ensures.1 in
    rw (p.1, p.2, c.in_err-take-in-Ok.ensures.named, c.loop-number.invariant.1.limit_is) (
      refl,
      counted_past c.args.table.now c.args.strings.now
          (spent_past Symbols (length c.args.table.now + length c.args.strings.now) (symbol_name_fault c.args.table.now c.args.strings.now) (cost_of c.args.table.now c.args.strings.now)
          c.loop-number.number _ _ c.loop-number.budget c.loop-number.invariant.1 c.loop-number-test.true
          (cost_is c.args.table.now c.args.strings.now c.loop-number.number c.in-Ok.symbol c.in-Ok.ensures.read) c.in_err-take-in-Ok.ensures.past),
    )

pub returns-in-Err-clause-reached : goal.returns-in-Err-clause-reached
returns-in-Err-clause-reached c =
    fault_reached c.args.table.now c.args.strings.now c.loop-number.number c.in-Err.fault c.loop-number.budget c.loop-number.invariant.1 c.in-Err.ensures.judged
