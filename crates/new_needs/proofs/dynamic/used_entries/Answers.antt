use Rattle.std.proofs.Common.{◌≡◌, ◌∙◌, true, arith}
use Rattle.std.proofs.lemmas.Bool.Decides.{nat_tests}
use Rattle.elf.specs.symbols.Dynamic.{is_used}
use Rattle.new_needs.proofs.UsedEntries.{split_more}
use Rattle.new_needs.proofs.dynamic.used_entries.Goals as goal

pub loop-number-preserved : goal.loop-number-preserved
loop-number-preserved c =
    let goes : is_used c.args.table.now c.loop-number.number ≡ true = grind (arith, nat_tests) in
    split_more (is_used c.args.table.now) c.loop-number.number _ c.loop-number-test.true goes ∙ c.loop-number.invariant
