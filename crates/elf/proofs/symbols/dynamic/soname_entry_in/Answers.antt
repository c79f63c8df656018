use Rattle.std.proofs.Common.{◌≡◌, true, false, sym, ◌∙◌, arith}
use Rattle.std.proofs.lemmas.Bool.Decides.{nat_tests}
use Rattle.elf.specs.symbols.Dynamic.{is_used, is_soname}
use Rattle.elf.proofs.symbols_lemmas.Entries.{not_here}
use Rattle.elf.proofs.symbols.dynamic.soname_entry_in.Goals as goal

pub loop-number-preserved : goal.loop-number-preserved
loop-number-preserved c =
    let table = c.args.table.now in
    let number = c.loop-number.number in
    let goes : is_used table number ≡ true = grind (arith, nat_tests) in
    let fails : is_soname table number ≡ false = grind (arith, nat_tests) in
    sym (not_here (is_soname table) (is_used table) number _ c.loop-number-test.true goes fails) ∙ c.loop-number.invariant
