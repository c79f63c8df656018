use Rattle.std.proofs.Common.{◌≡◌, true, false, sym, ◌∙◌, arith}
use Rattle.std.proofs.lemmas.Bool.Decides.{nat_tests}
use Rattle.elf.specs.symbols.Dynamic.{is_used}
use Rattle.explain.specs.Programs.{has_flags}
use Rattle.explain.proofs.ProgramLemmas.{no_flags_here}
use Rattle.explain.proofs.programs.flags_entry_in.Goals as goal

pub loop-number-preserved : goal.loop-number-preserved
loop-number-preserved c =
    let table = c.args.table.now in
    let number = c.loop-number.number in
    let goes : is_used table number ≡ true = grind (arith, nat_tests) in
    let fails : has_flags table number ≡ false = grind (arith, nat_tests) in
    sym (no_flags_here table number _ c.loop-number-test.true goes fails) ∙ c.loop-number.invariant
