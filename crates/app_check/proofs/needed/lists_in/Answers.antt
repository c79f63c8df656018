use Rattle.std.proofs.Common.{◌≡◌, ◌/◌, length, true, false, sym, ◌∙◌, arith}
use Rattle.std.proofs.lemmas.Bool.Decides.{nat_tests}
use Rattle.elf.specs.symbols.Dynamic.{is_used}
use Rattle.app_check.specs.Links.{needs_in, needed_cost}
use Rattle.app_check.proofs.NeededFiles.{any_later, counted_here}
use Rattle.app_check.proofs.needed.lists_in.Goals as goal

pub loop-number-preserved : goal.loop-number-preserved
loop-number-preserved c =
    let table = c.args.table.now in
    let number = c.loop-number.number in
    let goes : is_used table number ≡ true = grind (arith, nat_tests) in
    let fails : needs_in table c.args.strings.now c.args.library.now number ≡ false = sym c.in_ok-needs_at.ensures.told ∙ c.if-branch.false in
    let counts = counted_here (needed_cost table c.args.library.now) (is_used table) number (length table / 16) c.loop-number-test.true goes in
    record {
      told = sym (any_later (needs_in table c.args.strings.now c.args.library.now) (is_used table) number _ c.loop-number-test.true goes fails) ∙ c.loop-number.invariant.told;
      limit = c.in_ok-needs_at.ensures.limit ∙ c.loop-number.invariant.limit;
      most = c.in_ok-needs_at.ensures.most ∙ c.loop-number.invariant.most;
      taken = omega (arith, counts, c.in_ok-needs_at.ensures.taken, c.loop-number.invariant.taken);
    }
