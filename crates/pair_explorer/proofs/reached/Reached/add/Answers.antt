-- One visit more was taken where its triple is new.
use Rattle.std.proofs.Common.{ap, inl, arith, refl, length}
use Rattle.std.proofs.lemmas.Result.{err_from_is_err_and}
use Rattle.pair_explorer.specs.Adding.{added}
use Rattle.pair_explorer.proofs.Growth.{Extends-added}
use Rattle.pair_explorer.proofs.Spent.{length-Extends}
use Rattle.pair_explorer.proofs.reached.Reached.add.Goals as goal

pub overflow_sub-more : goal.overflow_sub-more
overflow_sub-more c =
    let visits = c.args.self.now.visits in
    omega (arith, ap length c.in_ok-add.ensures.added, length-Extends visits (added visits c.args.visit.now) (Extends-added visits c.args.visit.now), c.len-before.ensures, c.len.ensures)

pub returns-in_err-take-clause-past : goal.returns-in_err-take-clause-past
returns-in_err-take-clause-past c =
    let p = err_from_is_err_and c.from_residual-in_err-take.result c.from_residual-in_err-take.ensures.1 in
    let visits = c.args.self.now.visits in
    let more = length-Extends visits (added visits c.args.visit.now) (Extends-added visits c.args.visit.now) in
    rw (p.1, p.2, c.in_err-take.ensures.named, c.requires.limit) (refl, inl (omega (arith, c.in_err-take.ensures.past, c.requires.counted, ap length c.in_ok-add.ensures.added, more, c.len-before.ensures, c.len.ensures)))
