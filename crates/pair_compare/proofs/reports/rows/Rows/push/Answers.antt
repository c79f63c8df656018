-- One row more is taken, and then appended.
use Rattle.std.proofs.Common.{refl, sym}
use Rattle.std.proofs.lemmas.Result.{err_from_is_err_and}
use Rattle.pair_compare.specs.Limits.{row_size}
use Rattle.pair_compare.proofs.reports_lemmas.Rooms.{taken_push, push_past}
use Rattle.pair_compare.proofs.reports.rows.Rows.push.Goals as goal

pub returns-in_err-take-clause-past : goal.returns-in_err-take-clause-past
returns-in_err-take-clause-past c =
    let p = err_from_is_err_and c.from_residual.result c.from_residual.ensures.1 in
    rw (p.1, p.2, c.in_err-take.ensures.named, c.requires.limit_is) (refl, push_past c.args.self.now.room.most row_size c.args.self.now.list c.args.row c.size_of.result c.args.self.now.room c.requires (sym c.size_of.ensures) c.in_err-take.ensures.past)

pub returns-clause-counted : goal.returns-clause-counted
returns-clause-counted c =
    taken_push c.args.self.now.room.most row_size c.args.self.now.list c.push.new.self c.args.row c.size_of.result c.args.self.now.room c.take.new.self c.requires c.in_ok-push.ensures.ok (sym c.size_of.ensures) c.in_ok-take.ensures.within c.in_ok-take.ensures.taken
