use Rattle.std.proofs.Common.{◌<◌, ◌+◌, ◌-◌, length, string_bytes, refl, arith}
use Rattle.std.proofs.lemmas.Result.{err_from_is_err_and}
use Rattle.listings.specs.exports.ExportLines.{export_line}
use Rattle.listings.proofs.LinesTaken.{past_at}
use Rattle.listings.proofs.exports.lines.push_lines.Goals as goal

pub returns-in_err-take-clause-past : goal.returns-in_err-take-clause-past
returns-in_err-take-clause-past g c =
    let p = err_from_is_err_and c.from_residual-in_err-take.result c.from_residual-in_err-take.ensures.1 in
    let budget = c.loop-export.budget in
    let above : budget.most < budget.taken + (length (string_bytes c.push_line.new.text) - length (string_bytes c.loop-export.text)) = omega (arith, c.in_err-take.ensures.past, c.len.ensures, c.len-before.ensures) in
    rw (p.1, p.2, c.in_err-take.ensures.named, c.loop-export.invariant.1.limit_is) (
      refl,
      past_at (export_line c.args.graph.now) c.args.exports.now c.loop-export.export-index _ (string_bytes c.loop-export.text) (string_bytes c.push_line.new.text) c.args.budget.now budget
          c.in_ok-push_line.ensures c.loop-export.invariant.1 c.loop-export-test.true above,
    )
