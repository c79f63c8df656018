use Rattle.std.proofs.Common.{sym, get_or}
use Rattle.std.proofs.lemmas.Option.{slice_get-get_or}
use Rattle.cert_check.proofs.AlikeLemmas.{no_one, no_other, not_own, alike_told}
use Rattle.cert_check.proofs.alike.keeps_alike_line.Goals as goal

pub returns-in-None : goal.returns-in-None
returns-in-None g c = no_one c.args.library.now.graph c.args.lines.now c.args.k (get_or c.args.lines.now c.args.k (0, 0)) (slice_get-get_or c.args.lines.now c.args.k (0, 0) c.requires.inside) (sym c.in-None.ensures.node)

pub returns-in-None-find : goal.returns-in-None-find
returns-in-None-find g c = no_other c.args.library.now.graph c.args.lines.now c.args.k (get_or c.args.lines.now c.args.k (0, 0)) (slice_get-get_or c.args.lines.now c.args.k (0, 0) c.requires.inside) (sym c.in-None-find.ensures.node)

pub returns-then-not-is_own : goal.returns-then-not-is_own
returns-then-not-is_own g c = not_own c.args.library.now.graph c.args.lines.now c.args.k (get_or c.args.lines.now c.args.k (0, 0)) (slice_get-get_or c.args.lines.now c.args.k (0, 0) c.requires.inside) (sym c.if-not-is_own.ensures)

pub returns : goal.returns
returns g c =
    alike_told c.args.library.now.graph c.args.lines.now c.args.k (get_or c.args.lines.now c.args.k (0, 0)) (slice_get-get_or c.args.lines.now c.args.k (0, 0) c.requires.inside) _ _ c.look_alike.result
    (sym c.in-Some.ensures.node) (sym c.in-Some-find.ensures.node) (sym c.if-not-is_own.ensures) (rw c.graph.ensures at c.look_alike.ensures)
