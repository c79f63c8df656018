-- Dropped, unbound or bound.
use Rattle.std.proofs.Common.{sym, ◌∙◌}
use Rattle.abi_types.specs.Plain.{plain_export}
use Rattle.cert_check.specs.Compatible.{sides}
use Rattle.pair_compare.proofs.certificates_lemmas.BindLemmas.{line_dropped, line_unbound, line_bound}
use Rattle.pair_compare.proofs.certificates.binds.bind_line.Goals as goal

pub returns-then-is_dropped : goal.returns-then-is_dropped
returns-then-is_dropped c = sym (line_dropped (sides c.args.old.now c.args.new.now c.args.marks.now) c.args.k (sym c.is_dropped.ensures ∙ c.if-is_dropped.true))

pub returns-in-None : goal.returns-in-None
returns-in-None c =
    sym (line_unbound (sides c.args.old.now c.args.new.now c.args.marks.now) c.args.k (plain_export c.export_at-export.result.now) c.export_at-export.ensures (sym c.is_dropped.ensures ∙ c.if-is_dropped.false) c.in-None.ensures)

pub returns-in-Some : goal.returns-in-Some
returns-in-Some c =
    sym (line_bound (sides c.args.old.now c.args.new.now c.args.marks.now) c.args.k (plain_export c.export_at-export.result.now) (plain_export c.in-Some.partner.now)
    c.export_at-export.ensures (sym c.is_dropped.ensures ∙ c.if-is_dropped.false) c.in-Some.ensures)
