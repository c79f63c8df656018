use Rattle.std.proofs.Common.{sym}
use Rattle.cert_check.specs.CertifiedPair.{case_of}
use Rattle.cert_check.proofs.ExportLemmas.{root_dropped, root_unbound, root_untyped_old, root_untyped_new, root_bound}
use Rattle.cert_check.proofs.exports.keeps_root.Goals as goal

pub returns-then-not-is_compared : goal.returns-then-not-is_compared
returns-then-not-is_compared c = root_dropped (case_of c.args.ground.now) c.args.k (sym c.if-not-is_compared.ensures)

pub returns-in-None : goal.returns-in-None
returns-in-None c = root_unbound (case_of c.args.ground.now) c.args.k _ c.export_at-export.ensures c.in-None.ensures

pub returns-then-not-is_typed : goal.returns-then-not-is_typed
returns-then-not-is_typed c = root_untyped_old (case_of c.args.ground.now) c.args.k _ c.export_at-export.ensures (sym c.if-not-is_compared.ensures) _ c.in-Some.ensures (sym c.if-not-is_typed.ensures)

pub returns-then-not-is_typed-2 : goal.returns-then-not-is_typed-2
returns-then-not-is_typed-2 c = root_untyped_new (case_of c.args.ground.now) c.args.k _ c.export_at-export.ensures (sym c.if-not-is_compared.ensures) _ c.in-Some.ensures (sym c.if-not-is_typed.ensures) (sym c.if-not-is_typed-2.ensures)

pub returns : goal.returns
returns c = root_bound (case_of c.args.ground.now) c.args.k _ c.export_at-export.ensures (sym c.if-not-is_compared.ensures) _ c.in-Some.ensures c.has_root_line.result (sym c.if-not-is_typed.ensures) (sym c.if-not-is_typed-2.ensures) c.has_root_line.ensures
