use Rattle.std.proofs.Common.{sym}
use Rattle.cert_check.specs.CertifiedPair.{case_of}
use Rattle.cert_check.proofs.ExportLemmas.{rules_dropped, rules_unbound, rules_bound}
use Rattle.cert_check.proofs.exports.keeps_rules.Goals as goal

pub returns-then-not-is_compared : goal.returns-then-not-is_compared
returns-then-not-is_compared c = rules_dropped (case_of c.args.ground.now) c.args.k (sym c.if-not-is_compared.ensures)

pub returns-in-None : goal.returns-in-None
returns-in-None c = rules_unbound (case_of c.args.ground.now) c.args.k _ c.export_at-export.ensures c.in-None.ensures

pub returns-in-Some : goal.returns-in-Some
returns-in-Some c = rules_bound (case_of c.args.ground.now) c.args.k _ c.export_at-export.ensures (sym c.if-not-is_compared.ensures) _ c.in-Some.ensures c.keeps_export.result c.keeps_export.ensures
