use Rattle.std.proofs.Common.{ap, ℕ}
use Rattle.cert_check.specs.declared.refused.Refused.{Refused}
use Rattle.cert_check.specs.declared.refused.RefusedKind.TheVariants as kind
use Rattle.cert_check.specs.Accepted.{Rules as the_place}
use Rattle.cert_check.specs.CertifiedPair.{case_of}
use Rattle.cert_check.proofs.FindLemmas.{each_kept, each_told}
use Rattle.cert_check.proofs.exports.check_rules.Goals as goal

pub returns-in-None : goal.returns-in-None
returns-in-None c = each_kept (case_of c.args.ground.now) the_place _ c.in-None.ensures

pub returns-in-Some : goal.returns-in-Some
returns-in-Some c = each_told (case_of c.args.ground.now) the_place _ c.in-Some.k _ c.in-Some.ensures (ap (λ (n : ℕ). let r : Refused = record { kind = kind.ExportRule; at = n } in r) c.symbol_at.ensures)
