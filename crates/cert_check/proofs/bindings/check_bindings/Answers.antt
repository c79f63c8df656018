use Rattle.std.proofs.Common.{ap, sym, ℕ}
use Rattle.cert_check.specs.declared.refused.Refused.{Refused}
use Rattle.cert_check.specs.declared.refused.RefusedKind.TheVariants as kind
use Rattle.cert_check.specs.CertifiedPair.{case_of}
use Rattle.cert_check.proofs.Binds.{bindings_kept, bindings_told}
use Rattle.cert_check.proofs.bindings.check_bindings.Goals as goal

pub returns-in-None : goal.returns-in-None
returns-in-None c = bindings_kept (case_of c.args.ground.now) c.first_unbound-unbound.result c.first_unowned-unowned.result c.first_unbound-unbound.ensures c.first_unowned-unowned.ensures (sym c.in-None.ensures)

pub returns-in-Some : goal.returns-in-Some
returns-in-Some c =
    bindings_told (case_of c.args.ground.now) c.first_unbound-unbound.result c.first_unowned-unowned.result c.in-Some.symbol _ c.first_unbound-unbound.ensures c.first_unowned-unowned.ensures (sym c.in-Some.ensures)
    (ap (λ (n : ℕ). let r : Refused = record { kind = kind.Bindings; at = n } in r) c.from.ensures)
