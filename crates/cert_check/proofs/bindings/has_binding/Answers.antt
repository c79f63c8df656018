use Rattle.std.proofs.Common.{sym}
use Rattle.abi_types.specs.Plain.{plain_export}
use Rattle.cert_check.specs.CertifiedPair.{case_of}
use Rattle.cert_check.proofs.Binds.{no_line, no_partner, said_partner}
use Rattle.cert_check.proofs.bindings.has_binding.Goals as goal

pub returns-in-None : goal.returns-in-None
returns-in-None c = no_line (case_of c.args.ground.now) (plain_export c.args.export.now) (sym (rw c.binds_of.ensures.value at c.in-None.ensures))

pub returns-in-None-bound_to : goal.returns-in-None-bound_to
returns-in-None-bound_to c = no_partner (case_of c.args.ground.now) (plain_export c.args.export.now) c.in-None-bound_to.ensures

pub returns-in-Some-bound_to : goal.returns-in-Some-bound_to
returns-in-Some-bound_to c = said_partner (case_of c.args.ground.now) (plain_export c.args.export.now) _ c.in-Some.said c.same_symbol.result (sym (rw c.binds_of.ensures.value at c.in-Some.ensures)) c.in-Some-bound_to.ensures c.same_symbol.ensures
