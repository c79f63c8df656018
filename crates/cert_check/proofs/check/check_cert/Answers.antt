-- An accepted certificate is a proof, and what it proves is that accesses agree.
use Rattle.std.proofs.Common.{subst}
use Rattle.abi_types.specs.Graphs.{IsGraph}
use Rattle.cert_check.specs.Accepted.{asked}
use Rattle.cert_check.proofs.Agreeing.{settled_agrees}
use Rattle.cert_check.proofs.check.check_cert.Goals as goal

pub returns-clause-agreed : goal.returns-clause-agreed
returns-clause-agreed c =
    settled_agrees c.an_accepted_certificate_is_a_proof.ensures c.compatible_is_that_accesses_agree.ensures.exact (asked c.args.old.now c.args.new.now c.args.marks.now c.args.cert.now)
    (record {
      old = record { library = c.known.ensures; graph = subst IsGraph c.graph.ensures c.known-3.ensures };
      new = record { library = c.known-2.ensures; graph = subst IsGraph c.graph-2.ensures c.known-4.ensures };
    }) c.check_conditions.result c.check_conditions.ensures
