use Rattle.std.proofs.Common.{ap, ℕ}
use Rattle.cert_check.specs.declared.refused.Refused.{Refused}
use Rattle.cert_check.specs.declared.refused.RefusedKind.TheVariants as kind
use Rattle.cert_check.specs.Accepted.{AlikeOld}
use Rattle.cert_check.specs.CertifiedPair.{case_of}
use Rattle.cert_check.proofs.FindLemmas.{each_kept, each_told}
use Rattle.cert_check.proofs.alike.check_alike_lines_of_old.Goals as goal

pub returns-in-None : goal.returns-in-None
returns-in-None c = each_kept (case_of c.args.ground.now) AlikeOld _ (rw c.alike_old_of.ensures.value at c.in-None.ensures)

pub old_line-requires : goal.old_line-requires
old_line-requires c = (rw c.alike_old_of.ensures.value at c.in-Some.ensures).inside

pub returns-in-Some : goal.returns-in-Some
returns-in-Some c =
    each_told (case_of c.args.ground.now) AlikeOld _ c.in-Some.k _ (rw c.alike_old_of.ensures.value at c.in-Some.ensures)
    (ap (λ (n : ℕ). let r : Refused = record { kind = kind.Alike; at = n } in r) c.old_line.ensures)
