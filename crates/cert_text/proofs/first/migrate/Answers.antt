use Rattle.cert_text.proofs.MigrateLemmas.{migrated_as}
use Rattle.cert_text.proofs.first.migrate.Goals as goal

pub invariant_of-result : goal.invariant_of-result
invariant_of-result c =
    migrated_as _ _ _ _ _ c.cert.invariant (rw c.as_slice.ensures at c.in_ok-binds.ensures.copied) (rw c.as_slice-2.ensures at c.in_ok-alike_old.ensures.copied) (rw c.as_slice-3.ensures at c.in_ok-alike_new.ensures.copied) (rw c.as_slice-4.ensures at c.in_ok-pairs.ensures.both)
