use Rattle.std.proofs.Common.{subst, sym, arith, ◌<◌, ◌^◌, length}
use Rattle.cert_text.specs.declared.line.Version.TheVariants.{One}
use Rattle.cert_text.specs.Certs.{PlainCert, line_count}
use Rattle.cert_text.specs.Grammar.{IsSpelledIn}
use Rattle.cert_text.proofs.FirstLemmas.{first_kept, first_spelled, IsRoomy}
use Rattle.cert_text.proofs.first.read_cert_1.Goals as goal

pub invariant_of-result : goal.invariant_of-result
invariant_of-result c =
    let short : length c.args.bytes.now < 2 ^ 63 = omega arith in
    first_kept _ c.args.bytes.now c.in_ok-pairs.pairs (subst (IsSpelledIn One c.args.bytes.now) (sym c.binds.view_is) c.in_ok-old_digest.ensures.spelled) (subst (IsRoomy c.args.bytes.now) (sym c.binds.view_is) c.in_ok-old_digest.ensures.room) short (rw c.as_slice.ensures at c.in_ok-pairs.ensures.plain)

pub returns-clause-spelled : goal.returns-clause-spelled
returns-clause-spelled c =
    let short : length c.args.bytes.now < 2 ^ 63 = omega arith in
    first_spelled _ c.args.bytes.now c.in_ok-pairs.pairs (subst (IsSpelledIn One c.args.bytes.now) (sym c.binds.view_is) c.in_ok-old_digest.ensures.spelled) (subst (IsRoomy c.args.bytes.now) (sym c.binds.view_is) c.in_ok-old_digest.ensures.room) short (rw c.as_slice.ensures at c.in_ok-pairs.ensures.plain)
