-- What is made is the certificate, and it is accepted.
use Rattle.std.proofs.Common.{◌<◌, ◌+◌, ◌^◌, [], length, refl, ◌∙◌, ap, arith}
use Rattle.cert_text.specs.Certs.{PlainCert}
use Rattle.cert_check.specs.Compatible.{Sides}
use Rattle.pair_compare.specs.BoundPair.{sides_of}
use Rattle.pair_explorer.specs.Scopes.{Scope}
use Rattle.pair_compare.specs.certificates.Certificates.{AreLibraries, IsCertificateOf}
use Rattle.pair_compare.specs.certificates.Searches.{scope_of}
use Rattle.pair_compare.proofs.certificates_lemmas.CertLemmas.{made_is, libraries_of, marked_alike, compatible_from, cert_kept}
use Rattle.pair_compare.proofs.certificates_lemmas.Weights.{lines_count}
use Rattle.pair_compare.proofs.certificates.making.make_cert.Goals as goal

pub invariant_of-result : goal.invariant_of-result
invariant_of-result c =
    let s : Sides = sides_of c.args.pair.now in
    let cert : PlainCert = record {
      old_digest = c.is_digest-old_digest.result;
      new_digest = c.is_digest-new_digest.result;
      rules_digest = c.is_digest-rules_digest.result;
      binds = c.in_ok-binds.binds;
      alike_old = c.in_ok-alike_old.alike_old;
      alike_new = c.in_ok-alike_new.alike_new;
      pairs = c.in_ok-pairs.pairs;
    } in
    let is : IsCertificateOf s cert =
    made_is c.visits_are_pair_lines.ensures s c.args.old_classes.now c.args.new_classes.now c.args.visits.now c.graph-old_graph.result.now c.graph-new_graph.result.now cert c.graph-old_graph.ensures c.graph-new_graph.ensures c.known-3.ensures c.known-4.ensures c.known-5.ensures c.known-6.ensures
    c.requires.types (record {
      old_digest = c.is_digest-old_digest.ensures.value ∙ c.digest.ensures;
      new_digest = c.is_digest-new_digest.ensures.value ∙ c.digest_beside.ensures;
      rules_digest = c.is_digest-rules_digest.ensures.value;
      binds = c.in_ok-binds.ensures.lines;
      alike_old = c.in_ok-alike_old.ensures.lines;
      alike_new = c.in_ok-alike_new.ensures.lines;
      moved = c.in_ok-pairs.ensures.moved;
      sorted = c.in_ok-pairs.ensures.sorted;
    }) in
    let libraries : AreLibraries s = libraries_of s c.graph-old_graph.result.now c.graph-new_graph.result.now c.known.ensures c.known-2.ensures c.graph-old_graph.ensures c.graph-new_graph.ensures c.known-3.ensures c.known-4.ensures in
    let fits : 5 + length c.in_ok-binds.binds + length c.in_ok-alike_old.alike_old + length c.in_ok-alike_new.alike_new + length c.in_ok-pairs.pairs < 2 ^ 64 =
    omega (arith, c.lines_have_numbers.ensures, ap length c.as_slice.ensures, ap length c.as_slice-2.ensures, ap length c.as_slice-3.ensures, ap length c.as_slice-4.ensures) in
    cert_kept c.lines_stand_in_the_order_of_their_numbers.ensures s cert libraries is
    (record { old = rw c.is_digest-old_digest.ensures.value c.is_digest-old_digest.ensures.is; new = rw c.is_digest-new_digest.ensures.value c.is_digest-new_digest.ensures.is; rules = rw c.is_digest-rules_digest.ensures.value c.is_digest-rules_digest.ensures.is })
    (record { alike_old = c.in_ok-alike_old.ensures.numbers; alike_new = c.in_ok-alike_new.ensures.numbers; pairs = c.in_ok-pairs.ensures.numbers }) fits

pub returns-clause-certificate : goal.returns-clause-certificate
returns-clause-certificate c =
    let s : Sides = sides_of c.args.pair.now in
    let cert : PlainCert = record {
      old_digest = c.is_digest-old_digest.result;
      new_digest = c.is_digest-new_digest.result;
      rules_digest = c.is_digest-rules_digest.result;
      binds = c.in_ok-binds.binds;
      alike_old = c.in_ok-alike_old.alike_old;
      alike_new = c.in_ok-alike_new.alike_new;
      pairs = c.in_ok-pairs.pairs;
    } in
    let is : IsCertificateOf s cert =
    made_is c.visits_are_pair_lines.ensures s c.args.old_classes.now c.args.new_classes.now c.args.visits.now c.graph-old_graph.result.now c.graph-new_graph.result.now cert c.graph-old_graph.ensures c.graph-new_graph.ensures c.known-3.ensures c.known-4.ensures c.known-5.ensures c.known-6.ensures
    c.requires.types (record {
      old_digest = c.is_digest-old_digest.ensures.value ∙ c.digest.ensures;
      new_digest = c.is_digest-new_digest.ensures.value ∙ c.digest_beside.ensures;
      rules_digest = c.is_digest-rules_digest.ensures.value;
      binds = c.in_ok-binds.ensures.lines;
      alike_old = c.in_ok-alike_old.ensures.lines;
      alike_new = c.in_ok-alike_new.ensures.lines;
      moved = c.in_ok-pairs.ensures.moved;
      sorted = c.in_ok-pairs.ensures.sorted;
    }) in
    is

pub returns-clause-accepted : goal.returns-clause-accepted
returns-clause-accepted c =
    let s : Sides = sides_of c.args.pair.now in
    let cert : PlainCert = record {
      old_digest = c.is_digest-old_digest.result;
      new_digest = c.is_digest-new_digest.result;
      rules_digest = c.is_digest-rules_digest.result;
      binds = c.in_ok-binds.binds;
      alike_old = c.in_ok-alike_old.alike_old;
      alike_new = c.in_ok-alike_new.alike_new;
      pairs = c.in_ok-pairs.pairs;
    } in
    let is : IsCertificateOf s cert =
    made_is c.visits_are_pair_lines.ensures s c.args.old_classes.now c.args.new_classes.now c.args.visits.now c.graph-old_graph.result.now c.graph-new_graph.result.now cert c.graph-old_graph.ensures c.graph-new_graph.ensures c.known-3.ensures c.known-4.ensures c.known-5.ensures c.known-6.ensures
    c.requires.types (record {
      old_digest = c.is_digest-old_digest.ensures.value ∙ c.digest.ensures;
      new_digest = c.is_digest-new_digest.ensures.value ∙ c.digest_beside.ensures;
      rules_digest = c.is_digest-rules_digest.ensures.value;
      binds = c.in_ok-binds.ensures.lines;
      alike_old = c.in_ok-alike_old.ensures.lines;
      alike_new = c.in_ok-alike_new.ensures.lines;
      moved = c.in_ok-pairs.ensures.moved;
      sorted = c.in_ok-pairs.ensures.sorted;
    }) in
    let libraries : AreLibraries s = libraries_of s c.graph-old_graph.result.now c.graph-new_graph.result.now c.known.ensures c.known-2.ensures c.graph-old_graph.ensures c.graph-new_graph.ensures c.known-3.ensures c.known-4.ensures in
    let scope : Scope = scope_of s c.args.old_classes.now c.args.new_classes.now in
    let types = (c.no_break_is_compatible.ensures scope c.args.visits.now [] (record { scope = c.requires.types.scope; old = c.known-5.ensures; new = c.known-6.ensures }) c.requires.types.exploration).0 refl in
    c.the_certificate_of_the_compatible_is_accepted.ensures s cert libraries (marked_alike s c.args.old_classes.now c.args.new_classes.now c.args.visits.now c.requires.types)
    (compatible_from s c.args.old_classes.now c.args.new_classes.now c.args.visits.now c.requires.types c.requires.exports types) is

pub returns-clause-count : goal.returns-clause-count
returns-clause-count c =
    let s : Sides = sides_of c.args.pair.now in
    lines_count s c.args.visits.now c.in_ok-pairs.pairs (rw (c.graph-old_graph.ensures) at c.known-3.ensures) (rw (c.graph-new_graph.ensures) at c.known-4.ensures) c.requires.types.exploration.inside
    (rw (c.graph-old_graph.ensures, c.graph-new_graph.ensures) at c.in_ok-pairs.ensures.moved)
