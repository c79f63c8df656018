use Rattle.std.proofs.Common.{ℕ, List, length, refl, ◌∙◌, ap, subst, arith}
use Rattle.std.specs.Prelude.{◌↔◌}
use Rattle.std.specs.List.{Contains}
use Rattle.cert_text.specs.Certs.{PlainCert, PairLine}
use Rattle.cert_compose.specs.Composed.{IsComposed}
use Rattle.cert_compose.specs.CertifiedChain.{chain_of}
use Rattle.cert_compose.proofs.LineLemmas.{LineLaws}
use Rattle.cert_compose.proofs.MadeLemmas.{made, binds_read, joins_read}
use Rattle.cert_compose.proofs.composing.composed.Goals as goal

pub returns-clause-composed : goal.returns-clause-composed
returns-clause-composed c =
    let ch = chain_of c.args.ground.now in
    let look_ups : LineLaws = record { found = c.lines_are_found_where_they_stand.ensures.found; missing = c.lines_are_found_where_they_stand.ensures.missing; pairs = c.lines_are_found_where_they_stand.ensures.pairs } in
    let cert : PlainCert = record {
      old_digest = c.one.inside.old_digest;
      new_digest = c.other.inside.new_digest;
      rules_digest = c.one.inside.rules_digest;
      binds = c.in_ok-binds.binds;
      alike_old = c.in_ok-alike_old.alike_old;
      alike_new = c.in_ok-alike_new.alike_new;
      pairs = c.in_ok-pairs.pairs;
    } in
    made c.lines_stand_in_the_order_of_their_numbers.ensures look_ups c.what_is_accepted_keeps_all.ensures ch c.requires.chain refl c.args.middles.now c.requires.exact cert
    (ap (λ (x : PlainCert). x.old_digest) c.one.view_is) (ap (λ (x : PlainCert). x.new_digest) c.other.view_is) (ap (λ (x : PlainCert). x.rules_digest) c.one.view_is)
    (c.in_ok-binds.ensures.bound ∙ binds_read c.binds_of.result.now c.binds_of-2.result.now ch.one.binds ch.other.binds c.binds_of.ensures.value c.binds_of-2.ensures.value)
    (c.in_ok-alike_old.ensures.copied ∙ c.alike_old_of.ensures.value) (c.in_ok-alike_new.ensures.copied ∙ c.alike_new_of.ensures.value) c.in_ok-pairs.ensures.ascend
    (λ line. subst (λ (l : List PairLine). Contains c.in_ok-pairs.pairs line ↔ Contains l line)
    (joins_read c.alike_old_of-2.result.now c.alike_new_of-2.result.now c.args.middles.now ch.one.alike_old ch.other.alike_new c.pairs_of-2.result.now c.pairs_of.result.now ch.other.pairs ch.one.pairs
    c.alike_old_of-2.ensures.value c.alike_new_of-2.ensures.value c.pairs_of-2.ensures.value c.pairs_of.ensures.value) (c.in_ok-pairs.ensures.exact line))
    (omega (arith, c.lines_have_numbers.ensures, ap (λ (l : List (ℕ × ℕ)). length l) c.as_slice.ensures, ap (λ (l : List (ℕ × ℕ)). length l) c.as_slice-2.ensures, ap (λ (l : List (ℕ × ℕ)). length l) c.as_slice-3.ensures, ap (λ (l : List PairLine). length l) c.as_slice-4.ensures))

pub invariant_of-result : goal.invariant_of-result
invariant_of-result c =
    let cert : PlainCert = record {
      old_digest = c.one.inside.old_digest;
      new_digest = c.other.inside.new_digest;
      rules_digest = c.one.inside.rules_digest;
      binds = c.in_ok-binds.binds;
      alike_old = c.in_ok-alike_old.alike_old;
      alike_new = c.in_ok-alike_new.alike_new;
      pairs = c.in_ok-pairs.pairs;
    } in
    let whole : IsComposed (chain_of c.args.ground.now) cert =
    let ch = chain_of c.args.ground.now in
    let look_ups : LineLaws = record { found = c.lines_are_found_where_they_stand.ensures.found; missing = c.lines_are_found_where_they_stand.ensures.missing; pairs = c.lines_are_found_where_they_stand.ensures.pairs } in
    let cert : PlainCert = record {
      old_digest = c.one.inside.old_digest;
      new_digest = c.other.inside.new_digest;
      rules_digest = c.one.inside.rules_digest;
      binds = c.in_ok-binds.binds;
      alike_old = c.in_ok-alike_old.alike_old;
      alike_new = c.in_ok-alike_new.alike_new;
      pairs = c.in_ok-pairs.pairs;
    } in
    made c.lines_stand_in_the_order_of_their_numbers.ensures look_ups c.what_is_accepted_keeps_all.ensures ch c.requires.chain refl c.args.middles.now c.requires.exact cert
    (ap (λ (x : PlainCert). x.old_digest) c.one.view_is) (ap (λ (x : PlainCert). x.new_digest) c.other.view_is) (ap (λ (x : PlainCert). x.rules_digest) c.one.view_is)
    (c.in_ok-binds.ensures.bound ∙ binds_read c.binds_of.result.now c.binds_of-2.result.now ch.one.binds ch.other.binds c.binds_of.ensures.value c.binds_of-2.ensures.value)
    (c.in_ok-alike_old.ensures.copied ∙ c.alike_old_of.ensures.value) (c.in_ok-alike_new.ensures.copied ∙ c.alike_new_of.ensures.value) c.in_ok-pairs.ensures.ascend
    (λ line. subst (λ (l : List PairLine). Contains c.in_ok-pairs.pairs line ↔ Contains l line)
    (joins_read c.alike_old_of-2.result.now c.alike_new_of-2.result.now c.args.middles.now ch.one.alike_old ch.other.alike_new c.pairs_of-2.result.now c.pairs_of.result.now ch.other.pairs ch.one.pairs
    c.alike_old_of-2.ensures.value c.alike_new_of-2.ensures.value c.pairs_of-2.ensures.value c.pairs_of.ensures.value) (c.in_ok-pairs.ensures.exact line))
    (omega (arith, c.lines_have_numbers.ensures, ap (λ (l : List (ℕ × ℕ)). length l) c.as_slice.ensures, ap (λ (l : List (ℕ × ℕ)). length l) c.as_slice-2.ensures, ap (λ (l : List (ℕ × ℕ)). length l) c.as_slice-3.ensures, ap (λ (l : List PairLine). length l) c.as_slice-4.ensures)) in
    whole.cert
