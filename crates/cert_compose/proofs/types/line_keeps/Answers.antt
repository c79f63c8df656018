use Rattle.std.proofs.Common.{List, ◌++◌, ◌∙◌, ap}
use Rattle.cert_text.specs.Certs.{PairLine}
use Rattle.cert_compose.specs.CertifiedChain.{chain_of}
use Rattle.cert_compose.specs.Joins.{through}
use Rattle.cert_compose.proofs.TestLemmas.{unowned, owned}
use Rattle.cert_compose.proofs.types.line_keeps.Goals as goal

pub returns-in-Some-clause-keeps : goal.returns-in-Some-clause-keeps
returns-in-Some-clause-keeps c = unowned (chain_of c.args.ground.now) c.args.middles.now c.args.line c.alike_old_of.result.now c.in-Some.field-0 c.alike_old_of.ensures.value c.in-Some.ensures

pub returns-clause-keeps : goal.returns-clause-keeps
returns-clause-keeps c =
    owned (chain_of c.args.ground.now) c.args.middles.now c.args.line c.alike_old_of.result.now c.alike_new_of-alike.result.now c.pairs_of-seconds.result.now c.as_slice.result.now c.all_keep.result
    c.alike_old_of.ensures.value c.in-None.ensures c.alike_new_of-alike.ensures.value c.pairs_of-seconds.ensures.value
    (c.as_slice.ensures ∙ c.in_ok-through.ensures.appended
    ∙ ap (λ (ls : List PairLine). ls ++ through c.alike_new_of-alike.result.now c.pairs_of-seconds.result.now c.args.middles.now c.args.line.0 c.args.line.1 c.args.line.2) c.new-lines.ensures)
    c.all_keep.ensures
