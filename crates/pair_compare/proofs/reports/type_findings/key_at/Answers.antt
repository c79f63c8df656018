-- The key is that of what the break tells.
use Rattle.std.proofs.Common.{◌∙◌, ap, List}
use Rattle.abi_types.specs.Graphs.{view_at}
use Rattle.abi_types.specs.Types.{PlainNode}
use Rattle.cert_check.specs.Compatible.{task_of}
use Rattle.pair_compare.specs.BoundPair.{sides_of}
use Rattle.pair_compare.proofs.reports_lemmas.ToldLemmas.{key_is}
use Rattle.pair_compare.proofs.reports.type_findings.key_at.Goals as goal

pub returns-clause-key : goal.returns-clause-key
returns-clause-key c =
    key_is (task_of (sides_of c.args.ground.now)) c.args.visits.now (c.args.number, c.args.broken.now) c.visit-visit.result c.place-place.result c.number.result c.number-2.result c.in_ok-text.text.items c.view-old.result.now c.view-new.result.now
    c.visit-visit.ensures c.place-place.ensures c.number.ensures c.number-2.ensures (c.view-old.ensures ∙ ap (λ (g : List PlainNode). view_at g c.visit-visit.result.old) c.graph.ensures)
    (c.view-new.ensures ∙ ap (λ (g : List PlainNode). view_at g c.visit-visit.result.new) c.graph-2.ensures) c.in_ok-text.ensures.text
