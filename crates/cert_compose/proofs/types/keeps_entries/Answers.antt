use Rattle.std.proofs.Common.{Some, None, ◌∙◌}
use Rattle.cert_compose.specs.CertifiedChain.{chain_of}
use Rattle.cert_compose.proofs.TestLemmas.{none_first, none_second, all_nodes, views_read}
use Rattle.cert_compose.proofs.types.keeps_entries.Goals as goal

pub returns-in-None : goal.returns-in-None
returns-in-None c = none_first (chain_of c.args.ground.now) c.args.first c.args.middle c.args.last c.in-None.ensures.node

pub returns-in-None-find : goal.returns-in-None-find
returns-in-None-find c = none_second (chain_of c.args.ground.now) c.args.first c.args.middle c.args.last c.in-Some.one c.in-Some.ensures.node c.in-None-find.ensures.node

pub returns-in-None-find-2 : goal.returns-in-None-find-2
returns-in-None-find-2 c =
    all_nodes (chain_of c.args.ground.now) c.args.first c.args.middle c.args.last c.in-Some.one c.in-Some-find.between None c.in-Some.ensures.node c.in-Some-find.ensures.node c.in-None-find-2.ensures.node

pub returns-in-Some-find-2 : goal.returns-in-Some-find-2
returns-in-Some-find-2 c =
    views_read (chain_of c.args.ground.now) c.in-Some.one c.in-Some-find.between c.in-Some-find-2.other c.view_of.result.now c.view_of-in-Some-find-2.result.now c.view_of-in-Some-find-2-2.result.now c.keeps_views.result
    c.keeps_views.ensures c.view_of.ensures c.view_of-in-Some-find-2.ensures c.view_of-in-Some-find-2-2.ensures
    ∙ all_nodes (chain_of c.args.ground.now) c.args.first c.args.middle c.args.last c.in-Some.one c.in-Some-find.between (Some c.in-Some-find-2.other) c.in-Some.ensures.node c.in-Some-find.ensures.node c.in-Some-find-2.ensures.node
