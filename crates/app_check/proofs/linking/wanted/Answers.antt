use Rattle.app_check.proofs.LinksLemmas.{wanted_more}
use Rattle.app_check.proofs.linking.wanted.Goals as goal

pub loop-import-preserved : goal.loop-import-preserved
loop-import-preserved c =
    wanted_more c.args.imports.now c.loop-import.import-index _ c.loop-import-test.true c.loop-import.wanted.items c.push.new.self.items c.wanted_by.result c.wanted_by.ensures c.in_ok-push.ensures.items c.loop-import.invariant
