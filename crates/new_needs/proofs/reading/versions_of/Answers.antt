use Rattle.elf_needs.specs.Plain.{plain_need}
use Rattle.new_needs.specs.Needs.{version_needed}
use Rattle.new_needs.proofs.ReadLemmas.{mapped_more}
use Rattle.new_needs.proofs.reading.versions_of.Goals as goal

pub loop-need-preserved : goal.loop-need-preserved
loop-need-preserved c =
    mapped_more plain_need version_needed c.args.needs.now c.loop-need.need-index _ c.loop-need.needed.items c.push.new.self.items c.version_of.result c.loop-need-test.true
    c.loop-need.invariant c.version_of.ensures c.in_ok-push.ensures.items
