use Rattle.std.proofs.Common.{List, ℕ}
use Rattle.std.specs.Borrow.{Bor}
use Rattle.new_needs.specs.Needs.{file_needed}
use Rattle.new_needs.proofs.ReadLemmas.{mapped_more}
use Rattle.new_needs.proofs.reading.files_of.Goals as goal

pub loop-name-preserved : goal.loop-name-preserved
loop-name-preserved c =
    mapped_more (λ (name : Bor (List ℕ)). name.now) file_needed c.args.names.now c.loop-name.name-index _ c.loop-name.needed.items c.push.new.self.items c.file_of.result c.loop-name-test.true
    c.loop-name.invariant c.file_of.ensures c.in_ok-push.ensures.items
