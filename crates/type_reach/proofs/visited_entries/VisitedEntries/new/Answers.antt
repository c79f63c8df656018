use Rattle.std.proofs.Common.{◌≡◌, false, replicate, arith}
use Rattle.type_reach.proofs.MetLemmas.{AreMarked-none}
use Rattle.type_reach.proofs.visited_entries.VisitedEntries.new.Goals as goal

pub invariant_of-result : goal.invariant_of-result
invariant_of-result c =
    let none : c.in_ok-marks.marks.items ≡ replicate c.args.count false = c.in_ok-marks.ensures.items_if_clones_equal (λ y h. h) in
    (rw (none, c.new.ensures.items) (AreMarked-none c.args.count), omega (arith, c.requires, c.in_ok-marks.ensures.len))
