use Rattle.suppression_text.proofs.pattern_set.PatternSet.finder.Goals as goal

pub invariant_of-result : goal.invariant_of-result
invariant_of-result c = rw (c.in_ok-matcher.ensures, ← c.self.view_is) c.self.invariant
