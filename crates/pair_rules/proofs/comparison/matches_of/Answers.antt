-- One match more.
use Rattle.std.proofs.Common.{sym, ◌∙◌, ap, ◌≡◌, length, arith}
use Rattle.std.specs.List.{range_with_len}
use Rattle.pair_rules.specs.Matching.{match_of}
use Rattle.pair_rules.proofs.Ranges.{map-more}
use Rattle.pair_rules.proofs.Compared.{matches-compared, matches-uncompared}
use Rattle.pair_rules.proofs.comparison.matches_of.Goals as goal

pub returns-then-not-are_compared-clause-matches : goal.returns-then-not-are_compared-clause-matches
returns-then-not-are_compared-clause-matches c = c.new-list.ensures ∙ sym (matches-uncompared c.args.old.now c.args.new.now (sym c.are_compared.ensures ∙ c.if-not-are_compared.true))

pub walk-preserved : goal.walk-preserved
walk-preserved c =
    map-more (match_of c.args.old.now c.args.new.now) c.walk.i c.walk.list c.push.new.self c.match_of.result c.walk.invariant c.in_ok-push.ensures.ok c.match_of.ensures.place

pub returns-clause-matches : goal.returns-clause-matches
returns-clause-matches c =
    let all : c.walk.i ≡ length c.args.old.now.parts = omega arith in
    rw all at c.walk.invariant ∙ sym (matches-compared c.args.old.now c.args.new.now (sym c.are_compared.ensures ∙ c.if-not-are_compared.false))
