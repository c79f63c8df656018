use Rattle.std.proofs.Common.{◌+◌, sym, subst}
use Rattle.type_reach.proofs.NearLemmas.{NearLow, NearHigh, passed-low, passed-high}
use Rattle.type_reach.proofs.facts.combine.Goals as goal

pub returns-clause-near : goal.returns-clause-near
returns-clause-near c =
    let rank = c.above-rank.result in
    let own = c.member_totals_of-held.result.span in
    record {
      low = subst (NearLow (rank + 1)) (sym c.flat_span.ensures) (passed-low c.role_of-role.result rank c.args.facts.now own c.requires.near c.above-rank.ensures.each c.member_totals_of-held.ensures.low);
      high = subst (NearHigh (rank + 1)) (sym c.flat_span.ensures) (passed-high c.role_of-role.result rank c.args.facts.now own c.requires.near c.above-rank.ensures.each c.member_totals_of-held.ensures.high);
    }
