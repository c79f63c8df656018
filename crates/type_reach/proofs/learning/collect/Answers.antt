use Rattle.std.proofs.Common.{◌≡◌, ℕ, Some, arith, subst}
use Rattle.std.specs.Prelude.{IfSome}
use Rattle.type_reach.specs.Facts.{facts_of}
use Rattle.type_reach.proofs.LearnLemmas.{map-step, AreAllFacts-end}
use Rattle.type_reach.proofs.learning.collect.Goals as goal

pub found-preserved : goal.found-preserved
found-preserved c =
    let d = c.args.types.now.dwarf.now in
    let is = subst (λ o. IfSome o (λ x. x ≡ facts_of d (Some c.at-e.result))) c.in-Some.is c.in_ok-one.ensures.facts in
    record {
      known = c.in_ok-one.ensures.known;
      len = c.in_ok-one.ensures.len;
      facts = map-step (λ (e : ℕ). facts_of d (Some e)) c.args.types.now.found.now c.push.new.self.items c.found.facts.items c.found.number c.at-e.result c.in-Some.one c.found.invariant.facts c.at-e.ensures is c.in_ok-push-in-Some.ensures.items;
    }

pub returns-clause-facts : goal.returns-clause-facts
returns-clause-facts c =
    AreAllFacts-end c.args.types.now.dwarf.now c.args.types.now.found.now c.found.facts.items c.found.number (omega (arith, c.found-test.false, c.len-number-end.ensures)) c.found.invariant.facts c.requires.shallow
