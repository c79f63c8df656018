use Rattle.std.proofs.Common.{length, sym, ◌∙◌}
use Rattle.std.proofs.lemmas.Bool.{eqb-true, ltb-true}
use Rattle.type_reach.proofs.SearchLemmas.{place-is}
use Rattle.type_reach.proofs.searches.hinted.Goals as goal

pub returns-then-eq : goal.returns-then-eq
returns-then-eq c =
    place-is c.args.entries.now c.requires c.args.e c.near.place c.in-Some.entry.now
    (ltb-true c.near.place (length c.args.entries.now) (sym c.in-Some.ensures.lookup.0)) (sym c.in-Some.ensures.lookup.1 ∙ eqb-true c.in-Some.entry.now c.args.e (sym c.eq.ensures ∙ c.if-eq.true))
