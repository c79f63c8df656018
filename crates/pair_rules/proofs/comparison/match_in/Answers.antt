-- What stands at a part.
use Rattle.pair_rules.proofs.Compared.{match_read, match_unread, compared_match-inside}
use Rattle.pair_rules.proofs.comparison.match_in.Goals as goal

pub returns-in-None-clause-place : goal.returns-in-None-clause-place
returns-in-None-clause-place c = match_unread c.args.old.now c.args.new.now c.args.matches.now c.args.i c.requires.matches c.requires.inside c.in-None.ensures.lookup.0

pub returns-in-Some-clause-place : goal.returns-in-Some-clause-place
returns-in-Some-clause-place c =
    match_read c.args.old.now c.args.new.now c.args.matches.now c.args.i c.in-Some.found.now c.requires.matches c.requires.inside c.in-Some.ensures.lookup.0 c.in-Some.ensures.lookup.1

pub returns-in-Some-clause-inside : goal.returns-in-Some-clause-inside
returns-in-Some-clause-inside c =
    compared_match-inside c.args.old.now c.args.new.now c.args.i c.in-Some.found.now (match_read c.args.old.now c.args.new.now c.args.matches.now c.args.i c.in-Some.found.now c.requires.matches c.requires.inside c.in-Some.ensures.lookup.0 c.in-Some.ensures.lookup.1)
