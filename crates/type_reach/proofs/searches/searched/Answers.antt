use Rattle.std.proofs.Common.{sym}
use Rattle.type_reach.proofs.SearchLemmas.{found-at, found-nowhere, searchable}
use Rattle.type_reach.proofs.searches.searched.Goals as goal

pub returns-in-Ok : goal.returns-in-Ok
returns-in-Ok c = sym (found-at c.args.entries.now c.requires c.args.e c.in-Ok.place c.in-Ok.ensures.bound c.in-Ok.ensures.position)

pub returns-in-Err : goal.returns-in-Err
returns-in-Err c = sym (found-nowhere c.args.entries.now c.requires c.args.e c.in-Err.field-0 (c.in-Err.ensures.position (searchable c.args.entries.now c.requires c.args.e)))
