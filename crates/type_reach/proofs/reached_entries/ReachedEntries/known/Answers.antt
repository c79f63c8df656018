use Rattle.std.proofs.Common.{subst}
use Rattle.std.specs.Prelude.{nat_eq}
use Rattle.std.specs.List.{IsDistinct}
use Rattle.type_reach.proofs.SearchLemmas.{once}
use Rattle.type_reach.proofs.reached_entries.ReachedEntries.known.Goals as goal

pub returns : goal.returns
returns c = subst (IsDistinct nat_eq) c.self.view_is (once c.self.inside.entries.items c.self.invariant)
