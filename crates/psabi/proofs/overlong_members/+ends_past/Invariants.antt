-- The rank falls, and no part so far ends past.
use Rattle.std.proofs.Common.{◌≡◌, take, false}
use Rattle.std.specs.List.{list_any}
use Rattle.abi_types.specs.Graphs.{node_at}
use Rattle.psabi.specs.Found.{IsRight}
use Rattle.psabi.specs.Past.{part_past, ends_past}
use Rattle.psabi.proofs.overlong_members.+ends_past.Given as goal

abbrev pub decreases-ends_past : goal.decreases-ends_past
decreases-ends_past g l = (node_at l.graph.now (g.Ix.Index.number_of l.ix)).rank

abbrev pub invariant-loop-k : goal.invariant-loop-k
invariant-loop-k g l = record {
  none : list_any (part_past l.graph (ends_past l.graph) l.view) (take l.k l.view.parts) ≡ false;
  right : IsRight l.graph l.found;
}
