-- The tags so far.
use Rattle.std.proofs.Common.{◌-◌, ◌≤◌, length, map}
use Rattle.std.specs.List.{AllPairs}
use Rattle.library_layout.specs.Structures.{AreTagsIn, IsAsNear}
use Rattle.library_layout.proofs.NearLemmas.{AreNearer}
use Rattle.library_layout.proofs.near.near_in.Given as goal

abbrev pub invariant-near : goal.invariant-near
invariant-near g l = record {
  few : length l.tags.items ≤ 5;
  tags : AreTagsIn l.graph (map (λ t. t.now) l.tags.items);
  ordered : AllPairs (IsAsNear l.tag) (map (λ t. t.now) l.tags.items);
  nearer : AreNearer l.graph l.tag (map (λ t. t.now) l.tags.items);
}

abbrev pub decreases-near : goal.decreases-near
decreases-near g l = 5 - length l.tags.items
