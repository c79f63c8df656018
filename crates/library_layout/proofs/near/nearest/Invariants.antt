-- What was found so far.
use Rattle.std.proofs.Common.{◌≡◌, map}
use Rattle.std.specs.Option.{ForSome}
use Rattle.library_layout.specs.Structures.{IsLeftOut, distance}
use Rattle.library_layout.proofs.NearLemmas.{IsLeast}
use Rattle.library_layout.proofs.near.nearest.Given as goal

abbrev pub invariant-loop-number : goal.invariant-loop-number
invariant-loop-number g l = record {
  new : ForSome l.found (λ near. IsLeftOut l.graph (map (λ t. t.now) l.tags) near.tag.now);
  measured : ForSome l.found (λ near. near.edits ≡ distance near.tag.now l.tag);
  least : IsLeast l.graph l.tag (map (λ t. t.now) l.tags) l.number l.found;
}
