-- What a list contains stands at one of its places, and what stands in an image comes from the same place.
use Rattle.std.proofs.Common.{◌≡◌, ℕ, List, slice_get, Some}

-- an item whose image stands at a place
pub record IsMapped {X Y : Type 0} (f : X → Y) (xs : List X) (k : ℕ) (y : Y) : Type 0 where
  pub item : X
  pub at : slice_get xs k ≡ Some item
  pub is : f item ≡ y
