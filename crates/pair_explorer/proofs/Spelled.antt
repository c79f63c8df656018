-- The path that the parents spell.
use Rattle.std.proofs.Common.{◌≡◌, ◌<◌, ℕ, zero, suc, List, Some, slice_get, refl, arith}
use Rattle.pair_explorer.specs.declared.visits.Parent.{Parent}
use Rattle.pair_explorer.specs.declared.visits.Parent.TheVariants.{Root, Step}
use Rattle.pair_explorer.specs.declared.visits.Visit.{Visit}
use Rattle.pair_explorer.specs.Visits.{Along, AreEarlier, IsEarlier}
use Rattle.pair_explorer.specs.Routes.{path_by, path_within, path_at}
use Rattle.std.proofs.lemmas.Option.{slice_get_within}
use Rattle.abi_base.proofs.lemmas.Lists.{at_below}

along_within : (visits : List Visit) → AreEarlier visits → (depth n : ℕ) (v : Visit) → n < depth → slice_get visits n ≡ Some v → Along visits n (path_within depth visits n)
unfolding path_within
along_within visits earlier zero n v lt at = absurd (omega arith)
along_within visits earlier (suc depth) n v lt at = rw at (go v.parent refl (earlier n v at) (λ m u below at_m. along_within visits earlier depth m u (omega arith) at_m)) where
  go : (parent : Parent) → v.parent ≡ parent → IsEarlier n parent → ((m : ℕ) (u : Visit) → m < n → slice_get visits m ≡ Some u → Along visits m (path_within depth visits m)) → Along visits n (path_by (path_within depth visits) (Some v))
  go (Root export) is below before = rw is (v, at, is)
  go (Step pair part) is below before =
      let u = at_below visits pair (omega (arith, slice_get_within visits n v at, below)) in
      rw is (pair, v, at, is, before pair u.0 below u.1)

pub along_path : (visits : List Visit) → AreEarlier visits → (n : ℕ) (v : Visit) → slice_get visits n ≡ Some v → Along visits n (path_at visits n)
along_path visits earlier n v at = along_within visits earlier (suc n) n v (omega arith) at
