-- Search trees from names to places: no choice of names makes a look-up long.
use Rattle.std.specs.Prelude.{ℕ, List, Option}
use Rattle.std.specs.Borrow.{Bor}
use Rattle.std.specs.BTreeMap.{BTreeMap, get_by}
use Rattle.std.specs.Cmp.Lexicographic.{slice_cmp}
use Rattle.std.specs.Ordering.{nat_cmp}

abbrev pub Places : Type 0
Places = BTreeMap (Bor (List ℕ)) ℕ

abbrev pub place_under : Places → List ℕ → Option ℕ
place_under places name = get_by (λ k. slice_cmp nat_cmp name k.now) places
