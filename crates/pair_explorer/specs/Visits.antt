-- Triples that were reached, each with what led to it.
use Rattle.std.specs.Prelude.{◌≡◌, ◌<◌, ◌==◌, ◌&&◌, ℕ, Bool, List, Some, slice_get}
use Rattle.std.specs.Bool.{beq}
use Rattle.std.specs.List.{list_any}
use Rattle.abi_types.specs.declared.kind.Way.{Way}
use Rattle.pair_rules.specs.Steps.{Triple, is_pointer}
use Rattle.pair_rules.specs.Paths.{Path, From, Then}
use Rattle.pair_explorer.specs.declared.visits.Parent.{Parent}
use Rattle.pair_explorer.specs.declared.visits.Parent.TheVariants.{Root, Step}
use Rattle.pair_explorer.specs.declared.visits.Visit.{Visit}

-- the triple of a visit
abbrev pub seen : Visit → Triple
seen v = record { old = v.old; new = v.new; way = v.way }

abbrev pub same_way : Way → Way → Bool
same_way a b = beq (is_pointer a) (is_pointer b)

abbrev pub same_triple : Triple → Triple → Bool
same_triple x y = x.old == y.old && x.new == y.new && same_way x.way y.way

-- whether the triple was visited
unfoldable pub has : List Visit → Triple → Bool
has visits x = list_any (λ v. same_triple x (seen v)) visits

-- the visit with this number is of the triple
pub record IsVisit (visits : List Visit) (x : Triple) : Type 0 where
  pub number : ℕ
  pub visit : Visit
  pub at : slice_get visits number ≡ Some visit
  pub is : seen visit ≡ x

-- the parents of the visit spell this path
abbrev pub Along : List Visit → ℕ → Path → Type 0
Along visits n (From export) = (v : Visit) × (slice_get visits n ≡ Some v) × (v.parent ≡ Root export)
Along visits n (Then path part) = (m : ℕ) × (v : Visit) × (slice_get visits n ≡ Some v) × (v.parent ≡ Step m part) × Along visits m path

abbrev pub IsEarlier : ℕ → Parent → Type 0
IsEarlier n (Root export) = Unit {0}
IsEarlier n (Step m part) = m < n

-- what led to a visit stands before it
abbrev pub AreEarlier : List Visit → Type 0
AreEarlier visits = (n : ℕ) (v : Visit) → slice_get visits n ≡ Some v → IsEarlier n v.parent
