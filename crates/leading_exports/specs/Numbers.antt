-- The number of a visit, by its triple.
use Rattle.std.specs.Prelude.{◌≡◌, ◌<◌, ℕ, Bool, true, false, List, length, Option, Some, slice_get}
use Rattle.std.specs.Map.{lookup}
use Rattle.abi_types.specs.declared.kind.Way.{Way}
use Rattle.abi_types.specs.declared.kind.Way.TheVariants.{Direct, Pointer}
use Rattle.pair_rules.specs.Steps.{Triple}
use Rattle.pair_explorer.specs.declared.visits.Visit.{Visit}
use Rattle.pair_explorer.specs.Keys.{Key, at_triple}
use Rattle.pair_explorer.specs.Visits.{seen}

-- the way that a key says
abbrev pub way_of : Bool → Way
way_of true = Pointer
way_of false = Direct

-- the triple whose key this is, with its number
abbrev pub numbered : Key × ℕ → Triple × ℕ
numbered e = (record { old = e.0.0; new = e.0.1; way = way_of e.0.2 }, e.1)

-- the number of a triple among the entries
abbrev pub number_in : List (Triple × ℕ) → Triple → Option ℕ
number_in entries x = lookup (at_triple x) entries

-- the number is that of a visit of the triple
pub record IsNumberOf (visits : List Visit) (x : Triple) (n : ℕ) : Type 0 where
  pub visit : Visit
  pub at : slice_get visits n ≡ Some visit
  pub is : seen visit ≡ x

-- a triple has a number
pub record HasNumber (entries : List (Triple × ℕ)) (x : Triple) : Type 0 where
  pub number : ℕ
  pub is : number_in entries x ≡ Some number

-- Each number is that of a visit of its triple, and the triple of each of the first visits has a number.
pub record AreNumbersUpto (visits : List Visit) (count : ℕ) (entries : List (Triple × ℕ)) : Type 0 where
  pub sound : (x : Triple) (n : ℕ) → number_in entries x ≡ Some n → IsNumberOf visits x n
  pub each : (n : ℕ) (v : Visit) → n < count → slice_get visits n ≡ Some v → HasNumber entries (seen v)

abbrev pub AreNumbers : List Visit → List (Triple × ℕ) → Type 0
AreNumbers visits entries = AreNumbersUpto visits (length visits) entries
