-- The walk back along what led to each visit.
use Rattle.std.proofs.Common.{◌≡◌, ◌<◌, ℕ, List, [], ◌∷◌, ◌++◌, reverse, slice_get, Some, subst}
use Rattle.std.proofs.lemmas.List.{reverse-append}
use Rattle.pair_rules.specs.Paths.{Path, Then}
use Rattle.pair_explorer.specs.declared.visits.Parent.TheVariants.{Step}
use Rattle.pair_explorer.specs.declared.visits.Visit.{Visit}
use Rattle.pair_explorer.specs.Routes.{followed}
use Rattle.pair_explorer.specs.Visits.{Along, AreEarlier, IsEarlier}

-- the path along what led to visit `at` goes on, by these parts in the other order, to visit `number`
pub record GoesOn (vs : List Visit) (number at : ℕ) (parts : List ℕ) : Type 0 where
  pub along : (path : Path) → Along vs at path → Along vs number (followed path (reverse parts))

pub GoesOn-start : (vs : List Visit) (number : ℕ) → GoesOn vs number number []
GoesOn-start vs number = record { along = λ path a. a }

-- the step that led to a visit, put before the others
pub GoesOn-step : (vs : List Visit) (number at pair part : ℕ) (parts : List ℕ) (u : Visit) → slice_get vs at ≡ Some u → u.parent ≡ Step pair part → GoesOn vs number at parts → GoesOn vs number pair (parts ++ part ∷ [])
GoesOn-step vs number at pair part parts u at_u parent on = record {
  along = λ path a. rw (reverse-append parts (part ∷ [])) (on.along (Then path part) (pair, u, at_u, parent, a));
}

pub earlier_step : (vs : List Visit) (at pair part : ℕ) (u : Visit) → AreEarlier vs → slice_get vs at ≡ Some u → u.parent ≡ Step pair part → pair < at
earlier_step vs at pair part u earlier at_u parent = subst (IsEarlier at) parent (earlier at u at_u)
