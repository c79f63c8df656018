use Rattle.std.proofs.Common.{◌≡◌, ℕ, Option, Some, None, List}
use Rattle.std.specs.Prelude.{Contains, IfSome, IfNone, position, nat_eq, slice_get}
use Rattle.type_reach.proofs.FactLemmas.{number_is, number_there}
use Rattle.type_reach.proofs.reached_entries.ReachedEntries.number.Goals as goal

at-number : (found : List ℕ) (e : ℕ) (r : Option ℕ) → r ≡ position (nat_eq e) found → IfSome r (λ i. slice_get found i ≡ Some e)
at-number found e None is = tt
at-number found e (Some i) is = number_is found e i is

no-number : (found : List ℕ) (e : ℕ) (r : Option ℕ) → r ≡ position (nat_eq e) found → IfNone r (Contains found e → ⊥)
no-number found e None is = λ has. number_there found e has is
no-number found e (Some i) is = tt

pub returns-clause-at : goal.returns-clause-at
returns-clause-at c = at-number c.args.self.now c.args.e c.place.result c.place.ensures.place

pub returns-clause-none : goal.returns-clause-none
returns-clause-none c = no-number c.args.self.now c.args.e c.place.result c.place.ensures.place
