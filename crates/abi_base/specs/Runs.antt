-- Lists that are read item by item: all the items, and how the list ends.
use Rattle.std.specs.Prelude.{◌≡◌, ℕ, zero, suc, List, [], ◌∷◌, Option, Some, None, Result, Ok, Err}
use Rattle.abi_base.specs.declared.fault.Fault.{Fault}
use Rattle.std.specs.List.{filter_map}
use Rattle.abi_base.specs.declared.fault.Refusal.{Refusal}
use Rattle.abi_base.specs.declared.fault.Refusal.TheVariants as refusal

-- the items, and how the list ends
pub record Run (X E : Type 0) : Type 0 where
  pub items : List X
  pub end : E

abbrev pub ended : {X E : Type 0} → E → Run X E
ended e = record { items = []; end = e }

abbrev pub put_front : {X E : Type 0} → X → Run X E → Run X E
put_front x r = record { items = x ∷ r.items; end = r.end }

-- an item in front of what is read from the next state, or the end
abbrev pub continue : {S X E : Type 0} → Result (X × S) E → (S → Run X E) → Run X E
continue (Ok next) others = put_front next.0 (others next.1)
continue (Err e) others = ended e

-- All items that a step gives from a state on, at most this many. `late` is the end where the limit comes first.
unfoldable pub run : {S X E : Type 0} → (S → Result (X × S) E) → E → ℕ → S → Run X E
run step late zero s = ended late
run step late (suc n) s = continue (step s) (run step late n)

-- the items that are present
abbrev pub given : {X E : Type 0} → Run (Option X) E → Run X E
given r = record { items = filter_map (λ x. x) r.items; end = r.end }

-- What a reader answers, from the rest before the call and the rest after it: an item and what follows it, or the end,
-- which remains. After `NoMemory` the rest is unchanged.
abbrev pub NextIs : {X : Type 0} → Run X (Option Fault) → Result (Option X) Refusal → Run X (Option Fault) → Type 0
NextIs old (Ok (Some x)) new = old ≡ put_front x new
NextIs old (Ok None) new = (old ≡ ended None) × (new ≡ old)
NextIs old (Err (refusal.Fault f)) new = (old ≡ ended (Some f)) × (new ≡ old)
NextIs old (Err (refusal.NoMemory cause)) new = new ≡ old

-- The same as a relation, without a bound: these items follow from a state, one step each, and then this end.
abbrev pub Chain : {S X E : Type 0} → (S → Result (X × S) E) → S → List X → E → Type 0
Chain step s [] e = step s ≡ Err e
Chain {S = S} step s (x ∷ xs) e = (next : S) × (step s ≡ Ok (x, next)) × Chain step next xs e
