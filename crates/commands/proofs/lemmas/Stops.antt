-- Where an input is refused, a judgement stops at it.
use Rattle.std.proofs.Common.{◌≡◌, ℕ, List, [], ◌∷◌, ◌++◌, length, Option, Some, None, refl, sym, ◌∙◌, inl, inr, arith}
use Rattle.abi_base.specs.Outcome.{OnLimit, OnPast, Refuses}
use Rattle.abi_base.specs.declared.fault.Fault.{Fault}
use Rattle.abi_base.specs.declared.fault.NoMemory.{NoMemory}
use Rattle.abi_base.specs.declared.fault.Refusal.{Refusal}
use Rattle.abi_base.specs.declared.fault.Refusal.TheVariants as refusal
use Rattle.abi_base.specs.declared.limit.Limit.{Limit}
use Rattle.abi_base.proofs.lemmas.Outcomes.{on_limit_weaker}
use Rattle.commands.specs.Commands.{Asked}
use Rattle.commands.specs.Faults.{AreReadable, FirstFault, IsOutOfMemory, StopsAt, StopsOn, stop_of}
use Rattle.commands.specs.declared.input.Input.{Input}
use Rattle.commands.specs.declared.stop.Stop.{Stop}
use Rattle.commands.specs.declared.stop.Stop.TheVariants as stop

-- the first input is refused
pub stops_first : (which : Input) (fault_in : List ℕ → Option Fault) (asks : List Asked) (passes : List (List ℕ) → Limit → Type 0) (bytes : List ℕ) (all : List (List ℕ)) (refused : Refusal)
    → Refuses refused (fault_in bytes) → OnPast refused (passes (bytes ∷ all)) → StopsAt ((which, fault_in) ∷ asks) passes (bytes ∷ all) (stop_of which refused)
stops_first which fault_in asks passes bytes all (refusal.Fault fault) refuses past = inl (refl, refuses)
stops_first which fault_in asks passes bytes all (refusal.NoMemory cause) refuses past = past

-- an input is refused by itself
pub stops_on : (which : Input) (fault : Option Fault) (P : Limit → Type 0) (refused : Refusal) → Refuses refused fault → OnPast refused P → StopsOn which fault P (stop_of which refused)
stops_on which fault P (refusal.Fault found) refuses past = (refl, refuses)
stops_on which fault P (refusal.NoMemory cause) refuses past = past

-- what stops on the first input stops the judgement
pub stops_here : (which : Input) (fault_in : List ℕ → Option Fault) (asks : List Asked) (passes : List (List ℕ) → Limit → Type 0) (bytes : List ℕ) (all : List (List ℕ)) (P : Limit → Type 0)
    → ((l : Limit) → P l → passes (bytes ∷ all) l) → (s : Stop) → StopsOn which (fault_in bytes) P s → StopsAt ((which, fault_in) ∷ asks) passes (bytes ∷ all) s
stops_here which fault_in asks passes bytes all P weaker (stop.NoMemory cause) h = on_limit_weaker cause P (passes (bytes ∷ all)) weaker h
stops_here which fault_in asks passes bytes all P weaker (stop.ReadFault other) h = h
stops_here which fault_in asks passes bytes all P weaker (stop.Unreadable other found) h = inl h

-- so does what stops on the inputs behind a readable one
pub stops_behind : (asked : Asked) (asks : List Asked) (others passes : List (List ℕ) → Limit → Type 0) (bytes : List ℕ) (all : List (List ℕ))
    → ((l : Limit) → others all l → passes (bytes ∷ all) l) → asked.1 bytes ≡ None → (s : Stop) → StopsAt asks others all s → StopsAt (asked ∷ asks) passes (bytes ∷ all) s
stops_behind asked asks others passes bytes all weaker readable (stop.NoMemory cause) h = on_limit_weaker cause (others all) (passes (bytes ∷ all)) weaker h
stops_behind asked asks others passes bytes all weaker readable (stop.ReadFault other) h = h
stops_behind asked asks others passes bytes all weaker readable (stop.Unreadable other found) h = inr (readable, h)

first_among : (asks more : List Asked) (all rest : List (List ℕ)) (which : Input) (fault : Fault) → FirstFault asks all which fault → FirstFault (asks ++ more) (all ++ rest) which fault
first_among [] more all rest which fault h = absurd h
first_among (asked ∷ asks) more [] rest which fault h = absurd h
first_among (asked ∷ asks) more (bytes ∷ all) rest which fault (inl h) = inl h
first_among (asked ∷ asks) more (bytes ∷ all) rest which fault (inr (readable, h)) = inr (readable, first_among asks more all rest which fault h)

-- and what stops on the first of several inputs
pub stops_among : (asks more : List Asked) (others passes : List (List ℕ) → Limit → Type 0) (all rest : List (List ℕ))
    → ((l : Limit) → others all l → passes (all ++ rest) l) → (s : Stop) → StopsAt asks others all s → StopsAt (asks ++ more) passes (all ++ rest) s
stops_among asks more others passes all rest weaker (stop.NoMemory cause) h = on_limit_weaker cause (others all) (passes (all ++ rest)) weaker h
stops_among asks more others passes all rest weaker (stop.ReadFault other) h = h
stops_among asks more others passes all rest weaker (stop.Unreadable other found) h = first_among asks more all rest other found h

-- memory ran out, or a count would pass its limit
pub stops_in_memory : (asks : List Asked) (passes : List (List ℕ) → Limit → Type 0) (all : List (List ℕ)) (P : Limit → Type 0) (cause : NoMemory)
    → ((l : Limit) → P l → passes all l) → OnLimit cause P → StopsAt asks passes all (stop.NoMemory cause)
stops_in_memory asks passes all P cause weaker h = on_limit_weaker cause P (passes all) weaker h

first_after : (asks more : List Asked) (all rest : List (List ℕ)) (which : Input) (fault : Fault) → length asks ≡ length all → AreReadable asks all → FirstFault more rest which fault → FirstFault (asks ++ more) (all ++ rest) which fault
first_after [] more [] rest which fault each readable h = h
first_after [] more (bytes ∷ all) rest which fault each readable h = absurd (omega (arith, each))
first_after (asked ∷ asks) more [] rest which fault each readable h = absurd (omega (arith, each))
first_after (asked ∷ asks) more (bytes ∷ all) rest which fault each readable h =
    let others : length asks ≡ length all = omega (arith, each) in
    inr (readable.0, first_after asks more all rest which fault others readable.1 h)

-- what stops on an input behind readable ones stops the judgement
pub stops_after : (asks more : List Asked) (which : Input) (fault_in : List ℕ → Option Fault) (passes : List (List ℕ) → Limit → Type 0) (all rest : List (List ℕ)) (bytes : List ℕ) (P : Limit → Type 0)
    → length asks ≡ length all → AreReadable asks all → ((l : Limit) → P l → passes (all ++ bytes ∷ rest) l) → (s : Stop) → StopsOn which (fault_in bytes) P s
    → StopsAt (asks ++ (which, fault_in) ∷ more) passes (all ++ bytes ∷ rest) s
stops_after asks more which fault_in passes all rest bytes P each readable weaker (stop.NoMemory cause) h = on_limit_weaker cause P (passes (all ++ bytes ∷ rest)) weaker h
stops_after asks more which fault_in passes all rest bytes P each readable weaker (stop.ReadFault other) h = h
stops_after asks more which fault_in passes all rest bytes P each readable weaker (stop.Unreadable other found) h =
    first_after asks ((which, fault_in) ∷ more) all (bytes ∷ rest) other found each readable (inl h)

-- ---- readable inputs

apart : (o : Option Fault) (fault : Fault) → o ≡ None → o ≡ Some fault → ⊥
apart o fault none some = let bad : None ≡ Some fault = sym none ∙ some in cc

none_first : (asks : List Asked) (all : List (List ℕ)) (which : Input) (fault : Fault) → AreReadable asks all → FirstFault asks all which fault → ⊥
none_first [] all which fault readable h = h
none_first (asked ∷ asks) [] which fault readable h = h
none_first (asked ∷ asks) (bytes ∷ all) which fault readable (inl h) = apart (asked.1 bytes) fault readable.0 h.1
none_first (asked ∷ asks) (bytes ∷ all) which fault readable (inr (none, h)) = none_first asks all which fault readable.1 h

-- where all inputs are readable, only memory stops the judgement
pub readable_stops : (asks : List Asked) (passes : List (List ℕ) → Limit → Type 0) (all : List (List ℕ)) → AreReadable asks all → (s : Stop) → StopsAt asks passes all s → IsOutOfMemory s
readable_stops asks passes all readable (stop.NoMemory cause) h = tt
readable_stops asks passes all readable (stop.ReadFault other) h = h
readable_stops asks passes all readable (stop.Unreadable other found) h = none_first asks all other found readable h
