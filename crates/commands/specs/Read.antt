-- The inputs that a run read, and the bytes that it judged.
use Rattle.std.specs.Prelude.{◌≡◌, ℕ, List, Option, map, slice_get, Some}
use Rattle.abi_base.specs.declared.remark.Remark.{Remark}
use Rattle.commands.specs.Commands.{PlainPlace, Wanted, asks_of, places_of}
use Rattle.commands.specs.Faults.{AreReadable}
use Rattle.commands.specs.Reading.{Gives, Reading}
use Rattle.commands.specs.declared.input.Input.{Input}
use Rattle.commands.specs.declared.outcome.Outcome.{Outcome}
use Rattle.commands.specs.declared.outcome.Outcome.TheVariants.{Judged, Unreadable, ReadFault, Help, Usage, NoMemory, WriteFault}
use Rattle.commands.specs.declared.verdict.Verdict.{Verdict}

-- the inputs, without the sources of their bytes
abbrev pub roles_of : List PlainPlace → List Input
roles_of places = map (λ (place : PlainPlace). place.0) places

-- an input of this role, the one at some place of the list, has these bytes
abbrev pub HasBytes : List Input → List (List ℕ) → Input → List ℕ → Type 0
HasBytes roles all which bytes = (at : ℕ) × (slice_get roles at ≡ Some which) × (slice_get all at ≡ Some bytes)

-- These are the inputs that a command wants, with the bytes that they gave: readable ones, about which it says this.
pub record IsJudgedOn (r : Reading) (inputs : List Wanted) (says : List (List ℕ) → Verdict → Option Remark → List ℕ → Type 0) (roles : List Input) (all : List (List ℕ)) (verdict : Verdict) (untyped : Option Remark) (text : List ℕ) : Type 0 where
  pub in_order : roles ≡ roles_of (places_of inputs)
  pub given : Gives r.told (places_of inputs) all
  pub readable : AreReadable (asks_of inputs) all
  pub said : says all verdict untyped text

-- A verdict is on the bytes that were read.
abbrev pub IsOnRead : Reading → List Wanted → (List (List ℕ) → Verdict → Option Remark → List ℕ → Type 0) → List Input → List (List ℕ) → Outcome → List ℕ → Type 0
IsOnRead r inputs says roles all (Judged verdict untyped) text = IsJudgedOn r inputs says roles all verdict untyped text
IsOnRead r inputs says roles all (Unreadable which fault) text = Unit {0}
IsOnRead r inputs says roles all (ReadFault which) text = Unit {0}
IsOnRead r inputs says roles all Help text = Unit {0}
IsOnRead r inputs says roles all Usage text = Unit {0}
IsOnRead r inputs says roles all (NoMemory cause) text = Unit {0}
IsOnRead r inputs says roles all WriteFault text = Unit {0}
