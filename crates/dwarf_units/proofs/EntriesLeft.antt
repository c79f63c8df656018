-- The remaining entries follow the tokens.
use Rattle.std.proofs.Common.{◌≡◌, ℕ, ◌-◌, ◌≤◌, Bool, true, false, Option, Some, None, Err, Ok, refl, sym, ap, ◌∙◌, arith}
use Rattle.std.specs.Prelude.{not, ◌||◌, ◌&&◌}
use Rattle.std.specs.List.{list_any}
use Rattle.abi_base.specs.declared.fault.Fault.{Fault}
use Rattle.abi_base.specs.declared.fault.FaultKind.TheVariants as kind
use Rattle.abi_base.specs.declared.fault.Refusal.{Refusal}
use Rattle.abi_base.specs.declared.fault.Refusal.TheVariants as refusal
use Rattle.abi_base.specs.Outcome.{fault_if}
use Rattle.abi_base.specs.Runs.{Run, ended, put_front, given}
use Rattle.abi_base.proofs.lemmas.Runs.{run_more, run_end}
use Rattle.dwarf_units.specs.declared.entry.Entry.{Entry}
use Rattle.dwarf_units.specs.declared.tokens.Token.{Token}
use Rattle.dwarf_units.specs.declared.tokens.Token.TheVariants as token
use Rattle.dwarf_units.specs.Following.{ComesTo, IsNext}
use Rattle.dwarf_units.specs.Plain.{IsToken}
use Rattle.dwarf_units.specs.Units.{PlainUnit, State, token_at, open_lists, tokens_from, entries_from, entries_left, judged, is_type_entry, is_type_unit}
use Rattle.dwarf_units.proofs.ValuesAfter.{ValuesMove}
use Rattle.dwarf_units.proofs.TokenLaws.{token_falls, token_moves}

pub entries_give : (moves : ValuesMove) (u : PlainUnit) (s : State) (e : Entry) (next : State) → token_at u s ≡ Ok (Some e, next) → entries_from u s ≡ put_front e (entries_from u next)
unfolding entries_from tokens_from
entries_give moves u s e next h = ap (λ (r : Run (Option Entry) (Option Fault)). given r) (run_more (token_at u) None (λ s. u.end - s.0) u.end s (Some e) next (token_falls moves u) (omega arith) h)

pub entries_pass : (moves : ValuesMove) (u : PlainUnit) (s : State) (next : State) → token_at u s ≡ Ok (None, next) → entries_from u s ≡ entries_from u next
unfolding entries_from tokens_from
entries_pass moves u s next h = ap (λ (r : Run (Option Entry) (Option Fault)). given r) (run_more (token_at u) None (λ s. u.end - s.0) u.end s None next (token_falls moves u) (omega arith) h)

pub entries_end : (u : PlainUnit) (s : State) (e : Option Fault) → token_at u s ≡ Err e → entries_from u s ≡ ended e
unfolding entries_from tokens_from
entries_end u s e h = ap (λ (r : Run (Option Entry) (Option Fault)). given r) (run_end (token_at u) None u.end s e h)

-- ---- with the fault of a type unit

or_assoc : (a b c : Bool) → (a || (b || c)) ≡ ((a || b) || c)
or_assoc true b c = refl
or_assoc false b c = refl

judged-front : (u : PlainUnit) (met : Bool) (e : Entry) (r : Run Entry (Option Fault)) → judged u met (put_front e r) ≡ put_front e (judged u (met || is_type_entry u e) r)
unfolding judged
judged-front u met e r =
    let same = or_assoc met (is_type_entry u e) (list_any (is_type_entry u) r.items) in
    rw same refl

judged-ended : (u : PlainUnit) (met : Bool) → judged u met (ended None) ≡ ended (fault_if (is_type_unit u && not met) kind.TypeOffset u.offset)
unfolding judged
judged-ended u true = refl
judged-ended u false = refl

judged-faulty : (u : PlainUnit) (met : Bool) (f : Fault) → judged u met (ended (Some f)) ≡ ended (Some f)
unfolding judged
judged-faulty u met f = refl

pub left_give : (moves : ValuesMove) (u : PlainUnit) (s next : State) (met now_met : Bool) (e : Entry) → token_at u s ≡ Ok (Some e, next) → now_met ≡ (met || is_type_entry u e)
    → entries_left u s met ≡ put_front e (entries_left u next now_met)
left_give moves u s next met now_met e h same =
    rw same (ap (λ (r : Run Entry (Option Fault)). judged u met r) (entries_give moves u s e next h) ∙ judged-front u met e (entries_from u next))

pub left_pass : (moves : ValuesMove) (u : PlainUnit) (s next : State) (met : Bool) → token_at u s ≡ Ok (None, next) → entries_left u s met ≡ entries_left u next met
left_pass moves u s next met h = ap (λ (r : Run Entry (Option Fault)). judged u met r) (entries_pass moves u s next h)

-- the fault at a unit's end, or none
pub left_end : (u : PlainUnit) (s : State) (met : Bool) → token_at u s ≡ Err None → entries_left u s met ≡ ended (fault_if (is_type_unit u && not met) kind.TypeOffset u.offset)
left_end u s met h = ap (λ (r : Run Entry (Option Fault)). judged u met r) (entries_end u s None h) ∙ judged-ended u met

pub left_fault : (u : PlainUnit) (s : State) (met : Bool) (f : Fault) → token_at u s ≡ Err (Some f) → entries_left u s met ≡ ended (Some f)
left_fault u s met f h = ap (λ (r : Run Entry (Option Fault)). judged u met r) (entries_end u s (Some f) h) ∙ judged-faulty u met f

-- ---- a reader that skips the ends of lists

-- its state, and what remained at its start
pub record IsReading (u : PlainUnit) (s : State) (met : Bool) (begun : State) : Type 0 where
  pub below : open_lists s.1 ≤ s.0
  pub here : entries_left u s met ≡ entries_left u begun met

-- what the reader of a token says of an entry
pub given_token : (u : PlainUnit) (s : State) (t : Token) (e : Entry) (at lists : ℕ) → IsToken u s (Ok t) → t ≡ token.Given e at lists → token_at u s ≡ Ok (Some e, (at, Some lists))
given_token u s t e at lists is same = let here = rw same at is in here

-- what an entry leaves
pub given_next : (moves : ValuesMove) (u : PlainUnit) (s begun : State) (met : Bool) (e : Entry) (at lists : ℕ)
    → IsReading u s met begun → token_at u s ≡ Ok (Some e, (at, Some lists)) → IsNext u begun met (record { entry = e; at = at; lists = lists })
given_next moves u s begun met e at lists reading is =
    let going = (token_moves moves u s (Some e) (at, Some lists) is).0 in
    record {
      few = omega (arith, going.on, going.lists, reading.below);
      left = sym reading.here ∙ left_give moves u s (at, Some lists) met (met || is_type_entry u e) e is refl;
    }

-- what a refusal leaves
pub refused_next : (u : PlainUnit) (s begun : State) (met : Bool) (r : Refusal) → IsReading u s met begun → IsToken u s (Err r) → ComesTo u begun met (Err r)
refused_next u s begun met (refusal.Fault f) reading is = sym reading.here ∙ left_fault u s met f is
refused_next u s begun met (refusal.NoMemory cause) reading is = is
