-- What passes a limit where units and entries are read, and what has none.
use Rattle.std.proofs.Common.{◌≡◌, ◌∙◌, ℕ, ◌+◌, ◌<◌, ltb, Bool, true, false, List, [], length, Option, None, Some, Ok, Err, refl, ap, sym, arith}
use Rattle.std.specs.Prelude.{◌==◌}
use Rattle.std.specs.List.{sum_by}
use Rattle.std.proofs.lemmas.Bool.{lt-ltb}
use Rattle.std.proofs.lemmas.List.Sums.{sum_by-cons}
use Rattle.abi_base.specs.declared.fault.Fault.{Fault}
use Rattle.abi_base.specs.declared.fault.NoMemory.TheVariants.{Allocation}
use Rattle.abi_base.specs.declared.fault.Refusal.{Refusal}
use Rattle.abi_base.specs.declared.fault.Refusal.TheVariants as refusal
use Rattle.abi_base.specs.declared.limit.Limit.{Limit}
use Rattle.abi_base.specs.Budgets.{BudgetState, with_taken}
use Rattle.abi_base.specs.Dwarf.{dw_tag_partial_unit}
use Rattle.abi_base.specs.Outcome.{OnPast}
use Rattle.abi_base.specs.Runs.{Run, ended, put_front}
use Rattle.abi_base.proofs.lemmas.Outcomes.{on_past_weaker}
use Rattle.dwarf_forms.specs.abbreviations.Abbrevs.{table_run}
use Rattle.dwarf_forms.specs.abbreviations.LeastBytes.{least_bytes_of}
use Rattle.dwarf_units.specs.declared.entry.Entry.{Entry}
use Rattle.dwarf_units.specs.declared.reader.Following.{Following}
use Rattle.dwarf_units.specs.Following.{ComesTo, FirstIs, IsNext}
use Rattle.dwarf_units.specs.Limits.{PassesLeft, TablePasses, TakesAtMost, UnitPasses, table_cost}
use Rattle.dwarf_units.specs.Sequence.{begins_partial, header_fault, unit_abbrevs, unit_fault, unit_of, unit_step, units_from}
use Rattle.dwarf_units.specs.Units.{PlainUnit, State, entries_left}
use Rattle.dwarf_units.proofs.UnitsLeft.{units_give}

-- where the next one passes, so does all that remains
pub passes_front : {X : Type 0} (cost : X → ℕ) (left others : Run X (Option Fault)) (x : X) (budget : BudgetState) → left ≡ put_front x others → budget.most < budget.taken + cost x
    → budget.most < budget.taken + sum_by cost left.items
passes_front {X = X} cost left others x budget front above =
    let whole : sum_by cost left.items ≡ cost x + sum_by cost others.items = ap (λ (r : Run X (Option Fault)). sum_by cost r.items) front ∙ sum_by-cons cost x others.items in
    omega (arith, above, whole)

-- what one call takes
pub takes_all : (old new : BudgetState) (n : ℕ) → new ≡ with_taken old n → TakesAtMost old new n
takes_all old new n took = record {
  limit = ap (λ (b : BudgetState). b.limit) took;
  most = ap (λ (b : BudgetState). b.most) took;
  taken = let t : new.taken ≡ old.taken + n = ap (λ (b : BudgetState). b.taken) took in omega (arith, t);
}

pub takes_none : (budget : BudgetState) (n : ℕ) → TakesAtMost budget budget n
takes_none budget n = record { limit = refl; most = refl; taken = omega arith }

-- ---- entries

-- a refusal of the reader passes no limit
pub refused_below : (u : PlainUnit) (s : State) (met : Bool) (e : Refusal) (P : Limit → Type 0) → ComesTo u s met (Err e) → OnPast e P
refused_below u s met (refusal.Fault f) P is = tt
refused_below u s met (refusal.NoMemory cause) P is = rw is tt

pub first_given : (u : PlainUnit) (s : State) (met : Bool) (f : Following) → IsNext u s met f → FirstIs (entries_left u s met) (Ok (Some f.entry))
first_given u s met f is = (_, is.left)

pub first_refused : (u : PlainUnit) (s : State) (met : Bool) (e : Refusal) → ComesTo u s met (Err e) → FirstIs (entries_left u s met) (Err e)
first_refused u s met (refusal.Fault f) is = is
first_refused u s met (refusal.NoMemory cause) is = is

pub begins_given : (left : Run Entry (Option Fault)) (e : Entry) → FirstIs left (Ok (Some e)) → begins_partial left.items ≡ (e.tag == dw_tag_partial_unit)
begins_given left e is = ap (λ (r : Run Entry (Option Fault)). begins_partial r.items) is.1

pub begins_ended : (left : Run Entry (Option Fault)) (o : Option Fault) → left ≡ ended o → begins_partial left.items ≡ false
begins_ended left o is = ap (λ (r : Run Entry (Option Fault)). begins_partial r.items) is

-- ---- units

-- a unit whose header and table have no fault is there
unit_there : (info abbrevs : List ℕ) (at : ℕ) → at < length info → header_fault info at ≡ None → (table_run abbrevs (unit_abbrevs info at)).end ≡ None
    → unit_step info abbrevs at ≡ Ok (unit_of info abbrevs at, (unit_of info abbrevs at).end)
unfolding unit_step unit_fault
unit_there info abbrevs at lt header table =
    let inside : ltb at (length info) ≡ true = lt-ltb at (length info) lt in
    rw (inside, header, table) refl

unit_costs : (info abbrevs : List ℕ) (at : ℕ) → table_cost (unit_of info abbrevs at) ≡ least_bytes_of (table_run abbrevs (unit_abbrevs info at)).items
unfolding unit_of
unit_costs info abbrevs at = refl

-- where its table passes, so does the unit
pub unit_passes : (info abbrevs : List ℕ) (at : ℕ) (budget : BudgetState) (e : Refusal) → at < length info → header_fault info at ≡ None
    → OnPast e (TablePasses abbrevs (unit_abbrevs info at) budget) → OnPast e (UnitPasses info abbrevs at budget)
unit_passes info abbrevs at budget e lt header h =
    on_past_weaker e (TablePasses abbrevs (unit_abbrevs info at) budget) (UnitPasses info abbrevs at budget)
    (λ l p. (p.0, unit_there info abbrevs at lt header p.1, let same = unit_costs info abbrevs at in omega (arith, p.2, same))) h

-- where a unit passes, so do all that remain
pub units_pass : (info abbrevs : List ℕ) (at : ℕ) (budget : BudgetState) (e : Refusal)
    → OnPast e (UnitPasses info abbrevs at budget) → OnPast e (PassesLeft table_cost (units_from info abbrevs at) budget)
units_pass info abbrevs at budget e h =
    let u = unit_of info abbrevs at in
    on_past_weaker e (UnitPasses info abbrevs at budget) (PassesLeft table_cost (units_from info abbrevs at) budget)
    (λ l p. (p.0, passes_front table_cost (units_from info abbrevs at) (units_from info abbrevs u.end) u budget (units_give info abbrevs at u u.end p.1) p.2)) h
