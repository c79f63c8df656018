-- The bytes that are read for the first range of a list, entry by entry.
use Rattle.std.proofs.Common.{◌≡◌, ◌∙◌, ℕ, suc, ◌+◌, ◌-◌, ◌<◌, ◌≤◌, List, length, Option, Some, None, Result, Ok, Err, refl, sym, ap, arith}
use Rattle.std.specs.Prelude.{IfSome, IfNone, is_some}
use Rattle.abi_base.specs.declared.fault.Fault.{Fault}
use Rattle.abi_base.specs.declared.limit.Limit.{Limit}
use Rattle.abi_base.specs.Budgets.{BudgetState, with_taken}
use Rattle.abi_base.specs.Runs.{Run}
use Rattle.abi_base.proofs.lemmas.Cases.{result_cases, same_Ok}
use Rattle.abi_base.proofs.lemmas.Runs.{Falls, run_more, run_end}
use Rattle.dwarf_text.specs.declared.ranges.entry.Entry.{Entry as EntryRead}
use Rattle.dwarf_text.specs.ranges.EntrySteps.{seen_step}
use Rattle.dwarf_text.specs.ranges.FirstBytes.{Step, bytes_behind, first_bytes, list_bytes, pair_bytes, sized, up_to_first}
use Rattle.dwarf_text.specs.ranges.RangeLists.{State, Entry, list_step, pair_step}
use Rattle.dwarf_text.proofs.ranges_lemmas.ListLemmas.{left, list_falls, pair_falls}

module _ (step : Step) (bytes : List ℕ) (falls : Falls step (left bytes)) where
  sized_falls : Falls (sized step) (λ at. length bytes - at)
  sized_falls = record {
    falls = λ at x next h.
        result_cases (step (at, 0))
        (λ r is.
        let same : r.1.0 ≡ next = ap (λ (p : (Entry × ℕ) × ℕ). p.1) (same_Ok ((r.0, r.1.0 - at), r.1.0) (x, next) (rw is at h)) in
        omega (arith, falls.falls (at, 0) r.0 r.1 is, same))
        (λ e is. absurd (let g = rw is at h in cc));
  }

  bytes_more : (at : ℕ) (start : Entry) (next : State) → step (at, 0) ≡ Ok (start, next)
      → first_bytes step (length bytes) at ≡ (next.0 - at) + bytes_behind step (length bytes) start next.0
  unfolding first_bytes
  bytes_more at start next is =
      ap (λ (r : Run (Entry × ℕ) (Option Fault)). up_to_first r.items)
      (run_more (sized step) None (λ at. length bytes - at) (length bytes) at (start, next.0 - at) next.0 sized_falls (omega arith) (rw is refl))

  bytes_end : (at : ℕ) (e : Option Fault) → step (at, 0) ≡ Err e → first_bytes step (length bytes) at ≡ 0
  unfolding first_bytes
  bytes_end at e is = ap (λ (r : Run (Entry × ℕ) (Option Fault)). up_to_first r.items) (run_end (sized step) None (length bytes) at e (rw is refl))

  bytes_read : (at : ℕ) (o : Option EntryRead) → seen_step (Ok o) ≡ step (at, 0)
      → IfSome o (λ e. first_bytes step (length bytes) at ≡ (e.after - at) + bytes_behind step (length bytes) e.start e.after) × IfNone o (first_bytes step (length bytes) at ≡ 0)
  bytes_read at (Some e) is = (bytes_more at e.start (e.after, e.base) (sym is), tt)
  bytes_read at None is = (tt, bytes_end at None (sym is))

  bytes_fault : (at : ℕ) (f : Fault) → seen_step (Err f) ≡ step (at, 0) → first_bytes step (length bytes) at ≡ 0
  bytes_fault at f is = bytes_end at (Some f) (sym is)

-- ---- the two kinds of lists

pub list_size : (addr : List ℕ) (addr_base : Option ℕ) (entry : ℕ) (bytes : List ℕ) (at : ℕ) (o : Option EntryRead) → seen_step (Ok o) ≡ list_step addr addr_base entry bytes (at, 0)
    → IfSome o (λ e. list_bytes addr addr_base entry bytes at ≡ (e.after - at) + bytes_behind (list_step addr addr_base entry bytes) (length bytes) e.start e.after)
list_size addr addr_base entry bytes at o is = (bytes_read (list_step addr addr_base entry bytes) bytes (list_falls addr addr_base entry bytes) at o is).0

pub list_none : (addr : List ℕ) (addr_base : Option ℕ) (entry : ℕ) (bytes : List ℕ) (at : ℕ) (o : Option EntryRead) → seen_step (Ok o) ≡ list_step addr addr_base entry bytes (at, 0)
    → IfNone o (list_bytes addr addr_base entry bytes at ≡ 0)
list_none addr addr_base entry bytes at o is = (bytes_read (list_step addr addr_base entry bytes) bytes (list_falls addr addr_base entry bytes) at o is).1

pub list_fault : (addr : List ℕ) (addr_base : Option ℕ) (entry : ℕ) (bytes : List ℕ) (at : ℕ) (f : Fault) → seen_step (Err f) ≡ list_step addr addr_base entry bytes (at, 0)
    → list_bytes addr addr_base entry bytes at ≡ 0
list_fault addr addr_base entry bytes at f is = bytes_fault (list_step addr addr_base entry bytes) bytes (list_falls addr addr_base entry bytes) at f is

pub pair_size : (entry : ℕ) (bytes : List ℕ) (at : ℕ) (o : Option EntryRead) → seen_step (Ok o) ≡ pair_step entry bytes (at, 0)
    → IfSome o (λ e. pair_bytes entry bytes at ≡ (e.after - at) + bytes_behind (pair_step entry bytes) (length bytes) e.start e.after)
pair_size entry bytes at o is = (bytes_read (pair_step entry bytes) bytes (pair_falls entry bytes) at o is).0

pub pair_none : (entry : ℕ) (bytes : List ℕ) (at : ℕ) (o : Option EntryRead) → seen_step (Ok o) ≡ pair_step entry bytes (at, 0) → IfNone o (pair_bytes entry bytes at ≡ 0)
pair_none entry bytes at o is = (bytes_read (pair_step entry bytes) bytes (pair_falls entry bytes) at o is).1

pub pair_fault : (entry : ℕ) (bytes : List ℕ) (at : ℕ) (f : Fault) → seen_step (Err f) ≡ pair_step entry bytes (at, 0) → pair_bytes entry bytes at ≡ 0
pair_fault entry bytes at f is = bytes_fault (pair_step entry bytes) bytes (pair_falls entry bytes) at f is

-- ---- the budget

-- The bytes from an offset on are not yet taken, and those before it are.
pub record TakenUpTo (old new : BudgetState) (whole rest : ℕ) : Type 0 where
  pub limit : new.limit ≡ old.limit
  pub most : new.most ≡ old.most
  pub taken : new.taken + rest ≡ old.taken + whole
  pub sound : new.taken ≤ new.most

pub taken_none : (budget : BudgetState) (whole rest : ℕ) → rest ≡ whole → budget.taken ≤ budget.most → TakenUpTo budget budget whole rest
taken_none budget whole rest all sound = record { limit = refl; most = refl; taken = omega (arith, all); sound = sound }

pub taken_whole : (old new : BudgetState) (whole rest : ℕ) → TakenUpTo old new whole rest → rest ≡ 0 → new ≡ with_taken old whole
taken_whole old new whole rest so_far none =
    let total : new.taken ≡ old.taken + whole = omega (arith, so_far.taken, none) in
    ap (λ (l : Limit). let b : BudgetState = record { limit = l; most = new.most; taken = new.taken } in b) so_far.limit
    ∙ ap (λ (m : ℕ). let b : BudgetState = record { limit = old.limit; most = m; taken = new.taken } in b) so_far.most
    ∙ ap (λ (t : ℕ). let b : BudgetState = record { limit = old.limit; most = old.most; taken = t } in b) total

pub taken_more : (old now new : BudgetState) (whole rest size others : ℕ) → TakenUpTo old now whole rest → rest ≡ size + others → new ≡ with_taken now size → now.taken + size ≤ now.most
    → TakenUpTo old new whole others
taken_more old now new whole rest size others so_far sum took fits = record {
  limit = ap (λ (b : BudgetState). b.limit) took ∙ so_far.limit;
  most = ap (λ (b : BudgetState). b.most) took ∙ so_far.most;
  taken = let t : new.taken ≡ now.taken + size = ap (λ (b : BudgetState). b.taken) took in omega (arith, t, sum, so_far.taken);
  sound = let t : new.taken ≡ now.taken + size = ap (λ (b : BudgetState). b.taken) took in let m : new.most ≡ now.most = ap (λ (b : BudgetState). b.most) took in omega (arith, t, m, fits);
}

pub taken_past : (old now : BudgetState) (whole rest size others : ℕ) → TakenUpTo old now whole rest → rest ≡ size + others → now.most < now.taken + size → old.most < old.taken + whole
taken_past old now whole rest size others so_far sum above = omega (arith, so_far.most, so_far.taken, sum, above)
