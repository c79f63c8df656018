-- The remaining units, one after the other.
use Rattle.std.proofs.Common.{◌≡◌, ℕ, suc, ◌-◌, ◌<◌, ◌≤◌, ltb, false, List, length, Option, None, Ok, Err, refl, ap, arith, inl, inr}
use Rattle.std.proofs.lemmas.Bool.{cases_Bool, ltb-true, le-ltb}
use Rattle.abi_base.specs.declared.fault.Fault.{Fault}
use Rattle.abi_base.specs.Runs.{ended, put_front, Chain}
use Rattle.dwarf_units.specs.Units.{PlainUnit}
use Rattle.abi_base.proofs.lemmas.Runs.{Falls, run_more, run_end, run_chain}
use Rattle.std.specs.Option.{option_or}
use Rattle.abi_base.proofs.lemmas.Cases.{option_cases, same_Ok}
use Rattle.abi_base.specs.Outcome.{first}
use Rattle.abi_base.proofs.lemmas.Outcomes.{first-append}
use Rattle.dwarf_units.specs.Sequence.{header_fault, length_rows, kind_rows, unit_fault, unit_of, unit_step, units_from}

view_end : (info abbrevs : List ℕ) (at : ℕ) → at < (unit_of info abbrevs at).end
unfolding unit_of
view_end info abbrevs at = omega arith

unit_inside : (info abbrevs : List ℕ) (at : ℕ) (x : PlainUnit) (next : ℕ) → unit_step info abbrevs at ≡ Ok (x, next) → (at < next) × (at < length info)
unfolding unit_step
unit_inside info abbrevs at x next h =
    elim (cases_Bool (ltb at (length info))) [
      | inl lt ↦ let h1 = rw lt at h in
          option_cases (unit_fault info abbrevs at)
          (λ is. let h2 = rw is at h1 in
          let u = unit_of info abbrevs at in
          let same : u.end ≡ next = ap (λ (p : PlainUnit × ℕ). p.1) (same_Ok (u, u.end) (x, next) h2) in
          (omega (arith, view_end info abbrevs at, same), ltb-true at (length info) lt))
          (λ f is. absurd (let g = rw is at h1 in cc))
      | inr ge ↦ absurd (let g = rw ge at h in cc)
    ]

unit_falls : (info abbrevs : List ℕ) → Falls (unit_step info abbrevs) (λ at. length info - at)
unit_falls info abbrevs = record { falls = λ at x next h. let i = unit_inside info abbrevs at x next h in omega (arith, i.0, i.1) }

pub units_give : (info abbrevs : List ℕ) (at : ℕ) (u : PlainUnit) (next : ℕ) → unit_step info abbrevs at ≡ Ok (u, next) → units_from info abbrevs at ≡ put_front u (units_from info abbrevs next)
unfolding units_from
units_give info abbrevs at u next h = run_more (unit_step info abbrevs) None (λ at. length info - at) (length info) at u next (unit_falls info abbrevs) (omega arith) h

pub units_end : (info abbrevs : List ℕ) (at : ℕ) (e : Option Fault) → unit_step info abbrevs at ≡ Err e → units_from info abbrevs at ≡ ended e
unfolding units_from
units_end info abbrevs at e h = run_end (unit_step info abbrevs) None (length info) at e h

pub units_done : (info abbrevs : List ℕ) (at : ℕ) → length info ≤ at → units_from info abbrevs at ≡ ended None
unfolding unit_step
units_done info abbrevs at le = units_end info abbrevs at None (let e : ltb at (length info) ≡ false = le-ltb at (length info) le in rw e refl)

pub header_fault_is : (info : List ℕ) (at : ℕ) → header_fault info at ≡ option_or (first (length_rows info at)) (first (kind_rows info at))
unfolding header_fault
header_fault_is info at = first-append (length_rows info at) (kind_rows info at)

-- the units are the one chain in the section
pub units_chain : (info abbrevs : List ℕ) → Chain (unit_step info abbrevs) 0 (units_from info abbrevs 0).items (units_from info abbrevs 0).end
unfolding units_from
units_chain info abbrevs = run_chain (unit_step info abbrevs) None (λ at. length info - at) (suc (length info)) 0 (unit_falls info abbrevs) (omega arith)
