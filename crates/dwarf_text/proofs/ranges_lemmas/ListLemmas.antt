-- The first range of a list, entry by entry.
use Rattle.std.proofs.Common.{◌≡◌, ℕ, suc, ◌+◌, ◌-◌, ◌<◌, ◌≤◌, List, [], length, Option, Some, None, Result, Ok, Err, ap, ◌∙◌, arith, inl, inr}
use Rattle.std.specs.Prelude.{◌==◌, ◌&&◌}
use Rattle.std.proofs.lemmas.Bool.{cases_Bool}
use Rattle.abi_base.proofs.lemmas.Cases.{option_cases, result_cases, same_Ok}
use Rattle.abi_base.specs.declared.fault.Fault.{Fault}
use Rattle.abi_base.specs.Numbers.{number_at}
use Rattle.abi_base.specs.Leb.{uleb_at}
use Rattle.abi_base.specs.Tables.{entry_of_table}
use Rattle.abi_base.specs.Runs.{Run, run, Chain}
use Rattle.abi_base.proofs.lemmas.Numbers.{number_inside}
use Rattle.abi_base.proofs.lemmas.Leb.{uleb_inside}
use Rattle.abi_base.proofs.lemmas.Runs.{Falls, run_more, run_end, run_chain}
use Rattle.dwarf_text.specs.declared.ranges.layout.Field.{Field}
use Rattle.dwarf_text.specs.declared.ranges.layout.Field.TheVariants as field
use Rattle.dwarf_text.specs.declared.ranges.layout.Layout.{Layout}
use Rattle.abi_base.specs.Dwarf.{dw_rle_end_of_list}
use Rattle.dwarf_text.specs.ranges.RangeLists.{State, Entry, field_at, fields_step, layout_of, meant, kind_step, list_step, pair_means, pair_step, list_run, pair_run, first_or_end, first_start}

-- ---- any list whose steps move on

passes : (step : State → Result (Entry × State) (Option Fault)) (measure : State → ℕ) (n : ℕ) (s next : State) → Falls step measure → measure s ≤ n → step s ≡ Ok (None, next)
    → first_start (run step None (suc n) s) ≡ first_start (run step None (suc n) next)
passes step measure n s next falls le is = ap (λ (q : Run Entry (Option Fault)). first_start q) (run_more step None measure n s None next falls le is)

gives : (step : State → Result (Entry × State) (Option Fault)) (measure : State → ℕ) (n : ℕ) (s next : State) (start : ℕ) → Falls step measure → measure s ≤ n → step s ≡ Ok (Some start, next)
    → first_start (run step None (suc n) s) ≡ Ok (Some start)
gives step measure n s next start falls le is = ap (λ (q : Run Entry (Option Fault)). first_start q) (run_more step None measure n s (Some start) next falls le is)

ends : (step : State → Result (Entry × State) (Option Fault)) (n : ℕ) (s : State) (e : Option Fault) → step s ≡ Err e → first_start (run step None (suc n) s) ≡ first_or_end [] e
ends step n s e is = ap (λ (q : Run Entry (Option Fault)). first_start q) (run_end step None n s e is)

-- ---- reading moves on

place_is : {A : Type 0} {E : Type 0} (x : A) (after : ℕ) (r : A × ℕ) → ◌≡◌ {A = Result (A × ℕ) E} (Ok (x, after)) (Ok r) → after ≡ r.1
place_is {A = A} x after r h = ap (λ (p : A × ℕ). p.1) (same_Ok (x, after) r h)

field_after : (addr : List ℕ) (addr_base : Option ℕ) (entry : ℕ) (bytes : List ℕ) (f : Field) (at : ℕ) (r : ℕ × ℕ) → field_at addr addr_base entry bytes f at ≡ Ok r → at ≤ r.1
field_after addr addr_base entry bytes field.Index at r h =
    option_cases (uleb_at bytes at) (λ is. absurd (let e = rw is at h in cc)) (λ n is.
    let h1 = rw is at h in
    let le = (uleb_inside bytes at n is).0 in
    option_cases (entry_of_table 8 addr addr_base n.0) (λ no. absurd (let e = rw no at h1 in cc)) (λ a so.
    let same = place_is a n.1 r (rw so at h1) in omega (arith, le, same)))
field_after addr addr_base entry bytes field.Address at r h =
    option_cases (number_at 8 bytes at) (λ is. absurd (let e = rw is at h in cc))
    (λ n is. let same = place_is n (at + 8) r (rw is at h) in omega (arith, same))
field_after addr addr_base entry bytes field.Number at r h =
    option_cases (uleb_at bytes at) (λ is. absurd (let e = rw is at h in cc)) (λ n is.
    let le = (uleb_inside bytes at n is).0 in
    let same : n ≡ r = same_Ok n r (rw is at h) in
    let place : n.1 ≡ r.1 = ap (λ (p : ℕ × ℕ). p.1) same in
    omega (arith, le, place))
field_after addr addr_base entry bytes field.Absent at r h = let same = place_is 0 at r h in omega (arith, same)

fields_after : (addr : List ℕ) (addr_base : Option ℕ) (entry : ℕ) (bytes : List ℕ) (layout : Layout) (s : State) (x : Entry) (next : State) → fields_step addr addr_base entry bytes layout s ≡ Ok (x, next) → s.0 ≤ next.0
fields_after addr addr_base entry bytes layout s x next h =
    result_cases (field_at addr addr_base entry bytes layout.first s.0)
    (λ first is. let h1 = rw is at h in
    result_cases (field_at addr addr_base entry bytes layout.second first.1)
    (λ second js.
    let same = same_Ok ((meant layout.role s.1 first.0).0, (second.1, (meant layout.role s.1 first.0).1)) (x, next) (rw js at h1) in
    let place : second.1 ≡ next.0 = ap (λ (p : Entry × State). p.1.0) same in
    omega (arith, field_after addr addr_base entry bytes layout.first s.0 first is, field_after addr addr_base entry bytes layout.second first.1 second js, place))
    (λ e js. absurd (let g = rw js at h1 in cc)))
    (λ e is. absurd (let g = rw is at h in cc))

kind_after : (addr : List ℕ) (addr_base : Option ℕ) (entry : ℕ) (bytes : List ℕ) (code : ℕ) (s : State) (x : Entry) (next : State) → kind_step addr addr_base entry bytes code s ≡ Ok (x, next) → s.0 ≤ next.0
unfolding kind_step
kind_after addr addr_base entry bytes code s x next h =
    elim (cases_Bool (code == dw_rle_end_of_list)) [
      | inl is ↦ absurd (let g = rw is at h in cc)
      | inr is ↦ let h1 = rw is at h in
          option_cases (layout_of code) (λ no. absurd (let g = rw no at h1 in cc)) (λ layout so.
          let h2 = rw so at h1 in
          result_cases (fields_step addr addr_base entry bytes layout s)
          (λ r js. fields_after addr addr_base entry bytes layout s x next (js ∙ fields_same r (rw js at h2)))
          (λ e js. absurd (let g = rw js at h2 in cc)))
    ]
  where
    fields_same : (r : Entry × State) → ◌≡◌ {A = Result (Entry × State) (Option Fault)} (Ok r) (Ok (x, next)) → ◌≡◌ {A = Result (Entry × State) Fault} (Ok r) (Ok (x, next))
    fields_same r e = ap (λ (p : Entry × State). let o : Result (Entry × State) Fault = Ok p in o) (same_Ok r (x, next) e)

-- how many bytes of a section remain from a state on
abbrev pub left : List ℕ → State → ℕ
left bytes s = length bytes - s.0

list_after : (addr : List ℕ) (addr_base : Option ℕ) (entry : ℕ) (bytes : List ℕ) (s : State) (x : Entry) (next : State) → list_step addr addr_base entry bytes s ≡ Ok (x, next) → left bytes next < left bytes s
unfolding list_step
list_after addr addr_base entry bytes s x next h =
    option_cases (number_at 1 bytes s.0) (λ is. absurd (let g = rw is at h in cc)) (λ code is.
    let inside = number_inside 1 bytes s.0 code is in
    let after = kind_after addr addr_base entry bytes code (s.0 + 1, s.1) x next (rw is at h) in
    omega (arith, inside, after))

pub list_falls : (addr : List ℕ) (addr_base : Option ℕ) (entry : ℕ) (bytes : List ℕ) → Falls (list_step addr addr_base entry bytes) (left bytes)
list_falls addr addr_base entry bytes = record { falls = list_after addr addr_base entry bytes }

pair_after : (entry : ℕ) (bytes : List ℕ) (s : State) (x : Entry) (next : State) → pair_step entry bytes s ≡ Ok (x, next) → left bytes next < left bytes s
unfolding pair_step
pair_after entry bytes s x next h =
    option_cases (number_at 8 bytes s.0) (λ is. absurd (let g = rw is at h in cc)) (λ first is.
    let inside = number_inside 8 bytes s.0 first is in
    let h1 = rw is at h in
    option_cases (number_at 8 bytes (s.0 + 8)) (λ no. absurd (let g = rw no at h1 in cc)) (λ second so.
    let h2 = rw so at h1 in
    elim (cases_Bool (first == 0 && second == 0)) [
      | inl zero ↦ absurd (let g = rw zero at h2 in cc)
      | inr other ↦ let same = same_Ok ((pair_means s.1 first second).0, (s.0 + 16, (pair_means s.1 first second).1)) (x, next) (rw other at h2) in
          let place : s.0 + 16 ≡ next.0 = ap (λ (p : Entry × State). p.1.0) same in
          omega (arith, inside, place)
    ]))

pub pair_falls : (entry : ℕ) (bytes : List ℕ) → Falls (pair_step entry bytes) (left bytes)
pair_falls entry bytes = record { falls = pair_after entry bytes }

-- ---- the two kinds of lists

few : (bytes : List ℕ) (s : State) → left bytes s ≤ length bytes
few bytes s = omega arith

pub list_passes : (addr : List ℕ) (addr_base : Option ℕ) (entry : ℕ) (bytes : List ℕ) (s next : State) → list_step addr addr_base entry bytes s ≡ Ok (None, next)
    → first_start (list_run addr addr_base entry bytes s) ≡ first_start (list_run addr addr_base entry bytes next)
unfolding list_run
list_passes addr addr_base entry bytes s next is = passes (list_step addr addr_base entry bytes) (left bytes) (length bytes) s next (list_falls addr addr_base entry bytes) (few bytes s) is

pub list_gives : (addr : List ℕ) (addr_base : Option ℕ) (entry : ℕ) (bytes : List ℕ) (s next : State) (start : ℕ) → list_step addr addr_base entry bytes s ≡ Ok (Some start, next)
    → first_start (list_run addr addr_base entry bytes s) ≡ Ok (Some start)
unfolding list_run
list_gives addr addr_base entry bytes s next start is = gives (list_step addr addr_base entry bytes) (left bytes) (length bytes) s next start (list_falls addr addr_base entry bytes) (few bytes s) is

pub list_ends : (addr : List ℕ) (addr_base : Option ℕ) (entry : ℕ) (bytes : List ℕ) (s : State) (e : Option Fault) → list_step addr addr_base entry bytes s ≡ Err e
    → first_start (list_run addr addr_base entry bytes s) ≡ first_or_end [] e
unfolding list_run
list_ends addr addr_base entry bytes s e is = ends (list_step addr addr_base entry bytes) (length bytes) s e is

pub list_chain : (addr : List ℕ) (addr_base : Option ℕ) (entry : ℕ) (bytes : List ℕ) (s : State) → Chain (list_step addr addr_base entry bytes) s (list_run addr addr_base entry bytes s).items (list_run addr addr_base entry bytes s).end
unfolding list_run
list_chain addr addr_base entry bytes s = run_chain (list_step addr addr_base entry bytes) None (left bytes) (suc (length bytes)) s (list_falls addr addr_base entry bytes) (omega (arith, few bytes s))

pub pair_passes : (entry : ℕ) (bytes : List ℕ) (s next : State) → pair_step entry bytes s ≡ Ok (None, next)
    → first_start (pair_run entry bytes s) ≡ first_start (pair_run entry bytes next)
unfolding pair_run
pair_passes entry bytes s next is = passes (pair_step entry bytes) (left bytes) (length bytes) s next (pair_falls entry bytes) (few bytes s) is

pub pair_gives : (entry : ℕ) (bytes : List ℕ) (s next : State) (start : ℕ) → pair_step entry bytes s ≡ Ok (Some start, next)
    → first_start (pair_run entry bytes s) ≡ Ok (Some start)
unfolding pair_run
pair_gives entry bytes s next start is = gives (pair_step entry bytes) (left bytes) (length bytes) s next start (pair_falls entry bytes) (few bytes s) is

pub pair_ends : (entry : ℕ) (bytes : List ℕ) (s : State) (e : Option Fault) → pair_step entry bytes s ≡ Err e
    → first_start (pair_run entry bytes s) ≡ first_or_end [] e
unfolding pair_run
pair_ends entry bytes s e is = ends (pair_step entry bytes) (length bytes) s e is

pub pair_chain : (entry : ℕ) (bytes : List ℕ) (s : State) → Chain (pair_step entry bytes) s (pair_run entry bytes s).items (pair_run entry bytes s).end
unfolding pair_run
pair_chain entry bytes s = run_chain (pair_step entry bytes) None (left bytes) (suc (length bytes)) s (pair_falls entry bytes) (omega (arith, few bytes s))
