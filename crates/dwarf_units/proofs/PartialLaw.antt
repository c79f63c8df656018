-- The root of a unit of version 4 is read alike whether the unit is partial or not, so its tag can decide that.
use Rattle.std.proofs.Common.{◌≡◌, ◌∙◌, ℕ, zero, suc, ltb, Bool, true, false, List, [], ◌∷◌, length, Option, Some, None, Result, Ok, Err, refl, sym, ap, subst, inl, inr, eq-eqb}
use Rattle.std.specs.Prelude.{All, ◌==◌}
use Rattle.std.proofs.lemmas.Bool.{cases_Bool}
use Rattle.abi_base.proofs.lemmas.Cases.{option_cases, result_cases, same_Ok}
use Rattle.dwarf_units.specs.HeaderLayout.{dwarf_4}
use Rattle.abi_base.specs.Leb.{uleb_at}
use Rattle.abi_base.specs.declared.fault.Fault.{Fault}
use Rattle.abi_base.specs.Runs.{Run, continue, given, put_front, run}
use Rattle.abi_base.proofs.lemmas.Runs.{run_all}
use Rattle.dwarf_forms.specs.abbreviations.Abbrevs.{abbrev_of}
use Rattle.dwarf_forms.specs.declared.abbreviations.abbrev.Spec.{Spec}
use Rattle.dwarf_forms.specs.Values.{value_at}
use Rattle.dwarf_units.specs.declared.entry.Entry.{Entry}
use Rattle.dwarf_units.specs.Sequence.{begins_partial, is_partial, unit_fault, unit_of, unit_step, unit_with, units_from, units_of}
use Rattle.dwarf_units.specs.Units.{PlainUnit, State, entries_of, entries_from, entry_at, judged, root_token, token_at, tokens_from, unit_bytes, values_at}

abbrev as_partial : PlainUnit → Bool → PlainUnit
as_partial u partial = record u { partial = partial }

values-same : (u : PlainUnit) (partial : Bool) (entry : ℕ) (specs : List Spec) (at : ℕ) → values_at (as_partial u partial) entry specs at ≡ values_at u entry specs at
unfolding values_at
values-same u partial entry [] at = refl
values-same u partial entry (s ∷ specs) at =
    result_cases (value_at s.form s.implicit u.offset u.end entry u.info at)
    (λ first is. rw (is, values-same u partial entry specs first.1) refl)
    (λ f is. rw is refl)

entry-same : (u : PlainUnit) (partial : Bool) (at depth : ℕ) (code : ℕ × ℕ) → entry_at (as_partial u partial) at depth code ≡ entry_at u at depth code
unfolding entry_at
entry-same u partial at depth code =
    option_cases (abbrev_of u.table code.0) (λ is. rw is refl) (λ form is. rw (is, values-same u partial at form.specs code.1) refl)

root-same : (u : PlainUnit) (partial : Bool) (at : ℕ) (r : Result (Entry × (Bool × ℕ)) Fault) → (u.version == dwarf_4) ≡ true → root_token (as_partial u partial) at r ≡ root_token u at r
root-same u partial at (Err f) is_4 = refl
root-same u partial at (Ok e) is_4 = rw is_4 refl

token-same : (u : PlainUnit) (partial : Bool) (s : State) → (u.version == dwarf_4) ≡ true → token_at (as_partial u partial) s ≡ token_at u s
unfolding token_at
token-same u partial (at, None) is_4 =
    option_cases (uleb_at (unit_bytes u) at) (λ is. rw is refl)
    (λ code is. rw (is, entry-same u partial at 0 code, root-same u partial at (entry_at u at 0 code) is_4) refl)
token-same u partial (at, Some zero) is_4 = refl
token-same u partial (at, Some (suc n)) is_4 =
    option_cases (uleb_at (unit_bytes u) at) (λ is. rw is refl) (λ code is. rw (is, entry-same u partial at (suc n) code) refl)

-- steps that are the same give the same
run-same : {S X E : Type 0} (f g : S → Result (X × S) E) (late : E) (n : ℕ) (s : S) → ((s : S) → f s ≡ g s) → run f late n s ≡ run g late n s
unfolding run
run-same f g late zero s same = refl
run-same {S = S} {X = X} {E = E} f g late (suc n) s same =
    ap (λ (r : Result (X × S) E). continue r (run f late n)) (same s) ∙ cases (g s) (λ next. run-same f g late n next same)
  where
    cases : (r : Result (X × S) E) → ((next : S) → run f late n next ≡ run g late n next) → continue r (run f late n) ≡ continue r (run g late n)
    cases (Ok (x, next)) others = ap (λ (q : Run X E). put_front x q) (others next)
    cases (Err e) others = refl

entries-same : (u : PlainUnit) (partial : Bool) → (u.version == dwarf_4) ≡ true → entries_of (as_partial u partial) ≡ entries_of u
unfolding entries_of judged entries_from tokens_from
entries-same u partial is_4 =
    ap (λ (r : Run (Option Entry) (Option Fault)). judged u false (given r))
    (run-same (token_at (as_partial u partial)) (token_at u) None (suc u.end) _ (λ s. token-same u partial s is_4))

-- ---- the units of a section

abbrev RootSays : PlainUnit → Type 0
RootSays u = u.version ≡ dwarf_4 → u.partial ≡ begins_partial (entries_of u).items

root-says : (u : PlainUnit) → (u.version == dwarf_4) ≡ true → is_partial u ≡ begins_partial (entries_of u).items
unfolding is_partial
root-says u is_4 = rw is_4 refl

made-says : (info abbrevs : List ℕ) (at : ℕ) → RootSays (unit_of info abbrevs at)
unfolding unit_of
made-says info abbrevs at version =
    let u = unit_with info abbrevs at false in
    let is_4 : (u.version == dwarf_4) ≡ true = eq-eqb u.version dwarf_4 version in
    root-says u is_4 ∙ ap (λ (r : Run Entry (Option Fault)). begins_partial r.items) (sym (entries-same u (is_partial u) is_4))

step-says : (info abbrevs : List ℕ) (at : ℕ) (u : PlainUnit) (next : ℕ) → unit_step info abbrevs at ≡ Ok (u, next) → RootSays u
unfolding unit_step
step-says info abbrevs at u next h =
    elim (cases_Bool (ltb at (length info))) [
      | inl lt ↦ let h1 = rw lt at h in
          option_cases (unit_fault info abbrevs at)
          (λ is. let h2 = rw is at h1 in
          let made = unit_of info abbrevs at in
          subst (λ (p : PlainUnit × ℕ). RootSays p.0) (same_Ok (made, made.end) (u, next) h2) (made-says info abbrevs at))
          (λ f is. absurd (let g = rw is at h1 in cc))
      | inr ge ↦ absurd (let g = rw ge at h in cc)
    ]

pub roots_say : (info abbrevs : List ℕ) → All RootSays (units_of info abbrevs).items
unfolding units_from
roots_say info abbrevs = run_all RootSays (unit_step info abbrevs) None (λ at u next h. step-says info abbrevs at u next h) (suc (length info)) 0
