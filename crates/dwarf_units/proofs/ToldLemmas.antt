-- The values of each entry are where the entry says.
use Rattle.std.proofs.Common.{◌≡◌, ℕ, suc, ◌<◌, Bool, ltb, List, length, Option, Some, None, Ok, refl, ap, subst, inl, inr}
use Rattle.std.specs.Prelude.{◌==◌, All}
use Rattle.std.proofs.lemmas.Bool.{cases_Bool}
use Rattle.abi_base.proofs.lemmas.Cases.{option_cases, result_cases, same_Ok}
use Rattle.abi_base.specs.Leb.{uleb_at}
use Rattle.abi_base.proofs.lemmas.Lists.{IfGiven, found_of, given_all}
use Rattle.abi_base.proofs.lemmas.Runs.{run_all}
use Rattle.dwarf_forms.specs.abbreviations.Abbrevs.{abbrev_of, table_run}
use Rattle.dwarf_forms.specs.abbreviations.Standing.{HasPairs}
use Rattle.dwarf_units.specs.declared.entry.Entry.{Entry}
use Rattle.dwarf_units.specs.Grammar.{IsThere}
use Rattle.dwarf_units.specs.Sequence.{unit_abbrevs, unit_fault, unit_of, unit_step, units_from, units_of}
use Rattle.dwarf_units.specs.ValuePlaces.{IsTold}
use Rattle.dwarf_units.specs.Units.{PlainUnit, State, unit_bytes, values_at, entry_at, token_at, open_lists, tokens_from, entries_from, entries_of, judged}
use Rattle.dwarf_units.proofs.ValuesAfter.{ValuesMove}
use Rattle.dwarf_units.proofs.TokenLaws.{token_stands}

-- ---- the entries of a unit

module _ (moves : ValuesMove) (abbrevs : List ℕ) (u : PlainUnit) (has : All (HasPairs abbrevs) u.table) where
  entry_told : (at depth : ℕ) (code : ℕ × ℕ) (e : Entry × (Bool × ℕ)) → at < u.end → uleb_at (unit_bytes u) at ≡ Some code → entry_at u at depth code ≡ Ok e → IsTold abbrevs u e.0
  unfolding entry_at
  entry_told at depth code e inside begins h =
      option_cases (abbrev_of u.table code.0) (λ is. absurd (let g = rw is at h in cc)) (λ form is.
      let h1 = rw is at h in
      result_cases (values_at u at form.specs code.1)
      (λ v js. let h2 = rw js at h1 in
      let made : Entry = record { offset = at; depth = depth; tag = form.tag; specs_from = form.specs_from; attributes = v.0 } in
      let there : HasPairs abbrevs form = found_of (HasPairs abbrevs) (λ a. a.code == code.0) u.table form has is in
      let told : IsTold abbrevs u made = record {
        before = inside;
        inside = there.inside;
        code = code;
        after = v.1;
        begins = begins;
        values = rw there.pairs js;
      } in
      subst (λ (x : Entry). IsTold abbrevs u x) (ap (λ (p : Entry × (Bool × ℕ)). p.0) (same_Ok (made, (form.children, v.1)) e h2)) told)
      (λ f js. absurd (let g = rw js at h1 in cc)))

  token_told : (s : State) (x : Option Entry) (next : State) → IsThere u s x next → IfGiven (IsTold abbrevs u) x
  token_told s (Some e) next t =
      let there = t.there in
      entry_told s.0 (open_lists s.1) there.0 (e, (t.children, next.0)) there.1 there.2 there.4
  token_told s None next is = tt

  all_told : All (IsTold abbrevs u) (entries_of u).items
  unfolding entries_of judged entries_from tokens_from
  all_told =
      given_all (IsTold abbrevs u) _
      (run_all (IfGiven (IsTold abbrevs u)) (token_at u) None (λ s x next h. token_told s x next (token_stands moves u s x next h).is) (suc u.end) _)

-- ---- the units of a section

record IsMade (info abbrevs : List ℕ) (u : PlainUnit) : Type 0 where
  info_is : u.info ≡ info
  has : All (HasPairs abbrevs) u.table

-- the pairs of each abbreviation of each table are where it says
abbrev TellsPairs : List ℕ → Type 0
TellsPairs abbrevs = (at : ℕ) → All (HasPairs abbrevs) (table_run abbrevs at).items

unit_made : (info abbrevs : List ℕ) (at : ℕ) → TellsPairs abbrevs → IsMade info abbrevs (unit_of info abbrevs at)
unfolding unit_of
unit_made info abbrevs at tells = record { info_is = refl; has = tells (unit_abbrevs info at) }

step_made : (info abbrevs : List ℕ) (at : ℕ) (u : PlainUnit) (next : ℕ) → TellsPairs abbrevs → unit_step info abbrevs at ≡ Ok (u, next) → IsMade info abbrevs u
unfolding unit_step
step_made info abbrevs at u next tells h =
    elim (cases_Bool (ltb at (length info))) [
      | inl lt ↦ let h1 = rw lt at h in
          option_cases (unit_fault info abbrevs at)
          (λ is. let h2 = rw is at h1 in
          let made = unit_of info abbrevs at in
          subst (λ (p : PlainUnit × ℕ). IsMade info abbrevs p.0) (same_Ok (made, made.end) (u, next) h2) (unit_made info abbrevs at tells))
          (λ f is. absurd (let g = rw is at h1 in cc))
      | inr ge ↦ absurd (let g = rw ge at h in cc)
    ]

pub units_of_info : (info abbrevs : List ℕ) → TellsPairs abbrevs → All (λ (u : PlainUnit). u.info ≡ info) (units_of info abbrevs).items
unfolding units_from
units_of_info info abbrevs tells =
    run_all (λ (u : PlainUnit). u.info ≡ info) (unit_step info abbrevs) None (λ at u next h. (step_made info abbrevs at u next tells h).info_is) (suc (length info)) 0

pub units_told : (moves : ValuesMove) (info abbrevs : List ℕ) → TellsPairs abbrevs → All (λ (u : PlainUnit). All (IsTold abbrevs u) (entries_of u).items) (units_of info abbrevs).items
unfolding units_from
units_told moves info abbrevs tells =
    run_all (λ (u : PlainUnit). All (IsTold abbrevs u) (entries_of u).items) (unit_step info abbrevs) None
    (λ at u next h. all_told moves abbrevs u (step_made info abbrevs at u next tells h).has) (suc (length info)) 0
