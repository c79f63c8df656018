-- The token at a place of a unit, and that reading moves on.
use Rattle.std.proofs.Common.{◌≡◌, ◌≢◌, ℕ, zero, suc, ◌+◌, ◌-◌, ◌<◌, ◌≤◌, Bool, true, false, ltb, Option, Some, None, Ok, refl, ap, subst, arith, inl, inr}
use Rattle.std.specs.Prelude.{not, ◌==◌, slice_index}
use Rattle.std.proofs.lemmas.Bool.{cases_Bool, ltb-true, eqb-false}
use Rattle.abi_base.proofs.lemmas.Cases.{option_cases, result_cases, same_Ok}
use Rattle.abi_base.specs.Dwarf.{dw_at_language}
use Rattle.abi_base.specs.Leb.{uleb_at}
use Rattle.abi_base.specs.Runs.{Chain, given}
use Rattle.abi_base.proofs.lemmas.Leb.{uleb_inside}
use Rattle.abi_base.proofs.lemmas.Runs.{Falls, run_chain}
use Rattle.dwarf_forms.specs.abbreviations.Abbrevs.{abbrev_of}
use Rattle.dwarf_units.specs.declared.entry.Entry.{Entry}
use Rattle.dwarf_units.specs.Grammar.{IsThere, TokenStands}
use Rattle.dwarf_units.specs.Units.{PlainUnit, unit_bytes, values_at, entry_at, Token, State, root_token, inner_token, opened, open_lists, attribute_of, language_fits, is_root_tag, root_of, token_at, tokens_from, entries_from, entries_of, judged}
use Rattle.dwarf_units.proofs.ValuesAfter.{ValuesMove, values_after}

entry_after : (moves : ValuesMove) (u : PlainUnit) (at depth : ℕ) (code : ℕ × ℕ) (e : Entry × (Bool × ℕ)) → entry_at u at depth code ≡ Ok e → code.1 ≤ e.1.1
unfolding entry_at
entry_after moves u at depth code e h =
    option_cases (abbrev_of u.table code.0) (λ is. absurd (let g = rw is at h in cc)) (λ form is.
    let h1 = rw is at h in
    result_cases (values_at u at form.specs code.1)
    (λ v js. let h2 = rw js at h1 in
    let made : Entry = record { offset = at; depth = depth; tag = form.tag; specs_from = form.specs_from; attributes = v.0 } in
    let same : v.1 ≡ e.1.1 = ap (λ (p : Entry × (Bool × ℕ)). p.1.1) (same_Ok (made, (form.children, v.1)) e h2) in
    omega (arith, same, values_after moves u at form.specs code.1 v js))
    (λ f js. absurd (let g = rw js at h1 in cc)))

-- ---- what a token is

stands : (u : PlainUnit) (s : State) (x y : Option Entry) (a b : State) → ◌≡◌ {A = Token} (Ok (x, a)) (Ok (y, b)) → TokenStands u s x a → TokenStands u s y b
stands u s x y a b h is = subst (λ (p : Option Entry × State). TokenStands u s p.0 p.1) (same_Ok (x, a) (y, b) h) is

-- an entry that was read has the place where it was read
record StandsAt (at lists : ℕ) (e : Entry) : Type 0 where
  offset : e.offset ≡ at
  depth : e.depth ≡ lists

stands_at : (u : PlainUnit) (at depth : ℕ) (code : ℕ × ℕ) (e : Entry × (Bool × ℕ)) → entry_at u at depth code ≡ Ok e → StandsAt at depth e.0
unfolding entry_at
stands_at u at depth code e h =
    option_cases (abbrev_of u.table code.0) (λ is. absurd (let g = rw is at h in cc)) (λ form is.
    let h1 = rw is at h in
    result_cases (values_at u at form.specs code.1)
    (λ v js. let h2 = rw js at h1 in
    let made : Entry = record { offset = at; depth = depth; tag = form.tag; specs_from = form.specs_from; attributes = v.0 } in
    subst (λ (x : Entry). StandsAt at depth x) (ap (λ (p : Entry × (Bool × ℕ)). p.0) (same_Ok (made, (form.children, v.1)) e h2)) (record { offset = refl; depth = refl }))
    (λ f js. absurd (let g = rw js at h1 in cc)))

-- an entry that was read after a code, at a depth
entry_stands : (moves : ValuesMove) (u : PlainUnit) (at : ℕ) (lists : Option ℕ) (code : ℕ × ℕ) (e : Entry × (Bool × ℕ)) → lists ≢ Some 0 → at < u.end → uleb_at (unit_bytes u) at ≡ Some code → (code.0 == 0) ≡ false
    → entry_at u at (open_lists lists) code ≡ Ok e → TokenStands u (at, lists) (Some e.0) (e.1.1, Some (opened e.1.0 (open_lists lists)))
entry_stands moves u at lists code e in_list inside begins other read =
    let here = stands_at u at (open_lists lists) code e read in
    record {
      inside = inside;
      on = omega (arith, (uleb_inside (unit_bytes u) at code begins).0, entry_after moves u at (open_lists lists) code e read);
      is = record {
        children = e.1.0;
        there = (code, inside, begins, eqb-false code.0 0 other, read);
        offset = here.offset;
        depth = here.depth;
        lists = refl;
        in_list = in_list;
      };
    }

no_lists : ◌≡◌ {A = Option ℕ} None (Some 0) → ⊥
no_lists same = cc

some_none : (n : ℕ) → ◌≡◌ {A = Option ℕ} (Some n) None → ⊥
some_none n same = cc

some_lists : (n : ℕ) → Some (suc n) ≡ Some 0 → ⊥
some_lists n same = let e : suc n ≡ 0 = cc in omega arith

module _ (moves : ValuesMove) (u : PlainUnit) (at : ℕ) (code : ℕ × ℕ) (inside : at < u.end) (begins : uleb_at (unit_bytes u) at ≡ Some code) (other : (code.0 == 0) ≡ false) where
  inner_stands : (n : ℕ) (x : Option Entry) (next : State) → inner_token (suc n) (entry_at u at (suc n) code) ≡ Ok (x, next) → TokenStands u (at, Some (suc n)) x next
  inner_stands n x next h =
      result_cases (entry_at u at (suc n) code)
      (λ e read. let h1 = rw read at h in
      stands u (at, Some (suc n)) (Some e.0) x (e.1.1, Some (opened e.1.0 (suc n))) next h1 (entry_stands moves u at (Some (suc n)) code e (some_lists n) inside begins other read))
      (λ f read. absurd (let g = rw read at h in cc))

  root_stands : (x : Option Entry) (next : State) → root_token u at (entry_at u at 0 code) ≡ Ok (x, next) → TokenStands u (at, None) x next
  root_stands x next h =
      result_cases (entry_at u at 0 code)
      (λ e read. let h1 = rw read at h in
      elim (cases_Bool (not (is_root_tag u e.0.tag))) [
        | inl is ↦ absurd (let g = rw is at h1 in cc)
        | inr is ↦ let h2 = rw is at h1 in
            elim (cases_Bool (not (language_fits (attribute_of e.0.attributes dw_at_language)))) [
              | inl js ↦ absurd (let g = rw js at h2 in cc)
              | inr js ↦ let h3 = rw js at h2 in
                  stands u (at, None) (Some e.0) x (e.1.1, Some (opened e.1.0 0)) next h3 (entry_stands moves u at None code e no_lists inside begins other read)
            ]
      ])
      (λ f read. absurd (let g = rw read at h in cc))

-- The one walk over what a token may be.
pub token_stands : (moves : ValuesMove) (u : PlainUnit) (s : State) (x : Option Entry) (next : State) → token_at u s ≡ Ok (x, next) → TokenStands u s x next
unfolding token_at
token_stands moves u (at, None) x next h =
    elim (cases_Bool (ltb at u.end)) [
      | inl lt ↦ let h1 = rw lt at h in
          option_cases (uleb_at (unit_bytes u) at) (λ is. absurd (let g = rw is at h1 in cc)) (λ code is.
          let h2 = rw is at h1 in
          elim (cases_Bool (code.0 == 0)) [
            | inl js ↦ absurd (let g = rw js at h2 in cc)
            | inr js ↦ root_stands moves u at code (ltb-true at u.end lt) is js x next (rw js at h2)
          ])
      | inr ge ↦ absurd (let g = rw ge at h in cc)
    ]
token_stands moves u (at, Some zero) x next h =
    elim (cases_Bool (ltb at u.end)) [
      | inl lt ↦ let h1 = rw lt at h in
          let inside = ltb-true at u.end lt in
          elim (cases_Bool (slice_index u.info at == 0)) [
            | inl is ↦ let h2 = rw is at h1 in
                stands u (at, Some 0) None x (at + 1, Some 0) next h2 (record { inside = inside; on = omega arith; is = record { begun = some_none 0; left = 0; lists = refl; fewer = omega arith } })
            | inr is ↦ absurd (let g = rw is at h1 in cc)
          ]
      | inr ge ↦ absurd (let g = rw ge at h in cc)
    ]
token_stands moves u (at, Some (suc n)) x next h =
    elim (cases_Bool (ltb at u.end)) [
      | inl lt ↦ let h1 = rw lt at h in
          let inside = ltb-true at u.end lt in
          option_cases (uleb_at (unit_bytes u) at) (λ is. absurd (let g = rw is at h1 in cc)) (λ code is.
          let h2 = rw is at h1 in
          elim (cases_Bool (code.0 == 0)) [
            | inl js ↦ let h3 = rw js at h2 in
                stands u (at, Some (suc n)) None x (code.1, Some n) next h3 (record { inside = inside; on = (uleb_inside (unit_bytes u) at code is).0; is = record { begun = some_none (suc n); left = n; lists = refl; fewer = omega arith } })
            | inr js ↦ inner_stands moves u at code inside is js n x next (rw js at h2)
          ])
      | inr ge ↦ absurd (let g = rw ge at h in cc)
    ]

-- ---- reading moves on

-- a token moves on, and opens at most one list
pub record Moves (s next : State) : Type 0 where
  pub on : s.0 < next.0
  pub lists : open_lists next.1 ≤ suc (open_lists s.1)

opened-le : (b : Bool) (n : ℕ) → opened b n ≤ suc n
opened-le true n = omega arith
opened-le false n = omega arith

few_lists : (u : PlainUnit) (s : State) (x : Option Entry) (next : State) → IsThere u s x next → open_lists next.1 ≤ suc (open_lists s.1)
few_lists u s (Some e) next t = let same = ap open_lists t.lists in omega (arith, opened-le t.children (open_lists s.1), same)
few_lists u s None next t = omega (arith, ap open_lists t.lists, t.fewer)

pub token_moves : (moves : ValuesMove) (u : PlainUnit) (s : State) (x : Option Entry) (next : State) → token_at u s ≡ Ok (x, next) → Moves s next × (s.0 < u.end)
token_moves moves u s x next h = let t = token_stands moves u s x next h in (record { on = t.on; lists = few_lists u s x next t.is }, t.inside)

pub token_falls : (moves : ValuesMove) (u : PlainUnit) → Falls (token_at u) (λ s. u.end - s.0)
token_falls moves u = record { falls = λ s x next h. let t = token_stands moves u s x next h in omega (arith, t.on, t.inside) }

-- ---- all tokens

pub tokens_chain : (moves : ValuesMove) (u : PlainUnit) (s : State) → Chain (token_at u) s (tokens_from u s).items (tokens_from u s).end
unfolding tokens_from
tokens_chain moves u s = run_chain (token_at u) None (λ s. u.end - s.0) (suc u.end) s (token_falls moves u) (omega arith)

pub entries_among : (u : PlainUnit) → (entries_of u).items ≡ (given (tokens_from u (root_of u, None))).items
unfolding entries_of judged entries_from
entries_among u = refl
