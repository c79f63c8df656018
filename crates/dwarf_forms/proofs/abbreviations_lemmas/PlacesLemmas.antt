-- After an abbreviation is appended, it is found by its code, and so are the earlier ones.
use Rattle.std.proofs.Common.{◌≡◌, ℕ, ◌+◌, ◌-◌, ◌<◌, ◌≤◌, Bool, true, false, cond, List, [], ◌∷◌, ◌++◌, length, Option, Some, None, refl, sym, ap, ◌∙◌, subst, arith, length-append, ⊎_elim, eq-eqb, inl, inr}
use Rattle.std.specs.Prelude.{◌==◌, ◌||◌, slice_get, option_and_then, is_some, find}
use Rattle.std.specs.Borrow.{Bor}
use Rattle.std.specs.List.{list_any}
use Rattle.std.specs.Option.{option_or, option_copied}
use Rattle.std.specs.BTreeMap.{get}
use Rattle.std.specs.Cmp.{unsigned_tied}
use Rattle.std.specs.Ordering.{eq_by_cmp, nat_cmp}
use Rattle.std.proofs.lemmas.Bool.{cases_Bool, cases_lt, eqb-true}
use Rattle.std.proofs.lemmas.List.Folds.{find-append}
use Rattle.std.proofs.lemmas.Option.{slice_get_past, same_Some}
use Rattle.abi_base.proofs.lemmas.Lists.{slice_get-before, slice_get_last}
use Rattle.dwarf_forms.specs.declared.abbreviations.abbrev.Abbrev.{Abbrev}
use Rattle.dwarf_forms.specs.abbreviations.Abbrevs.{abbrev_of}
use Rattle.dwarf_forms.specs.abbreviations.Places.{Elsewhere, if_of_code, at_own_place, at_kept_place, Placed}

-- ---- an element of a longer list

-- ---- one or the other

or_nothing : {X : Type 0} (o : Option X) → option_or o None ≡ o
or_nothing None = refl
or_nothing (Some x) = refl

first_none : {X : Type 0} (o other : Option X) → option_or o other ≡ None → o ≡ None
first_none None other h = refl
first_none (Some x) other h = absurd cc

module _ (abbrevs : List Abbrev) (old : Elsewhere) (made : Abbrev) (so_far : Placed abbrevs old) (is_new : abbrev_of abbrevs made.code ≡ None) where
  abbrev more : List Abbrev
  more = abbrevs ++ made ∷ []

  longer : length more ≡ length abbrevs + 1
  longer = length-append abbrevs (made ∷ [])

  -- what is found after one more
  abbrev found : Elsewhere → ℕ → Option Abbrev
  found next code = option_or (at_own_place more code) (at_kept_place more next code)

  of_more : (code : ℕ) → abbrev_of more code ≡ option_or (abbrev_of abbrevs code) (cond (made.code == code) (Some made) None)
  of_more code = find-append (λ a. a.code == code) abbrevs (made ∷ [])

  -- ---- another code

  own_stays : (code : ℕ) → (made.code == code) ≡ false → at_own_place more code ≡ at_own_place abbrevs code
  own_stays code apart = ⊎_elim (λ lt. ap (if_of_code code) (slice_get-before abbrevs (made ∷ []) (code - 1) lt)) (λ le. past le) (cases_lt (code - 1) (length abbrevs))
    where
      at_end : length abbrevs ≡ code - 1 → at_own_place more code ≡ None
      at_end e =
          ap (λ (i : ℕ). if_of_code code (slice_get more i)) (sym e) ∙ ap (if_of_code code) (slice_get_last abbrevs made)
          ∙ ap (λ (b : Bool). cond b (Some made) None) apart

      none : length abbrevs ≤ code - 1 → at_own_place more code ≡ None
      none le =
          ⊎_elim (λ (lt : length abbrevs < code - 1). ap (if_of_code code) (slice_get_past more (code - 1) (omega (arith, longer)))) (λ (ge : code - 1 ≤ length abbrevs). at_end (omega arith))
          (cases_lt (length abbrevs) (code - 1))

      past : length abbrevs ≤ code - 1 → at_own_place more code ≡ at_own_place abbrevs code
      past le = none le ∙ sym (ap (if_of_code code) (slice_get_past abbrevs (code - 1) le))

  kept_stays : (next : Elsewhere) (code : ℕ) → get nat_cmp next code ≡ get nat_cmp old code → at_kept_place more next code ≡ at_kept_place abbrevs old code
  kept_stays next code same = ap (option_and_then (slice_get more)) same ∙ stays (get nat_cmp old code) refl
    where
      stays : (o : Option ℕ) → get nat_cmp old code ≡ o → option_and_then (slice_get more) o ≡ option_and_then (slice_get abbrevs) o
      stays None is = refl
      stays (Some place) is = slice_get-before abbrevs (made ∷ []) place (so_far.inside code place is)

  other_found : (next : Elsewhere) (code : ℕ) → (made.code == code) ≡ false → get nat_cmp next code ≡ get nat_cmp old code → found next code ≡ abbrev_of more code
  other_found next code apart same =
      ap (λ (o : Option Abbrev). option_or o (at_kept_place more next code)) (own_stays code apart)
      ∙ ap (λ (o : Option Abbrev). option_or (at_own_place abbrevs code) o) (kept_stays next code same) ∙ so_far.finds code
      ∙ sym (of_more code ∙ ap (λ (b : Bool). option_or (abbrev_of abbrevs code) (cond b (Some made) None)) apart ∙ or_nothing (abbrev_of abbrevs code))

  -- ---- its own code

  own_code : if_of_code made.code (Some made) ≡ Some made
  own_code = ap (λ (b : Bool). cond b (Some made) None) (eq-eqb made.code made.code refl)

  this_found : (next : Elsewhere) (code : ℕ) → (made.code == code) ≡ true → found next made.code ≡ Some made → found next code ≡ abbrev_of more code
  this_found next code is here =
      let e : made.code ≡ code = eqb-true made.code code is in
      let there : found next code ≡ Some made = subst (λ (n : ℕ). found next n ≡ Some made) e here in
      let none : abbrev_of abbrevs code ≡ None = subst (λ (n : ℕ). abbrev_of abbrevs n ≡ None) e is_new in
      there
      ∙ sym (of_more code ∙ ap (λ (o : Option Abbrev). option_or o (cond (made.code == code) (Some made) None)) none
      ∙ ap (λ (b : Bool). cond b (Some made) None) is)

  not_at_own : at_own_place abbrevs made.code ≡ None
  not_at_own = first_none (at_own_place abbrevs made.code) (at_kept_place abbrevs old made.code) (so_far.finds made.code ∙ is_new)

  -- ---- it is at the place of its code

  pub placed_own : made.code - 1 ≡ length abbrevs → Placed more old
  placed_own e = record {
    finds = λ code. elim (cases_Bool (made.code == code)) [
      | inl is ↦ this_found old code is here
      | inr apart ↦ other_found old code apart refl
    ];
    inside = λ code place is. let lt = so_far.inside code place is in omega (arith, longer);
  }
    where
      here : found old made.code ≡ Some made
      here =
          ap (λ (i : ℕ). option_or (if_of_code made.code (slice_get more i)) (at_kept_place more old made.code)) e
          ∙ ap (λ (o : Option Abbrev). option_or (if_of_code made.code o) (at_kept_place more old made.code)) (slice_get_last abbrevs made)
          ∙ ap (λ (o : Option Abbrev). option_or o (at_kept_place more old made.code)) own_code

  -- ---- its place is kept

  abbrev or_this : Option Abbrev → Option Abbrev
  or_this o = option_or (if_of_code made.code o) (Some made)

  own_or_this : option_or (at_own_place more made.code) (Some made) ≡ Some made
  own_or_this = ⊎_elim (λ lt. before lt) (λ le. past le) (cases_lt (made.code - 1) (length abbrevs))
    where
      before : made.code - 1 < length abbrevs → or_this (slice_get more (made.code - 1)) ≡ Some made
      before lt =
          ap or_this (slice_get-before abbrevs (made ∷ []) (made.code - 1) lt) ∙ ap (λ (o : Option Abbrev). option_or o (Some made)) not_at_own

      at_end : length abbrevs ≡ made.code - 1 → or_this (slice_get more (made.code - 1)) ≡ Some made
      at_end e =
          ap (λ (i : ℕ). or_this (slice_get more i)) (sym e) ∙ ap or_this (slice_get_last abbrevs made)
          ∙ ap (λ (o : Option Abbrev). option_or o (Some made)) own_code

      past : length abbrevs ≤ made.code - 1 → or_this (slice_get more (made.code - 1)) ≡ Some made
      past le =
          ⊎_elim (λ (lt : length abbrevs < made.code - 1). ap or_this (slice_get_past more (made.code - 1) (omega (arith, longer)))) (λ (ge : made.code - 1 ≤ length abbrevs). at_end (omega arith))
          (cases_lt (length abbrevs) (made.code - 1))

  pub placed_elsewhere : (next : Elsewhere) → ((code : ℕ) → get nat_cmp next code ≡ cond (eq_by_cmp nat_cmp made.code code) (Some (length abbrevs)) (get nat_cmp old code)) → Placed more next
  placed_elsewhere next updates = record {
    finds = λ code. elim (cases_Bool (made.code == code)) [
      | inl is ↦ this_found next code is here
      | inr apart ↦ other_found next code apart (adds code ∙ ap (λ (b : Bool). cond b (Some (length abbrevs)) (get nat_cmp old code)) apart)
    ];
    inside = λ code place is. inside code place is;
  }
    where
      adds : (code : ℕ) → get nat_cmp next code ≡ cond (made.code == code) (Some (length abbrevs)) (get nat_cmp old code)
      adds code = updates code ∙ ap (λ (b : Bool). cond b (Some (length abbrevs)) (get nat_cmp old code)) (unsigned_tied made.code code)

      kept : get nat_cmp next made.code ≡ Some (length abbrevs)
      kept = adds made.code ∙ ap (λ (b : Bool). cond b (Some (length abbrevs)) (get nat_cmp old made.code)) (eq-eqb made.code made.code refl)

      here : found next made.code ≡ Some made
      here =
          ap (λ (o : Option ℕ). option_or (at_own_place more made.code) (option_and_then (slice_get more) o)) kept
          ∙ ap (λ (o : Option Abbrev). option_or (at_own_place more made.code) o) (slice_get_last abbrevs made) ∙ own_or_this

      inside : (code place : ℕ) → get nat_cmp next code ≡ Some place → place < length more
      inside code place is =
          elim (cases_Bool (made.code == code)) [
            | inl same ↦
                let e : length abbrevs ≡ place = same_Some (length abbrevs) place (sym (adds code ∙ ap (λ (b : Bool). cond b (Some (length abbrevs)) (get nat_cmp old code)) same) ∙ is) in
                omega (arith, longer)
            | inr apart ↦
                let lt = so_far.inside code place (sym (adds code ∙ ap (λ (b : Bool). cond b (Some (length abbrevs)) (get nat_cmp old code)) apart) ∙ is) in
                omega (arith, longer)
          ]

-- ---- whether the table has a code

pub copied_is_some : {X : Type 0} (o : Option (Bor X)) → is_some o ≡ is_some (option_copied o)
copied_is_some None = refl
copied_is_some (Some x) = refl

pub any_found : {X : Type 0} (test : X → Bool) (xs : List X) → is_some (find test xs) ≡ list_any test xs
any_found test [] = refl
any_found test (x ∷ xs) =
    elim (cases_Bool (test x)) [
      | inl is ↦ ap (λ (b : Bool). is_some (cond b (Some x) (find test xs))) is ∙ sym (ap (λ (b : Bool). b || list_any test xs) is)
      | inr apart ↦ ap (λ (b : Bool). is_some (cond b (Some x) (find test xs))) apart ∙ any_found test xs ∙ sym (ap (λ (b : Bool). b || list_any test xs) apart)
    ]
